use Rattle.std.proofs.Common.{List, ℕ, Bool, subst, sym, Contains}
use Rattle.std.specs.Prelude.{MatchBool}
use Rattle.app_config.specs.Patterns.{IsNamed}
use Rattle.app_config.specs.Indexes.Arranged.{texts, SomeNames}
use Rattle.app_config.specs.declared.starred.Starred.{Starred}
use Rattle.app_config.proofs.IndexLaws.{IsNamed-plain, IsNamed-others}
use Rattle.app_config.proofs.pattern_index.PatternIndex.names.Goals as goal
use denote.Ref.{Bor}

pub returns-then-contains : goal.returns-then-contains
returns-then-contains c =
    let inside = c.self.inside in
    let path = c.args.path.now in
    let P : List (Bor (List ℕ)) → Type 0 = λ plain. Contains (texts plain) path in
    let Q : Bool → Type 0 = λ answer. MatchBool answer (IsNamed c.args.self.now path)
    (¬ IsNamed c.args.self.now path) in
    let R : List (List ℕ) → Type 0 = λ patterns. IsNamed patterns path in
    subst Q (sym c.if-contains.true) (subst R c.self.view_is
    (IsNamed-plain inside.patterns.now inside.plain.items inside.starred.items path c.self.invariant
    (subst P c.as_slice.ensures.value c.if-contains.ensures)))

pub returns-else-contains : goal.returns-else-contains
returns-else-contains c =
    let inside = c.self.inside in
    let path = c.args.path.now in
    let P : List (Bor (List ℕ)) → Type 0 = λ plain. ¬ Contains (texts plain) path in
    let Q : List Starred → Type 0 = λ starred.
    MatchBool c.some_names.result (SomeNames starred path) (¬ SomeNames starred path) in
    let R : List (List ℕ) → Type 0 = λ patterns.
    MatchBool c.some_names.result (IsNamed patterns path) (¬ IsNamed patterns path) in
    subst R c.self.view_is
    (IsNamed-others inside.patterns.now inside.plain.items inside.starred.items path c.some_names.result
    c.self.invariant
    (subst P c.as_slice.ensures.value c.if-contains.ensures)
    (subst Q c.as_slice-else-contains.ensures.value c.some_names.ensures))

use Rattle.std.proofs.Common.{ℕ, IfSome, ◌≡◌, ◌⊎◌, sym, subst}
use Rattle.top_calls.specs.Output.{IsNotBuilt, IsTreeRefused, IsFault}
use Rattle.top_calls.proofs.NotBuilt.{not_built_is, is_not_built, refused_is, is_refused}
use Rattle.top_calls.proofs.once.once_main.Goals as goal

pub returns-clause-not_built : goal.returns-clause-not_built
returns-clause-not_built g c =
    let P : ℕ → Type 0 = λ code. IfSome (g.T.Tree.holds c.run_once.new.tree) (λ files. code ≡ 11 →
    IsNotBuilt c.args.words.now files) in
    subst P (sym c.code.ensures) (not_built_is c.args.words.now _ c.run_once.result _ _ c.run_once.ensures.written)

pub returns-clause-not_built_only : goal.returns-clause-not_built_only
returns-clause-not_built_only g c =
    let P : ℕ → Type 0 = λ code. IfSome (g.T.Tree.holds c.run_once.new.tree)
    (λ files. IsNotBuilt c.args.words.now files →
    (code ≡ 11) ⊎ IsFault code) in
    subst P (sym c.code.ensures) (is_not_built c.args.words.now _ c.run_once.result _ _ c.run_once.ensures.written)

pub returns-clause-refused : goal.returns-clause-refused
returns-clause-refused g c =
    let P : ℕ → Type 0 = λ code. IfSome (g.T.Tree.holds c.run_once.new.tree) (λ files. code ≡ 6 →
    IsTreeRefused c.args.words.now files) in
    subst P (sym c.code.ensures) (refused_is c.args.words.now _ c.run_once.result _ _ c.run_once.ensures.written)

pub returns-clause-refused_only : goal.returns-clause-refused_only
returns-clause-refused_only g c =
    let P : ℕ → Type 0 = λ code. IfSome (g.T.Tree.holds c.run_once.new.tree)
    (λ files. IsTreeRefused c.args.words.now files → (code ≡ 6) ⊎ IsFault code) in
    subst P (sym c.code.ensures) (is_refused c.args.words.now _ c.run_once.result _ _ c.run_once.ensures.written)

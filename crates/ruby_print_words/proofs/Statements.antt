-- The pieces of the statements that texts have are sentences of the rules of statements.
use Rattle.std.proofs.Common.{ℕ, Bool, List}
use Rattle.ruby_types.specs.declared.tree.Stmt.{Stmt}
use Rattle.ruby_grammar.specs.Rules.{Name}
use Rattle.ruby_print_pieces.specs.FormedStatements as f
use Rattle.ruby_print_pieces.specs.FormedStatements.{Form, Held, FormedStmt, simple, whole, several, branches}
use Rattle.ruby_print_words.proofs.Building.{Eventually, always, so, both, deeper}
use Rattle.ruby_print_words.proofs.Expressions.{shown}
use Rattle.ruby_print_words.proofs.Branches.{Simple, evaluates_read, assigns_read, assigns_ivar_read, returns_read}
use Rattle.ruby_print_words.proofs.Branches.{returns_value_read, raises_read, Whole, plain_read, conditional_read}
use Rattle.ruby_print_words.proofs.Branches.{Several, no_statements, statements_more, Arms, last_arm_tail}
use Rattle.ruby_print_words.proofs.Branches.{arm_more_tail, Rest, no_else, else_read, block_read}

-- What is shown of a formed statement's pieces, by its form.
abbrev pub Told : Bool → (f : Form) → List Name → Held f → List Name → ℕ → Type 0
Told sets simple names s after = Simple sets names s after
Told sets whole names s after = Whole sets names s after
Told sets several names ss after = Several sets names ss after
Told sets branches names as' after = Arms sets names as' after

-- what follows the arms, by whether there is an `else`
rest_of : {sets : Bool} {names : List Name} {ss : List Stmt} {after : List Name} →
    FormedStmt sets several names ss after → Eventually (Several sets names ss after) →
    Eventually (Rest sets names ss after)
rest_of {sets} {names} f.no_more h = always (λ l. record { read = λ as' ss indent. no_else sets names as' ss indent l })
rest_of {sets} {names} {ss} {after} (f.one_more {s} {ss = other} d e) h =
    so (λ l r. record { read = λ as' us indent. else_read sets names after as' us s other indent l r }) h

-- The pieces of each formed statement are read as it is.
pub told : {sets : Bool} {f : Form} {names : List Name} {x : Held f} {after : List Name} →
    FormedStmt sets f names x after → Eventually (Told sets f names x after)
told {sets} {names} (f.evaluates {x} h) = so (λ l r. evaluates_read sets names x l r) (shown h)
told {sets} {names} (f.assigns {n} {x} v h) = so (λ l r. assigns_read sets names n x l v r) (shown h)
told {sets} {names} (f.assigns_ivar {n} {x} e v h) = so (λ l r. assigns_ivar_read sets names n x l e r) (shown h)
told {sets} {names} f.returns = always (returns_read sets names)
told {sets} {names} (f.returns_value {x} h) = so (λ l r. returns_value_read sets names x l r) (shown h)
told {sets} {names} (f.raises {x} h) = so (λ l r. raises_read sets names x l r) (shown h)
told {sets} {names} {after} (f.plain {s} h) = so (λ l r. plain_read sets names s after l r) (told h)
told {sets} {names} {after} (f.conditional {s} {x} h k) = so (λ l r. conditional_read sets names s x after l r.0 r.1)
    (both (told h) (shown k))
told {sets} {names} {after} (f.block {mid} {as'} {other} h k) =
    so (λ l r. block_read sets names mid after as' other l r) (deeper (both (told h) (rest_of k (told k))))
told {sets} {names} f.no_more = always (no_statements sets names)
told {sets} {names} {after} (f.one_more {mid} {s} {ss} h k) =
    so (λ l r. statements_more sets names mid after s ss l r.0 r.1) (both (told h) (told k))
told {sets} {names} {after} (f.last_arm {x} {ss} h k) = so (λ l r. last_arm_tail sets names after x ss l r.0 r.1)
    (both (shown h) (told k))
told {sets} {names} {after} (f.arm_more {mid} {x} {ss} {as'} h k j) =
    so (λ l r. arm_more_tail sets names mid after x ss as' l r.0 r.1.0 r.1.1) (both (shown h) (both (told k) (told j)))

-- What a letter needs.
use Rattle.std.proofs.Common.{◌≡◌, ◌∷◌, [], Contains, refl, sym, subst, ◌∙◌, arith}
use Rattle.system_events.specs.Facts.{Needs, itself, through}
use Rattle.system_core_cases.specs.declared.letters.Letter.{Letter}
use Rattle.system_core_cases.specs.declared.letters.Letter.TheVariants.{A, B, C}
use Rattle.system_core_cases.specs.Letters.{asked_by}

-- a letter needs itself
pub needs_itself : (a b x : Letter) → a ≡ x → b ≡ x → Needs asked_by a b
needs_itself a b x is_a is_b = subst (Needs asked_by a) (is_a ∙ sym is_b) itself

-- C needs B
pub needs_b : (a b : Letter) → a ≡ C → b ≡ B → Needs asked_by a b
needs_b a b is_a is_b =
    subst (λ x. Needs asked_by x b) (sym is_a)
    (subst (Needs asked_by C) (sym is_b) (through C B itself (0, omega arith, refl)))

-- every letter is a task
pub all_tasks : (letter : Letter) → Contains (A ∷ B ∷ C ∷ []) letter
all_tasks A = (0, omega arith, refl)
all_tasks B = (1, omega arith, refl)
all_tasks C = (2, omega arith, refl)

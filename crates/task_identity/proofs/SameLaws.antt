-- Lists of names that are alike are equal, and the test of two tasks from what it tells.
use Rattle.std.proofs.Common.{◌≡◌, ℕ, Bool, List, true, sym, subst}
use Rattle.std.specs.Prelude.{IsTrue, bytes_eq}
use Rattle.std.specs.Bool.{one_answer}
use Rattle.std.specs.Cmp.Lexicographic.{pointwise, pointwise_decides, bytes_decides}
use Rattle.ruby_types.specs.declared.request.Task.{Task}
use Rattle.task_keys.specs.Same.{same_task}
use Rattle.task_keys.proofs.SameTasks.{same_is, same_self}

-- lists that are alike name by name are equal
pub alike_are_equal : (a b : List (List ℕ)) → pointwise bytes_eq a b ≡ true → a ≡ b
alike_are_equal a b = (pointwise_decides bytes_decides a b).0

-- equal lists are alike
pub equal_are_alike : (a b : List (List ℕ)) → a ≡ b → pointwise bytes_eq a b ≡ true
equal_are_alike a b = (pointwise_decides bytes_decides a b).1

-- an answer that holds exactly where two tasks are equal is their test
pub told_is_same : (a b : Task) (answer : Bool) → (IsTrue answer → a ≡ b) → (a ≡ b → IsTrue answer) →
    answer ≡ same_task a b
told_is_same a b answer equal told = one_answer {P = a ≡ b} answer (same_task a b)
    (equal, told) (same_is a b, λ e. subst (λ x. same_task a x ≡ true) e (same_self a))

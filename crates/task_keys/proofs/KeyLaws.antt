-- Keys tell tasks of files apart.
use Rattle.std.proofs.Common.{◌≡◌, true, sym, ap}
use Rattle.std.proofs.lemmas.Bool.{and_parts, eqb-true}
use Rattle.std.specs.Bool.{one_answer}
use Rattle.std.specs.Cmp.Lexicographic.{pointwise_decides, bytes_decides}
use Rattle.ruby_types.specs.declared.request.Task.{Task}
use Rattle.ruby_types.specs.declared.request.Task.TheVariants as task
use Rattle.task_keys.specs.Keys.{same_key, key_equivalence}
use Rattle.task_keys.specs.Names.{IsLoad, task_rank, task_path}
use Rattle.task_keys.specs.Same.{same_task}
use Rattle.task_keys.proofs.SameTasks.{same_is, same_self}

equal_when : (a b : Task) → IsLoad a → IsLoad b → task_rank a ≡ task_rank b → task_path a ≡ task_path b → a ≡ b
equal_when (task.File f) (task.File g) h k r p = cc
equal_when (task.File f) (task.Const q) h k r p = cc
equal_when (task.File f) (task.Ancestors q) h k r p = cc
equal_when (task.File f) (task.Request q) h k r p = absurd k
equal_when (task.Const p) (task.File g) h k r e = cc
equal_when (task.Const p) (task.Const q) h k r e = ap task.Const e
equal_when (task.Const p) (task.Ancestors q) h k r e = cc
equal_when (task.Const p) (task.Request q) h k r e = absurd k
equal_when (task.Ancestors p) (task.File g) h k r e = cc
equal_when (task.Ancestors p) (task.Const q) h k r e = cc
equal_when (task.Ancestors p) (task.Ancestors q) h k r e = ap task.Ancestors e
equal_when (task.Ancestors p) (task.Request q) h k r e = absurd k
equal_when (task.Request r) b h k e p = absurd h

-- tasks of one key are equal
pub key_is : (a b : Task) → IsLoad a → IsLoad b → same_key a b ≡ true → a ≡ b
key_is a b h k same =
    let parts = and_parts _ _ same in
    equal_when a b h k (eqb-true _ _ parts.0) ((pointwise_decides bytes_decides _ _).0 parts.1)

-- two tasks have one key exactly where they are the same
pub key_is_same : (a b : Task) → IsLoad a → IsLoad b → same_key a b ≡ same_task a b
key_is_same a b h k = one_answer {P = a ≡ b} (same_key a b) (same_task a b)
    (key_is a b h k, λ e. rw (sym e) (key_equivalence.refl a))
    (same_is a b, λ e. rw (sym e) (same_self a))

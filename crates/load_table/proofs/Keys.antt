-- Which keys are not those of a task.
use Rattle.std.proofs.Common.{◌≡◌, false, refl, sym}
use Rattle.std.proofs.lemmas.Bool.{false_from_ne_true}
use Rattle.ruby_types.specs.declared.request.Task.{Task}
use Rattle.ruby_types.specs.declared.request.Task.TheVariants as task
use Rattle.task_keys.specs.Keys.{same_key}
use Rattle.task_keys.specs.Names.{IsLoad}
use Rattle.task_keys.proofs.KeyLaws.{key_is}

-- a task that a load may define has the key of no other one
pub other_key : (a b : Task) → IsLoad a → (b ≡ a → ⊥) → same_key a b ≡ false
other_key a (task.File f) load differs = false_from_ne_true _ (λ h. differs (sym (key_is a (task.File f) load tt h)))
other_key a (task.Const p) load differs = false_from_ne_true _ (λ h. differs (sym (key_is a (task.Const p) load tt h)))
other_key a (task.Ancestors p) load differs =
    false_from_ne_true _ (λ h. differs (sym (key_is a (task.Ancestors p) load tt h)))
other_key (task.File f) (task.Request r) load differs = refl
other_key (task.Const p) (task.Request r) load differs = refl
other_key (task.Ancestors p) (task.Request r) load differs = refl
other_key (task.Request q) (task.Request r) load differs = absurd load

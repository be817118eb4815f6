-- What a lookup tells of the table.
use Rattle.std.proofs.Common.{◌≡◌, List, [], ◌∷◌, Some, None, Bool, true, false, ◌||◌, if◌then◌else◌, refl, sym}
use Rattle.std.proofs.lemmas.Option.{none-some}
use Rattle.system_core.specs.Tables.{lookup}
use Rattle.system_events.specs.Facts.{Facts}
use Rattle.system_events.specs.State.{is_in}

module _ {T V P Q R F : Type 0} (f : Facts T V P Q R F) where
  -- a task that a lookup doesn't find isn't in the table
  pub lookup_absent : (task : T) (table : List (T × V)) → lookup f task table ≡ None → is_in f task table ≡ false
  lookup_absent task [] is = refl
  lookup_absent task (pair ∷ pairs) is = by (f.same_task pair.0 task) (lookup_absent task pairs) is
    where
      by : (b : Bool) → (lookup f task pairs ≡ None → is_in f task pairs ≡ false) →
          (if b then Some pair.1 else lookup f task pairs) ≡ None → (b || is_in f task pairs) ≡ false
      by true rest is = absurd (none-some pair.1 (sym is))
      by false rest is = rest is

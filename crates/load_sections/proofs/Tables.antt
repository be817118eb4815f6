-- The table of a system, and its seats.
use Rattle.std.proofs.Common.{◌≡◌, ℕ, List, [], ◌∷◌, Some, Bool, true, false, refl, sym, ap, ◌∙◌, subst}
use Rattle.std.specs.Prelude.{if◌then◌else◌}
use Rattle.std.proofs.lemmas.Option.{none-some, same_Some}
use Rattle.by_need.specs.Rounds.{Rules, Part, known}
use Rattle.system_seats.specs.Shapes.{IsTidy}
use Rattle.system_events.specs.Facts.{Facts, SameIsEqual}
use Rattle.system_events.specs.State.{State}
use Rattle.system_events.specs.Legal.{IsAfter}
use Rattle.system_laws.specs.Lawful.{IsTable, AllKnown}
use Rattle.system_laws.proofs.Keeps.{keeps_after}
use Rattle.system_core.specs.Tables.{lookup}
use Rattle.load_sections.specs.Theories.{IsOfTheory}

module _ {M T V P Q R F : Type 0} (f : Facts T V P Q R F) (equal : SameIsEqual f) where
  -- the seats of a system are in order
  pub tidy_of : (seats : ℕ) (s : State M T V P Q R F) → IsAfter f seats s → IsTidy s.seats
  tidy_of seats s is = subst (λ (x : State M T V P Q R F). IsTidy x.seats) (sym is.state)
      (keeps_after f equal seats s.history is.legal).tidy

  -- its table is known
  pub table_of_system : (seats : ℕ) (s : State M T V P Q R F) → IsAfter f seats s → IsTable f s.counts.program s.table
  table_of_system seats s is = subst (λ (x : State M T V P Q R F). IsTable f x.counts.program x.table) (sym is.state)
      (keeps_after f equal seats s.history is.legal).table

module _ {T V P Q R F : Type 0} (f : Facts T V P Q R F) (equal : SameIsEqual f) where
  -- a value that the table has is known
  pub known_of_lookup : (program : P) (table : List (T × V)) (task : T) (value : V) → AllKnown f program table →
      lookup f task table ≡ Some value → f.known program task ≡ Some value
  known_of_lookup program [] task value known is = absurd (none-some value is)
  known_of_lookup program (pair ∷ pairs) task value known is =
      by (f.same_task pair.0 task) refl (known_of_lookup program pairs task value known.1)
    where
      by : (b : Bool) → f.same_task pair.0 task ≡ b →
          (lookup f task pairs ≡ Some value → f.known program task ≡ Some value) →
          f.known program task ≡ Some value
      by true same later =
          let value_is : pair.1 ≡ value = same_Some _ _
          (sym (ap (λ b. if b then Some pair.1 else lookup f task pairs) same) ∙ is) in
          let task_is : pair.0 ≡ task = (equal pair.0 task).0 same in
          ap (f.known program) (sym task_is) ∙ (known.0 ∙ ap (λ v. Some v) value_is)
      by false same later = later (sym (ap (λ b. if b then Some pair.1 else lookup f task pairs) same) ∙ is)

module _ {T V P Q R F E O : Type 0} (f : Facts T V P Q R F) (equal : SameIsEqual f) (r : Rules T V E O) where
  -- a table that is known is part of what the theory knows
  pub table_is_part : (program : P) (table : List (T × V)) → IsOfTheory f program r → AllKnown f program table →
      Part (λ task. lookup f task table) (known r)
  table_is_part program table of all = record {
    keeps = λ task value is. sym (of.known_of task) ∙ known_of_lookup f equal program table task value all is;
  }

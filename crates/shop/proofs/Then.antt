-- What is true of what a pass has seen, at its next turn.
use Rattle.std.proofs.Common.{◌≡◌, ℕ, true, false, List, Option, Some, is_some, Contains, sym, ap, ◌∙◌, subst}
use Rattle.turn_lock.specs.Entries.{Lags}
use Rattle.system_events.specs.declared.event.Entry.{Entry}
use Rattle.system_events.specs.declared.event.Kept.TheVariants.{End, Define}
use Rattle.system_events.specs.declared.event.Want.{Want}
use Rattle.system_events.specs.Facts.{Facts, SameIsEqual}
use Rattle.system_events.specs.State.{State, is_in, section_want}
use Rattle.system_events.specs.Steps.{Condition, IsNeeded}
use Rattle.system_events.specs.Legal.{after, IsLegal, IsAfter}
use Rattle.shop_base.specs.Rows.{seat_row, is_exclusive}
use Rattle.shop_base.specs.Passes.{seat_of}
use Rattle.shop_base.proofs.Later.{Steady, lags_steady, reply_stays, section_stays, needed_stays, table_stays}
use Rattle.shop_desk.specs.Ledgers.{Ledger}

module _ {M T V P Q R F : Type 0} (f : Facts T V P Q R F) (equal : SameIsEqual f) (d : Ledger M T V P Q R F) (k : ℕ)
    (seen : List (Entry M T V P Q R F)) (legal : IsLegal f 64 seen) (is : IsAfter f 64 d.state)
    (lags : Lags seat_of k seen d.state.history) where
  -- a reply that was the request's is it
  pub reply_then : (reply : R) → Condition f (after f 64 seen) k (End reply) → Condition f d.state k (End reply)
  reply_then reply was =
      subst (λ (s : State M T V P Q R F). Condition f s k (End reply)) (sym is.state)
      (reply_stays f equal 64 k seen d.state.history reply legal is.legal lags was)

  steady_then : (place : ℕ) → (seat_row (after f 64 seen).seats k).running ≡ Some place →
      Steady f (after f 64 seen) d.state
  steady_then place runs =
      subst (Steady f (after f 64 seen)) (sym is.state)
      (lags_steady f equal 64 k seen d.state.history place legal is.legal lags runs)

  -- a task of the program is one
  pub task_then : (place : ℕ) (task : T) → (seat_row (after f 64 seen).seats k).running ≡ Some place →
      Contains (f.tasks (after f 64 seen).counts.program) task → Contains (f.tasks d.state.counts.program) task
  task_then place task runs was =
      subst (λ p. Contains (f.tasks p) task) (sym (steady_then place runs).program) was

  -- a value that was known is
  pub known_then : (place : ℕ) (task : T) (value : V) → (seat_row (after f 64 seen).seats k).running ≡ Some place →
      f.known (after f 64 seen).counts.program task ≡ Some value → f.known d.state.counts.program task ≡ Some value
  known_then place task value runs was = ap (λ p. f.known p task) (steady_then place runs).program ∙ was

  -- a task that the load needed it needs
  pub needed_then : (place : ℕ) (task : T) → (seat_row (after f 64 seen).seats k).running ≡ Some place →
      Condition f (after f 64 seen) k (Define task) → Condition f d.state k (Define task)
  needed_then place task runs was =
      subst (λ (s : State M T V P Q R F). IsNeeded f s k task) (sym is.state)
      (needed_stays f equal 64 k seen d.state.history place task legal is.legal lags runs was)

  -- an exclusive seat's table is as it was
  pub table_then : is_exclusive (seat_row (after f 64 seen).seats k) ≡ true → d.state.table ≡ (after f 64 seen).table
  table_then owns =
      ap (λ (s : State M T V P Q R F). s.table) is.state
      ∙ table_stays f equal 64 k seen d.state.history legal is.legal lags owns

  -- what an exclusive seat's table lacked it lacks
  pub absent_then : (task : T) → is_exclusive (seat_row (after f 64 seen).seats k) ≡ true →
      is_in f task (after f 64 seen).table ≡ false → is_in f task d.state.table ≡ false
  absent_then task owns was = ap (is_in f task) (table_then owns) ∙ was

  -- what a section was for it is for
  pub section_then : (want : Want M T V P Q R F) → section_want (after f 64 seen) k ≡ Some want →
      section_want d.state k ≡ Some want
  section_then want was =
      ap (λ (s : State M T V P Q R F). section_want s k) is.state
      ∙ section_stays f 64 k seen d.state.history want legal is.legal lags was

-- What is true of a pass that loads, after a turn in which it set room for a task aside.
use Rattle.std.proofs.Common.{◌≡◌, ℕ, ◌+◌, ◌-◌, false, Some, None, is_some, sym, ap, ◌∙◌, subst, arith}
use Rattle.turn_lock.specs.Entries.{Lags}
use Rattle.system_events.specs.Facts.{Facts, SameIsEqual}
use Rattle.system_events.specs.State.{is_in}
use Rattle.system_events.specs.Steps.{IsNeeded}
use Rattle.system_core.specs.Tables.{lookup}
use Rattle.system_core.proofs.Finding.{is_in_lookup}
use Rattle.shop_base.specs.Rows.{with_room, loading_seat}
use Rattle.shop_base.specs.Passes.{PassView, seat_limit, seat_of, seen_state, moved, IsPass}
use Rattle.shop_base.proofs.Later.{needed_stays}
use Rattle.shop.specs.Seeking.{LoadsTask}
use Rattle.shop.proofs.Loads.{loads_later, runs_then}
use Rattle.pass_loads.proofs.Steady.{program_of_pass, table_of_pass}

added_taken : (n : ℕ) → n + 1 - 1 ≡ n
added_taken n = omega arith

module _ {M T V P Q R F : Type 0} where
  -- room that was set aside and used up again leaves the pass's row
  pub room_used : (p q r : PassView M T V P Q R F) →
      q ≡ moved p (with_room p.row.seat (p.row.entries + 1) (p.row.values + 1)) q.seen →
      r ≡ moved q (with_room q.row.seat (q.row.entries - 1) (q.row.values - 1)) r.seen → r ≡ moved p p.row r.seen
  room_used p q r first second =
      second
      ∙ (ap (λ (x : PassView M T V P Q R F).
      moved x (with_room x.row.seat (x.row.entries - 1) (x.row.values - 1)) r.seen) first
      ∙ (λ i. moved p (with_room p.row.seat (added_taken p.row.entries i) (added_taken p.row.values i)) r.seen))

module _ {M T V P Q R F : Type 0} (f : Facts T V P Q R F) (equal : SameIsEqual f) (p q : PassView M T V P Q R F)
    (begun opened : ℕ) (is_p : IsPass f p) (is_q : IsPass f q)
    (aside : q ≡ moved p (with_room p.row.seat (p.row.entries + 1) (p.row.values + 1)) q.seen)
    (lags : Lags seat_of p.number p.seen q.seen) (loading : p.row.seat ≡ loading_seat begun opened) where
  number_there : q.number ≡ p.number
  number_there = ap (λ (x : PassView M T V P Q R F). x.number) aside

  seat_there : q.row.seat ≡ p.row.seat
  seat_there = ap (λ (x : PassView M T V P Q R F). x.row.seat) aside

  -- the table is the same
  pub table_there : (seen_state f q).table ≡ (seen_state f p).table
  table_there = table_of_pass f equal p q begun opened is_p is_q lags loading

  program_there : (seen_state f q).counts.program ≡ (seen_state f p).counts.program
  program_there =
      let runs = ap (λ r. r.running) loading in
      (program_of_pass f equal p q begun is_p is_q number_there (lags.more, lags.is) runs
      (ap (λ r. r.running) seat_there ∙ runs)).0

  -- what the table lacked it lacks
  pub new_there : (task : T) → lookup f task (seen_state f p).table ≡ None →
      is_in f task (seen_state f q).table ≡ false
  new_there task lacks =
      ap (is_in f task) table_there ∙ (sym (is_in_lookup f task (seen_state f p).table) ∙ ap is_some lacks)

  -- what was needed is
  pub needed_there : (task : T) → IsNeeded f (seen_state f p) p.number task →
      IsNeeded f (seen_state f q) q.number task
  needed_there task needed =
      subst (λ k. IsNeeded f (seen_state f q) k task) (sym number_there)
      (needed_stays f equal seat_limit p.number p.seen q.seen begun task is_p.legal is_q.legal lags
      (runs_then f p begun is_p (ap (λ r. r.running) loading)) needed)

  -- what was known is
  pub known_there : (task : T) (value : V) → f.known (seen_state f p).counts.program task ≡ Some value →
      f.known (seen_state f q).counts.program task ≡ Some value
  known_there task value known = ap (λ x. f.known x task) program_there ∙ known

  -- the pass loads what it loaded
  pub loads_there : (sought : T) → LoadsTask f p sought → LoadsTask f q sought
  loads_there sought loads = loads_later f p q sought is_p is_q lags seat_there number_there loads

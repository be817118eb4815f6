-- The rows of a desk after an act, and what is set aside then.
use Rattle.std.proofs.Common.{◌≡◌, ℕ, ◌<◌, ◌≤◌, ◌+◌, List, [], ◌∷◌, length, set, get_or}
use Rattle.std.specs.Prelude.{Result, Ok, Err, OnErr}
use Rattle.std.proofs.Common.{refl, sym, ap, ◌∙◌, subst, arith, length-set, get_or-set_same, get_or-set_other}
use Rattle.std.proofs.lemmas.Bool.{cond_both}
use Rattle.std.proofs.lemmas.List.{set-set, set-get_or, length-replicate}
use Rattle.std.proofs.lemmas.List.Sums.{sum_by-set}
use Rattle.share_lock.specs.Rows.{resting_row, eligible}
use Rattle.share_lock.specs.Lock.{Lock}
use Rattle.system_seats.specs.declared.table.SystemRow.{SystemRow}
use Rattle.system_seats.specs.Seats.{Seats, row, mark, is_calm, purpose_list}
use Rattle.system_seats.specs.Effects.{purpose_of_section}
use Rattle.system_seats.specs.Shapes.{IsTidy}
use Rattle.system_events.specs.declared.event.Cause.TheVariants.{Memory}
use Rattle.system_events.specs.declared.event.Entry.{Entry}
use Rattle.system_events.specs.declared.event.Kept.{Kept}
use Rattle.system_events.specs.declared.event.Kept.TheVariants.{Share, Unshare, Yield, Retake, Seek, Take, Release}
use Rattle.system_events.specs.declared.event.Kept.TheVariants.{Resume, Refuse}
use Rattle.system_events.specs.Facts.{Facts, SameIsEqual}
use Rattle.system_events.specs.State.{State, next_place}
use Rattle.system_events.specs.Steps.{effect, seats_after}
use Rattle.system_events.specs.Legal.{start, IsStep, after_from, after, IsAfter}
use Rattle.system_laws.specs.Lawful.{IsExclusive}
use Rattle.system_laws.proofs.Exclusion.{tidy-exclusive}
use Rattle.system_laws.proofs.Keeps.{Keeps, keeps_after, after-push}
use Rattle.system_core.specs.Keeping.{Book}
use Rattle.shop_base.specs.Rows.{seat_row, with_room}
use Rattle.shop_base.specs.Acts.{list_of, next_row}
use Rattle.shop_base.proofs.OwnRows.{own_row_after}
use Rattle.shop_base.proofs.Later.{seat_row_stays}
use Rattle.shop_desk.specs.Ledgers.{Ledger, desk_row, OthersStay, setting_aside, acted, IsCovered}

-- HOW MANY SEATS THERE ARE

-- an act leaves the number of seats
rows_kept : {M T V P Q R F : Type 0} (s : Seats) (place k : ℕ) (kept : Kept M T V P Q R F) →
    length (seats_after s place k kept).lock.rows ≡ length s.lock.rows
rows_kept s place k (Take want) =
    cond_both (is_calm (row s k).phase) _ _ (λ (x : Seats). length x.lock.rows ≡ length s.lock.rows) (λ _. refl)
    (λ _. length-set s.lock.rows k _)
rows_kept s place k Release =
    cond_both (eligible (purpose_list (purpose_of_section (mark s k))) s.lock.rows) _ _
    (λ (lock : Lock). length lock.rows ≡ length s.lock.rows) (λ _. length-set s.lock.rows k _) (λ _. refl)
rows_kept s place k Share = length-set s.lock.rows k _
rows_kept s place k Unshare = length-set s.lock.rows k _
rows_kept s place k Yield = length-set s.lock.rows k _
rows_kept s place k Retake = length-set s.lock.rows k _
rows_kept s place k (Seek want) = length-set s.lock.rows k _
rows_kept s place k Resume = length-set s.lock.rows k _
rows_kept s place k (Refuse Memory) = refl
rows_kept s place k _ = refl

module _ {M T V P Q R F : Type 0} (f : Facts T V P Q R F) where
  rows_from : (s : State M T V P Q R F) (es : List (Entry M T V P Q R F)) →
      length (after_from f s es).seats.lock.rows ≡ length s.seats.lock.rows
  rows_from s [] = refl
  rows_from s (e ∷ es) =
      rows_from (effect f s e.seat e.kept) es ∙ rows_kept s.seats (next_place s) e.seat e.kept

  rows_after : (n : ℕ) (h : List (Entry M T V P Q R F)) → length (after f n h).seats.lock.rows ≡ n
  rows_after n [] = length-replicate n resting_row
  rows_after n (x ∷ xs) = rows_from (start f n) xs ∙ length-replicate n resting_row

  -- the state after a legal history of n seats has n rows
  pub rows_number : (n : ℕ) (s : State M T V P Q R F) → IsAfter f n s → length s.seats.lock.rows ≡ n
  rows_number n s is = ap (λ (x : State M T V P Q R F). length x.seats.lock.rows) is.state ∙ rows_after n s.history

  -- the state after a legal history keeps all that such states do
  pub keeps_state : SameIsEqual f → (n : ℕ) (s : State M T V P Q R F) → IsAfter f n s → Keeps f s
  keeps_state equal n s is = subst (Keeps f) (sym is.state) (keeps_after f equal n s.history is.legal)

  -- ROWS

  -- the row of the seat after its act, from its row before
  pub acted_row : SameIsEqual f → (d : Ledger M T V P Q R F) (k : ℕ) (kept : Kept M T V P Q R F) (entries values : ℕ)
      (r : SystemRow) (is : IsAfter f 64 d.state) → (length d.entries ≡ 64) × (length d.values ≡ 64) →
      (below : k < 64) → seat_row d.state.seats k ≡ r →
      desk_row (acted f d k kept entries values) k
      ≡ with_room (next_row (eligible (list_of r) d.state.seats.lock.rows) (next_place d.state) r kept) entries values
  acted_row equal d k kept entries values r is even below at =
      let tidy : IsTidy d.state.seats = (keeps_state equal 64 d.state is).tidy in
      let seated : k < length d.state.seats.lock.rows = omega (arith, rows_number 64 d.state is, below) in
      let e : get_or (set d.entries k entries) k 0 ≡ entries =
      get_or-set_same d.entries k entries 0 (omega (arith, even.0, below)) in
      let v : get_or (set d.values k values) k 0 ≡ values =
      get_or-set_same d.values k values 0 (omega (arith, even.1, below)) in
      (λ i. with_room (own_row_after d.state.seats k tidy.even seated (next_place d.state) kept i) (e i) (v i))
      ∙ ap (λ x. with_room (next_row (eligible (list_of x) d.state.seats.lock.rows) (next_place d.state) x kept)
      entries values) at

  -- the same, of a desk that is as after the act
  pub acted_row_of : SameIsEqual f → (d : Ledger M T V P Q R F) (k : ℕ) (kept : Kept M T V P Q R F)
      (entries values : ℕ) (s : State M T V P Q R F) (es vs : List ℕ) → s ≡ effect f d.state k kept →
      es ≡ set d.entries k entries → vs ≡ set d.values k values → IsAfter f 64 d.state →
      (length d.entries ≡ 64) × (length d.values ≡ 64) → k < 64 → (r : SystemRow) → seat_row d.state.seats k ≡ r →
      desk_row (record { state = s; entries = es; values = vs }) k
      ≡ with_room (next_row (eligible (list_of r) d.state.seats.lock.rows) (next_place d.state) r kept) entries values
  acted_row_of equal d k kept entries values s es vs moved set_entries set_values is even below r at =
      (λ i. with_room (seat_row (moved i).seats k) (get_or (set_entries i) k 0) (get_or (set_values i) k 0))
      ∙ acted_row equal d k kept entries values r is even below at

  -- an exclusive seat is alone
  pub exclusive_state : SameIsEqual f → (n : ℕ) (s : State M T V P Q R F) → IsAfter f n s → IsExclusive s.seats
  exclusive_state equal n s is = tidy-exclusive s.seats (keeps_state equal n s is).tidy

  -- the rows of the others after an act
  pub acted_others : (d : Ledger M T V P Q R F) (k : ℕ) (kept : Kept M T V P Q R F) (entries values : ℕ) →
      OthersStay k d (acted f d k kept entries values)
  acted_others d k kept entries values j other =
      λ i. with_room (seat_row_stays d.state.seats (next_place d.state) k kept j other i)
      (get_or-set_other d.entries k j entries 0 other i) (get_or-set_other d.values k j values 0 other i)

  -- WHAT A DESK KEEPS

  -- after an act that the system entered
  pub covered_act : (old new : Book M T V P Q R F) (entries values : List ℕ) (k : ℕ) (kept : Kept M T V P Q R F)
      (used e v : ℕ) → IsCovered f old entries values → k < 64 → e + 1 ≤ get_or entries k 0 →
      v + used ≤ get_or values k 0 → IsStep f old.state (record { seat = k; kept = kept }) new.state →
      new.state ≡ effect f old.state k kept → old.room ≤ new.room + 1 → old.values ≤ new.values + used →
      IsCovered f new (set entries k e) (set values k v)
  covered_act old new entries values k kept used e v is below enough_entries enough_values step moved room kept_values =
      let at_entries : k < length entries = omega (arith, is.even.0, below) in
      let at_values : k < length values = omega (arith, is.even.1, below) in
      let sums_entries = sum_by-set (λ (x : ℕ). x) entries k e 0 at_entries in
      let sums_values = sum_by-set (λ (x : ℕ). x) values k v 0 at_values in
      let within = is.entries_room in
      let within_values = is.values_room in
      record {
        after = subst (IsAfter f 64) (sym moved) (after-push f 64 old.state (record { seat = k; kept = kept }) is.after
            (subst (IsStep f old.state (record { seat = k; kept = kept })) moved step));
        even = (length-set entries k e ∙ is.even.0, length-set values k v ∙ is.even.1);
        entries_room = omega (arith, sums_entries, within, enough_entries, room);
        values_room = omega (arith, sums_values, within_values, enough_values, kept_values);
      }

-- WHAT IS SET ASIDE

module _ {M T V P Q R F : Type 0} where
  -- the row of the seat after something is set aside for it
  pub set_row : (d : Ledger M T V P Q R F) (k entries values : ℕ) →
      (length d.entries ≡ 64) × (length d.values ≡ 64) → k < 64 →
      desk_row (setting_aside d k entries values) k ≡ with_room (seat_row d.state.seats k) entries values
  set_row d k entries values even below =
      λ i. with_room (seat_row d.state.seats k)
      (get_or-set_same d.entries k entries 0 (omega (arith, even.0, below)) i)
      (get_or-set_same d.values k values 0 (omega (arith, even.1, below)) i)

  -- the rows of the others then
  pub set_others : (d : Ledger M T V P Q R F) (k entries values : ℕ) → OthersStay k d (setting_aside d k entries values)
  set_others d k entries values j other =
      λ i. with_room (seat_row d.state.seats j) (get_or-set_other d.entries k j entries 0 other i)
      (get_or-set_other d.values k j values 0 other i)

  -- what is set aside and given up again leaves all as it was
  pub set_back : (d : Ledger M T V P Q R F) (k entries values : ℕ) →
      setting_aside (setting_aside d k entries values) k (get_or d.entries k 0) (get_or d.values k 0) ≡ d
  set_back d k entries values =
      λ i. record {
        state = d.state;
        entries = (set-set d.entries k entries (get_or d.entries k 0) ∙ set-get_or d.entries k 0) i;
        values = (set-set d.values k values (get_or d.values k 0) ∙ set-get_or d.values k 0) i;
      }

-- what follows of a fact on errors holds on errors
pub on_err_map : {A E : Type 0} (r : Result A E) (P Q : Type 0) → (P → Q) → OnErr r P → OnErr r Q
on_err_map (Ok a) P Q follows is = tt
on_err_map (Err e) P Q follows is = follows is

-- What a turn of a load leaves.
use Rattle.std.proofs.Common.{◌≡◌, ℕ, zero, suc, List, [], ◌∷◌, ◌++◌, length, Option, Some, None, Contains, slice_get}
use Rattle.std.proofs.Common.{◌+◌, ◌-◌, refl, sym, ap, ◌∙◌, subst, length-append, arith}
use Rattle.std.proofs.lemmas.Option.{none-some}
use Rattle.turn_lock.specs.Entries.{Begins, Lags}
use Rattle.turn_lock.specs.Tickets.{TicketView, after_leaving}
use Rattle.system_seats.specs.declared.table.SystemRow.{SystemRow}
use Rattle.system_seats.specs.Seats.{mark}
use Rattle.system_events.specs.declared.event.Entry.{Entry}
use Rattle.system_events.specs.declared.event.Kept.{Kept}
use Rattle.system_events.specs.declared.event.Want.{Want}
use Rattle.system_events.specs.declared.event.Want.TheVariants.{Load}
use Rattle.system_events.specs.Facts.{Facts, SameIsEqual}
use Rattle.system_events.specs.State.{State, want_of, entry_want, want_at, section_want}
use Rattle.system_events.specs.Steps.{effect}
use Rattle.system_events.specs.Legal.{after, IsLegal, IsAfter}
use Rattle.shop_base.specs.declared.row.PassRow.{PassRow}
use Rattle.shop_base.specs.Rows.{seat_row}
use Rattle.shop_base.specs.Passes.{PassView, entry, seat_of, seen_state, moved, IsPass}
use Rattle.shop_base.proofs.Later.{after-append, lags_steady, section_stays}
use Rattle.shop_desk.specs.Ledgers.{Ledger, desk_row}
use Rattle.shop.specs.Held.{pass_view}
use Rattle.shop.specs.Seeking.{SeeksTask, LoadsTask}

module _ {M T V P Q R F : Type 0} where
  at_end : (xs : List (Entry M T V P Q R F)) (y : Entry M T V P Q R F) → slice_get (xs ++ y ∷ []) (length xs) ≡ Some y
  at_end [] y = refl
  at_end (x ∷ xs) y = at_end xs y

  want_on : (es xs : List (Entry M T V P Q R F)) (place : ℕ) (w : Want M T V P Q R F) →
      want_at es (Some place) ≡ Some w → want_at (es ++ xs) (Some place) ≡ Some w
  want_on [] xs place w is = absurd (none-some w is)
  want_on (e ∷ es) xs zero w is = is
  want_on (e ∷ es) xs (suc place) w is = want_on es xs place w is

  -- the place of the last entry that a pass has seen, after a turn with an entry
  pub place_of : (before d : Ledger M T V P Q R F)
      (t left : TicketView (Ledger M T V P Q R F) (Entry M T V P Q R F) PassRow) (k : ℕ) (kept : Kept M T V P Q R F) →
      left ≡ after_leaving (λ x. x.state.history) desk_row d t →
      d.state.history ≡ before.state.history ++ entry k kept ∷ [] →
      length before.state.history ≡ length left.seen - 1
  place_of before d t left k kept is_left gained =
      let seen_is : length left.seen ≡ length d.state.history =
      ap (λ (x : TicketView (Ledger M T V P Q R F) (Entry M T V P Q R F) PassRow). length x.seen) is_left in
      let grown : length d.state.history ≡ length before.state.history + 1 =
      ap length gained ∙ length-append before.state.history (entry k kept ∷ []) in
      omega (arith, seen_is, grown)

  -- an act that opened a section opened it for what it wants
  pub section_opened : (s : State M T V P Q R F) (h : List (Entry M T V P Q R F)) (k : ℕ) (kept : Kept M T V P Q R F)
      (want : Want M T V P Q R F) → s.history ≡ h ++ entry k kept ∷ [] → want_of kept ≡ Some want →
      (seat_row s.seats k).section ≡ Some (length h) → section_want s k ≡ Some want
  section_opened s h k kept want gained wants at =
      (λ i. want_at (gained i) (at i)) ∙ (ap entry_want (at_end h (entry k kept)) ∙ wants)

  -- a section that stands at its place while the history grows stays what it is for
  pub section_grown : (s t : State M T V P Q R F) (k : ℕ) (want : Want M T V P Q R F) → Begins s.history t.history →
      (seat_row t.seats k).section ≡ (seat_row s.seats k).section → section_want s k ≡ Some want →
      section_want t k ≡ Some want
  section_grown s t k want begins same is = by (mark s.seats k).section refl
    where
      by : (o : Option ℕ) → (mark s.seats k).section ≡ o → section_want t k ≡ Some want
      by None at = absurd (none-some want (sym (ap (want_at s.history) at) ∙ is))
      by (Some place) at =
          (λ i. want_at (begins.1 i) ((same ∙ at) i))
          ∙ want_on s.history begins.0 place want (sym (ap (want_at s.history) at) ∙ is)

module _ {M T V P Q R F : Type 0} (f : Facts T V P Q R F) where
  -- the state after what the ticket has seen is that of the desk that it left
  pub state_left : (d : Ledger M T V P Q R F)
      (t left : TicketView (Ledger M T V P Q R F) (Entry M T V P Q R F) PassRow) →
      left ≡ after_leaving (λ x. x.state.history) desk_row d t → IsAfter f 64 d.state →
      after f 64 left.seen ≡ d.state
  state_left d t left is_left is =
      ap (λ (x : TicketView (Ledger M T V P Q R F) (Entry M T V P Q R F) PassRow). after f 64 x.seen) is_left
      ∙ sym is.state

  -- the state after one entry more
  pub state_pushed : (s t : State M T V P Q R F) (k : ℕ) (kept : Kept M T V P Q R F) → IsAfter f 64 s →
      IsAfter f 64 t → t.history ≡ s.history ++ entry k kept ∷ [] → t ≡ effect f s k kept
  state_pushed s t k kept was is gained =
      is.state
      ∙ (ap (after f 64) gained
      ∙ (after-append f 64 s.history (entry k kept ∷ []) was.legal ∙ ap (λ x. effect f x k kept) (sym was.state)))

  -- WHAT A PASS SEEKS AND LOADS STAYS

  -- the request that a pass runs is the one that its seat runs after what it has seen
  pub runs_then : (p : PassView M T V P Q R F) (begun : ℕ) → IsPass f p → p.row.seat.running ≡ Some begun →
      (seat_row (seen_state f p).seats p.number).running ≡ Some begun
  runs_then p begun is runs = ap (λ (r : SystemRow). r.running) (sym is.row) ∙ runs

  -- a pass that seeks a task seeks it still, after entries of others
  pub seeks_later : SameIsEqual f → (p : PassView M T V P Q R F) (seen : List (Entry M T V P Q R F)) (task : T) →
      IsPass f p → IsLegal f 64 seen → Lags seat_of p.number p.seen seen → SeeksTask f p task →
      SeeksTask f (moved p p.row seen) task
  seeks_later equal p seen task is later lags seeking = record {
    seeks = seeking.seeks;
    kept = seeking.kept;
    section = section_stays f 64 p.number p.seen seen (Load task) is.legal later lags seeking.section;
    is_task = subst (λ program. Contains (f.tasks program) task)
        (sym (lags_steady f equal 64 p.number p.seen seen seeking.seeks.0 is.legal later lags
        (runs_then p seeking.seeks.0 is (ap (λ (r : SystemRow). r.running) seeking.seeks.1.1))).program)
        seeking.is_task;
  }

  -- a pass that loads a task loads it still, after entries of others, whatever its room
  pub loads_later : (p q : PassView M T V P Q R F) (task : T) → IsPass f p → IsPass f q →
      Lags seat_of p.number p.seen q.seen → q.row.seat ≡ p.row.seat → q.number ≡ p.number → LoadsTask f p task →
      LoadsTask f q task
  loads_later p q task was is lags same number loading = record {
    loads = (loading.loads.0, (loading.loads.1.0, same ∙ loading.loads.1.1));
    section = ap (section_want (seen_state f q)) number
        ∙ section_stays f 64 p.number p.seen q.seen (Load task) was.legal is.legal lags loading.section;
  }

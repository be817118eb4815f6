-- What stays while a pass runs a request, and while it loads.
use Rattle.std.proofs.Common.{◌≡◌, ℕ, zero, suc, ◌<◌, ◌≤◌, ◌+◌, List, [], ◌∷◌, ◌++◌, length, append_assoc}
use Rattle.std.proofs.Common.{length-append, slice_get, Some, refl, sym, ap, ◌∙◌, subst, arith}
use Rattle.std.proofs.lemmas.Option.{none-some}
use Rattle.turn_lock.specs.Entries.{Begins, Lags}
use Rattle.system_events.specs.declared.event.Entry.{Entry}
use Rattle.system_events.specs.Facts.{Facts, SameIsEqual}
use Rattle.system_events.specs.State.{State, request_at}
use Rattle.system_events.specs.Legal.{after, after_from, IsLegal}
use Rattle.system_laws.specs.Lawful.{IsNoReload, NoReload}
use Rattle.system_laws.proofs.Keeps.{Keeps, keeps_after, history_after}
use Rattle.shop_base.specs.Rows.{seat_row, is_exclusive, loading_seat}
use Rattle.shop_base.specs.Passes.{PassView, seat_limit, seat_of, seen_state, IsPass}
use Rattle.shop_base.proofs.Later.{after-append, program_stays, table_stays}
use Rattle.shop.proofs.Loads.{runs_then}

module _ {M T V P Q R F : Type 0} where
  get_at : (xs : List (Entry M T V P Q R F)) (y : Entry M T V P Q R F) (ys : List (Entry M T V P Q R F)) →
      slice_get (xs ++ y ∷ ys) (length xs) ≡ Some y
  get_at [] y ys = refl
  get_at (x ∷ xs) y ys = get_at xs y ys

  request_below : (es : List (Entry M T V P Q R F)) (place : ℕ) (request : Q) →
      request_at es (Some place) ≡ Some request → place < length es
  request_below [] place request is = absurd (none-some request is)
  request_below (e ∷ es) zero request is = omega arith
  request_below (e ∷ es) (suc place) request is =
      let below : place < length es = request_below es place request is in omega (arith, below)

module _ {M T V P Q R F : Type 0} (f : Facts T V P Q R F) where
  -- where none of the later entries is a Reload, none of the rest is
  none_reloads : (xs ys : List (Entry M T V P Q R F)) →
      ((later : ℕ) (e : Entry M T V P Q R F) → length xs ≤ later → slice_get (xs ++ ys) later ≡ Some e →
      IsNoReload e.kept) → NoReload f ys
  none_reloads xs [] each = tt
  none_reloads xs (y ∷ ys) each = (
    each (length xs) y (omega arith) (get_at xs y ys),
    none_reloads (xs ++ y ∷ []) ys (λ later e over is.
        each later e (let longer : length (xs ++ y ∷ []) ≡ length xs + 1 = length-append xs (y ∷ []) in
        omega (arith, over, longer))
        (subst (λ (l : List (Entry M T V P Q R F)). slice_get l later ≡ Some e) (append_assoc xs (y ∷ []) ys) is)),
  )

module _ {M T V P Q R F : Type 0} (f : Facts T V P Q R F) (equal : SameIsEqual f) where
  -- while a seat runs a request, whatever it enters meanwhile, the program in force stays, and its generation
  same_program : (k place : ℕ) (before now : List (Entry M T V P Q R F)) → IsLegal f seat_limit before →
      IsLegal f seat_limit now → Begins before now →
      (seat_row (after f seat_limit before).seats k).running ≡ Some place →
      (seat_row (after f seat_limit now).seats k).running ≡ Some place →
      ((after f seat_limit now).counts.program ≡ (after f seat_limit before).counts.program)
      × ((after f seat_limit now).counts.generation ≡ (after f seat_limit before).counts.generation)
  same_program k place before now legal later begins was is =
      let first : Keeps f (after f seat_limit before) = keeps_after f equal seat_limit before legal in
      let last : Keeps f (after f seat_limit now) = keeps_after f equal seat_limit now later in
      let begun : request_at before (Some place) ≡ Some (first.runs k place was).request =
      ap (λ h. request_at h (Some place)) (sym (history_after f seat_limit before legal))
      ∙ (first.runs k place was).there in
      let early : place < length before = request_below before place _ begun in
      let none : NoReload f begins.0 = none_reloads f before begins.0 (λ at e over stands.
      last.steady k place at e is (omega (arith, early, over))
      (ap (λ h. slice_get h at) (history_after f seat_limit now later ∙ begins.1) ∙ stands)) in
      let is : after f seat_limit now ≡ after_from f (after f seat_limit before) begins.0 =
      ap (after f seat_limit) begins.1 ∙ after-append f seat_limit before begins.0 legal in
      let stays = program_stays f (after f seat_limit before) begins.0 none in (
        ap (λ (s : State M T V P Q R F). s.counts.program) is ∙ stays.0,
        ap (λ (s : State M T V P Q R F). s.counts.generation) is ∙ stays.1,
      )

  -- the program stays on which a pass runs its request, and its generation
  pub program_of_pass : (p q : PassView M T V P Q R F) (place : ℕ) → IsPass f p → IsPass f q →
      q.number ≡ p.number → Begins p.seen q.seen → p.row.seat.running ≡ Some place →
      q.row.seat.running ≡ Some place →
      ((seen_state f q).counts.program ≡ (seen_state f p).counts.program)
      × ((seen_state f q).counts.generation ≡ (seen_state f p).counts.generation)
  program_of_pass p q place is_p is_q number begins was is =
      same_program p.number place p.seen q.seen is_p.legal is_q.legal begins (runs_then f p place is_p was)
      (subst (λ k. (seat_row (seen_state f q).seats k).running ≡ Some place) number (runs_then f q place is_q is))

  -- the table stays while a pass loads and enters nothing
  pub table_of_pass : (p q : PassView M T V P Q R F) (begun opened : ℕ) → IsPass f p → IsPass f q →
      Lags seat_of p.number p.seen q.seen → p.row.seat ≡ loading_seat begun opened →
      (seen_state f q).table ≡ (seen_state f p).table
  table_of_pass p q begun opened is_p is_q lags loading =
      table_stays f equal seat_limit p.number p.seen q.seen is_p.legal is_q.legal lags
      (ap is_exclusive (sym is_p.row ∙ loading))

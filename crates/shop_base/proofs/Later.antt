-- What a pass has seen, and what is true later: after entries of other seats.
use Rattle.std.proofs.Common.{◌≡◌, ◌≢◌, ℕ, zero, suc, ◌<◌, ◌≤◌, ◌+◌, Bool, true, not, ◌&&◌, List, [], ◌∷◌, ◌++◌}
use Rattle.std.proofs.Common.{length, append_assoc, append-nil, length-append, Option, Some, None, slice_get, is_some}
use Rattle.std.proofs.Common.{Contains, replicate, refl, sym, ap, ◌∙◌, subst, arith}
use Rattle.std.proofs.lemmas.Bool.{true≢false, and_parts, not-false, eqb-true}
use Rattle.std.proofs.lemmas.Option.{none-some, same_Some}
use Rattle.turn_lock.specs.Entries.{NoneOf, Lags, Begins}
use Rattle.share_lock.specs.declared.seat.Row.{Row}
use Rattle.share_lock.specs.Rows.{resting_row, row_at}
use Rattle.share_lock.specs.Lock.{owns}
use Rattle.system_seats.specs.declared.guard.Marks.{Marks}
use Rattle.system_seats.specs.declared.table.SystemRow.{SystemRow}
use Rattle.system_seats.specs.Seats.{Seats, no_marks, mark_at, row, mark, runs_at, is_owner}
use Rattle.system_seats.proofs.From.{guard_false}
use Rattle.system_events.specs.declared.event.Cause.TheVariants.{Memory}
use Rattle.system_events.specs.declared.event.Counts.{Counts}
use Rattle.system_events.specs.declared.event.Entry.{Entry}
use Rattle.system_events.specs.declared.event.Kept.{Kept}
use Rattle.system_events.specs.declared.event.Kept.TheVariants.{Define, Reload, End, Refuse}
use Rattle.system_events.specs.declared.event.Want.{Want}
use Rattle.system_events.specs.Facts.{Facts, SameIsEqual, Needs}
use Rattle.system_events.specs.State.{State, next_place, is_in, want_at, section_want, request_at, running_request}
use Rattle.system_events.specs.Guards.{guard_of}
use Rattle.system_events.specs.Steps.{effect, seats_after, counts_after, table_after, Condition, IsReply, IsNeeded}
use Rattle.system_events.specs.Legal.{opening, start, after_from, AreSteps, after, IsLegal}
use Rattle.system_laws.specs.Lawful.{IsNoReload, NoReload, IsExclusive}
use Rattle.system_laws.proofs.Tidy.{first_none}
use Rattle.system_laws.proofs.Table.{in_kept}
use Rattle.system_laws.proofs.Others.{rows_stay, marks_stay}
use Rattle.system_laws.proofs.Runs.{request_grown}
use Rattle.system_laws.proofs.Exclusion.{tidy-exclusive}
use Rattle.system_laws.proofs.Keeps.{Keeps, keeps_step, keeps_after, history_after}
use Rattle.shop_base.specs.Rows.{seat_row, resting, is_exclusive}
use Rattle.shop_base.specs.Passes.{seat_of}
use Rattle.shop_base.proofs.OwnRows.{row_parts}

-- THE ROW

-- an act of another seat leaves the row
pub seat_row_stays : {M T V P Q R F : Type 0} (s : Seats) (place j : ℕ) (kept : Kept M T V P Q R F) (k : ℕ) → k ≢ j →
    seat_row (seats_after s place j kept) k ≡ seat_row s k
seat_row_stays s place j kept k other =
    λ i. row_parts (rows_stay s place j kept k other i) (marks_stay s place j kept k other i)

seat_row_rests : (n k : ℕ) → row_parts (row_at (replicate n resting_row) k) (mark_at (replicate n no_marks) k) ≡ resting
seat_row_rests zero k = refl
seat_row_rests (suc n) zero = refl
seat_row_rests (suc n) (suc k) = seat_row_rests n k

-- no two seats are exclusive
owner_is_one : (e : Option ℕ) (j k : ℕ) → owns e j ≡ true → owns e k ≡ true → j ≡ k
owner_is_one None j k a b = absurd (true≢false (sym a))
owner_is_one (Some o) j k a b = sym (eqb-true o j a) ∙ eqb-true o k b

module _ {M T V P Q R F : Type 0} (f : Facts T V P Q R F) where
  -- acts of other seats leave the row
  pub seat_row_from : (s : State M T V P Q R F) (es : List (Entry M T V P Q R F)) (k : ℕ) → NoneOf seat_of k es →
      seat_row (after_from f s es).seats k ≡ seat_row s.seats k
  seat_row_from s [] k none = refl
  seat_row_from s (e ∷ es) k none =
      seat_row_from (effect f s e.seat e.kept) es k none.1
      ∙ seat_row_stays s.seats (next_place s) e.seat e.kept k (λ is. none.0 (sym is))

  after_from-append : (s : State M T V P Q R F) (xs ys : List (Entry M T V P Q R F)) →
      after_from f s (xs ++ ys) ≡ after_from f (after_from f s xs) ys
  after_from-append s [] ys = refl
  after_from-append s (x ∷ xs) ys = after_from-append (effect f s x.seat x.kept) xs ys

  -- the state after a legal history and more
  pub after-append : (n : ℕ) (h more : List (Entry M T V P Q R F)) → IsLegal f n h →
      after f n (h ++ more) ≡ after_from f (after f n h) more
  after-append n [] more legal = absurd (cc)
  after-append n (x ∷ xs) more legal = after_from-append (start f n) xs more

  -- a seat's row after what was seen is its row after all later entries of other seats
  pub lags_row : (n k : ℕ) (seen log : List (Entry M T V P Q R F)) → IsLegal f n seen → Lags seat_of k seen log →
      seat_row (after f n log).seats k ≡ seat_row (after f n seen).seats k
  lags_row n k seen log legal lags =
      ap (λ h. seat_row (after f n h).seats k) lags.is
      ∙ (ap (λ (s : State M T V P Q R F). seat_row s.seats k) (after-append n seen lags.more legal)
      ∙ seat_row_from (after f n seen) lags.more k lags.none)

  -- a seat without entries is at rest
  pub unused_row : (n k : ℕ) (seen : List (Entry M T V P Q R F)) → NoneOf seat_of k seen →
      seat_row (after f n seen).seats k ≡ resting
  unused_row n k [] none = seat_row_rests n k
  unused_row n k (x ∷ xs) none = seat_row_from (start f n) xs k none.1 ∙ seat_row_rests n k

  -- WITHOUT A RELOAD

  get_at : (xs : List (Entry M T V P Q R F)) (y : Entry M T V P Q R F) (ys : List (Entry M T V P Q R F)) →
      slice_get (xs ++ y ∷ ys) (length xs) ≡ Some y
  get_at [] y ys = refl
  get_at (x ∷ xs) y ys = get_at xs y ys

  -- where none of the later entries is a Reload, none of the rest is
  none_reloads : (xs ys : List (Entry M T V P Q R F)) →
      ((later : ℕ) (e : Entry M T V P Q R F) → length xs ≤ later → slice_get (xs ++ ys) later ≡ Some e →
      IsNoReload e.kept) → NoReload f ys
  none_reloads xs [] each = tt
  none_reloads xs (y ∷ ys) each = (
    each (length xs) y (omega arith) (get_at xs y ys),
    none_reloads (xs ++ y ∷ []) ys (λ later e over is.
        each later e (let longer : length (xs ++ y ∷ []) ≡ length xs + 1 = length-append xs (y ∷ []) in
        omega (arith, over, longer))
        (subst (λ (l : List (Entry M T V P Q R F)). slice_get l later ≡ Some e) (append_assoc xs (y ∷ []) ys) is)),
  )

  request_below : (es : List (Entry M T V P Q R F)) (place : ℕ) (request : Q) →
      request_at es (Some place) ≡ Some request → place < length es
  request_below [] place request is = absurd (none-some request is)
  request_below (e ∷ es) zero request is = omega arith
  request_below (e ∷ es) (suc place) request is =
      let below : place < length es = request_below es place request is in omega (arith, below)

  -- while a seat runs a request, nobody reloads
  pub lags_no_reload : SameIsEqual f → (n k : ℕ) (seen log : List (Entry M T V P Q R F)) (place : ℕ) →
      IsLegal f n seen → IsLegal f n log → (lags : Lags seat_of k seen log) →
      (seat_row (after f n seen).seats k).running ≡ Some place → NoReload f lags.more
  lags_no_reload equal n k seen log place legal later lags runs =
      let before : Keeps f (after f n seen) = keeps_after f equal n seen legal in
      let now : Keeps f (after f n log) = keeps_after f equal n log later in
      let begun : request_at seen (Some place) ≡ Some (before.runs k place runs).request =
      ap (λ h. request_at h (Some place)) (sym (history_after f n seen legal)) ∙ (before.runs k place runs).there in
      let early : place < length seen = request_below seen place _ begun in
      let still : (mark (after f n log).seats k).running ≡ Some place =
      ap (λ (r : SystemRow). r.running) (lags_row n k seen log legal lags) ∙ runs in
      none_reloads seen lags.more (λ at e over is.
      now.steady k place at e still (omega (arith, early, over))
      (ap (λ h. slice_get h at) (history_after f n log later ∙ lags.is) ∙ is))

  counts_stay : (c : Counts M T V P Q R F) (kept : Kept M T V P Q R F) → IsNoReload kept →
      ((counts_after f c kept).program ≡ c.program) × ((counts_after f c kept).generation ≡ c.generation)
  counts_stay c (Reload program) none = absurd none
  counts_stay c (Refuse Memory) none = (refl, refl)
  counts_stay c _ none = (refl, refl)

  -- without a Reload the program in force and its generation stay
  pub program_stays : (s : State M T V P Q R F) (es : List (Entry M T V P Q R F)) → NoReload f es →
      ((after_from f s es).counts.program ≡ s.counts.program)
      × ((after_from f s es).counts.generation ≡ s.counts.generation)
  program_stays s [] none = (refl, refl)
  program_stays s (e ∷ es) none =
      let rest = program_stays (effect f s e.seat e.kept) es none.1 in
      let here = counts_stay s.counts e.kept none.0 in (rest.0 ∙ here.0, rest.1 ∙ here.1)

  -- without a Reload the table only grows
  pub table_grows : SameIsEqual f → (s : State M T V P Q R F) (es : List (Entry M T V P Q R F)) (task : T) →
      NoReload f es → is_in f task s.table ≡ true → is_in f task (after_from f s es).table ≡ true
  table_grows equal s [] task none is = is
  table_grows equal s (e ∷ es) task none is =
      table_grows equal (effect f s e.seat e.kept) es task none.1 (in_kept f equal s e.kept task none.0 is)

  -- while a seat runs a request, the program in force stays and the table only grows
  pub record Steady (before now : State M T V P Q R F) : Type 0 where
    pub program : now.counts.program ≡ before.counts.program
    pub generation : now.counts.generation ≡ before.counts.generation
    pub table : (task : T) → is_in f task before.table ≡ true → is_in f task now.table ≡ true

  -- while a seat runs a request, what it has seen of the program and the table stays true
  pub lags_steady : SameIsEqual f → (n k : ℕ) (seen log : List (Entry M T V P Q R F)) (place : ℕ) →
      IsLegal f n seen → IsLegal f n log → Lags seat_of k seen log →
      (seat_row (after f n seen).seats k).running ≡ Some place → Steady (after f n seen) (after f n log)
  lags_steady equal n k seen log place legal later lags runs =
      let none : NoReload f lags.more = lags_no_reload equal n k seen log place legal later lags runs in
      let is : after f n log ≡ after_from f (after f n seen) lags.more =
      ap (after f n) lags.is ∙ after-append n seen lags.more legal in
      let stays = program_stays (after f n seen) lags.more none in
      record {
        program = ap (λ (s : State M T V P Q R F). s.counts.program) is ∙ stays.0;
        generation = ap (λ (s : State M T V P Q R F). s.counts.generation) is ∙ stays.1;
        table = λ task there. ap (λ (s : State M T V P Q R F). is_in f task s.table) is
            ∙ table_grows equal (after f n seen) lags.more task none there;
      }

  -- CONDITIONS THAT STAY

  -- a reply that was its request's stays it
  pub reply_stays : SameIsEqual f → (n k : ℕ) (seen log : List (Entry M T V P Q R F)) (reply : R) →
      IsLegal f n seen → IsLegal f n log → Lags seat_of k seen log →
      Condition f (after f n seen) k (End reply) → Condition f (after f n log) k (End reply)
  reply_stays equal n k seen log reply legal later lags was request is =
      by (mark (after f n log).seats k).running refl
    where
      by : (o : Option ℕ) → (mark (after f n log).seats k).running ≡ o → IsReply f (after f n log) request reply
      by None at = absurd (none-some request (sym (ap (request_at (after f n log).history) at) ∙ is))
      by (Some place) at =
          let runs : (seat_row (after f n seen).seats k).running ≡ Some place =
          sym (ap (λ (r : SystemRow). r.running) (lags_row n k seen log legal lags)) ∙ at in
          let before : Keeps f (after f n seen) = keeps_after f equal n seen legal in
          let begun : request_at seen (Some place) ≡ Some (before.runs k place runs).request =
          ap (λ h. request_at h (Some place)) (sym (history_after f n seen legal)) ∙ (before.runs k place runs).there in
          let grown : request_at log (Some place) ≡ Some (before.runs k place runs).request =
          ap (λ h. request_at h (Some place)) lags.is ∙ request_grown seen lags.more place _ begun in
          let there : request_at log (Some place) ≡ Some request =
          ap (λ h. request_at h (Some place)) (sym (history_after f n log later))
          ∙ (sym (ap (request_at (after f n log).history) at) ∙ is) in
          let same : (before.runs k place runs).request ≡ request = same_Some _ _ (sym grown ∙ there) in
          let ran : running_request (after f n seen) k ≡ Some request =
          ap (request_at (after f n seen).history) runs ∙ ((before.runs k place runs).there ∙ ap Some same) in
          let right : IsReply f (after f n seen) request reply = was request ran in
          let steady : Steady (after f n seen) (after f n log) =
          lags_steady equal n k seen log place legal later lags runs in (
            right.0 ∙ ap (λ p. f.reply p request) (sym steady.program),
            λ task asked known.
                steady.table task (right.1 task
                (subst (λ p. Contains (f.request_asked p request) task) steady.program asked)
                (subst (λ p. is_some (f.known p task) ≡ true) steady.program known)),
          )

  want_on : (es xs : List (Entry M T V P Q R F)) (place : ℕ) (w : Want M T V P Q R F) →
      want_at es (Some place) ≡ Some w → want_at (es ++ xs) (Some place) ≡ Some w
  want_on [] xs place w is = absurd (none-some w is)
  want_on (e ∷ es) xs zero w is = is
  want_on (e ∷ es) xs (suc place) w is = want_on es xs place w is

  -- an open section stays what it is for
  pub section_stays : (n k : ℕ) (seen log : List (Entry M T V P Q R F)) (want : Want M T V P Q R F) →
      IsLegal f n seen → IsLegal f n log → Lags seat_of k seen log →
      section_want (after f n seen) k ≡ Some want → section_want (after f n log) k ≡ Some want
  section_stays n k seen log want legal later lags is = by (mark (after f n seen).seats k).section refl
    where
      by : (o : Option ℕ) → (mark (after f n seen).seats k).section ≡ o → section_want (after f n log) k ≡ Some want
      by None at = absurd (none-some want (sym (ap (want_at (after f n seen).history) at) ∙ is))
      by (Some place) at =
          let here : want_at seen (Some place) ≡ Some want =
          ap (λ h. want_at h (Some place)) (sym (history_after f n seen legal))
          ∙ (sym (ap (want_at (after f n seen).history) at) ∙ is) in
          let grown : want_at log (Some place) ≡ Some want =
          ap (λ h. want_at h (Some place)) lags.is ∙ want_on seen lags.more place want here in
          ap (want_at (after f n log).history)
          (ap (λ (r : SystemRow). r.section) (lags_row n k seen log legal lags) ∙ at)
          ∙ (ap (λ h. want_at h (Some place)) (history_after f n log later) ∙ grown)

  -- a task that a running request may define stays one
  pub needed_stays : SameIsEqual f → (n k : ℕ) (seen log : List (Entry M T V P Q R F)) (place : ℕ) (task : T) →
      IsLegal f n seen → IsLegal f n log → Lags seat_of k seen log →
      (seat_row (after f n seen).seats k).running ≡ Some place →
      IsNeeded f (after f n seen) k task → IsNeeded f (after f n log) k task
  needed_stays equal n k seen log place task legal later lags runs is =
      let steady : Steady (after f n seen) (after f n log) =
      lags_steady equal n k seen log place legal later lags runs in (
        subst (λ p. is_some (f.known p task) ≡ true) (sym steady.program) is.0,
        (
          is.1.0,
          (
            section_stays n k seen log _ legal later lags is.1.1.0,
            subst (λ p. Needs (f.asked p) is.1.0 task) (sym steady.program) is.1.1.1,
          ),
        ),
      )

  -- WHILE THE SEAT IS EXCLUSIVE

  steps_after : (s : State M T V P Q R F) (xs ys : List (Entry M T V P Q R F)) → AreSteps f s (xs ++ ys) →
      AreSteps f (after_from f s xs) ys
  steps_after s [] ys steps = steps
  steps_after s (x ∷ xs) ys steps = steps_after (effect f s x.seat x.kept) xs ys steps.1

  legal_steps : (n : ℕ) (h more : List (Entry M T V P Q R F)) → IsLegal f n h → IsLegal f n (h ++ more) →
      AreSteps f (after f n h) more
  legal_steps n [] more legal later = absurd (let opens = legal.opens in cc)
  legal_steps n (x ∷ xs) more legal later =
      let rest : xs ++ more ≡ later.entries = let opens = later.opens in cc in
      steps_after (start f n) xs more (subst (AreSteps f (start f n)) (sym rest) later.steps)

  act_leaves_table : (s : State M T V P Q R F) (j : ℕ) (kept : Kept M T V P Q R F) → (is_owner s.seats j ≡ true → ⊥) →
      guard_of f s j kept ≡ None → table_after f s.counts.program s.table kept ≡ s.table
  act_leaves_table s j (Define task) other p =
      absurd (other (and_parts _ _ (not-false _ (guard_false _ _ _ (first_none _ _ p)).0)).0)
  act_leaves_table s j (Reload program) other p =
      absurd (other (and_parts _ _ (not-false _ (guard_false _ _ _ (first_none _ _ p)).0)).0)
  act_leaves_table s j _ other p = refl

  table_stays_from : SameIsEqual f → (s : State M T V P Q R F) (es : List (Entry M T V P Q R F)) (k : ℕ) → Keeps f s →
      AreSteps f s es → NoneOf seat_of k es → is_exclusive (seat_row s.seats k) ≡ true →
      (after_from f s es).table ≡ s.table
  table_stays_from equal s [] k keeps steps none owns_it = refl
  table_stays_from equal s (e ∷ es) k keeps steps none owns_it =
      let row_is = seat_row_stays s.seats (next_place s) e.seat e.kept k (λ is. none.0 (sym is)) in
      let owner : is_owner s.seats k ≡ true = (tidy-exclusive s.seats keeps.tidy).shows k ∙ owns_it in
      table_stays_from equal (effect f s e.seat e.kept) es k (keeps_step f equal s e _ steps.0 keeps) steps.1 none.1
      (ap is_exclusive row_is ∙ owns_it)
      ∙ act_leaves_table s e.seat e.kept (λ is. none.0 (owner_is_one s.seats.lock.exclusive e.seat k is owner))
      (steps.0).passes

  -- while a seat is exclusive nobody else changes the table
  pub table_stays : SameIsEqual f → (n k : ℕ) (seen log : List (Entry M T V P Q R F)) → IsLegal f n seen →
      IsLegal f n log → Lags seat_of k seen log → is_exclusive (seat_row (after f n seen).seats k) ≡ true →
      (after f n log).table ≡ (after f n seen).table
  table_stays equal n k seen log legal later lags owns_it =
      ap (λ h. (after f n h).table) lags.is
      ∙ (ap (λ (s : State M T V P Q R F). s.table) (after-append n seen lags.more legal)
      ∙ table_stays_from equal (after f n seen) lags.more k (keeps_after f equal n seen legal)
      (legal_steps n seen lags.more legal (subst (IsLegal f n) lags.is later)) lags.none owns_it)

  -- GENERATIONS

  generation_kept : (c : Counts M T V P Q R F) (kept : Kept M T V P Q R F) →
      c.generation ≤ (counts_after f c kept).generation
  generation_kept c (Reload program) = omega arith
  generation_kept c (Refuse Memory) = omega arith
  generation_kept c _ = omega arith

  generation_grows : (s : State M T V P Q R F) (es : List (Entry M T V P Q R F)) →
      s.counts.generation ≤ (after_from f s es).counts.generation
  generation_grows s [] = omega arith
  generation_grows s (e ∷ es) =
      let here : s.counts.generation ≤ (counts_after f s.counts e.kept).generation = generation_kept s.counts e.kept in
      let rest = generation_grows (effect f s e.seat e.kept) es in omega (arith, here, rest)

  -- a history has a later generation in force than its beginning, or the same
  pub generation_of_longer : (n : ℕ) (a b : List (Entry M T V P Q R F)) → IsLegal f n a → Begins a b →
      (after f n a).counts.generation ≤ (after f n b).counts.generation
  generation_of_longer n a b legal begins =
      subst (λ (s : State M T V P Q R F). (after f n a).counts.generation ≤ s.counts.generation)
      (sym (ap (after f n) begins.1 ∙ after-append n a begins.0 legal)) (generation_grows (after f n a) begins.0)

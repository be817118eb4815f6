-- The requests that run, after every entry.
use Rattle.std.proofs.Common.{◌≡◌, ◌≢◌, ℕ, zero, suc, ◌<◌, inl, inr, List, [], ◌∷◌, ◌++◌, length, set}
use Rattle.std.proofs.Common.{slice_get, Option, Some, None, true, not, if◌then◌else◌}
use Rattle.std.proofs.Common.{refl, sym, ap, ◌∙◌, subst, get_or-set_same, get_or-set_other}
use Rattle.std.proofs.lemmas.Bool.{not-false, not-true, and_parts, cases_eq, eq-eqb, ne_eqb, cond_both}
use Rattle.std.proofs.lemmas.Option.{none-some, same_Some}
use Rattle.system_seats.specs.declared.guard.Marks.{Marks}
use Rattle.system_seats.specs.Seats.{Seats, no_marks, mark_at, row, mark, runs_at, is_owner, is_calm}
use Rattle.system_seats.specs.Guards.{reload_guard}
use Rattle.system_seats.specs.Effects.{with_section}
use Rattle.system_seats.specs.Shapes.{IsTidy}
use Rattle.system_seats.proofs.From.{guard_false}
use Rattle.system_seats.proofs.Events.{none_of}
use Rattle.system_events.specs.declared.event.Cause.{Cause}
use Rattle.system_events.specs.declared.event.Cause.TheVariants.{Memory}
use Rattle.system_events.specs.declared.event.Counts.{Counts}
use Rattle.system_events.specs.declared.event.Entry.{Entry}
use Rattle.system_events.specs.declared.event.Kept.{Kept}
use Rattle.system_events.specs.declared.event.Kept.TheVariants.{Share, Unshare, Yield, Retake, Seek, Take, Release}
use Rattle.system_events.specs.declared.event.Kept.TheVariants.{Resume, Define, Reload, Begin, End, Refuse}
use Rattle.system_events.specs.Facts.{Facts}
use Rattle.system_events.specs.State.{State, next_place, entry_request, request_at}
use Rattle.system_events.specs.Guards.{guard_of}
use Rattle.system_events.specs.Steps.{effect, seats_after, counts_after}
use Rattle.system_events.specs.Right.{program_after, begun_after, last_begin}
use Rattle.system_laws.proofs.Lists.{get_new}
use Rattle.system_laws.proofs.Tidy.{first_none}

-- WHOSE REQUEST RUNS AFTER AN ENTRY

set_running : (ms : List Marks) (k j place : ℕ) (m : Marks) →
    (m.running ≡ Some place → (mark_at ms k).running ≡ Some place) → (mark_at (set ms k m) j).running ≡ Some place →
    (mark_at ms j).running ≡ Some place
set_running [] k j place m g h = h
set_running (x ∷ xs) zero zero place m g h = g h
set_running (x ∷ xs) zero (suc j) place m g h = h
set_running (x ∷ xs) (suc k) zero place m g h = h
set_running (x ∷ xs) (suc k) (suc j) place m g h = set_running xs k j place m g h

-- whoever runs a request afterwards ran it before
abbrev pub RunsOn : Seats → Seats → Type 0
RunsOn before later = (j place : ℕ) → (mark later j).running ≡ Some place → (mark before j).running ≡ Some place

-- an entry that is no Begin begins no request
pub runs_on : {M T V P Q R F : Type 0} (s : Seats) (at k : ℕ) (kept : Kept M T V P Q R F) →
    ((request : Q) → kept ≢ Begin request) → RunsOn s (seats_after s at k kept)
runs_on s at k (Seek want) other j place = set_running s.marks k j place _ (λ h. h)
runs_on s at k (Take want) other j place =
    cond_both (is_calm (row s k).phase) _ _ (λ (x : Seats). (mark x j).running ≡ Some place →
    (mark s j).running ≡ Some place)
    (λ _. set_running s.marks k j place (with_section s k (Some at)) (λ h. h)) (λ _ h. h)
runs_on s at k Release other j place = set_running s.marks k j place _ (λ h. h)
runs_on s at k (Begin request) other j place = absurd (other request refl)
runs_on s at k (End reply) other j place = set_running s.marks k j place _ (λ h. absurd (none-some place h))
runs_on s at k (Refuse Memory) other j place = set_running s.marks k j place _ (λ h. absurd (none-some place h))
runs_on s at k _ other j place = λ h. h

-- where a Reload passes, nobody runs a request
pub no_run : (s : Seats) (k : ℕ) → IsTidy s → reload_guard s k ≡ None → (j : ℕ) → (mark s j).running ≡ None
no_run s k tidy p j =
    let both : (is_owner s k ≡ true) × (not (runs_at s k) ≡ true) =
    and_parts (is_owner s k) (not (runs_at s k)) (not-false _ (guard_false _ _ _ p).0) in
    tidy.quiet k j both.0 (none_of _ (not-true _ both.1))

-- READING THE HISTORY

module _ {M T V P Q R F : Type 0} where
  -- the program in force after a list of entries
  abbrev pub program_of : P → List (Entry M T V P Q R F) → P
  program_of program [] = program
  program_of program (entry ∷ entries) = program_of (program_after program entry.kept) entries

  -- with one entry more
  pub program_of-push : (program : P) (es : List (Entry M T V P Q R F)) (e : Entry M T V P Q R F) →
      program_of program (es ++ e ∷ []) ≡ program_after (program_of program es) e.kept
  program_of-push program [] e = refl
  program_of-push program (x ∷ xs) e = program_of-push (program_after program x.kept) xs e

  -- the last Begin with one entry more
  pub last_begin-push : (k : ℕ) (program : P) (found : Option (P × Q)) (es : List (Entry M T V P Q R F))
      (e : Entry M T V P Q R F) →
      last_begin k program found (es ++ e ∷ []) ≡
      begun_after k (program_of program es) (last_begin k program found es) e.seat e.kept
  last_begin-push k program found [] e = refl
  last_begin-push k program found (x ∷ xs) e =
      last_begin-push k (program_after program x.kept) (begun_after k program found x.seat x.kept) xs e

  -- an entry that is no Begin begins nothing
  pub begun_on : (k : ℕ) (program : P) (found : Option (P × Q)) (seat : ℕ) (kept : Kept M T V P Q R F) →
      ((request : Q) → kept ≢ Begin request) → begun_after k program found seat kept ≡ found
  begun_on k program found seat (Begin request) other = absurd (other request refl)
  begun_on k program found seat _ other = refl

  -- a request stays where it began when the history grows
  pub request_grown : (es xs : List (Entry M T V P Q R F)) (place : ℕ) (r : Q) → request_at es (Some place) ≡ Some r →
      request_at (es ++ xs) (Some place) ≡ Some r
  request_grown [] xs place r is = absurd (none-some r is)
  request_grown (e ∷ es) xs zero r is = is
  request_grown (e ∷ es) xs (suc place) r is = request_grown es xs place r is

-- EACH REQUEST THAT RUNS

module _ {M T V P Q R F : Type 0} (f : Facts T V P Q R F) where
  -- the program in force is that of the last Reload
  pub program_kept : (c : P) (s : State M T V P Q R F) (kept : Kept M T V P Q R F) → c ≡ s.counts.program →
      program_after c kept ≡ (counts_after f s.counts kept).program
  program_kept c s (Reload program) is = refl
  program_kept c s (Refuse Memory) is = is
  program_kept c s _ is = is

  -- a refusal leaves the program in force
  refuse_program : (c : Counts M T V P Q R F) (cause : Cause M T V P Q R F) →
      (counts_after f c (Refuse cause)).program ≡ c.program
  refuse_program c Memory = refl
  refuse_program c _ = refl

  -- a seat that runs has its request in the history, and it is its last Begin, on the program in force
  pub record Runs (s : State M T V P Q R F) (k place : ℕ) : Type 0 where
    pub request : Q
    pub there : request_at s.history (Some place) ≡ Some request
    pub last : last_begin k f.empty None s.history ≡ Some (s.counts.program, request)

  -- each seat that runs does so
  abbrev pub AllRun : State M T V P Q R F → Type 0
  AllRun s = (k place : ℕ) → (mark s.seats k).running ≡ Some place → Runs s k place

  run_on : (s : State M T V P Q R F) (k : ℕ) (kept : Kept M T V P Q R F) → ((request : Q) → kept ≢ Begin request) →
      (counts_after f s.counts kept).program ≡ s.counts.program → AllRun s → AllRun (effect f s k kept)
  run_on s k kept other same runs j place is =
      let before : Runs s j place = runs j place (runs_on s.seats (next_place s) k kept other j place is) in
      record {
        request = before.request;
        there = request_grown s.history _ place before.request before.there;
        last = last_begin-push j f.empty None s.history (record { seat = k; kept = kept })
            ∙ (begun_on j _ _ k kept other ∙ (before.last ∙ ap (λ p. Some (p, before.request)) (sym same)));
      }

  run_begun : (s : State M T V P Q R F) (k : ℕ) (request : Q) → IsTidy s.seats → k < length s.seats.lock.rows →
      program_of f.empty s.history ≡ s.counts.program → AllRun s → AllRun (effect f s k (Begin request))
  run_begun s k request tidy below program runs j place is =
      elim (cases_eq j k) [
        | inl same ↦
            let here : (mark (effect f s k (Begin request)).seats k).running ≡ Some (length s.history) =
            ap (λ (m : Marks). m.running) (get_or-set_same s.seats.marks k
            (record (mark s.seats k) { running = Some (length s.history) }) no_marks
            (subst (λ n. k < n) (sym tidy.even) below)) in
            let at : length s.history ≡ place = same_Some _ _ (sym here
            ∙ (ap (λ i. (mark (effect f s k (Begin request)).seats i).running) (sym same) ∙ is)) in
            record {
              request = request;
              there = subst (λ p. entry_request (slice_get (s.history
                  ++ (record { seat = k; kept = Begin request }) ∷ []) p) ≡ Some request) at
                  (ap entry_request (get_new s.history (record { seat = k; kept = Begin request })));
              last = last_begin-push j f.empty None s.history (record { seat = k; kept = Begin request })
                  ∙ (ap (λ t. if t then Some (program_of f.empty s.history, request)
                  else last_begin j f.empty None s.history) (eq-eqb k j (sym same))
                  ∙ ap (λ p. Some (p, request)) program);
            }
        | inr other ↦
            let before : Runs s j place = runs j place (ap (λ (m : Marks). m.running)
            (sym (get_or-set_other s.seats.marks k j
            (record (mark s.seats k) { running = Some (length s.history) }) no_marks other)) ∙ is) in
            record {
              request = before.request;
              there = request_grown s.history _ place before.request before.there;
              last = last_begin-push j f.empty None s.history (record { seat = k; kept = Begin request })
                  ∙ (ap (λ t. if t then Some (program_of f.empty s.history, request)
                  else last_begin j f.empty None s.history) (ne_eqb k j (λ e. other (sym e)))
                  ∙ before.last);
            }
      ]

  -- an entry whose guards pass keeps it so
  pub all_run : (s : State M T V P Q R F) (k : ℕ) (kept : Kept M T V P Q R F) → IsTidy s.seats →
      k < length s.seats.lock.rows → guard_of f s k kept ≡ None → program_of f.empty s.history ≡ s.counts.program →
      AllRun s → AllRun (effect f s k kept)
  all_run s k (Begin request) tidy below p program runs = run_begun s k request tidy below program runs
  all_run s k (Reload next) tidy below p program runs =
      λ j place is. absurd (none-some place (sym (no_run s.seats k tidy (first_none _ _ p) j) ∙ is))
  all_run s k Share tidy below p program runs = run_on s k Share (λ r e. absurd (cc)) refl runs
  all_run s k Unshare tidy below p program runs = run_on s k Unshare (λ r e. absurd (cc)) refl runs
  all_run s k Yield tidy below p program runs = run_on s k Yield (λ r e. absurd (cc)) refl runs
  all_run s k Retake tidy below p program runs = run_on s k Retake (λ r e. absurd (cc)) refl runs
  all_run s k (Seek want) tidy below p program runs = run_on s k (Seek want) (λ r e. absurd (cc)) refl runs
  all_run s k (Take want) tidy below p program runs = run_on s k (Take want) (λ r e. absurd (cc)) refl runs
  all_run s k Release tidy below p program runs = run_on s k Release (λ r e. absurd (cc)) refl runs
  all_run s k Resume tidy below p program runs = run_on s k Resume (λ r e. absurd (cc)) refl runs
  all_run s k (Define task) tidy below p program runs = run_on s k (Define task) (λ r e. absurd (cc)) refl runs
  all_run s k (End reply) tidy below p program runs = run_on s k (End reply) (λ r e. absurd (cc)) refl runs
  all_run s k (Refuse cause) tidy below p program runs =
      run_on s k (Refuse cause) (λ r e. absurd (cc)) (refuse_program s.counts cause) runs

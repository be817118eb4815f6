-- A request that runs goes on.
use Rattle.std.proofs.Common.{◌≡◌, ◌≢◌, ℕ, List, ◌++◌, ◌∷◌, [], Option, Some, None, true, refl, sym}
use Rattle.std.proofs.Common.{ap, ◌∙◌, subst}
use Rattle.std.proofs.Common.{zero, suc, set, inl, inr}
use Rattle.std.specs.Prelude.{is_some, not, Contains}
use Rattle.std.proofs.lemmas.Bool.{not-false, not-true, and_parts, true≢false, cases_eq, cond_both}
use Rattle.std.proofs.lemmas.Option.{none-some, same_Some}
use Rattle.system_seats.specs.declared.guard.Marks.{Marks}
use Rattle.system_seats.specs.Seats.{Seats, mark, mark_at, row, runs_at, is_owner, is_calm}
use Rattle.system_seats.specs.Effects.{with_section}
use Rattle.system_seats.proofs.From.{guard_false}
use Rattle.system_events.specs.declared.event.Cause.{Cause}
use Rattle.system_events.specs.declared.event.Cause.TheVariants.{Memory}
use Rattle.system_events.specs.declared.event.Counts.{Counts}
use Rattle.system_events.specs.declared.event.Entry.{Entry}
use Rattle.system_events.specs.declared.event.Kept.{Kept}
use Rattle.system_events.specs.declared.event.Kept.TheVariants.{Seek, Take, Release}
use Rattle.system_events.specs.declared.event.Kept.TheVariants.{Reload, Begin, End, Refuse}
use Rattle.system_events.specs.Facts.{Facts, SameIsEqual}
use Rattle.system_events.specs.State.{State, request_at, running_request, next_place}
use Rattle.system_events.specs.Guards.{guard_of}
use Rattle.system_events.specs.Steps.{effect, seats_after, counts_after, IsReply}
use Rattle.system_events.specs.Legal.{IsStep}
use Rattle.system_laws.specs.Lawful.{IsExclusive, IsNoReload}
use Rattle.system_laws.proofs.Others.{marks_stay}
use Rattle.system_laws.proofs.Runs.{request_grown}
use Rattle.system_laws.proofs.Table.{in_kept}
use Rattle.system_laws.proofs.Tidy.{first_none}
use Rattle.request_actor.specs.Talks.{Talks}
use Rattle.request_actor.specs.Answers.{IsOnWay}
use Rattle.request_actor.specs.declared.actor.Stage.{Stage}
use Rattle.request_laws.specs.Standing.{GoesOn, LeavesRequest, IsNoEnd, AreIn, IsServed}

-- MARKS

set_keeps_running : (ms : List Marks) (k j : ℕ) (m : Marks) → m.running ≡ (mark_at ms k).running →
    (mark_at (set ms k m) j).running ≡ (mark_at ms j).running
set_keeps_running [] k j m same = refl
set_keeps_running (x ∷ xs) zero zero m same = same
set_keeps_running (x ∷ xs) zero (suc j) m same = refl
set_keeps_running (x ∷ xs) (suc k) zero m same = refl
set_keeps_running (x ∷ xs) (suc k) (suc j) m same = set_keeps_running xs k j m same

-- an entry that neither begins nor ends a request leaves what its own seat runs
own_running_stays : {M T V P Q R F : Type 0} (s : Seats) (at k : ℕ) (kept : Kept M T V P Q R F) → IsNoEnd kept →
    ((request : Q) → kept ≢ Begin request) → (mark (seats_after s at k kept) k).running ≡ (mark s k).running
own_running_stays s at k (Seek want) goes other = set_keeps_running s.marks k k _ refl
own_running_stays s at k (Take want) goes other =
    cond_both (is_calm (row s k).phase) _ _ (λ (x : Seats). (mark x k).running ≡ (mark s k).running)
    (λ _. set_keeps_running s.marks k k (with_section s k (Some at)) refl) (λ _. refl)
own_running_stays s at k Release goes other = set_keeps_running s.marks k k _ refl
own_running_stays s at k (Begin request) goes other = absurd (other request refl)
own_running_stays s at k (End reply) goes other = absurd goes
own_running_stays s at k (Refuse cause) goes other = absurd goes
own_running_stays s at k _ goes other = refl

-- REQUESTS

module _ {M T V P Q R F : Type 0} where
  -- a request that runs has a place
  runs : (es : List (Entry M T V P Q R F)) (at : Option ℕ) (q : Q) → request_at es at ≡ Some q → is_some at ≡ true
  runs es None q is = absurd (none-some q is)
  runs es (Some place) q is = refl

  -- it stays there when the history grows
  request_grows : (es more : List (Entry M T V P Q R F)) (at : Option ℕ) (q : Q) → request_at es at ≡ Some q →
      request_at (es ++ more) at ≡ Some q
  request_grows es more None q is = absurd (none-some q is)
  request_grows es more (Some place) q is = request_grown es more place q is

module _ {M T V P Q R F : Type 0} (f : Facts T V P Q R F) where
  -- beside a request that runs no Reload passes
  no_reload : (s : State M T V P Q R F) (seat k : ℕ) (kept : Kept M T V P Q R F) → IsExclusive s.seats →
      guard_of f s seat kept ≡ None → runs_at s.seats k ≡ true → IsNoReload kept
  no_reload s seat k (Reload program) exclusive passes running =
      let both : (is_owner s.seats seat ≡ true) × (not (runs_at s.seats seat) ≡ true) =
      and_parts (is_owner s.seats seat) (not (runs_at s.seats seat))
      (not-false _ (guard_false _ _ _ (first_none _ _ passes)).0) in
      true≢false (sym running ∙ exclusive.quiet seat k both.0 (not-true _ both.1))
  no_reload s seat k _ exclusive passes running = tt

  -- where a seat runs a request, it begins no other
  begins_none : (s : State M T V P Q R F) (k : ℕ) (kept : Kept M T V P Q R F) → guard_of f s k kept ≡ None →
      runs_at s.seats k ≡ true → (request : Q) → kept ≢ Begin request
  begins_none s k kept passes running request is =
      let begins : guard_of f s k (Begin request) ≡ None = ap (guard_of f s k) (sym is) ∙ passes in
      let free = (guard_false _ _ _ (guard_false _ _ _ (first_none _ _ begins)).1).0 in
      true≢false (sym running ∙ free)

  -- a refusal leaves the program in force
  refused_program : (c : Counts M T V P Q R F) (cause : Cause M T V P Q R F) →
      (counts_after f c (Refuse cause)).program ≡ c.program
  refused_program c Memory = refl
  refused_program c _ = refl

  -- an entry that is no Reload leaves the program in force
  program_stays : (s : State M T V P Q R F) (kept : Kept M T V P Q R F) → IsNoReload kept →
      (counts_after f s.counts kept).program ≡ s.counts.program
  program_stays s (Reload program) no_reload = absurd no_reload
  program_stays s (Refuse cause) no_reload = refused_program s.counts cause
  program_stays s _ no_reload = refl

  -- an entry that doesn't end a seat's request leaves what the seat runs
  running_stays : (s : State M T V P Q R F) (k : ℕ) (entry : Entry M T V P Q R F) →
      guard_of f s entry.seat entry.kept ≡ None → runs_at s.seats k ≡ true → LeavesRequest k entry →
      (mark (effect f s entry.seat entry.kept).seats k).running ≡ (mark s.seats k).running
  running_stays s k entry passes running leaves =
      elim (cases_eq k entry.seat) [
        | inl same ↦
            let passes_here : guard_of f s k entry.kept ≡ None =
            ap (λ j. guard_of f s j entry.kept) same ∙ passes in
            ap (λ j. (mark (seats_after s.seats (next_place s) j entry.kept) k).running) (sym same)
            ∙ own_running_stays s.seats (next_place s) k entry.kept (leaves (sym same))
            (begins_none s k entry.kept passes_here running)
        | inr other ↦
            ap (λ (m : Marks). m.running) (marks_stay s.seats (next_place s) entry.seat entry.kept k other)
      ]

  -- a request that runs goes on, whatever step is made, until it ends
  pub request_goes_on : (equal : SameIsEqual f) (old new : State M T V P Q R F) (entry : Entry M T V P Q R F) (k : ℕ)
      (q : Q) → IsExclusive old.seats → IsStep f old entry new → running_request old k ≡ Some q →
      LeavesRequest k entry → GoesOn f old new k q
  request_goes_on equal old new entry k q exclusive step request leaves =
      let running : runs_at old.seats k ≡ true = runs old.history (mark old.seats k).running q request in
      let quiet : IsNoReload entry.kept = no_reload old entry.seat k entry.kept exclusive step.passes running in
      subst (λ (s : State M T V P Q R F). GoesOn f old s k q) (sym step.is) (record {
        request = ap (λ at. request_at (old.history ++ (record { seat = entry.seat; kept = entry.kept }) ∷ []) at)
            (running_stays old k entry step.passes running leaves)
            ∙ request_grows old.history _ (mark old.seats k).running q request;
        program = program_stays old entry.kept quiet;
        table = λ task there. in_kept f equal old entry.kept task quiet there;
      })

  -- a request whose found tasks are in the table may end with its reply
  pub end_is_allowed : (s : State M T V P Q R F) (k : ℕ) (q : Q) (found : List T) (reply : R) →
      running_request s k ≡ Some q → AreIn f found s →
      (reply ≡ f.reply s.counts.program q) × ((task : T) → Contains (f.request_asked s.counts.program q) task →
      is_some (f.known s.counts.program task) ≡ true → Contains found task) →
      (request : Q) → running_request s k ≡ Some request → IsReply f s request reply
  end_is_allowed s k q found reply runs_q there holds request is =
      let same : q ≡ request = same_Some _ _ (sym runs_q ∙ is) in
      subst (λ (r : Q). IsReply f s r reply) same
      (holds.0, λ task asked known. there task (holds.1 task asked known))

module _ {M T V P Q R F G W E : Type 0} (f : Facts T V P Q R F) (talks : Talks T V P Q R E G W) where
  -- a request that is served is served still, whatever step is made, until it ends
  pub served_stays : (equal : SameIsEqual f) (old new : State M T V P Q R F) (entry : Entry M T V P Q R F) (k : ℕ)
      (q : Q) (found : List T) (stage : Stage Q T W (Cause M T V P Q R F)) → IsExclusive old.seats →
      IsStep f old entry new → LeavesRequest k entry → IsServed f talks old k q found stage →
      IsServed f talks new k q found stage
  served_stays equal old new entry k q found stage exclusive step leaves served =
      let goes : GoesOn f old new k q = request_goes_on f equal old new entry k q exclusive step served.runs leaves in
      record {
        runs = goes.request;
        begins = served.begins;
        way = subst (λ (p : P). IsOnWay f talks p q found stage) (sym goes.program) served.way;
        there = λ task has. goes.table task (served.there task has);
      }

-- A request from its Begin to its End.
use Rattle.std.proofs.Common.{◌≡◌, ◌<◌, ℕ, List, [], ◌∷◌, ◌++◌, length, Some, true}
use Rattle.std.proofs.Common.{refl, sym, ap, ◌∙◌, subst, arith, inl, inr, get_or-set_same}
use Rattle.std.specs.Prelude.{is_some, Contains}
use Rattle.std.proofs.lemmas.List.Elements.{Contains-append_cases}
use Rattle.system_seats.specs.declared.guard.Marks.{Marks}
use Rattle.system_seats.specs.Seats.{mark, no_marks}
use Rattle.system_seats.specs.Shapes.{IsTidy}
use Rattle.system_events.specs.declared.event.Cause.{Cause}
use Rattle.system_events.specs.declared.event.Kept.TheVariants.{Begin}
use Rattle.system_events.specs.Facts.{Facts, SameIsEqual}
use Rattle.system_events.specs.State.{State, is_in, request_at, entry_request, running_request}
use Rattle.system_events.specs.Steps.{effect}
use Rattle.system_events.specs.Legal.{IsAfter, IsStep}
use Rattle.system_laws.specs.Lawful.{AllKnown}
use Rattle.system_laws.proofs.Lists.{get_new}
use Rattle.system_core.proofs.Finding.{is_in_lookup}
use Rattle.load_sections.proofs.Tables.{tidy_of, table_of_system, known_of_lookup}
use Rattle.request_actor.specs.Talks.{Talks, AreOf}
use Rattle.request_actor.specs.Order.{Goes}
use Rattle.request_actor.specs.Answers.{IsRight, Holds, found_after}
use Rattle.request_actor.specs.declared.actor.Stage.{Stage}
use Rattle.request_actor.specs.declared.actor.Stage.TheVariants as stage
use Rattle.request_actor.specs.declared.op.Op.{Op}
use Rattle.request_actor.specs.declared.op.Answered.{Answered}
use Rattle.request_actor.specs.declared.op.Answered.TheVariants as answer
use Rattle.request_actor.proofs.Right.{keeps_right, is_only}
use Rattle.request_laws.specs.Standing.{IsServed, AreIn}
use Rattle.served_requests.specs.Serving.{IsAnswer}

-- nothing stands in an empty list
none_in : {T : Type 0} (task : T) → Contains [] task → ⊥
none_in task (k, below, here) = omega arith

module _ {M T V P Q R F : Type 0} (f : Facts T V P Q R F) (equal : SameIsEqual f) where
  -- a seat that begins a request runs it
  begin_runs : (s : State M T V P Q R F) (k : ℕ) (q : Q) → IsTidy s.seats → k < length s.seats.lock.rows →
      running_request (effect f s k (Begin q)) k ≡ Some q
  begin_runs s k q tidy below =
      let here : (mark (effect f s k (Begin q)).seats k).running ≡ Some (length s.history) =
      ap (λ (m : Marks). m.running) (get_or-set_same s.seats.marks k
      (record (mark s.seats k) { running = Some (length s.history) }) no_marks
      (subst (λ n. k < n) (sym tidy.even) below)) in
      ap (λ at. request_at (s.history ++ (record { seat = k; kept = Begin q }) ∷ []) at) here
      ∙ ap entry_request (get_new s.history (record { seat = k; kept = Begin q }))

module _ {M T V P Q R F G W E : Type 0} (f : Facts T V P Q R F) (equal : SameIsEqual f)
    (talks : Talks T V P Q R E G W) where
  -- behind its Begin a request is served
  pub begun_is_served : (seats : ℕ) (old new : State M T V P Q R F) (k : ℕ) (q : Q) → IsAfter f seats old →
      IsStep f old (record { seat = k; kept = Begin q }) new →
      IsServed f talks new k q [] (stage.Begins q)
  begun_is_served seats old new k q after step =
      subst (λ (s : State M T V P Q R F). IsServed f talks s k q [] (stage.Begins q)) (sym step.is) (record {
        runs = begin_runs f equal old k q (tidy_of f equal seats old after) step.seated;
        begins = step.allowed;
        way = (refl, refl);
        there = λ task has. absurd (none_in task has);
      })

  -- what the system answers is right
  answer_is_right : (s : State M T V P Q R F) (old : Stage Q T W (Cause M T V P Q R F))
      (answered : Answered V E (Cause M T V P Q R F)) → AllKnown f s.counts.program s.table →
      IsAnswer f talks s old answered → IsRight f talks s.counts.program old answered
  answer_is_right s (stage.Looks task waiting) (answer.Found value) known is =
      known_of_lookup f equal s.counts.program s.table task value known is
  answer_is_right s (stage.Loads task waiting) (answer.Failed error) known is = is
  answer_is_right s (stage.Looks task waiting) _ known is = tt
  answer_is_right s (stage.Loads task waiting) _ known is = tt
  answer_is_right s _ answered known is = tt

  -- what is found is in the table
  found_is_there : (s : State M T V P Q R F) (old : Stage Q T W (Cause M T V P Q R F))
      (answered : Answered V E (Cause M T V P Q R F)) (found : List T) → AreIn f found s →
      IsAnswer f talks s old answered → AreIn f (found_after old answered found) s
  found_is_there s (stage.Looks task waiting) (answer.Found value) found there is = λ other has.
      elim (Contains-append_cases found (task ∷ []) other has) [
        | inl before ↦ there other before
        | inr last ↦
            subst (λ t. is_in f t s.table ≡ true) (is_only task other last)
            (sym (is_in_lookup f task s.table) ∙ ap is_some is)
      ]
  found_is_there s (stage.Looks task waiting) _ found there is = there
  found_is_there s _ answered found there is = there

  -- a request that is answered by the system is served still
  pub answered_stays : (laws : AreOf f talks) (seats : ℕ) (s : State M T V P Q R F) (k : ℕ) (q : Q) (found : List T)
      (old new : Stage Q T W (Cause M T V P Q R F)) (answered : Answered V E (Cause M T V P Q R F))
      (asked : Op M T V P Q R F) → IsAfter f seats s → IsServed f talks s k q found old →
      IsAnswer f talks s old answered → Goes talks s.counts.program old answered asked new →
      IsServed f talks s k q (found_after old answered found) new
      × Holds f s.counts.program q (found_after old answered found) asked
  answered_stays laws seats s k q found old new answered asked after served is goes =
      let right : IsRight f talks s.counts.program old answered =
      answer_is_right s old answered (table_of_system f equal seats s after).0 is in
      let kept = keeps_right f talks s.counts.program laws old answered asked new goes q found served.way right in (
        record {
          runs = served.runs;
          begins = served.begins;
          way = kept.0;
          there = found_is_there s old answered found served.there is;
        },
        kept.1,
      )

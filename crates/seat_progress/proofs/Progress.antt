-- A step of an open request enters something, or leaves fewer steps that enter nothing.
use Rattle.std.proofs.Common.{◌≡◌, ◌∷◌, [], ◌<◌, ◌+◌, ℕ, suc, List, Option, Some, None, refl, sym, ap, ◌∙◌, subst}
use Rattle.std.proofs.Common.{inl, inr, ◌⊎◌, length, length-append, arith, codes}
use Rattle.std.proofs.Math.Nat.{zero-lt-suc, lt-suc_self}
use Rattle.outside.specs.declared.files.FileEntry.{FileEntry}
use Rattle.by_need.specs.Asking.{Asking, Ask, Gives}
use Rattle.by_need_loader.specs.Progress.{Progress}
use Rattle.system_events.specs.declared.event.Cause.{Cause}
use Rattle.system_events.specs.declared.event.Act.TheVariants.{Resume}
use Rattle.system_events.specs.declared.event.Kept.{Kept}
use Rattle.system_events.specs.declared.event.Kept.TheVariants as kept
use Rattle.system_events.specs.declared.event.Want.{Want}
use Rattle.system_events.specs.declared.event.Want.TheVariants.{Load, Unload}
use Rattle.system_events.specs.Facts.{Facts, SameIsEqual}
use Rattle.system_events.specs.State.{State}
use Rattle.system_laws.specs.Lawful.{AllKnown}
use Rattle.system_core.specs.Tables.{lookup}
use Rattle.load_sections.proofs.Tables.{known_of_lookup}
use Rattle.request_actor.specs.Order.{Runs, after_reload}
use Rattle.request_actor.specs.Talks.{Talks, asked_over, asked_next}
use Rattle.request_actor.specs.declared.actor.Stage.{Stage}
use Rattle.request_actor.specs.declared.actor.Stage.TheVariants as stage
use Rattle.request_actor.specs.declared.op.Op.{Op}
use Rattle.request_actor.specs.declared.op.Op.TheVariants as op
use Rattle.request_actor.specs.declared.op.Answered.{Answered}
use Rattle.request_actor.specs.declared.op.Answered.TheVariants as answer
use Rattle.replay_matter.specs.Words.{Words}
use Rattle.reload_matter.specs.Sources.{Sources}
use Rattle.trace_lines.specs.Steps.{seat_line, found_text, missing_text}
use Rattle.seat_requests.specs.Standing.{IsAskedAt}
use Rattle.seat_operations.specs.Coming.{Enters, Acts, Takes, TakesWant, Releases, Checks, Reloads, Reloaded, Looks}
use Rattle.seat_operations.specs.Coming.{Tells, Tries, looked, end_of, refuse_of, Does as Comes-From}
use Rattle.seat_operations.specs.declared.came.Came.{Came}
use Rattle.seat_operations.specs.declared.came.Came.TheVariants as came
use Rattle.seat_operations.specs.declared.came.Taking.{Taking}
use Rattle.seat_operations.specs.declared.came.Taking.TheVariants as taking
use Rattle.seat_operations.specs.declared.came.Tried.{Tried}
use Rattle.seat_operations.specs.declared.came.Tried.TheVariants as tried
use Rattle.seat_steps.specs.Theories.{Theories}
use Rattle.seat_steps.specs.Stepping.{next_for, opened_at, Answers, Comes, StepsAt, OpensAt, ResumesAt}
use Rattle.seat_steps.specs.Stepping.{SectionGoes, Next-Define, Is-Done, Has-Failed}
use Rattle.seat_steps.specs.Standing.{GoesOnAt}
use Rattle.seat_steps.specs.declared.next.Next.{Next}
use Rattle.seat_steps.specs.declared.next.Next.TheVariants.{Does, Opens, Defines, Resumes}
use Rattle.seat_steps.specs.declared.next.OpenRequest.{OpenRequest}
use Rattle.seat_steps.specs.declared.next.Stepped.{Stepped}
use Rattle.seat_steps.specs.declared.next.Stepped.TheVariants.{Went, Waits, Limit}
use Rattle.seat_progress.specs.Quiet.{quiet_at, quiet_next, quiet_in, Progresses}

module _ {M T V P Q R F : Type 0} (f : Facts T V P Q R F) where
  -- an entry makes the history longer
  pub entry_is_longer : (old new : State M T V P Q R F) (k : ℕ) (entry : Kept M T V P Q R F) →
      Enters f old new k entry → length old.history < length new.history
  entry_is_longer old new k entry step =
      let longer : length new.history ≡ length old.history + 1 =
      ap (λ (s : State M T V P Q R F). length s.history) step.is
      ∙ length-append old.history ((record { seat = k; kept = entry }) ∷ []) in
      omega (arith, longer)

module _ {M T V P Q R F G W L E : Type 0} (talks : Talks T V P Q R E G W) (known : T → Option V) where
  -- how many steps may follow that enter nothing, of a request that may be over
  abbrev quiet_then : Option (OpenRequest (Stage Q T W (Cause M T V P Q R F)) (Next (Op M T V P Q R F) T L E)) → ℕ
  quiet_then None = 0
  quiet_then (Some next) = quiet_next known talks.branch next.actor next.next

  -- and behind a step
  abbrev quiet_behind :
      Stepped (OpenRequest (Stage Q T W (Cause M T V P Q R F)) (Next (Op M T V P Q R F) T L E)) → ℕ
  quiet_behind (Went lines request) = quiet_then request
  quiet_behind (Waits line request) = 0
  quiet_behind Limit = 0

  -- what may follow is as quiet as the stage that the answer led to
  quiet_is : (lines told : List (List ℕ))
      (next : OpenRequest (Stage Q T W (Cause M T V P Q R F)) (Next (Op M T V P Q R F) T L E))
      (later to : Stage Q T W (Cause M T V P Q R F)) (asked for : Op M T V P Q R F) →
      later ≡ to → asked ≡ for → Went lines (Some next) ≡ Went told (opened_at later (next_for asked)) →
      quiet_next known talks.branch next.actor next.next ≡ quiet_then (opened_at to (next_for for))
  quiet_is lines told next later to asked for later_is asked_is is =
      ap quiet_behind is ∙ (ap (λ l. quiet_then (opened_at l (next_for asked))) later_is
      ∙ ap (λ a. quiet_then (opened_at to (next_for a))) asked_is)

  module _ (p : P) (lines told : List (List ℕ))
      (next : OpenRequest (Stage Q T W (Cause M T V P Q R F)) (Next (Op M T V P Q R F) T L E)) where
    -- what may follow is quieter than this
    abbrev Falls : ℕ → Type 0
    Falls n = quiet_next known talks.branch next.actor next.next < n

    -- nothing quiet follows where an operation is asked for that enters something
    falls_to_none : (later to : Stage Q T W (Cause M T V P Q R F)) (asked for : Op M T V P Q R F) (n : ℕ) →
        later ≡ to → asked ≡ for → Went lines (Some next) ≡ Went told (opened_at later (next_for asked)) →
        quiet_then (opened_at to (next_for for)) ≡ 0 → 0 < n → Falls n
    falls_to_none later to asked for n later_is asked_is is none some =
        subst (λ q. q < n) (sym (quiet_is lines told next later to asked for later_is asked_is is ∙ none)) some

    -- behind a check
    check_falls : (q : Q) (answered : Answered V E (Cause M T V P Q R F)) →
        Answers talks p (stage.Checks q) answered told (Went lines (Some next)) → Falls 1
    check_falls q answer.Same an = falls_to_none an.later (stage.Begins q) an.asked op.Begin 1 an.goes.1 an.goes.0
        an.is refl (zero-lt-suc 0)
    check_falls q answer.Differs an = falls_to_none an.later (stage.Takes q) an.asked (op.Take Unload) 1 an.goes.1
        an.goes.0 an.is refl (zero-lt-suc 0)
    check_falls q (answer.Fault cause) an = falls_to_none an.later stage.Refuses an.asked (op.Refuse cause) 1
        an.goes.1 an.goes.0 an.is refl (zero-lt-suc 0)
    check_falls q answer.Start an = absurd an.goes
    check_falls q answer.Done an = absurd an.goes
    check_falls q answer.Waits an = absurd an.goes
    check_falls q (answer.Found value) an = absurd an.goes
    check_falls q answer.Missing an = absurd an.goes
    check_falls q (answer.Failed error) an = absurd an.goes

    -- behind a reload
    reload_falls : (q : Q) (answered : Answered V E (Cause M T V P Q R F)) →
        Answers talks p (stage.Reloads q) answered told (Went lines (Some next)) → Falls 1
    reload_falls q answered an = falls_to_none an.later (stage.Releases (after_reload q answered)) an.asked op.Release 1
        an.goes.1 an.goes.0 an.is refl (zero-lt-suc 0)

    -- behind what a run comes to
    run_falls : (rest : Asking T V R) (asked : Op M T V P Q R F) (later : Stage Q T W (Cause M T V P Q R F)) (n : ℕ) →
        Runs talks.branch rest asked later → Went lines (Some next) ≡ Went told (opened_at later (next_for asked)) →
        length (asked_over known rest) < n → Falls n
    run_falls (Gives reply) asked later n runs is less =
        falls_to_none later stage.Ends asked (op.End reply) n runs.1 runs.0 is refl less
    run_falls (Ask task branch) asked later n runs is less =
        let now = quiet_is lines told next later (stage.Looks task runs.1.0) asked (op.Look task) runs.1.1.0 runs.0
        is in
        subst (λ q. q < n) (sym (now ∙ ap (λ b. length (asked_over known (Ask task b))) runs.1.1.1)) less

    -- behind a look that found what is known
    found_falls : (task : T) (waiting : W) (value : V) → known task ≡ Some value →
        Answers talks p (stage.Looks task waiting) (answer.Found value) told (Went lines (Some next)) →
        Falls (length (asked_over known (Ask task (talks.branch waiting))))
    found_falls task waiting value is an =
        let n : length (asked_over known (Ask task (talks.branch waiting)))
        ≡ suc (length (asked_over known (talks.branch waiting value))) =
        ap (λ o. length (task ∷ asked_next (λ v. asked_over known (talks.branch waiting v)) o)) is in
        run_falls (talks.branch waiting value) an.asked an.later
        (length (asked_over known (Ask task (talks.branch waiting)))) an.goes an.is
        (subst (λ m. length (asked_over known (talks.branch waiting value)) < m) (sym n) (lt-suc_self _))

    -- behind a look that didn't
    missing_falls : (task : T) (waiting : W) →
        Answers talks p (stage.Looks task waiting) answer.Missing told (Went lines (Some next)) →
        Falls (length (asked_over known (Ask task (talks.branch waiting))))
    missing_falls task waiting an = falls_to_none an.later (stage.Loads task waiting) an.asked (op.Load task)
        (length (asked_over known (Ask task (talks.branch waiting)))) an.goes.1 an.goes.0 an.is refl (zero-lt-suc _)

module _ {M T V P Q R F G W X O H U N E : Type 0} (f : Facts T V P Q R F) (equal : SameIsEqual f)
    (talks : Talks T V P Q R E G W) (words : Words T P Q R (Cause M T V P Q R F)) (sources : Sources P F)
    (theories : Theories T V P X O H U N) (old new : State M T V P Q R F) (files : List FileEntry) (k : ℕ)
    (lines : List (List ℕ))
    (next : OpenRequest (Stage Q T W (Cause M T V P Q R F)) (Next (Op M T V P Q R F) T (Progress T H U N) E)) where
  -- an act that is told enters something
  act_enters : (at : Stage Q T W (Cause M T V P Q R F)) (entry : Kept M T V P Q R F) (text : List ℕ)
      (asked : Op M T V P Q R F) (come : Came (Op M T V P Q R F) (Answered V E (Cause M T V P Q R F))) →
      Acts f old new k entry text asked come → Comes talks new.counts.program at come (Went lines (Some next)) →
      length old.history < length new.history
  act_enters at entry text asked (came.Answered line answered) acts comes = entry_is_longer f old new k entry acts.0
  act_enters at entry text asked (came.Sought line again) acts comes = absurd acts
  act_enters at entry text asked (came.Waits line again) acts comes = absurd (cc (comes))
  act_enters at entry text asked came.Limit acts comes = absurd (cc (comes))

  -- so does a Take
  take_enters : (at : Stage Q T W (Cause M T V P Q R F)) (want : Want M T V P Q R F)
      (come : Came (Op M T V P Q R F) (Answered V E (Cause M T V P Q R F))) →
      TakesWant f words old new k want come → Comes talks new.counts.program at come (Went lines (Some next)) →
      length old.history < length new.history
  take_enters at want (came.Answered line answered) takes comes =
      entry_is_longer f old new k (kept.Take want) takes.0.0
  take_enters at want (came.Sought line again) takes comes = entry_is_longer f old new k (kept.Seek want) takes.0.1
  take_enters at want (came.Waits line again) takes comes = absurd (cc (comes))
  take_enters at want came.Limit takes comes = absurd (cc (comes))

  -- so does a Release
  release_enters : (at : Stage Q T W (Cause M T V P Q R F))
      (come : Came (Op M T V P Q R F) (Answered V E (Cause M T V P Q R F))) →
      Releases f old new k come → Comes talks new.counts.program at come (Went lines (Some next)) →
      length old.history < length new.history
  release_enters at (came.Answered line answered) releases comes =
      entry_is_longer f old new k kept.Release releases.0
  release_enters at (came.Sought line again) releases comes = absurd releases
  release_enters at (came.Waits line again) releases comes = absurd (cc (comes))
  release_enters at came.Limit releases comes = absurd (cc (comes))

  -- an entry was made, or nothing changed and what may follow is quieter
  abbrev Goes-Down : ℕ → Type 0
  Goes-Down n = (length old.history < length new.history)
      ⊎ ((new ≡ old) × (quiet_in f talks new next < n))

  -- a step that changes nothing goes down where what may follow is quieter
  goes_down : (told : List (List ℕ)) (n : ℕ) → new ≡ old →
      Falls talks (f.known old.counts.program) new.counts.program lines told next n → Goes-Down n
  goes_down told n same falls =
      inr (same, subst (λ q. q < n) (sym (ap (λ s. quiet_in f talks s next) same)) falls)

  -- a check goes down
  check_down : (at : Stage Q T W (Cause M T V P Q R F)) (asked : Op M T V P Q R F) → IsAskedAt at asked →
      asked ≡ op.Check → (come : Came (Op M T V P Q R F) (Answered V E (Cause M T V P Q R F))) →
      Checks f sources old new files k come → Comes talks new.counts.program at come (Went lines (Some next)) →
      Goes-Down (quiet_at (f.known old.counts.program) talks.branch at)
  check_down (stage.Checks q) asked asks is (came.Answered line answered) checks comes =
      goes_down (line ∷ []) 1 checks.0 (check_falls talks (f.known old.counts.program) new.counts.program lines
      (line ∷ []) next q answered comes)
  check_down (stage.Checks q) asked asks is (came.Sought line again) checks comes = absurd (cc (checks.1))
  check_down (stage.Checks q) asked asks is (came.Waits line again) checks comes = absurd (cc (checks.1))
  check_down (stage.Checks q) asked asks is came.Limit checks comes = absurd (cc (checks.1))
  check_down (stage.Fresh q) asked asks is come checks comes = absurd asks
  check_down (stage.Shares q) asked asks is come checks comes = absurd (cc (asks, is))
  check_down (stage.Takes q) asked asks is come checks comes = absurd (cc (asks, is))
  check_down (stage.Reloads q) asked asks is come checks comes = absurd (cc (asks, is))
  check_down (stage.Releases then) asked asks is come checks comes = absurd (cc (asks, is))
  check_down (stage.Resumes then) asked asks is come checks comes = absurd (cc (asks, is))
  check_down (stage.Begins q) asked asks is come checks comes = absurd (cc (asks, is))
  check_down (stage.Looks task waiting) asked asks is come checks comes = absurd (cc (asks, is))
  check_down (stage.Loads task waiting) asked asks is come checks comes = absurd (cc (asks, is))
  check_down stage.Ends asked asks is come checks comes = absurd (cc (asks.1, is))
  check_down stage.Refuses asked asks is come checks comes = absurd (cc (asks.1, is))
  check_down stage.Unshares asked asks is come checks comes = absurd (cc (asks, is))
  check_down stage.Over asked asks is come checks comes = absurd (cc (asks, is))

  -- a reload of which nothing came goes down, any other enters something
  reloaded_down : (q : Q) (line : List ℕ) (answered : Answered V E (Cause M T V P Q R F)) →
      Reloaded f sources old new files k line answered →
      Answers talks new.counts.program (stage.Reloads q) answered (line ∷ []) (Went lines (Some next)) → Goes-Down 1
  reloaded_down q line answer.Done reloaded an =
      inl (entry_is_longer f old new k (kept.Reload reloaded.0) reloaded.1.1)
  reloaded_down q line answer.Same reloaded an = goes_down (line ∷ []) 1 reloaded.1.1 (reload_falls talks
      (f.known old.counts.program) new.counts.program lines (line ∷ []) next q answer.Same an)
  reloaded_down q line (answer.Fault cause) reloaded an = goes_down (line ∷ []) 1 reloaded.1.1 (reload_falls talks
      (f.known old.counts.program) new.counts.program lines (line ∷ []) next q (answer.Fault cause) an)
  reloaded_down q line answer.Start reloaded an = absurd reloaded
  reloaded_down q line answer.Differs reloaded an = absurd reloaded
  reloaded_down q line answer.Waits reloaded an = absurd reloaded
  reloaded_down q line (answer.Found value) reloaded an = absurd reloaded
  reloaded_down q line answer.Missing reloaded an = absurd reloaded
  reloaded_down q line (answer.Failed error) reloaded an = absurd reloaded

  -- so goes a reload
  reload_down : (at : Stage Q T W (Cause M T V P Q R F)) (asked : Op M T V P Q R F) → IsAskedAt at asked →
      asked ≡ op.Reload → (come : Came (Op M T V P Q R F) (Answered V E (Cause M T V P Q R F))) →
      Reloads f sources old new files k come → Comes talks new.counts.program at come (Went lines (Some next)) →
      Goes-Down (quiet_at (f.known old.counts.program) talks.branch at)
  reload_down (stage.Reloads q) asked asks is (came.Answered line answered) reloads comes =
      reloaded_down q line answered reloads comes
  reload_down (stage.Reloads q) asked asks is (came.Sought line again) reloads comes = absurd reloads
  reload_down (stage.Reloads q) asked asks is (came.Waits line again) reloads comes = absurd reloads
  reload_down (stage.Reloads q) asked asks is came.Limit reloads comes = absurd (cc (comes))
  reload_down (stage.Fresh q) asked asks is come reloads comes = absurd asks
  reload_down (stage.Shares q) asked asks is come reloads comes = absurd (cc (asks, is))
  reload_down (stage.Checks q) asked asks is come reloads comes = absurd (cc (asks, is))
  reload_down (stage.Takes q) asked asks is come reloads comes = absurd (cc (asks, is))
  reload_down (stage.Releases then) asked asks is come reloads comes = absurd (cc (asks, is))
  reload_down (stage.Resumes then) asked asks is come reloads comes = absurd (cc (asks, is))
  reload_down (stage.Begins q) asked asks is come reloads comes = absurd (cc (asks, is))
  reload_down (stage.Looks task waiting) asked asks is come reloads comes = absurd (cc (asks, is))
  reload_down (stage.Loads task waiting) asked asks is come reloads comes = absurd (cc (asks, is))
  reload_down stage.Ends asked asks is come reloads comes = absurd (cc (asks.1, is))
  reload_down stage.Refuses asked asks is come reloads comes = absurd (cc (asks.1, is))
  reload_down stage.Unshares asked asks is come reloads comes = absurd (cc (asks, is))
  reload_down stage.Over asked asks is come reloads comes = absurd (cc (asks, is))

  module _ (known : AllKnown f old.counts.program old.table) where
    -- a look goes down, by what the table has of its task
    looked_down : (task other : T) (waiting : W) (has : Option V) → other ≡ task → lookup f task old.table ≡ has →
        (come : Came (Op M T V P Q R F) (Answered V E (Cause M T V P Q R F))) → new ≡ old →
        Tells k (looked (words.task_name task) has) come →
        Comes talks new.counts.program (stage.Looks other waiting) come (Went lines (Some next)) →
        Goes-Down (length (asked_over (f.known old.counts.program) (Ask other (talks.branch waiting))))
    looked_down task other waiting has other_is has_is come same tells comes =
        by has has_is (subst (λ c. Comes talks new.counts.program (stage.Looks other waiting) c
        (Went lines (Some next))) tells comes)
      where
        told : Option V → List ℕ × Answered V E (Cause M T V P Q R F)
        told o = looked (words.task_name task) o

        by : (o : Option V) → lookup f task old.table ≡ o →
            Answers talks new.counts.program (stage.Looks other waiting) (told o).1
            (seat_line k (told o).0 ∷ []) (Went lines (Some next)) →
            Goes-Down (length (asked_over (f.known old.counts.program) (Ask other (talks.branch waiting))))
        by (Some value) is an = goes_down (seat_line k (found_text (words.task_name task)) ∷ []) _ same
            (found_falls talks (f.known old.counts.program) new.counts.program lines
            (seat_line k (found_text (words.task_name task)) ∷ []) next other waiting value
            (ap (f.known old.counts.program) other_is
            ∙ known_of_lookup f equal old.counts.program old.table task value known is) an)
        by None is an = goes_down (seat_line k (missing_text (words.task_name task)) ∷ []) _ same
            (missing_falls talks (f.known old.counts.program) new.counts.program lines
            (seat_line k (missing_text (words.task_name task)) ∷ []) next other waiting an)

    -- the same by the stage of the request
    look_down : (at : Stage Q T W (Cause M T V P Q R F)) (asked : Op M T V P Q R F) (task : T) → IsAskedAt at asked →
        asked ≡ op.Look task → (come : Came (Op M T V P Q R F) (Answered V E (Cause M T V P Q R F))) →
        Looks f words old new k task come → Comes talks new.counts.program at come (Went lines (Some next)) →
        Goes-Down (quiet_at (f.known old.counts.program) talks.branch at)
    look_down (stage.Looks other waiting) asked task asks is come looks comes =
        looked_down task other waiting (lookup f task old.table) (cc (asks, is)) refl come looks.0 looks.1 comes
    look_down (stage.Fresh q) asked task asks is come looks comes = absurd asks
    look_down (stage.Shares q) asked task asks is come looks comes = absurd (cc (asks, is))
    look_down (stage.Checks q) asked task asks is come looks comes = absurd (cc (asks, is))
    look_down (stage.Takes q) asked task asks is come looks comes = absurd (cc (asks, is))
    look_down (stage.Reloads q) asked task asks is come looks comes = absurd (cc (asks, is))
    look_down (stage.Releases then) asked task asks is come looks comes = absurd (cc (asks, is))
    look_down (stage.Resumes then) asked task asks is come looks comes = absurd (cc (asks, is))
    look_down (stage.Begins q) asked task asks is come looks comes = absurd (cc (asks, is))
    look_down (stage.Loads other waiting) asked task asks is come looks comes = absurd (cc (asks, is))
    look_down stage.Ends asked task asks is come looks comes = absurd (cc (asks.1, is))
    look_down stage.Refuses asked task asks is come looks comes = absurd (cc (asks.1, is))
    look_down stage.Unshares asked task asks is come looks comes = absurd (cc (asks, is))
    look_down stage.Over asked task asks is come looks comes = absurd (cc (asks, is))

    -- so goes a step at any operation
    operation_down : (at : Stage Q T W (Cause M T V P Q R F)) (asked : Op M T V P Q R F) → IsAskedAt at asked →
        (come : Came (Op M T V P Q R F) (Answered V E (Cause M T V P Q R F))) →
        Comes-From f words sources old new files k at asked come →
        Comes talks new.counts.program at come (Went lines (Some next)) →
        Goes-Down (quiet_at (f.known old.counts.program) talks.branch at)
    operation_down at op.Share asks come does comes =
        inl (act_enters at kept.Share (codes "share") op.Share come does comes)
    operation_down at op.Check asks come does comes = check_down at op.Check asks refl come does comes
    operation_down at (op.Take want) asks come does comes = inl (take_enters at want come does comes)
    operation_down at op.Reload asks come does comes = reload_down at op.Reload asks refl come does comes
    operation_down at op.Release asks come does comes = inl (release_enters at come does comes)
    operation_down at op.Resume asks come does comes =
        inl (act_enters at kept.Resume (codes "resume") op.Resume come does comes)
    operation_down at op.Begin asks come does comes =
        inl (act_enters at (kept.Begin does.0) (codes "begin") op.Begin come does.1.1 comes)
    operation_down at (op.Look task) asks come does comes = look_down at (op.Look task) task asks refl come does comes
    operation_down at (op.Load task) asks come does comes = absurd does
    operation_down at (op.End reply) asks come does comes =
        inl (act_enters at (kept.End reply) (end_of f words old reply) (op.End reply) come does comes)
    operation_down at (op.Refuse cause) asks come does comes =
        inl (act_enters at (kept.Refuse cause) (refuse_of f words cause) (op.Refuse cause) come does comes)
    operation_down at op.Unshare asks come does comes =
        inl (act_enters at kept.Unshare (codes "unshare") op.Unshare come does comes)
    operation_down at op.Finished asks come does comes = absurd does

    -- what opens a load section enters something
    opens_enters : (at : Stage Q T W (Cause M T V P Q R F)) (task : T) (take : Taking) →
        Takes f words old new k (Load task) take → OpensAt at task take (Went lines (Some next)) →
        length old.history < length new.history
    opens_enters at task (taking.Taken line) takes opens = entry_is_longer f old new k (kept.Take (Load task)) takes.0
    opens_enters at task (taking.Sought line) takes opens =
        entry_is_longer f old new k (kept.Seek (Load task)) takes.1
    opens_enters at task (taking.Waits line) takes opens = absurd (cc (opens))
    opens_enters at task taking.Full takes opens = absurd (cc (opens))

    -- so does each step in it
    section_enters : (at : Stage Q T W (Cause M T V P Q R F)) (sought : T) (at_first : T → Option V)
        (made : List (T × V)) →
        SectionGoes f talks words theories old new k at sought at_first made (Went lines (Some next)) →
        length old.history < length new.history
    section_enters at sought at_first made (Next-Define task later makes is) =
        entry_is_longer f old new k (kept.Define task) makes.0
    section_enters at sought at_first made (Is-Done loads value has closes) =
        entry_is_longer f old new k kept.Release closes.0
    section_enters at sought at_first made (Has-Failed loads unknown closes) =
        entry_is_longer f old new k kept.Release closes.0

    -- so does a resume
    resume_enters : (at : Stage Q T W (Cause M T V P Q R F)) (ended : Option E) (try : Tried M T V P Q R F) →
        Tries f old new k Resume (seat_line k (codes "resume")) try →
        ResumesAt f talks new.counts.program at ended try (Went lines (Some next)) →
        length old.history < length new.history
    resume_enters at ended (tried.Done line) tries resumes = entry_is_longer f old new k kept.Resume tries.0
    resume_enters at ended (tried.Waits line again) tries resumes = absurd (cc (resumes))
    resume_enters at ended tried.Full tries resumes = absurd (cc (resumes))

    -- so goes each step of an open request
    pub step_progresses : (at : Stage Q T W (Cause M T V P Q R F))
        (now : Next (Op M T V P Q R F) T (Progress T H U N) E) → GoesOnAt f talks theories old k at now →
        StepsAt f talks words sources theories old new files k at now (Went lines (Some next)) →
        Progresses f talks old new (record { actor = at; next = now }) next
    step_progresses at (Does asked) going steps = operation_down at asked going.0.asks steps.0 steps.1.0 steps.1.1
    step_progresses at (Opens task) going steps = inl (opens_enters at task steps.0 steps.1.0 steps.1.1)
    step_progresses at (Defines progress) going steps =
        let section = steps going.0 going.1.1.0 going.1.1.1.0 going.1.1.1.1 in
        inl (section_enters at going.0 going.1.1.0 going.1.1.1.0 section)
    step_progresses at (Resumes ended) going steps = inl (resume_enters at ended steps.0 steps.1.0 steps.1.1)

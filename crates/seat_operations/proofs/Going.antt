-- Behind a step at an operation a request is ready for its answer, or it stands still.
use Rattle.std.proofs.Common.{◌≡◌, ℕ, Bool, true, false, List, [], Option, Some, None, Err, refl, sym, ap, ◌∙◌}
use Rattle.std.proofs.Common.{subst}
use Rattle.outside.specs.declared.files.FileEntry.{FileEntry}
use Rattle.outside.specs.declared.files.Stamp.{Stamp}
use Rattle.outside.specs.Tree.{stamps_of}
use Rattle.system_seats.specs.Seats.{row, is_releasing}
use Rattle.system_events.specs.declared.event.Cause.{Cause}
use Rattle.system_events.specs.declared.event.Want.{Want}
use Rattle.system_events.specs.declared.event.Kept.{Kept}
use Rattle.system_events.specs.declared.event.Kept.TheVariants as kept
use Rattle.system_events.specs.Facts.{Facts, SameIsEqual}
use Rattle.system_events.specs.State.{State}
use Rattle.system_events.specs.Steps.{IsCause}
use Rattle.system_events.specs.Legal.{IsAfter}
use Rattle.system_laws.specs.Lawful.{IsExclusive}
use Rattle.system_core.specs.Tables.{lookup}
use Rattle.request_actor.specs.Talks.{Talks}
use Rattle.request_actor.specs.Order.{Fits, FitsRelease, IsFaultCause, request_at_stage}
use Rattle.request_actor.specs.declared.actor.Stage.{Stage}
use Rattle.request_actor.specs.declared.actor.Stage.TheVariants as stage
use Rattle.request_actor.specs.declared.op.Op.{Op}
use Rattle.request_actor.specs.declared.op.Op.TheVariants as op
use Rattle.request_actor.specs.declared.op.Answered.{Answered}
use Rattle.request_actor.specs.declared.op.Answered.TheVariants as answer
use Rattle.request_laws.specs.Standing.{IsNoEnd, IsServed}
use Rattle.served_requests.proofs.Serving.{begun_is_served}
use Rattle.seat_requests.specs.Standing.{IsReady, IsStanding}
use Rattle.seat_requests.proofs.Standing.{standing_stays}
use Rattle.replay_matter.specs.Words.{Words}
use Rattle.reload_matter.specs.Sources.{Sources}
use Rattle.seat_operations.specs.Coming.{Enters, Acts, TakesWant, checked, looked, released, Reloaded, Reloads}
use Rattle.seat_operations.specs.Coming.{Releases, Does}
use Rattle.seat_operations.specs.Readying.{IsOneStep, GoesOn}
use Rattle.seat_operations.specs.declared.came.Came.{Came}
use Rattle.seat_operations.specs.declared.came.Came.TheVariants.{Answered as Is-Answered, Sought, Waits, Limit}
use Rattle.seat_operations.proofs.Answering.{IsNoEnding, IsAnswerOf, FromTable, ready_at}
use Rattle.seat_operations.proofs.Stages.{at_begin}

module _ {M T V P Q R F G W E : Type 0} (f : Facts T V P Q R F) (equal : SameIsEqual f)
    (talks : Talks T V P Q R E G W) (old new : State M T V P Q R F) (k : ℕ)
    (at : Stage Q T W (Cause M T V P Q R F)) where
  -- where nothing changed the request stands still at the operation
  stands_again : (asked again : Op M T V P Q R F) → new ≡ old → again ≡ asked → IsOneStep asked →
      IsStanding f talks old k at asked → IsStanding f talks new k at again × IsOneStep again
  stands_again asked again same is one standing = (
    subst (λ (s : State M T V P Q R F). IsStanding f talks s k at again) (sym same)
        (subst (λ (o : Op M T V P Q R F). IsStanding f talks old k at o) (sym is) standing),
    subst (λ (o : Op M T V P Q R F). IsOneStep o) (sym is) one,
  )

  -- behind an entry of its seat that doesn't end it the request stands still
  stands_behind : (asked : Op M T V P Q R F) (entry : Kept M T V P Q R F) → IsExclusive old.seats → IsNoEnd entry →
      Enters f old new k entry → IsStanding f talks old k at asked → IsStanding f talks new k at asked
  stands_behind asked entry exclusive no_end enters standing =
      standing_stays f equal talks old new (record { seat = k; kept = entry }) k at asked exclusive enters
      (λ same. no_end) standing

  -- an operation that is one event, and doesn't end the request
  acts_goes : (asked : Op M T V P Q R F) (entry : Kept M T V P Q R F) (text : List ℕ)
      (came : Came (Op M T V P Q R F) (Answered V E (Cause M T V P Q R F))) → IsExclusive old.seats →
      IsNoEnd entry → IsOneStep asked → IsStanding f talks old k at asked →
      ((a : Answered V E (Cause M T V P Q R F)) → a ≡ answer.Done → IsAnswerOf f talks new k at asked a) →
      Acts f old new k entry text asked came → GoesOn f talks new k at came
  acts_goes asked entry text (Is-Answered line a) exclusive no_end one standing right acts =
      let stood = stands_behind asked entry exclusive no_end acts.0 standing in
      ready_at f talks new k at asked a standing.asks (λ no. stood.stands) (right a acts.2)
  acts_goes asked entry text (Sought line again) exclusive no_end one standing right acts = absurd acts
  acts_goes asked entry text (Waits line again) exclusive no_end one standing right acts =
      stands_again asked again acts.0.same acts.1 one standing
  acts_goes asked entry text Limit exclusive no_end one standing right acts = tt

  -- an operation that is one event, and ends the request
  acts_ends : (asked : Op M T V P Q R F) (entry : Kept M T V P Q R F) (text : List ℕ)
      (came : Came (Op M T V P Q R F) (Answered V E (Cause M T V P Q R F))) → (IsNoEnding asked → ⊥) →
      IsOneStep asked → IsStanding f talks old k at asked →
      ((a : Answered V E (Cause M T V P Q R F)) → a ≡ answer.Done → IsAnswerOf f talks new k at asked a) →
      Acts f old new k entry text asked came → GoesOn f talks new k at came
  acts_ends asked entry text (Is-Answered line a) ending one standing right acts =
      ready_at f talks new k at asked a standing.asks (λ no. absurd (ending no)) (right a acts.2)
  acts_ends asked entry text (Sought line again) ending one standing right acts = absurd acts
  acts_ends asked entry text (Waits line again) ending one standing right acts =
      stands_again asked again acts.0.same acts.1 one standing
  acts_ends asked entry text Limit ending one standing right acts = tt

  -- the operation Begin
  begin_goes : (seats : ℕ) (q : Q) (text : List ℕ)
      (came : Came (Op M T V P Q R F) (Answered V E (Cause M T V P Q R F))) → IsAfter f seats old →
      IsExclusive old.seats → IsStanding f talks old k at op.Begin → request_at_stage at ≡ Some q →
      Acts f old new k (kept.Begin q) text op.Begin came → GoesOn f talks new k at came
  begin_goes seats q text (Is-Answered line a) is_after exclusive standing known acts =
      let begun = at_begin at standing.asks in
      let same : begun.0 ≡ q = cc (begun.1.known, known) in
      let here : at ≡ stage.Begins q = begun.1.at_begin ∙ ap (λ (r : Q). stage.Begins r) same in
      let served : IsServed f talks new k q [] at =
      subst (λ (x : Stage Q T W (Cause M T V P Q R F)). IsServed f talks new k q [] x) (sym here)
      (begun_is_served f equal talks seats old new k q is_after acts.0) in
      let stood = stands_behind op.Begin (kept.Begin q) exclusive tt acts.0 standing in
      ready_at f talks new k at op.Begin a standing.asks (λ no. stood.stands) (acts.2, (q, served))
  begin_goes seats q text (Sought line again) is_after exclusive standing known acts = absurd acts
  begin_goes seats q text (Waits line again) is_after exclusive standing known acts =
      stands_again op.Begin again acts.0.same acts.1 tt standing
  begin_goes seats q text Limit is_after exclusive standing known acts = tt

  -- an operation that is answered where nothing changed
  tells_goes : (asked : Op M T V P Q R F) (line : List ℕ) (a : Answered V E (Cause M T V P Q R F))
      (came : Came (Op M T V P Q R F) (Answered V E (Cause M T V P Q R F))) → new ≡ old →
      came ≡ Is-Answered line a → IsStanding f talks old k at asked → IsAnswerOf f talks new k at asked a →
      GoesOn f talks new k at came
  tells_goes asked line a came same is standing right =
      let stood = subst (λ (s : State M T V P Q R F). IsStanding f talks s k at asked) (sym same) standing in
      subst (λ (c : Came (Op M T V P Q R F) (Answered V E (Cause M T V P Q R F))). GoesOn f talks new k at c) (sym is)
      (ready_at f talks new k at asked a standing.asks (λ no. stood.stands) right)

  -- the answer of a check
  check_right : (limit : Option F) (same : Bool) → ((fault : F) → limit ≡ Some fault → f.IsFault fault) →
      IsAnswerOf f talks new k at op.Check (checked limit same).1
  check_right (Some fault) same may = (tt, may fault refl)
  check_right None true may = (tt, tt)
  check_right None false may = (tt, tt)

  -- the answer of a look
  look_right : (task : T) (name : List ℕ) (value : Option V) → lookup f task new.table ≡ value →
      FromTable f talks new task (looked name value).1
  look_right task name (Some value) is = is
  look_right task name None is = tt

  -- the operation Take
  take_goes : (words : Words T P Q R (Cause M T V P Q R F)) (want : Want M T V P Q R F)
      (came : Came (Op M T V P Q R F) (Answered V E (Cause M T V P Q R F))) → IsExclusive old.seats →
      IsStanding f talks old k at (op.Take want) → TakesWant f words old new k want came → GoesOn f talks new k at came
  take_goes words want (Is-Answered line a) exclusive standing takes =
      let stood = stands_behind (op.Take want) (kept.Take want) exclusive tt takes.0.0 standing in
      ready_at f talks new k at (op.Take want) a standing.asks (λ no. stood.stands) takes.1
  take_goes words want (Sought line again) exclusive standing takes =
      let stood = stands_behind (op.Take want) (kept.Seek want) exclusive tt takes.0.1 standing in (
        subst (λ (o : Op M T V P Q R F). IsStanding f talks new k at o) (sym takes.1) stood,
        subst (λ (o : Op M T V P Q R F). IsOneStep o) (sym takes.1) tt,
      )
  take_goes words want (Waits line again) exclusive standing takes =
      stands_again (op.Take want) again takes.0.0.same takes.1 tt standing
  take_goes words want Limit exclusive standing takes = tt

  -- the operation Reload
  reload_answered : (sources : Sources P F) (files : List FileEntry) (line : List ℕ)
      (a : Answered V E (Cause M T V P Q R F)) →
      ((fault : F) → sources.Builds files (Err fault) → f.IsFault fault) → IsExclusive old.seats →
      IsStanding f talks old k at op.Reload → Reloaded f sources old new files k line a →
      IsReady f talks new k at a × Fits at a
  reload_answered sources files line answer.Done may exclusive standing reloaded =
      let stood = stands_behind op.Reload (kept.Reload reloaded.0) exclusive tt reloaded.1.1 standing in
      ready_at f talks new k at op.Reload answer.Done standing.asks (λ no. stood.stands) (tt, tt)
  reload_answered sources files line answer.Same may exclusive standing reloaded =
      let stood = stands_again op.Reload op.Reload reloaded.1.1 refl tt standing in
      ready_at f talks new k at op.Reload answer.Same standing.asks (λ no. stood.0.stands) (tt, tt)
  reload_answered sources files line (answer.Fault cause) may exclusive standing reloaded =
      let stood = stands_again op.Reload op.Reload reloaded.1.1 refl tt standing in
      let fits : IsFaultCause cause =
      subst (λ (c : Cause M T V P Q R F). IsFaultCause c) (sym reloaded.1.2) tt in
      let allowed : IsCause f cause =
      subst (λ (c : Cause M T V P Q R F). IsCause f c) (sym reloaded.1.2) (may reloaded.0 reloaded.1.0) in
      ready_at f talks new k at op.Reload (answer.Fault cause) standing.asks (λ no. stood.0.stands) (fits, allowed)
  reload_answered sources files line answer.Start may exclusive standing reloaded = absurd reloaded
  reload_answered sources files line answer.Differs may exclusive standing reloaded = absurd reloaded
  reload_answered sources files line answer.Waits may exclusive standing reloaded = absurd reloaded
  reload_answered sources files line (answer.Found value) may exclusive standing reloaded = absurd reloaded
  reload_answered sources files line answer.Missing may exclusive standing reloaded = absurd reloaded
  reload_answered sources files line (answer.Failed error) may exclusive standing reloaded = absurd reloaded

  reload_goes : (sources : Sources P F) (files : List FileEntry)
      (came : Came (Op M T V P Q R F) (Answered V E (Cause M T V P Q R F))) →
      ((fault : F) → sources.Builds files (Err fault) → f.IsFault fault) → IsExclusive old.seats →
      IsStanding f talks old k at op.Reload → Reloads f sources old new files k came → GoesOn f talks new k at came
  reload_goes sources files (Is-Answered line a) may exclusive standing reloads =
      reload_answered sources files line a may exclusive standing reloads
  reload_goes sources files (Sought line again) may exclusive standing reloads = absurd reloads
  reload_goes sources files (Waits line again) may exclusive standing reloads = absurd reloads
  reload_goes sources files Limit may exclusive standing reloads = tt

  -- the answers of a release fit it
  release_fits : (waits : Bool) → FitsRelease {M = M} {T = T} {V = V} {P = P} {Q = Q} {R = R} {F = F} {E = E}
      (released waits).1
  release_fits true = tt
  release_fits false = tt

  -- the operation Release
  release_goes : (came : Came (Op M T V P Q R F) (Answered V E (Cause M T V P Q R F))) → IsExclusive old.seats →
      IsStanding f talks old k at op.Release → Releases f old new k came → GoesOn f talks new k at came
  release_goes (Is-Answered line a) exclusive standing releases =
      let stood = stands_behind op.Release kept.Release exclusive tt releases.0 standing in
      let is : a ≡ (released (is_releasing (row new.seats k).phase)).1 = cc (releases.1) in
      ready_at f talks new k at op.Release a standing.asks (λ no. stood.stands)
      (subst (λ (x : Answered V E (Cause M T V P Q R F)). FitsRelease x) (sym is)
      (release_fits (is_releasing (row new.seats k).phase)))
  release_goes (Sought line again) exclusive standing releases = absurd releases
  release_goes (Waits line again) exclusive standing releases =
      stands_again op.Release again releases.0.same releases.1 tt standing
  release_goes Limit exclusive standing releases = tt

module _ {M T V P Q R F G W E : Type 0} (f : Facts T V P Q R F) (equal : SameIsEqual f)
    (talks : Talks T V P Q R E G W) (words : Words T P Q R (Cause M T V P Q R F)) (sources : Sources P F)
    (limits_refuse : (stamps : List (List ℕ × Stamp)) (fault : F) → sources.limit stamps ≡ Some fault →
    f.IsFault fault)
    (faults_refuse : (files : List FileEntry) (fault : F) → sources.Builds files (Err fault) → f.IsFault fault)
    (seats : ℕ) (old new : State M T V P Q R F) (files : List FileEntry) (k : ℕ)
    (at : Stage Q T W (Cause M T V P Q R F)) (is_after : IsAfter f seats old) (exclusive : IsExclusive old.seats) where
  -- behind a step at an operation the request goes on
  pub does_goes : (asked : Op M T V P Q R F) (came : Came (Op M T V P Q R F) (Answered V E (Cause M T V P Q R F))) →
      IsStanding f talks old k at asked → Does f words sources old new files k at asked came →
      GoesOn f talks new k at came
  does_goes op.Share came standing does =
      acts_goes f equal talks old new k at op.Share kept.Share _ came exclusive tt tt standing (λ a is. is) does
  does_goes op.Check came standing does =
      tells_goes f equal talks old new k at op.Check _ _ came does.0 does.1 standing
      (check_right f equal talks old new k at (sources.limit (stamps_of files))
      (sources.has_stamps old.counts.program (stamps_of files)) (limits_refuse (stamps_of files)))
  does_goes (op.Take want) came standing does =
      take_goes f equal talks old new k at words want came exclusive standing does
  does_goes op.Reload came standing does =
      reload_goes f equal talks old new k at sources files came (faults_refuse files) exclusive standing does
  does_goes op.Release came standing does = release_goes f equal talks old new k at came exclusive standing does
  does_goes op.Resume came standing does =
      acts_goes f equal talks old new k at op.Resume kept.Resume _ came exclusive tt tt standing (λ a is. is) does
  does_goes op.Begin came standing does =
      begin_goes f equal talks old new k at seats does.0 _ came is_after exclusive standing does.1.0 does.1.1
  does_goes (op.Look task) came standing does =
      tells_goes f equal talks old new k at (op.Look task) _ _ came does.0 does.1 standing
      (look_right f equal talks old new k at task (words.task_name task) (lookup f task old.table)
      (ap (λ (s : State M T V P Q R F). lookup f task s.table) does.0))
  does_goes (op.Load task) came standing does = absurd does
  does_goes (op.End reply) came standing does =
      acts_ends f equal talks old new k at (op.End reply) (kept.End reply) _ came (λ no. no) tt standing (λ a is. is)
      does
  does_goes (op.Refuse cause) came standing does =
      acts_ends f equal talks old new k at (op.Refuse cause) (kept.Refuse cause) _ came (λ no. no) tt standing
      (λ a is. is) does
  does_goes op.Unshare came standing does =
      acts_goes f equal talks old new k at op.Unshare kept.Unshare _ came exclusive tt tt standing (λ a is. is) does
  does_goes op.Finished came standing does = absurd does

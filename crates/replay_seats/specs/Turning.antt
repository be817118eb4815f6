-- What a step of a seat comes to in a replay.
use Rattle.std.specs.Prelude.{◌≡◌, ◌<◌, ◌≤◌, ◌+◌, ◌⊎◌, ℕ, List, [], ◌∷◌, Option, Some, None, length, slice_set, codes}
use Rattle.system_events.specs.State.{State}
use Rattle.request_actor.specs.declared.actor.Stage.TheVariants.{Shares}
use Rattle.request_actor.specs.declared.op.Op.TheVariants.{Share}
use Rattle.trace_lines.specs.Steps.{seat_line}
use Rattle.seat_steps.specs.Stepping.{Steps}
use Rattle.seat_steps.specs.declared.next.Next.TheVariants.{Does}
use Rattle.seat_steps.specs.declared.next.Stepped.{Stepped}
use Rattle.seat_steps.specs.declared.next.Stepped.TheVariants as step
use Rattle.seat_progress.specs.Quiet.{quiet_in}
use Rattle.replay_seats.specs.Play.{Play}
use Rattle.replay_seats.specs.Situation.{Situation, Requested, AreSeated, seat_at}
use Rattle.replay_seats.specs.declared.turn.Turn.{Turn}
use Rattle.replay_seats.specs.declared.turn.Turn.TheVariants.{Idle, Went, Waits, Limit}

-- the lines that tell a step
abbrev pub lines_of : {B : Type 0} → Stepped B → List (List ℕ)
lines_of (step.Went lines request) = lines
lines_of (step.Waits line request) = line ∷ []
lines_of step.Limit = []

-- how the seat goes on
abbrev pub turn_of : {B : Type 0} → Stepped B → Turn
turn_of (step.Went lines request) = Went
turn_of (step.Waits line request) = Waits
turn_of step.Limit = Limit

-- the request behind a step, if it is open still; behind a limit there is none
abbrev pub request_behind : {B : Type 0} → Stepped B → Option B
request_behind (step.Went lines request) = request
request_behind (step.Waits line request) = Some request
request_behind step.Limit = None

-- the line of a seat without a request: `2 idle`
abbrev pub idle_line : ℕ → List ℕ
idle_line k = seat_line k (codes "idle")

module _ {M T V P Q R F G W E X O H U N : Type 0} (play : Play M T V P Q R F G W E X O H U N) where
  -- This is the request of a target, which is to share first.
  pub record IsOpened (target : List ℕ) (request : Requested play) : Type 0 where
    pub stage : request.actor ≡ Shares (play.words.request_of target)
    pub shares : request.next ≡ Does Share

  -- The step of the open request of seat k, with the lines that tell it. The files and the other seats stay.
  pub record MakesStep (request : Requested play) (old new : Situation play) (k : ℕ) (lines : List (List ℕ))
      (turn : Turn) : Type 0 where
    pub stepped : Stepped (Requested play)
    pub steps : Steps play.facts play.talks play.words play.sources play.theories old.state new.state old.files.held k
        request stepped
    pub files : new.files ≡ old.files
    pub seats : new.seats ≡ slice_set old.seats k (request_behind stepped)
    pub told : lines ≡ lines_of stepped
    pub turned : turn ≡ turn_of stepped

  -- a step of seat k by its open request; without one nothing changes, and one line tells so
  abbrev pub TurnsAt : Option (Requested play) → Situation play → Situation play → ℕ → List (List ℕ) → Turn → Type 0
  TurnsAt None old new k lines turn = (new ≡ old) × (lines ≡ idle_line k ∷ []) × (turn ≡ Idle)
  TurnsAt (Some request) old new k lines turn = MakesStep request old new k lines turn

  -- a step of seat k
  abbrev pub Turns : Situation play → Situation play → ℕ → List (List ℕ) → Turn → Type 0
  Turns old new k lines turn = TurnsAt (seat_at old.seats k) old new k lines turn

  -- how many steps are left at most, without one that enters something
  abbrev pub left : State M T V P Q R F → Option (Requested play) → ℕ
  left s None = 0
  left s (Some request) = quiet_in play.facts play.talks s request + 1

  -- From one situation to the other the history stays or grows; where it stays, seat k, which had this request, has
  -- fewer steps left.
  pub record AdvancesFrom (request : Option (Requested play)) (old new : Situation play) (k : ℕ) : Type 0 where
    pub stays : length old.state.history ≤ length new.state.history
    pub advances : (length old.state.history < length new.state.history)
        ⊎ (left new.state (seat_at new.seats k) < left old.state request)

  -- the same with the request that it had
  abbrev pub Advances : Situation play → Situation play → ℕ → Type 0
  Advances old new k = AdvancesFrom (seat_at old.seats k) old new k

  -- A step of seat k: what it comes to; the seats stand behind it; and a seat that goes on advances.
  pub record IsTurned (old new : Situation play) (k : ℕ) (lines : List (List ℕ)) (turn : Turn) : Type 0 where
    pub turns : Turns old new k lines turn
    pub seated : AreSeated play new.state new.seats
    pub advances : turn ≡ Went → Advances old new k

  -- the same of a seat whose request was taken out
  pub record IsMade (request : Requested play) (old new : Situation play) (k : ℕ) (lines : List (List ℕ))
      (turn : Turn) : Type 0 where
    pub makes : MakesStep request old new k lines turn
    pub seated : AreSeated play new.state new.seats
    pub advances : turn ≡ Went → AdvancesFrom (Some request) old new k

  -- A seat has the request of a target now, and the seats stand.
  pub record Opens (target : List ℕ) (s : State M T V P Q R F) (old new : List (Option (Requested play))) (k : ℕ) :
      Type 0 where
    pub request : Requested play
    pub opened : IsOpened target request
    pub seats : new ≡ slice_set old k (Some request)
    pub seated : AreSeated play s new

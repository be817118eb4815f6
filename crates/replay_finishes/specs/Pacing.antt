-- Steps of a seat one after another, until one of them enters something.
use Rattle.std.specs.Prelude.{◌≡◌, ◌≤◌, ◌<◌, ℕ, Bool, true, false, List, length}
use Rattle.replay_seats.specs.Play.{Play}
use Rattle.replay_seats.specs.Situation.{Situation, AreSeated, seat_at}
use Rattle.replay_seats.specs.Turning.{Turns, left}
use Rattle.replay_seats.specs.declared.turn.Turn.{Turn}
use Rattle.replay_seats.specs.declared.turn.Turn.TheVariants as turn
use Rattle.replay_finishes.specs.Finishing.{Makes, Finishes, Stops}
use Rattle.replay_finishes.specs.declared.stops.Finish.TheVariants.{Over, Waits, Limit}
use Rattle.replay_finishes.specs.declared.stops.Pace.{Pace}
use Rattle.replay_finishes.specs.declared.stops.Pace.TheVariants as pace

-- how a seat goes on behind a step, by whether the history grew
abbrev pub pace_of : Turn → Bool → Pace
pace_of turn.Went true = pace.Entered
pace_of turn.Went false = pace.Quiet
pace_of turn.Waits grew = pace.Stops Waits
pace_of turn.Limit grew = pace.Stops Limit
pace_of turn.Idle grew = pace.Stops Over

module _ {M T V P Q R F G W E X O H U N : Type 0} (play : Play M T V P Q R F G W E X O H U N) (k : ℕ) where
  -- A step of seat k, which has a request, by how it goes on. Where it entered nothing, it has fewer such steps left.
  abbrev pub Paces : Situation play → Situation play → List (List ℕ) → Pace → Type 0
  Paces old new told pace.Entered =
      Turns play old new k told turn.Went × (length old.state.history < length new.state.history)
  Paces old new told pace.Quiet =
      Turns play old new k told turn.Went × (length old.state.history ≤ length new.state.history)
      × (left play new.state (seat_at new.seats k) < left play old.state (seat_at old.seats k))
  Paces old new told (pace.Stops Over) = ⊥
  Paces old new told (pace.Stops how) = Stops play k old new told how

  -- Seat k makes steps until the history has grown, or until it stops.
  abbrev pub Pauses : Situation play → Situation play → List (List ℕ) → Pace → Type 0
  Pauses old new lines pace.Entered =
      Makes play k old new lines × (length old.state.history < length new.state.history)
  Pauses old new lines pace.Quiet = ⊥
  Pauses old new lines (pace.Stops how) = Finishes play k old new lines how

-- The system, the files and the seats of a replay, between its steps.
use Rattle.std.specs.Prelude.{◌≡◌, ℕ, List, Option, None, length, replicate, slice_index_or}
use Rattle.by_need_loader.specs.Progress.{Progress}
use Rattle.system_events.specs.declared.event.Cause.{Cause}
use Rattle.system_events.specs.State.{State}
use Rattle.system_events.specs.Legal.{start}
use Rattle.request_actor.specs.declared.actor.Stage.{Stage}
use Rattle.request_actor.specs.declared.op.Op.{Op}
use Rattle.replay_files.specs.Holding.{Holding, no_files}
use Rattle.seat_steps.specs.Standing.{MayBeOpen}
use Rattle.seat_steps.specs.declared.next.Next.{Next}
use Rattle.seat_steps.specs.declared.next.OpenRequest.{OpenRequest}
use Rattle.replay_seats.specs.Play.{Play}

-- S: states of systems. B: open requests.
pub record Replaying (S B : Type 0) : Type 0 where
  pub state : S
  pub files : Holding
  -- the open request of each seat, if it has one
  pub seats : List (Option B)

-- the open request of a seat, if it has one
abbrev pub seat_at : {B : Type 0} → List (Option B) → ℕ → Option B
seat_at seats k = slice_index_or seats k None

module _ {M T V P Q R F G W E X O H U N : Type 0} (play : Play M T V P Q R F G W E X O H U N) where
  -- open requests
  abbrev pub Requested : Type 0
  Requested = OpenRequest (Stage Q T W (Cause M T V P Q R F)) (Next (Op M T V P Q R F) T (Progress T H U N) E)

  -- where a replay is
  abbrev pub Situation : Type 0
  Situation = Replaying (State M T V P Q R F)
      (OpenRequest (Stage Q T W (Cause M T V P Q R F)) (Next (Op M T V P Q R F) T (Progress T H U N) E))

  -- a replay begins with a system of 64 seats, without files, and with no request
  abbrev pub at_first : Replaying (State M T V P Q R F)
      (OpenRequest (Stage Q T W (Cause M T V P Q R F)) (Next (Op M T V P Q R F) T (Progress T H U N) E))
  at_first = record { state = start play.facts 64; files = no_files; seats = replicate 64 None }

  -- There are 64 seats, and each open request stands at what it does next.
  pub record AreSeated (s : State M T V P Q R F) (seats : List (Option (OpenRequest
      (Stage Q T W (Cause M T V P Q R F)) (Next (Op M T V P Q R F) T (Progress T H U N) E)))) : Type 0 where
    pub rows : length s.seats.lock.rows ≡ 64
    pub places : length seats ≡ 64
    pub open_ones : (k : ℕ) → MayBeOpen play.facts play.talks play.theories s k (seat_at seats k)

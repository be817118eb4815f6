-- Steps of a seat one after another, until its request is over or it waits.
use Rattle.std.specs.Prelude.{◌≡◌, ℕ, List, [], ◌++◌, None}
use Rattle.replay_seats.specs.Play.{Play}
use Rattle.replay_seats.specs.Situation.{Situation, seat_at}
use Rattle.replay_seats.specs.Turning.{Turns}
use Rattle.replay_seats.specs.declared.turn.Turn.TheVariants as turn
use Rattle.replay_finishes.specs.declared.stops.Finish.{Finish}
use Rattle.replay_finishes.specs.declared.stops.Finish.TheVariants.{Over, Waits, Limit}

module _ {M T V P Q R F G W E X O H U N : Type 0} (play : Play M T V P Q R F G W E X O H U N) (k : ℕ) where
  -- From one situation to another seat k makes steps, none of which waits, and these lines tell them.
  pub data Makes (old : Situation play) : Situation play → List (List ℕ) → Type 0 where
    Has-Made-None : Makes old old []
    Makes-One-More : (mid new : Situation play) (before told : List (List ℕ)) → Makes old mid before →
        Turns play mid new k told turn.Went → Makes old new (before ++ told)

  -- How seat k stops: it has no request, so that it makes no step and nothing is told; or its next step waits, or meets
  -- a limit.
  abbrev pub Stops : Situation play → Situation play → List (List ℕ) → Finish → Type 0
  Stops mid new told Over = (new ≡ mid) × (seat_at mid.seats k ≡ None) × (told ≡ [])
  Stops mid new told Waits = Turns play mid new k told turn.Waits
  Stops mid new told Limit = Turns play mid new k told turn.Limit

  -- Seat k makes steps until it stops.
  pub record Finishes (old new : Situation play) (lines : List (List ℕ)) (how : Finish) : Type 0 where
    pub mid : Situation play
    pub before : List (List ℕ)
    pub told : List (List ℕ)
    pub makes : Makes old mid before
    pub stops : Stops mid new told how
    pub lines_are : lines ≡ before ++ told

  -- the lines tell steps that seat k made
  pub record Began (old : Situation play) (lines : List (List ℕ)) : Type 0 where
    pub mid : Situation play
    pub makes : Makes old mid lines

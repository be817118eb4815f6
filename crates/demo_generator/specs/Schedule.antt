-- A schedule that is drawn by chance.
use Rattle.std.specs.Prelude.{ℕ, ◌+◌, ◌*◌, ◌/◌, ◌%◌, ◌^◌, ◌==◌, Bool, true, false, List, Option, Some, None}
use Rattle.std.specs.Prelude.{nat_lt, slice_index_or, if◌then◌else◌}
use Rattle.demo_generator.specs.declared.schedule.Turn.{Turn}
use Rattle.demo_generator.specs.declared.schedule.Turn.TheVariants.{Step, Request, Idle}

-- how many modules there are, the last number of chance, and how many requests were given
pub record Drawing : Type 0 where
  pub modules : ℕ
  pub chance : ℕ
  pub given : ℕ

-- chance begins with the number of modules
abbrev pub first : ℕ → Drawing
first modules = record { modules = modules; chance = modules; given = 0 }

-- the next number of chance (Knuth, The Art of Computer Programming 2, section 3.3.4: a linear congruential generator
-- modulo 2^64)
abbrev pub after_draw : ℕ → ℕ
after_draw chance = (chance * 6364136223846793005 + 1442695040888963407) % (2 ^ 64)

-- what is drawn with a number of chance: the number without its 33 low bits, below a limit
abbrev pub drawn : ℕ → ℕ → ℕ
drawn chance below = (chance / (2 ^ 33)) % below

-- the same with the next number of chance
abbrev pub with_draw : Drawing → Drawing
with_draw d = record d { chance = after_draw d.chance }

-- the value that the first module's file is written with before each tenth request
abbrev pub edit : Drawing → Option ℕ
edit d = if (d.given % 10) == 0 then Some (drawn (after_draw d.chance) 100) else None

-- the draws before that of the request's module
abbrev pub after_edit : Drawing → Drawing
after_edit d = if (d.given % 10) == 0 then with_draw d else d

-- the request that was given last, of a module that is drawn
abbrev pub request : ℕ → Drawing → Turn × Drawing
request seat d = (
  Request seat (drawn (with_draw (after_edit d)).chance d.modules) (edit d),
  with_draw (after_edit d),
)

-- one request more was given
abbrev pub with_request : Drawing → Drawing
with_request d = record d { given = d.given + 1 }

-- a seat without a request gets one, where one of the four for each module is left
abbrev pub request_or_idle : ℕ → Drawing → Turn × Drawing
request_or_idle seat d =
    if nat_lt d.given (4 * d.modules) then request seat (with_request d) else (Idle seat, d)

-- a seat that has a request makes a step
abbrev pub seat_turn : Bool → ℕ → Drawing → Turn × Drawing
seat_turn true seat d = (Step seat, d)
seat_turn false seat d = request_or_idle seat d

-- the turn of a seat that is drawn
abbrev pub turn_of : ℕ → Drawing → List Bool → Turn × Drawing
turn_of seat d running = seat_turn (slice_index_or running seat false) seat d

-- a turn is of one of four seats, which is drawn
abbrev pub turn : Drawing → List Bool → Turn × Drawing
turn d running = turn_of (drawn (after_draw d.chance) 4) (with_draw d) running

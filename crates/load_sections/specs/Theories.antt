-- A program of a system whose tasks are those of a theory.
use Rattle.std.specs.Prelude.{◌≡◌, true, Contains}
use Rattle.by_need.specs.Rounds.{Rules, is_in, is_task, known}
use Rattle.system_events.specs.Facts.{Facts}

-- The tasks of the program are the theory's, and so is what is known of them and what their runs ask for.
pub record IsOfTheory {T V P Q R F E O : Type 0} (f : Facts T V P Q R F) (p : P) (r : Rules T V E O) : Type 0 where
  pub tasks : (task : T) → Contains (f.tasks p) task → is_task r task ≡ true
  pub known_of : (task : T) → f.known p task ≡ known r task
  pub asked : (task other : T) → is_in r other (r.run task (known r)).asked ≡ true → Contains (f.asked p task) other

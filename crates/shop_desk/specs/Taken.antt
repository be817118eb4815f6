-- What a refused Take was for.
use Rattle.std.specs.Prelude.{Option, Some, None}
use Rattle.system_events.specs.declared.event.Want.TheVariants.{Load}
use Rattle.system_events.specs.declared.event.Act.{Act}
use Rattle.system_events.specs.declared.event.Act.TheVariants.{Take}

module _ {M T V P Q R F : Type 0} where
  -- what a Take of a load is of
  abbrev pub task_taken : Act M T V P Q R F → Option T
  task_taken (Take (Load task)) = Some task
  task_taken _ = None

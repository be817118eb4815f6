-- Passes that seek a load, and passes that load.
use Rattle.std.specs.Prelude.{◌≡◌, Some, Contains}
use Rattle.system_events.specs.declared.event.Want.TheVariants.{Load}
use Rattle.system_events.specs.Facts.{Facts}
use Rattle.system_events.specs.State.{section_want}
use Rattle.shop_base.specs.Rows.{IsSeeking, IsLoading}
use Rattle.shop_base.specs.Passes.{PassView, seen_state}

module _ {M T V P Q R F : Type 0} (f : Facts T V P Q R F) where
  -- Its row seeks a load, it keeps the task for the Take, the entry that opened its section is of this task, and the
  -- task is one of the program in force.
  pub record SeeksTask (p : PassView M T V P Q R F) (task : T) : Type 0 where
    pub seeks : IsSeeking p.row.seat
    pub kept : p.sought ≡ Some task
    pub section : section_want (seen_state f p) p.number ≡ Some (Load task)
    pub is_task : Contains (f.tasks (seen_state f p).counts.program) task

  -- its row is exclusive for a load, and the entry that opened its section is of this task
  pub record LoadsTask (p : PassView M T V P Q R F) (task : T) : Type 0 where
    pub loads : IsLoading p.row.seat
    pub section : section_want (seen_state f p) p.number ≡ Some (Load task)

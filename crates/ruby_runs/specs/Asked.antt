-- What a run may ask for, and how it may end.
use Rattle.by_need.specs.Asking as asking
use Rattle.by_need.specs.Asking.{Gives, Ask, Ending}
use Rattle.ruby_types.specs.declared.value.Value.{Value}
use Rattle.ruby_types.specs.declared.request.RubyError.{RubyError}
use Rattle.ruby_types.specs.declared.request.Task.{Task}
use Rattle.ruby_types.specs.declared.request.Task.TheVariants as task
use Rattle.ruby_runs.specs.declared.NoReply.{NoReply}
use Rattle.ruby_runs.specs.Doing.{Meaning}

-- The tasks that may be asked for, and whether a run may end without a value and an error.
pub record Bounds : Type 1 where
  pub task : Task → Type 0
  pub other : Type 0

-- how a run may end
abbrev pub MayEnd : Bounds → Ending Value RubyError NoReply → Type 0
MayEnd may (asking.Value value) = Unit {0}
MayEnd may (asking.Error error) = Unit {0}
MayEnd may (asking.Other end) = may.other

-- Each task that a run asks for is one of these, whatever values come, and it ends as it may.
abbrev pub IsWithin : Bounds → Meaning → Type 0
IsWithin may (Gives end) = MayEnd may end
IsWithin may (Ask t branch) = may.task t × ((value : Value) → IsWithin may (branch value))

-- Only a request may end without a value and an error.
abbrev pub MayLack : Bounds → Task → Type 0
MayLack may (task.File file) = Unit {0}
MayLack may (task.Const path) = Unit {0}
MayLack may (task.Ancestors path) = Unit {0}
MayLack may (task.Request request) = may.other

-- A task that is a request.
abbrev pub IsRequest : Task → Type 0
IsRequest (task.File file) = ⊥
IsRequest (task.Const path) = ⊥
IsRequest (task.Ancestors path) = ⊥
IsRequest (task.Request request) = Unit {0}

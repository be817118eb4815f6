-- How a step that fails stops the machine.
use Rattle.ruby_machine_names.specs.declared.here.Failure.{Failure}
use Rattle.ruby_machine_names.specs.declared.here.Failure.TheVariants as failure
use Rattle.ruby_machine_frames.specs.declared.frames.Stop.{Stop}
use Rattle.ruby_machine_frames.specs.declared.frames.Stop.TheVariants as stop

-- the failure of a step, as the machine tells it
abbrev pub stop_of : Failure → Stop
stop_of (failure.Raised error) = stop.Raised error
stop_of failure.Memory = stop.Memory

-- What a run does until it stops.
use Rattle.std.specs.Prelude.{◌<◌}
use Rattle.ruby_machine_frames.specs.declared.frames.Control.{Control}
use Rattle.ruby_machine_frames.specs.declared.frames.Control.TheVariants as control
use Rattle.ruby_machine_frames.specs.declared.frames.Stop.{Stop}
use Rattle.ruby_machine_frames.specs.declared.frames.Stop.TheVariants as stop
use Rattle.ruby_machine_frames.specs.declared.stack.Core.{Core}
use Rattle.ruby_machine_frames.specs.Rest.{work}
use Rattle.ruby_types.specs.declared.value.Value.{Value}

-- Where a task is needed, what there may still be to do with its value is less than there was.
abbrev pub Falls : Core → Control → Stop → Core → Type 0
Falls old now (stop.Done v) new = Unit {0}
Falls old now (stop.Raised error) new = Unit {0}
Falls old now (stop.Need task) new = (v : Value) → work new (control.Gives v) < work old now
Falls old now stop.Memory new = Unit {0}

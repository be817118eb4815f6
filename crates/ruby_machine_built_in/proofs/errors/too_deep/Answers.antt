use Rattle.std.specs.Prelude.{codes}
use Rattle.ruby_machine_built_in.proofs.errors.too_deep.Goals as goal

pub returns : goal.returns
returns c = c.stop.ensures (codes "stack level too deep") c.from_bytes.ensures

use Rattle.ruby_runs.specs.BuiltIns.{undefined_method}
use Rattle.ruby_machine_built_in.proofs.errors.undefined_method.Goals as goal

pub returns : goal.returns
returns c = c.stop.ensures (undefined_method c.args.on.now c.args.name.now) c.undefined_text.ensures

use Rattle.std.proofs.Common.{map, ap, ◌∙◌}
use Rattle.eager_report.specs.Failures.{failure_line}
use Rattle.eager_loads.proofs.loads.lines_of.Goals as goal

pub load_each-requires-clause-tasks : goal.load_each-requires-clause-tasks
load_each-requires-clause-tasks g c = c.requires.tasks

pub load_each-requires-clause-part : goal.load_each-requires-clause-part
load_each-requires-clause-part g c = c.requires.part

pub returns : goal.returns
returns g c = c.in_ok-lines.ensures ∙ ap (map failure_line) (c.as_slice.ensures.value ∙ c.in_ok-loaded.ensures.failed)

use Rattle.std.proofs.Common.{◌≡◌, map, take}
use Rattle.eager_report.specs.Failures.{failure_line}
use Rattle.eager_report.proofs.failures.failure_lines.Given as goal

abbrev pub invariant-failures : goal.invariant-failures
invariant-failures l = l.lines ≡ map failure_line (take l.task-index l.failed)

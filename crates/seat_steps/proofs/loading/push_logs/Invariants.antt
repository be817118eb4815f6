use Rattle.std.proofs.Common.{◌≡◌, ◌++◌, map, take}
use Rattle.trace_lines.specs.Steps.{log_line}
use Rattle.seat_steps.proofs.loading.push_logs.Given as goal

abbrev pub invariant-logs : goal.invariant-logs
invariant-logs l = l.lines ≡ l.initial.lines ++ map log_line (take l.text-index l.text-items)

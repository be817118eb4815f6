use Rattle.std.proofs.Common.{List, drop}
use Rattle.program_places.specs.Paths.{Path}
use Rattle.ruby_runs.specs.Runs.{from_last}
use Rattle.ruby_machine_ancestors.specs.Gathers.{Gathers}
use Rattle.ruby_machine_ancestors.proofs.joining.Gathering.add_from_last.Given as goal

abbrev pub invariant-lists : goal.invariant-lists
invariant-lists l =
    (before : List Path) → Gathers l.fn.self before → Gathers l.self (from_last before (drop l.at l.lists))

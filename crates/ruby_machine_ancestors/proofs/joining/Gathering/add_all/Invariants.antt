use Rattle.std.proofs.Common.{List, take}
use Rattle.program_places.specs.Paths.{Path}
use Rattle.ruby_runs.specs.Runs.{with_paths}
use Rattle.ruby_machine_ancestors.specs.Gathers.{Gathers}
use Rattle.ruby_machine_ancestors.proofs.joining.Gathering.add_all.Given as goal

abbrev pub invariant-paths : goal.invariant-paths
invariant-paths l =
    (before : List Path) → Gathers l.fn.self before → Gathers l.self (with_paths before (take l.path-index l.paths))

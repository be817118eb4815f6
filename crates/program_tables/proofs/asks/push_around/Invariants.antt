use Rattle.std.proofs.Common.{◌≡◌, ◌++◌, take}
use Rattle.std.specs.List.{flat_map}
use Rattle.program_places.specs.Paths.{levels}
use Rattle.program_tables.specs.Asks.{level_task}
use Rattle.program_tables.proofs.asks.push_around.Given as goal

abbrev pub invariant-places : goal.invariant-places
invariant-places l = l.tasks.items ≡ l.fn.tasks.items
    ++ flat_map (level_task l.standings.spelled) (take l.place (levels l.constant))

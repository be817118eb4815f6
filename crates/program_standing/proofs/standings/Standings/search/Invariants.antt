use Rattle.std.proofs.Common.{◌≡◌, length}
use Rattle.program_standing.specs.Search.{or_missing, search}
use Rattle.program_standing.proofs.standings.Standings.search.Given as goal

abbrev pub invariant-scopes : goal.invariant-scopes
invariant-scopes l = or_missing (search l.self l.from l.left l.name) ≡ or_missing (search l.self l.from l.scopes l.name)

abbrev pub decreases-scopes : goal.decreases-scopes
decreases-scopes l = length l.left

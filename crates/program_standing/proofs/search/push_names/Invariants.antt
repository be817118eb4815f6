use Rattle.std.proofs.Common.{◌≡◌, ◌++◌, take}
use Rattle.program_standing.proofs.search.push_names.Given as goal

abbrev pub invariant-names : goal.invariant-names
invariant-names l = l.path.items ≡ l.fn.path.items ++ take l.name-index l.names

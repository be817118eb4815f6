use Rattle.std.proofs.Common.{◌≡◌, ◌++◌, take}
use Rattle.program_entries.proofs.walk.push_names.Given as goal

abbrev pub invariant-names : goal.invariant-names
invariant-names l = l.path.items ≡ l.fn.path.items ++ take l.name-index l.names

use Rattle.std.proofs.Common.{◌≡◌, ◌++◌, take}
use Rattle.tree_scan.proofs.spelling.push_names.Given as goal

abbrev pub invariant-names : goal.invariant-names
invariant-names l = l.path ≡ l.fn.path ++ take l.name-index l.names

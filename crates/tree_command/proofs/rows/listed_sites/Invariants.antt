use Rattle.std.proofs.Common.{◌≡◌, map, take}
use Rattle.tree_command.specs.Tree.{listed}
use Rattle.tree_command.proofs.rows.listed_sites.Given as goal

abbrev pub invariant-rows : goal.invariant-rows
invariant-rows l = l.sites.items ≡ map (listed l.files) (take l.row-index l.rows)

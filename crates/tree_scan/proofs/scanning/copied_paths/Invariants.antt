use Rattle.std.proofs.Common.{◌≡◌, map, take}
use Rattle.tree_scan.specs.Sites.{path_at}
use Rattle.tree_scan.proofs.scanning.copied_paths.Given as goal

abbrev pub invariant-numbers : goal.invariant-numbers
invariant-numbers l = l.paths ≡ map (path_at l.files) (take l.number-index l.numbers)

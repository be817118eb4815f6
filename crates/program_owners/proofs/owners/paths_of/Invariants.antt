use Rattle.std.proofs.Common.{◌≡◌, take}
use Rattle.program_owners.specs.Owned.{owned_paths}
use Rattle.program_owners.proofs.owners.paths_of.Given as goal

abbrev pub invariant-rows : goal.invariant-rows
invariant-rows l = l.paths.items ≡ owned_paths (take l.row-index l.owned)

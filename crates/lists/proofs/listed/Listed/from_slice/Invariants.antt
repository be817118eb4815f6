use Rattle.std.proofs.Common.{◌≡◌, take}
use Rattle.lists.proofs.listed.Listed.from_slice.Given as goal

abbrev pub invariant-members : goal.invariant-members
invariant-members g l = l.copied ≡ take l.item-index l.items

use Rattle.std.proofs.Common.{◌≡◌, take}
use Rattle.outside.specs.Tree.{stamps_of}
use Rattle.outside.proofs.mem_tree.copy_stamps.Given as goal

abbrev pub invariant-files : goal.invariant-files
invariant-files l = l.stamps ≡ stamps_of (take l.file-index l.files)

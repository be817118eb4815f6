use Rattle.std.proofs.Common.{arith}
use Rattle.std.proofs.lemmas.Grind.{common_steps}
use Rattle.ruby_types.proofs.SizeLaws.{size-Hash, size-Object}
use Rattle.ruby_types.proofs.sizes.+sizes.Goals as goal

pub size-returns-in-Hash : goal.size-returns-in-Hash
size-returns-in-Hash t c = let e = size-Hash c.in-Hash.pairs in grind (arith, common_steps)

pub size-returns-in-Object : goal.size-returns-in-Object
size-returns-in-Object t c = let e = size-Object c.in-Object.class c.in-Object.variables in grind (arith, common_steps)

use Rattle.std.proofs.Common.{arith}
use Rattle.ruby_builtin_texts.proofs.SizeLaws.{size-characters}
use Rattle.ruby_builtin_texts.proofs.sizes.characters_size.Goals as goal

pub returns : goal.returns
returns c = omega (arith, size-characters c.args.text.now)

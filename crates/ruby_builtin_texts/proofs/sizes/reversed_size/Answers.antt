use Rattle.std.proofs.Common.{arith, reverse}
use Rattle.std.specs.List.{concat}
use Rattle.ruby_builtin_base.specs.Characters.{characters}
use Rattle.ruby_builtin_texts.proofs.SizeLaws.{size-Str, length-reversed}
use Rattle.ruby_builtin_texts.proofs.sizes.reversed_size.Goals as goal

pub returns : goal.returns
returns c = omega (arith, size-Str (concat (reverse (characters c.args.text.now))), length-reversed c.args.text.now)

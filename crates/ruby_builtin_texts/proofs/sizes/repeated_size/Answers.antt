use Rattle.std.proofs.Common.{arith}
use Rattle.std.specs.List.{repeat}
use Rattle.ruby_builtin_texts.proofs.SizeLaws.{size-Str, length-repeat}
use Rattle.ruby_builtin_texts.proofs.sizes.repeated_size.Goals as goal

pub returns : goal.returns
returns c = omega (arith, size-Str (repeat c.args.times c.args.text.now), length-repeat c.args.times c.args.text.now)

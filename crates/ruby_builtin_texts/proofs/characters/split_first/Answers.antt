use Rattle.std.proofs.Common.{arith}
use Rattle.ruby_builtin_texts.proofs.CharacterLaws.{first_character}
use Rattle.ruby_builtin_texts.proofs.characters.split_first.Goals as goal

pub returns : goal.returns
returns c = (
  first_character c.in_ok-others.field-0-0.now c.inner_len-end.result c.in_ok-others.others.now c.args.text.now
      c.split_at.result.0.now c.split_at.result.1.now c.in_ok-others.ensures.cases.0 c.inner_len-end.ensures.value
      c.split_at.ensures.front c.split_at.ensures.back,
  omega (arith, c.split_at.ensures.back_len),
)

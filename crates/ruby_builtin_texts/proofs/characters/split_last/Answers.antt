use Rattle.std.proofs.Common.{arith, inl, inr, sym, ◌∙◌}
use Rattle.ruby_builtin_texts.proofs.CharacterLaws.{last_byte, last_grows, last_character}
use Rattle.ruby_builtin_texts.proofs.characters.split_last.Goals as goal
use Rattle.ruby_builtin_texts.proofs.characters.split_last.Goals.{then-inner-test+else-is_inner, else-inner-test}

pub inner-init : goal.inner-init
inner-init c = (omega arith, last_byte c.args.text.now c.in_ok-start.start (omega arith))

pub inner-preserved : goal.inner-preserved
inner-preserved c = (
  omega arith,
  last_grows c.args.text.now c.inner.start (omega arith) (omega arith) (sym c.is_inner.ensures ∙ c.if-is_inner.true)
      c.inner.invariant.1,
)

pub returns : goal.returns
returns c = (
  last_character c.args.text.now c.split_at.result.0.now c.split_at.result.1.now c.inner.start (omega arith)
      (elim c.inner-test.branch [
        | then-inner-test+else-is_inner w ↦ inr (sym w.is_inner.ensures ∙ w.if-is_inner.false)
        | else-inner-test w ↦ inl (omega arith)
      ]) c.split_at.ensures.front c.split_at.ensures.back c.inner.invariant.1,
  omega (arith, c.split_at.ensures.front_len),
)

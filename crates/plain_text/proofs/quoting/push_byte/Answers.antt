use Rattle.plain_text.proofs.EscapeLaws.{escaped_nowhere}
use Rattle.std.proofs.Common.{arith}
use Rattle.plain_text.proofs.quoting.push_byte.Goals as goal

pub returns : goal.returns
returns c =
    rw (
      ← escaped_nowhere c.args.escapes.now _ c.args.byte (omega (arith, c.loop-escape-test.false))
          c.loop-escape.invariant.passed,
      ← c.loop-escape.invariant.shown,
    ) c.in_ok-push.ensures.items

use Rattle.std.proofs.Common.{arith}
use Rattle.http_front_head.proofs.ManyLines.{exceeds_line_count, open_exceeds}
use Rattle.http_front_head.proofs.kind.partial_kind.Goals as goal

pub returns-in-None : goal.returns-in-None
returns-in-None c =
    record {
      none = c.requires.0;
      may = c.requires.1;
      few = λ x. (let many = exceeds_line_count c.args.bytes.now x in
          absurd (omega (arith, many, c.in-None.ensures.fewer)));
    }

pub returns-in-Some : goal.returns-in-Some
returns-in-Some c = open_exceeds c.args.bytes.now c.requires.0 c.requires.1 c.in-Some.ensures.there

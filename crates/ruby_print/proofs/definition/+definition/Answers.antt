use Rattle.std.proofs.Common.{arith}
use Rattle.std.proofs.lemmas.Grind.{common_steps}
use Rattle.ruby_print.proofs.StatementLaws.{definitions_inside}
use Rattle.ruby_print.proofs.definition.+definition.Goals as goal

pub push_body-returns : goal.push_body-returns
push_body-returns t c = let e = definitions_inside c.args.indent.now c.args.definitions.now in
    grind (arith, common_steps)

use Rattle.std.proofs.Common.{arith}
use Rattle.load_rules.proofs.Forms.{method_from}
use Rattle.load_rules.proofs.form.method_of.Goals as goal

pub returns-in-Some-clause-only : goal.returns-in-Some-clause-only
returns-in-Some-clause-only c =
    method_from
    c.args.definition.now
    c.in-Method.single
    c.in-Method.name
    c.in-Some.text.now
    c.as_bytes.result.now
    c.in-Method.params
    c.in-Method.body
    c.as_slice.result.now
    c.len.result
    (cc) (cc) (cc) (omega arith) (cc) c.in-Some.ensures.only (cc)

use Rattle.std.proofs.Common.{◌-◌, ap, arith}
use Rattle.std.proofs.lemmas.Bool.{eq-eqb}
use Rattle.program_lookups.specs.Codes.{body_of, method_of}
use Rattle.program_places.specs.Places.{Reads, Statements}
use Rattle.ruby_nodes.specs.Entries.{entry_at}
use Rattle.ruby_machine_entering.proofs.Invoking.{opened_kept}
use Rattle.ruby_machine_entering.proofs.entering.invoke.Goals as goal

pub returns-in-Reads : goal.returns-in-Reads
returns-in-Reads c index known =
    let m = c.args.core.now in
    opened_kept index known m c.args.giving (method_of known c.args.method.now) c.args.on c.args.args.now c.read.result
    c.read.new.core (m.left - 1) (Reads c.in-Reads.name)
    (eq-eqb _ _ (omega (arith, c.if-len.false, c.len.ensures, c.len-2.ensures)))
    (omega (arith, c.if-core-eq0.false)) (ap (body_of known) c.in-Reads.is)
    (c.read.ensures index known (m.left - 1) c.args.args.now)

pub returns-in-Statements : goal.returns-in-Statements
returns-in-Statements c index known =
    let m = c.args.core.now in
    opened_kept index known m c.args.giving (method_of known c.args.method.now) c.args.on c.args.args.now c.enter.result
    c.enter.new.core (m.left - 1) (Statements (entry_at known c.in-Statements.first).body)
    (eq-eqb _ _ (omega (arith, c.if-len.false, c.len.ensures, c.len-2.ensures)))
    (omega (arith, c.if-core-eq0.false)) (ap (body_of known) c.in-Statements.is) (c.enter.ensures index known)

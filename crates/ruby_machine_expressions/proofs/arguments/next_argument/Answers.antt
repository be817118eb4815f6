use Rattle.ruby_machine_frames.proofs.Steps.{args_go, args_end}
use Rattle.ruby_machine_expressions.proofs.arguments.next_argument.Goals as goal

pub returns-in-Some : goal.returns-in-Some
returns-in-Some g c =
    let i = g.P.Lookups.index c.args.program.now in
    let k = g.P.Lookups.entries c.args.program.now in
    args_go i k c.args.core.now c.push_eval.result c.push_eval.new.self c.args.on c.args.name c.args.more
    c.in-Some.first c.in-Some.others c.args.done (rw c.nodes.ensures at c.in-Some.ensures) (c.push_eval.ensures i k)

pub returns-in-None : goal.returns-in-None
returns-in-None g c =
    let i = g.P.Lookups.index c.args.program.now in
    let k = g.P.Lookups.entries c.args.program.now in
    args_end i k c.args.core.now c.call.result c.call.new.core c.args.on c.args.name c.args.more c.args.done
    (rw c.nodes.ensures at c.in-None.ensures) c.call.ensures

use Rattle.std.proofs.Common.{◌+◌, subst}
use Rattle.ruby_machine_frames.specs.Rest.{KeptFrom, load}
use Rattle.ruby_machine_expressions.specs.Arguments.{args_left}
use Rattle.ruby_machine_expressions.proofs.arguments.give_receiver.Goals as goal

pub returns : goal.returns
returns g c =
    let i = g.P.Lookups.index c.args.program.now in
    let k = g.P.Lookups.entries c.args.program.now in
    let m = c.args.core.now in
    subst (λ ds. KeptFrom i k (args_left i k c.args.on c.args.name c.args.first ds m) (load m + 9)
    c.next_argument.result c.next_argument.new.core) c.new.ensures c.next_argument.ensures

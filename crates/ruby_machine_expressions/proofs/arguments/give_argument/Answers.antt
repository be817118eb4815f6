use Rattle.std.proofs.Common.{◌+◌, subst}
use Rattle.ruby_machine_frames.specs.Rest.{KeptFrom, load}
use Rattle.ruby_machine_expressions.specs.Arguments.{args_left}
use Rattle.ruby_machine_expressions.proofs.arguments.give_argument.Goals as goal

pub returns : goal.returns
returns g c =
    let i = g.P.Lookups.index c.args.program.now in
    let k = g.P.Lookups.entries c.args.program.now in
    let m = c.args.core.now in
    subst (λ ds. KeptFrom i k (args_left i k c.args.on c.args.name c.args.more ds m) (load m + 9)
    c.next_argument.result c.next_argument.new.core) c.in_ok-push.ensures.ok c.next_argument.ensures

use Rattle.std.proofs.Common.{◌≡◌, ◌∙◌, arith}
use Rattle.ruby_machine_state.proofs.Variables.{bound_step}
use Rattle.ruby_machine_state.proofs.state.bind.Goals as goal

pub params-preserved : goal.params-preserved
params-preserved c =
    rw (c.in_ok-push.ensures.items, c.in_ok-copy.ensures, c.in_ok-copy-2.ensures)
    (bound_step c.args.params.now c.args.args.now c.params.at c.at.result.now c.at-in-params.result.now
    c.params.locals.items (omega (arith, c.params-test.true, c.len-at-end.ensures)) c.requires c.at.ensures
    c.at-in-params.ensures c.params.invariant)

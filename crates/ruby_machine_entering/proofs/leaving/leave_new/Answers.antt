use Rattle.std.proofs.Common.{◌∙◌, sym}
use Rattle.ruby_machine_entering.proofs.Invoking.{left_new_kept}
use Rattle.ruby_machine_entering.proofs.leaving.leave_new.Goals as goal

pub returns : goal.returns
returns c index known flow is =
    left_new_kept index known c.args.core.now c.go_back-object.new.core c.args.caller c.go_back-object.result flow
    c.made.result c.made.new.core c.go_back-object.ensures.back (is ∙ sym c.go_back-object.ensures.itself)
    (c.made.ensures index known)

use Rattle.reload_checks.proofs.Courses.{check_acts, check_fresh}
use Rattle.shop.proofs.Turns.{if_ok_map}
use Rattle.shop_checks.proofs.Outcomes.{check_reloaded}
use Rattle.shop_checks.proofs.check.check_and_reload.Goals as goal

pub returns-clause-course : goal.returns-clause-course
returns-clause-course g c =
    let is = c.run_check.ensures.checked in
    check_acts g.M.Matter.facts g.M.Reloads.sources c.args.pass.now.number (g.T.Tree.holds c.run_check.new.tree)
    c.args.pass.now.seen c.run_check.result is.0 c.run_check.new.pass.seen is.1.0

pub returns-clause-fresh : goal.returns-clause-fresh
returns-clause-fresh g c =
    let is = c.run_check.ensures.checked in
    if_ok_map c.run_check.result _ _ (λ answer fresh. (is.0, (is.1.1, fresh)))
    (check_fresh g.M.Matter.facts g.M.Reloads.sources c.args.pass.now.number g.met.M.Reloads.has_its_stamps
    g.met.M.Reloads.same_stamps_are (g.T.Tree.holds c.run_check.new.tree) c.args.pass.now.seen c.run_check.result is.0
    c.run_check.new.pass.seen is.1.0)

pub returns-clause-reloaded : goal.returns-clause-reloaded
returns-clause-reloaded g c =
    let is = c.run_check.ensures.checked in
    check_reloaded g.M.Matter.facts g.M.Reloads.sources c.args.pass.now.number (g.T.Tree.holds c.run_check.new.tree)
    c.args.pass.now.seen c.run_check.result is.0 c.run_check.new.pass.seen is.1.0

use Rattle.ruby_machine.proofs.Stops.{stops_as}
use Rattle.ruby_machine.proofs.goes.run_on.Goals as goal

pub returns-in-Ok : goal.returns-in-Ok
returns-in-Ok g c before bound kept =
    let i = g.P.Lookups.index c.args.program.now in
    let k = g.P.Lookups.entries c.args.program.now in
    c.stopped.ensures i k before
    (stops_as i k before c.args.core c.in-Ok.now c.run-stop.result c.run-stop.new.core
    (rw c.in-Ok.is at kept).0 c.run-stop.ensures.runs)

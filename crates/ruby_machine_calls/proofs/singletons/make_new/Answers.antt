use Rattle.std.proofs.Common.{◌+◌}
use Rattle.ruby_machine_names.specs.Steps.{here_of}
use Rattle.ruby_machine_frames.specs.declared.frames.Frame.TheVariants as frame
use Rattle.ruby_machine_frames.specs.Rest.{load}
use Rattle.ruby_machine_calls.proofs.Calling.{needed_kept, new_asks_kept}
use Rattle.ruby_machine_calls.proofs.singletons.make_new.Goals as goal

pub returns-in_ok-copy-in-Asks : goal.returns-in_ok-copy-in-Asks
returns-in_ok-copy-in-Asks g c =
    let i = g.P.Lookups.index c.args.program.now in
    let k = g.P.Lookups.entries c.args.program.now in
    let m = c.args.core.now in
    new_asks_kept i k m c.turn_need.result c.turn_need.new.self c.args.path c.args.args
    ((rw c.in_ok-name.ensures at c.in-Asks.ensures) (here_of m.here))
    (needed_kept i k m c.turn_need.result c.turn_need.new.self (frame.Initialize c.args.path c.args.args)
    c.in_ok-copy-in-Asks.field-0 c.args.path (load m + 1) c.in_ok-copy-in-Asks.ensures (c.turn_need.ensures i k))

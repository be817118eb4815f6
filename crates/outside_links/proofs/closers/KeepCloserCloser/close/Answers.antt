use Rattle.std.proofs.Common.{◌+◌, arith, inr}
use Rattle.outside_links.specs.CloserState.{KeptLinks}
use Rattle.outside_links.proofs.ClosedLinks.{more_got}
use Rattle.outside_links.proofs.closers.KeepCloserCloser.close.Goals as goal

pub returns-else-len-self-clause-told : goal.returns-else-len-self-clause-told
returns-else-len-self-clause-told g c =
    let most = c.self.invariant.1 in
    let after : KeptLinks g.row.L.Denot =
    record { kept = c.self.inside.kept.items; room = c.self.inside.room; count = c.self.inside.count + 1 } in
    inr (more_got after (omega (arith, most)))

use Rattle.std.proofs.Common.{[], length, sym, ap, ◌∙◌, arith}
use Rattle.ruby_nodes.proofs.Lookup.{BelowAll_push, length_entries_from}
use Rattle.ruby_nodes.proofs.Standing.{Extends_pushed, Stands_pushed}
use Rattle.ruby_nodes.proofs.table.NodeTable.push.Goals as goal

pub invariant_of-self-2 : goal.invariant_of-self-2
invariant_of-self-2 c =
    let ns = c.self.inside.nodes.items in
    rw c.in_ok-push.ensures.items (BelowAll_push 0 ns c.args.node (length c.args.self.now)
    (ap length (sym c.self.view_is) ∙ length_entries_from [] ns) c.self.invariant c.requires)

pub returns-clause-extends : goal.returns-clause-extends
returns-clause-extends c =
    Extends_pushed c.self.inside.nodes.items _ c.args.node _ c.self.view_is c.in_ok-push.ensures.items

pub returns-clause-stands : goal.returns-clause-stands
returns-clause-stands c =
    let ns = c.self.inside.nodes.items in
    Stands_pushed ns _ c.args.node _ _ c.self.view_is c.in_ok-push.ensures.items
    (omega (arith, c.in-Ok.ensures, c.len.ensures))

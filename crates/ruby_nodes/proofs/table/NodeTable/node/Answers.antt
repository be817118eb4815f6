use Rattle.std.proofs.Common.{◌≡◌, [], length, sym, ap, ◌∙◌, arith, subst}
use Rattle.std.proofs.Math.ListN.{get_or-eq_default}
use Rattle.ruby_nodes.proofs.Lookup.{BelowAll_at, entry_at_is_entry_of_node, length_entries_from}
use Rattle.ruby_nodes.specs.Entries.{Below, entry_at, entry_of, no_entry}
use Rattle.ruby_nodes.proofs.table.NodeTable.node.Goals as goal

pub returns-then-at-len-clause-stands : goal.returns-then-at-len-clause-stands
returns-then-at-len-clause-stands c =
    let ns = c.self.inside.nodes.items in
    let n = c.index.result.now in
    subst (λ known. entry_at known c.args.at ≡ entry_of known n) c.self.view_is
    (entry_at_is_entry_of_node ns c.args.at n (omega arith) c.self.invariant ∙ ap (entry_of _) (sym c.index.ensures))

pub returns-else-at-len-clause-stands : goal.returns-else-at-len-clause-stands
returns-else-at-len-clause-stands c =
    let ns = c.self.inside.nodes.items in
    get_or-eq_default c.args.self.now no_entry
    (omega (arith, ap length c.self.view_is, length_entries_from [] ns, c.if-at-len.false, c.len.ensures))

pub returns-then-at-len-clause-children : goal.returns-then-at-len-clause-children
returns-then-at-len-clause-children c =
    let ns = c.self.inside.nodes.items in
    let n = c.index.result.now in
    subst (Below c.args.at) (sym c.index.ensures)
    (BelowAll_at 0 ns c.args.at c.args.at n (omega arith) (omega arith) c.self.invariant)

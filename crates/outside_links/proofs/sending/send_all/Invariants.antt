use Rattle.std.proofs.Common.{length, take, ◌-◌, ◌≡◌, ◌≤◌}
use Rattle.outside.specs.Told.{appended}
use Rattle.outside_links.proofs.sending.send_all.Given as goal

abbrev pub invariant-pieces : goal.invariant-pieces
invariant-pieces g l = record {
  within : l.sent ≤ length l.bytes;
  written : g.L.Link.was_written l.link ≡ appended (g.L.Link.was_written l.fn.link) (take l.sent l.bytes);
  faults : g.L.Link.write_faults l.link ≡ g.L.Link.write_faults l.fn.link;
  read : g.L.Link.was_read l.link ≡ g.L.Link.was_read l.fn.link;
  left : g.L.Link.left l.link ≡ g.L.Link.left l.fn.link;
  read_faults : g.L.Link.read_faults l.link ≡ g.L.Link.read_faults l.fn.link;
}

abbrev pub decreases-pieces : goal.decreases-pieces
decreases-pieces g l = length l.bytes - l.sent

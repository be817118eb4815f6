use Rattle.std.proofs.Common.{◌≤◌, ◌-◌, length, take, drop, ◌∙◌, arith, length-drop}
use Rattle.std.proofs.lemmas.List.{take_rest}
use Rattle.outside.proofs.ToldLaws.{sent_more}
use Rattle.outside_links.proofs.sending.send_all.Goals as goal

pub pieces-preserved : goal.pieces-preserved
pieces-preserved g c =
    let fits : c.in-Took.count ≤ length
    (take (length c.args.bytes.now - c.pieces.sent) (drop c.pieces.sent c.args.bytes.now)) =
    c.in-Took.ensures.piece.1 in
    let room : c.in-Took.count ≤ length c.args.bytes.now - c.pieces.sent = simp (take_rest, length-drop) at fits in
    record {
      within = omega arith;
      written = sent_more _ _ _ _ _ c.args.bytes.now c.pieces.invariant.written c.in-Took.ensures.bytes;
      faults = c.in-Took.ensures.faults ∙ c.pieces.invariant.faults;
      read = c.in-Took.ensures.read ∙ c.pieces.invariant.read;
      left = c.in-Took.ensures.left ∙ c.pieces.invariant.left;
      read_faults = c.in-Took.ensures.read_faults ∙ c.pieces.invariant.read_faults;
    }

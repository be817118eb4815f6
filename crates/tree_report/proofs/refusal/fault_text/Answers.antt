use Rattle.std.proofs.Common.{append_assoc}
use Rattle.tree_report.proofs.refusal.fault_text.Goals as goal

pub returns : goal.returns
returns c = simp append_assoc (rw c.fault_name-name.ensures at c.in_ok-text.ensures.ok)

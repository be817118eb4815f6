use Rattle.std.proofs.Common.{◌∙◌, sym}
use Rattle.outside.specs.Tree.{stamps_of}
use Rattle.program_snapshots.proofs.StampLaws.{stamps_decide}
use Rattle.snapshot_changes.proofs.stamps.have_same_stamps.Goals as goal

pub returns : goal.returns
returns c =
    let decides = stamps_decide (stamps_of c.args.before.now) c.args.after.now in record {
      test = c.are_same.ensures;
      stamps = (λ t. decides.0 (sym c.are_same.ensures ∙ t), λ e. c.are_same.ensures ∙ decides.1 e);
    }

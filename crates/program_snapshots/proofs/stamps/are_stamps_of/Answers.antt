use Rattle.std.proofs.Common.{◌∙◌, sym}
use Rattle.program_snapshots.proofs.StampLaws.{stamps_decide}
use Rattle.program_snapshots.proofs.stamps.are_stamps_of.Goals as goal

pub returns : goal.returns
returns c =
    let decides = stamps_decide c.args.stamps.now c.args.files.now in (
      λ t. decides.0 (sym c.are_same.ensures ∙ t),
      λ e. c.are_same.ensures ∙ decides.1 e,
    )

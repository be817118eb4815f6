use Rattle.std.proofs.Common.{◌∙◌}
use Rattle.app_config.proofs.MatchLaws.{segment_fits-step}
use Rattle.app_config.proofs.matching.segment_fits.Goals as goal

pub returns-in-Some-more : goal.returns-in-Some-more
returns-in-Some-more c =
    let parts = rw c.in-Some-more.is at c.cut_at.ensures.parts in
    c.some_end_fits.ensures ∙ segment_fits-step c.args.pattern.now c.cut_at.result.0.now c.in-Some-more.next.now
    c.args.segment.now _ parts c.in-Some.ensures

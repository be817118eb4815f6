use Rattle.std.proofs.Common.{sym, ◌∙◌}
use Rattle.app_config.proofs.MatchLaws.{last_segment, pattern_is_longer}
use Rattle.app_config.proofs.patterns.segments_fit.Goals as goal

pub returns-in_default : goal.returns-in_default
returns-in_default c =
    let wanted = rw c.in_default.is at c.cut_at.ensures.parts in
    last_segment c.segments.pattern.now c.segments.path.now c.cut_at.result.0.now c.cut_at-in-segments.result.0.now
    c.cut_at-in-segments.result.1 c.is_none.result
    wanted c.cut_at-in-segments.ensures.parts (sym c.segment_fits.ensures ∙ c.if-not-segment_fits.false)
    c.is_none.ensures ∙ c.segments.invariant

pub returns-in_default-below : goal.returns-in_default-below
returns-in_default-below c =
    let wanted = rw c.in-Some.is at c.cut_at.ensures.parts in
    let segment = rw c.in_default-below.is at c.cut_at-in-segments.ensures.parts in
    pattern_is_longer c.segments.pattern.now c.segments.path.now c.cut_at.result.0.now c.cut_at-in-segments.result.0.now
    c.in-Some.next_pattern.now wanted segment ∙ c.segments.invariant

use Rattle.std.proofs.Common.{◌∙◌}
use Rattle.app_config.proofs.MatchLaws.{some_end_fits-last, some_end_fits-step}
use Rattle.app_config.proofs.matching.some_end_fits.Goals as goal

pub returns-in_default : goal.returns-in_default
returns-in_default c =
    let parts = rw c.in_default.is at c.cut_at.ensures.parts in
    some_end_fits-last c.stars.pattern.now c.cut_at.result.0.now c.stars.segment.now c.ends_with.result parts
    c.ends_with.ensures.value ∙ c.stars.invariant

pub returns-in_default-behind_first : goal.returns-in_default-behind_first
returns-in_default-behind_first c =
    let parts = rw c.in-Some.is at c.cut_at.ensures.parts in
    some_end_fits-step c.stars.pattern.now c.cut_at.result.0.now c.in-Some.next.now c.stars.segment.now _ parts
    c.in_default-behind_first.ensures ∙ c.stars.invariant

pub stars-preserved : goal.stars-preserved
stars-preserved c =
    let parts = rw c.in-Some.is at c.cut_at.ensures.parts in
    some_end_fits-step c.stars.pattern.now c.cut_at.result.0.now c.in-Some.next.now c.stars.segment.now _ parts
    c.in-Some-behind_first.ensures ∙ c.stars.invariant

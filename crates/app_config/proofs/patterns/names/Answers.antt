use Rattle.std.proofs.Common.{sym, ◌∙◌}
use Rattle.app_config.specs.Paths.{segments}
use Rattle.app_config.proofs.MatchLaws.{AllZip-from_test, test-from_AllZip}
use Rattle.app_config.proofs.patterns.names.Goals as goal

pub returns : goal.returns
returns c =
    let wanted = segments c.args.pattern.now in
    let below = segments c.args.path.now in (
      λ t. AllZip-from_test wanted below (sym c.segments_fit.ensures ∙ t),
      λ h. c.segments_fit.ensures
          ∙ test-from_AllZip wanted below h,
    )

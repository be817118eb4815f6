use Rattle.std.proofs.Common.{List, Option, None, replicate, subst, sym, ◌∙◌, ap}
use Rattle.program_places.specs.Paths.{Path}
use Rattle.program_used.specs.Constants.{AreConstants, put_rows}
use Rattle.program_used.proofs.ConstantLaws.{constants_put}
use Rattle.program_used.proofs.constants.used_constants.Goals as goal

pub returns : goal.returns
returns c =
    subst (λ (os : List (Option Path)). AreConstants c.args.sites.now.spelled c.args.files os)
    (sym (c.in_ok-put_rows.ensures ∙ ap (λ os. put_rows os c.rows.result.now) c.in_ok-constants.ensures))
    (constants_put c.args.sites.now.spelled c.rows.result.now c.rows.ensures.sites c.rows.ensures.complete c.args.files)

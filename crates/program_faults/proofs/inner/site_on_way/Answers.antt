use Rattle.std.proofs.Common.{◌∙◌, sym, ap, cond, Some, None}
use Rattle.program_places.specs.Paths.{Path}
use Rattle.program_files.specs.Files.{has_site}
use Rattle.program_faults.specs.Read.{used_all}
use Rattle.program_faults.proofs.InnerLaws.{none_outside, first_inside}
use Rattle.program_faults.proofs.inner.site_on_way.Goals as goal

pub returns-in_ok-one_longer : goal.returns-in_ok-one_longer
returns-in_ok-one_longer c =
    let test = rw (c.as_slice.ensures, c.as_slice-2.ensures) at c.is_above.ensures in
    c.sited.ensures
    ∙ ap (λ (x : Path). cond (has_site (used_all c.args.files.now.files.now) x) (Some x) None)
    c.in_ok-one_longer.ensures
    ∙ sym (first_inside (used_all c.args.files.now.files.now) c.args.constant.now c.args.path.now
    (sym test ∙ c.if-is_above.true))

pub returns-else-is_above : goal.returns-else-is_above
returns-else-is_above c =
    let test = rw (c.as_slice.ensures, c.as_slice-2.ensures) at c.is_above.ensures in
    none_outside (used_all c.args.files.now.files.now) c.args.constant.now c.args.path.now
    (sym test ∙ c.if-is_above.false)

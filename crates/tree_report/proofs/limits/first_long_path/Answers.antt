use Rattle.std.proofs.Common.{◌∙◌, sym}
use Rattle.tree_report.proofs.LimitLaws.{first_long_is, none_is_long, if_none}
use Rattle.tree_report.proofs.limits.first_long_path.Goals as goal

pub returns-clause-found : goal.returns-clause-found
returns-clause-found c =
    let r = first_long_is c.args.files.now c.in_ok-file.file.now (sym c.in_ok-file.ensures) in
    (r.0, r.1, r.2, r.3, r.4, r.5, c.len.ensures ∙ r.6)

pub returns-in_err-file-clause-none : goal.returns-in_err-file-clause-none
returns-in_err-file-clause-none c = if_none c.from_residual.result _
    (none_is_long c.args.files.now (sym c.in_err-file.ensures))

use Rattle.std.proofs.Common.{subst}
use Rattle.reload_checks.specs.Checks.{faulty, build_lacks}
use Rattle.reload_checks.proofs.looks.build.Goals as goal

pub returns-in-Ok-Err-clause-refused : goal.returns-in-Ok-Err-clause-refused
returns-in-Ok-Err-clause-refused g c =
    faulty c.args.snapshot.files c.in-Ok-Err.fault
    (subst (g.M.Reloads.sources.Builds c.args.snapshot.files) c.in-Ok-Err.field-0-is c.in-Ok-Err.ensures)

pub returns-in-Err-clause-refused : goal.returns-in-Err-clause-refused
returns-in-Err-clause-refused g c = build_lacks c.args.snapshot.files

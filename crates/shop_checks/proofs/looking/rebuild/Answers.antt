use Rattle.std.proofs.Common.{[], ◌∷◌}
use Rattle.reload_checks.specs.Checks.{files_read}
use Rattle.shop_checks.specs.Tries.{gives_none, gives_one}
use Rattle.shop_checks.proofs.looking.rebuild.Goals as goal

pub returns-in-Ok-clause-rebuilt : goal.returns-in-Ok-clause-rebuilt
returns-in-Ok-clause-rebuilt g c =
    let read = c.in-Ok.ensures.built in (
      files_read read.0 ∷ [],
      (
        gives_one read.0 c.in-Ok.program c.try_program.result c.try_program.new.pass.seen read.1 read.3
            c.try_program.ensures.tried,
        read.2,
      ),
    )

pub returns-in-Err-clause-rebuilt : goal.returns-in-Err-clause-rebuilt
returns-in-Err-clause-rebuilt g c =
    let read = c.in-Err.ensures.refused in (read.0, (gives_none c.in-Err.fault read.0 read.1, read.2))

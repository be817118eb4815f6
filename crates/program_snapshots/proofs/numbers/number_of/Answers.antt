use Rattle.program_snapshots.proofs.NumberLaws.{path_found, path_missing}
use Rattle.program_snapshots.proofs.numbers.number_of.Goals as goal

pub returns-in-Ok-clause-found : goal.returns-in-Ok-clause-found
returns-in-Ok-clause-found c =
    path_found c.args.files.now c.args.path.now c.in-Ok.place c.in-Ok.ensures.bound c.in-Ok.ensures.position

pub returns-in-Err-clause-none : goal.returns-in-Err-clause-none
returns-in-Err-clause-none c =
    path_missing c.args.files.now c.args.path.now c.in-Err.field-0 c.requires.rising c.in-Err.ensures.bound
    c.in-Err.ensures.position

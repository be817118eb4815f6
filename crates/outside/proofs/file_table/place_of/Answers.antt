use Rattle.outside.proofs.TableLaws.{answers_rise, found_path, found_place, no_path, missing_place}
use Rattle.outside.proofs.file_table.place_of.Goals as goal

pub returns-in-Ok-clause-found : goal.returns-in-Ok-clause-found
returns-in-Ok-clause-found c =
    let found = c.in-Ok.ensures in (
      found_path c.args.files.now c.args.path.now c.requires c.in-Ok.place found.bound found.position,
      found_place c.args.files.now c.args.path.now c.requires c.in-Ok.place found.bound found.position,
    )

pub returns-in-Err-clause-missing : goal.returns-in-Err-clause-missing
returns-in-Err-clause-missing c =
    let parted = c.in-Err.ensures.position (answers_rise c.args.files.now c.args.path.now c.requires) in (
      no_path c.args.files.now c.args.path.now c.requires c.in-Err.place c.in-Err.ensures.bound parted,
      missing_place c.args.files.now c.args.path.now c.requires c.in-Err.place c.in-Err.ensures.bound parted,
    )

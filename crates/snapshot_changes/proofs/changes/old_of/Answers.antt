use Rattle.std.proofs.Common.{◌∙◌, sym}
use Rattle.snapshot_changes.proofs.Found.{file_is_found, none_is_found}
use Rattle.snapshot_changes.proofs.changes.old_of.Goals as goal

pub returns-in-Some : goal.returns-in-Some
returns-in-Some c = c.file_at.ensures
    ∙ file_is_found c.args.files.now c.args.path.now c.in-Some.number c.requires.rising c.in-Some.ensures.found

pub returns-in-None : goal.returns-in-None
returns-in-None c = sym (none_is_found c.args.files.now c.args.path.now c.in-None.ensures.none)

use Rattle.std.proofs.Common.{◌∙◌, sym, ap}
use Rattle.program_places.specs.Paths.{Path, begins}
use Rattle.program_index.specs.Content.{used_files}
use Rattle.program_index.specs.Lookups.{IsUsedAt}
use Rattle.program_index.proofs.FileLaws.{near_told, near_none_to}
use Rattle.program_index.proofs.OneLaws.{one_files}
use Rattle.program_index.proofs.lookups.ProgramLookups.near.Goals as goal

pub returns-in_default-used_at : goal.returns-in_default-used_at
returns-in_default-used_at c =
    let p = c.args.self.now in
    near_none_to (used_files p) (one_files p.files p c.is_of_its_files.ensures) c.args.from.now c.args.to.now
    c.in_default-used_at.ensures

pub returns : goal.returns
returns c =
    let p = c.args.self.now in
    let from : IsUsedAt p c.args.from.now c.in-Some.near = c.in-Some.ensures in
    let to : IsUsedAt p c.args.to.now c.in-Some-used_at.owner = c.in-Some-used_at.ensures in
    c.begins.ensures
    ∙ ap (λ (a : Path). begins a c.as_slice-2.result.now) (c.as_slice.ensures ∙ sym to.constant)
    ∙ ap (begins to.file.constant) (c.as_slice-2.ensures ∙ sym from.constant)
    ∙ near_told (used_files p) (one_files p.files p c.is_of_its_files.ensures) c.args.from.now c.args.to.now from.file
    to.file from.found to.found

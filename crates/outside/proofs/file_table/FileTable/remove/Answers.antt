use Rattle.std.proofs.Common.{◌≡◌, ◌+◌, List, ◌∙◌, sym, subst}
use Rattle.outside.specs.declared.files.FileEntry.{FileEntry}
use Rattle.outside.specs.Order.{Rising}
use Rattle.outside.specs.Tree.{paths_of}
use Rattle.outside.specs.Table.{IsPlace, without_file}
use Rattle.outside.proofs.TableLaws.{remove_at_place, without_rises}
use Rattle.outside.proofs.file_table.FileTable.remove.Goals as goal

pub invariant_of-self : goal.invariant_of-self
invariant_of-self c =
    let place : IsPlace c.self.inside.files.items c.args.path.now c.in-Ok.place (c.in-Ok.place + 1) =
    rw c.as_slice.ensures.value at c.in-Ok.ensures.found.1 in
    let is : c.take_out.new.files.items ≡ without_file c.args.path.now c.self.inside.files.items = c.take_out.ensures
    ∙ remove_at_place c.self.inside.files.items c.args.path.now c.in-Ok.place place in
    subst (λ (files : List FileEntry). Rising (paths_of files)) (sym is)
    (without_rises c.self.inside.files.items c.args.path.now c.self.invariant)

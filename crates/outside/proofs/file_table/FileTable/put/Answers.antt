use Rattle.std.proofs.Common.{◌≡◌, ◌+◌, List, ◌∙◌, sym, subst, ap}
use Rattle.outside.specs.declared.files.FileEntry.{FileEntry}
use Rattle.outside.specs.Order.{Rising}
use Rattle.outside.specs.Tree.{paths_of}
use Rattle.outside.specs.Table.{IsPlace, with_file}
use Rattle.outside.proofs.TableLaws.{set_at_place, insert_at_place, with_rises}
use Rattle.outside.proofs.file_table.FileTable.put.Goals as goal

replaced : (c : goal.After-replace_at) → c.replace_at.new.files.items ≡ with_file c.args.file c.self.inside.files.items
replaced c =
    let place : IsPlace c.self.inside.files.items c.args.file.path c.in-Ok.place (c.in-Ok.place + 1) =
    rw (c.as_slice.ensures.value, c.as_bytes.ensures) at c.in-Ok.ensures.found.1 in
    c.replace_at.ensures ∙ set_at_place c.self.inside.files.items c.args.file c.in-Ok.place place

pub invariant_of-self : goal.invariant_of-self
invariant_of-self c = subst (λ (files : List FileEntry). Rising (paths_of files)) (sym (replaced c))
    (with_rises c.self.inside.files.items c.args.file c.self.invariant)

pub invariant_of-self-in-Continue-1 : goal.invariant_of-self-in-Continue-1
invariant_of-self-in-Continue-1 c =
    let place : IsPlace c.self.inside.files.items c.args.file.path c.in-Err.place c.in-Err.place =
    rw (c.as_slice.ensures.value, c.as_bytes.ensures) at c.in-Err.ensures.missing.1 in
    let is : c.insert.new.self.items ≡ with_file c.args.file c.self.inside.files.items =
    c.in_ok-insert-in-Err.ensures.items
    ∙ insert_at_place c.self.inside.files.items c.args.file c.in-Err.place place in
    subst (λ (files : List FileEntry). Rising (paths_of files)) (sym is)
    (with_rises c.self.inside.files.items c.args.file c.self.invariant)

pub returns-in-Ok-clause-ok : goal.returns-in-Ok-clause-ok
returns-in-Ok-clause-ok c = replaced c ∙ ap (with_file c.args.file) c.self.view_is

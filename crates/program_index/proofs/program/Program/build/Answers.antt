use Rattle.std.proofs.Common.{◌∙◌, ◌<◌, ◌^◌, List, Option, All, length, sym, subst}
use Rattle.outside.specs.declared.files.FileEntry.{FileEntry}
use Rattle.program_places.specs.Paths.{Path}
use Rattle.program_texts.specs.Read.{IsNamed}
use Rattle.tree_report.proofs.LimitLaws.{small_files}
use Rattle.program_index.proofs.ProgramLaws.{named_all}
use Rattle.program_index.proofs.program.Program.build.Goals as goal

pub read_texts-requires-clause-small : goal.read_texts-requires-clause-small
read_texts-requires-clause-small c =
    let sited = c.in_ok-sited.ensures.sited in
    subst (λ (fs : List FileEntry). All (λ (f : FileEntry). length f.bytes < 2 ^ 32) fs)
    (sym (c.as_slice.ensures ∙ sited.same)) (small_files c.args.snapshot.files sited.within)

pub read_texts-requires-clause-named : goal.read_texts-requires-clause-named
read_texts-requires-clause-named c =
    let sited = c.in_ok-sited.ensures.sited in
    subst (λ (cs : List (Option Path)). All IsNamed cs) (sym c.as_slice-2.ensures.value)
    (named_all c.in_ok-sited.sited.sites.spelled (length c.args.snapshot.files) c.in_ok-sited.sited.constants.items
    sited.are_constants)

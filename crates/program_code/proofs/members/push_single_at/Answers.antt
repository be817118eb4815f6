use Rattle.std.proofs.Common.{◌≡◌, List, None, slice_get, sym, subst, arith}
use Rattle.std.proofs.lemmas.List.{length-map}
use Rattle.std.proofs.lemmas.Option.{slice_get_past}
use Rattle.program_places.specs.Places.{Method}
use Rattle.program_files.specs.Contents.{single_what}
use Rattle.program_entries.specs.Seen.{seen, seen_all}
use Rattle.program_methods.specs.Methods.{Adds}
use Rattle.program_methods.proofs.CodeLaws.{adds_none}
use Rattle.program_code.specs.Groups.{file_named}
use Rattle.program_code.proofs.SeenLaws.{given_none}
use Rattle.program_code.proofs.members.push_single_at.Goals as goal

pub returns-else-place-entries-clause-added : goal.returns-else-place-entries-clause-added
returns-else-place-entries-clause-added c =
    let es = c.args.entries.now in
    let size = length-map es seen in
    let past : slice_get (seen_all es) c.args.place ≡ None =
    slice_get_past (seen_all es) c.args.place (omega (arith, c.if-place-entries.false, size)) in
    subst (λ (ms : List Method). Adds c.args.nodes.now c.args.methods.now.items c.args.methods.now.items ms)
    (sym (given_none (single_what (file_named c.args.file.now)) (seen_all es) c.args.place past))
    (adds_none c.args.nodes.now c.args.methods.now.items)

use Rattle.std.proofs.Common.{◌≡◌, ◌∙◌, List, length, Some, None, slice_get, refl, sym, ap, subst, arith}
use Rattle.std.specs.Prelude.{OnOk}
use Rattle.std.specs.Option.{option_map}
use Rattle.std.proofs.lemmas.List.{length-map}
use Rattle.std.proofs.lemmas.Option.{slice_get_read, slice_get-map, slice_get_past}
use Rattle.program_places.specs.Places.{Method}
use Rattle.program_files.specs.Contents.{instance_what}
use Rattle.program_entries.specs.Seen.{seen, seen_all}
use Rattle.program_methods.specs.Methods.{Adds}
use Rattle.program_methods.proofs.CodeLaws.{adds_none}
use Rattle.program_code.specs.Groups.{file_named}
use Rattle.program_code.proofs.SeenLaws.{given_one, given_none}
use Rattle.program_code.proofs.members.push_instances_at.Goals as goal

pub returns-then-place-entries-clause-added : goal.returns-then-place-entries-clause-added
returns-then-place-entries-clause-added c =
    let es = c.args.entries.now in
    let k = c.args.place in
    let d = c.index-entries-place.result in
    let there : slice_get (seen_all es) k ≡ Some (seen d) = slice_get-map seen es k
    ∙ ap (option_map seen) (slice_get_read es (length es) k d refl c.if-place-entries.true c.index-entries-place.is) in
    subst (λ (ms : List Method). OnOk c.push_instances.result
    (Adds c.push_instances.new.nodes c.args.methods.now.items c.push_instances.new.methods.items ms))
    (sym (given_one (instance_what (file_named c.args.file.now)) (seen_all es) k (seen d) there))
    c.push_instances.ensures.added

pub returns-else-place-entries-clause-added : goal.returns-else-place-entries-clause-added
returns-else-place-entries-clause-added c =
    let es = c.args.entries.now in
    let size = length-map es seen in
    let past : slice_get (seen_all es) c.args.place ≡ None =
    slice_get_past (seen_all es) c.args.place (omega (arith, c.if-place-entries.false, size)) in
    subst (λ (ms : List Method). Adds c.args.nodes.now c.args.methods.now.items c.args.methods.now.items ms)
    (sym (given_none (instance_what (file_named c.args.file.now)) (seen_all es) c.args.place past))
    (adds_none c.args.nodes.now c.args.methods.now.items)

use Rattle.std.proofs.Common.{◌≡◌, ◌∙◌, Option, length, Some, slice_get, refl, sym, ap, subst, arith}
use Rattle.std.specs.Prelude.{IfOk}
use Rattle.std.specs.Option.{option_map}
use Rattle.std.proofs.lemmas.List.{length-map}
use Rattle.std.proofs.lemmas.Option.{same_Some, slice_get_read, slice_get_within, slice_get-map}
use Rattle.program_entries.specs.Seen.{seen, seen_all}
use Rattle.program_files.specs.Faults.{Kind, kind_of}
use Rattle.program_code.specs.Codes.{IsContentSo}
use Rattle.program_code.specs.Definitions.{IsFirstAt}
use Rattle.program_code.specs.Groups.{file_named}
use Rattle.program_code.specs.Seen.{placed}
use Rattle.program_code.proofs.content.content_of.Goals as goal

pub returns-clause-code : goal.returns-clause-code
returns-clause-code c =
    let es = c.args.entries.now in
    let k = c.in-Some.place in
    let d = c.index-entries-place.result in
    let first : IsFirstAt (seen_all es) c.args.group.now k = c.in-Some.ensures in
    let within = slice_get_within (seen_all es) k first.entry first.at in
    let size = length-map es seen in
    let there : slice_get (seen_all es) k ≡ Some (seen d) = slice_get-map seen es k
    ∙ ap (option_map seen)
    (slice_get_read es (length es) k d refl (omega (arith, within, size)) c.index-entries-place.is) in
    let kind = first.first ∙ ap kind_of (same_Some first.entry (seen d) (sym first.at ∙ there)) in
    subst (λ (o : Option Kind). IfOk c.content_by.result (IsContentSo c.content_by.new.nodes
    (file_named c.args.file.now) (placed (seen_all es) c.args.group.now) o)) (sym kind) c.content_by.ensures.code

use Rattle.std.proofs.Common.{◌≡◌, ◌∙◌, ◌++◌, map, None, slice_get, sym, ap, append-nil, arith}
use Rattle.std.proofs.lemmas.List.{length-map}
use Rattle.std.proofs.lemmas.Option.{slice_get_past}
use Rattle.program_files.specs.Contents.{include_what}
use Rattle.program_entries.specs.Seen.{seen, seen_all}
use Rattle.program_lookups.specs.Codes.{mention_of}
use Rattle.program_code.proofs.SeenLaws.{given_none}
use Rattle.program_code.proofs.members.push_include_at.Goals as goal

pub returns-else-place-entries : goal.returns-else-place-entries
returns-else-place-entries c =
    let es = c.args.entries.now in
    let size = length-map es seen in
    let past : slice_get (seen_all es) c.args.place ≡ None =
    slice_get_past (seen_all es) c.args.place (omega (arith, c.if-place-entries.false, size)) in
    let mentions = map mention_of c.args.mentions.now.items in
    sym (append-nil mentions)
    ∙ ap (λ xs. mentions ++ xs) (sym (given_none include_what (seen_all es) c.args.place past))

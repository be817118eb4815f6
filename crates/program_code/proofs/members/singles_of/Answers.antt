use Rattle.std.proofs.Common.{◌≡◌, ◌∙◌, ◌+◌, ◌++◌, ◌∷◌, [], List, get_or, take, sym, ap, subst}
use Rattle.std.proofs.lemmas.List.{take_more}
use Rattle.program_places.specs.Places.{Method}
use Rattle.program_files.specs.Contents.{single_what}
use Rattle.program_entries.specs.Seen.{seen_all}
use Rattle.ruby_nodes.proofs.Standing.{Extends_trans}
use Rattle.program_methods.specs.Methods.{Adds}
use Rattle.program_methods.proofs.CodeLaws.{adds_more}
use Rattle.program_code.specs.Groups.{file_named, given}
use Rattle.program_code.specs.Seen.{placed}
use Rattle.program_code.proofs.SeenLaws.{given_more}
use Rattle.program_code.proofs.members.singles_of.Goals as goal

pub places-preserved : goal.places-preserved
places-preserved c =
    let all = seen_all c.args.entries.now in
    let group = c.args.group.now in
    let k = c.places.place-index in
    let what = single_what (file_named c.args.file.now) in
    let place = get_or group k 0 in
    let taken : take (k + 1) group ≡ take k group ++ place ∷ [] = take_more group k 0 c.places-test.true in (
      Extends_trans c.places.invariant.0 c.push_single_at.ensures.extends,
      subst (λ (ms : List Method). Adds c.push_single_at.new.nodes [] c.push_single_at.new.methods.items ms)
          (sym (ap (λ ks. given what (placed all ks)) taken ∙ given_more what all (take k group) place))
          (adds_more c.push_single_at.ensures.extends c.places.invariant.1 c.in_ok-push_single_at.ensures.added),
    )

use Rattle.std.proofs.Common.{◌≡◌, ◌≢◌, ◌∙◌, ◌+◌, ◌++◌, ◌∷◌, [], ℕ, None}
use Rattle.std.proofs.Common.{take, sym, ap, subst, arith}
use Rattle.std.specs.Global.{Vec}
use Rattle.std.proofs.lemmas.List.{take_more, map-append, length-map, get_or-map}
use Rattle.std.proofs.lemmas.List.Elements.{All-get_or}
use Rattle.program_entries.specs.Seen.{seen_all}
use Rattle.ruby_nodes.proofs.Standing.{Extends_trans}
use Rattle.program_code.specs.Codes.{AddsContents, IsContentBy}
use Rattle.program_code.specs.Groups.{file_named, first_kind}
use Rattle.program_code.specs.Seen.{placed, placed_groups}
use Rattle.program_code.proofs.ContentLaws.{contents_more}
use Rattle.program_code.proofs.file.push_contents.Goals as goal

pub content_of-requires : goal.content_of-requires
content_of-requires c =
    let all = seen_all c.args.entries.now in
    let gs = c.args.groups.now in
    let k = c.places.place in
    let g = c.index-groups-place.result in
    let items = λ (v : Vec ℕ). placed all v.items in
    let size = length-map gs items in
    let here = All-get_or (λ es. first_kind es ≢ None) (placed_groups all gs) k []
    (omega (arith, size, c.places-test.true)) c.requires in
    subst (λ es. first_kind es ≢ None)
    (get_or-map items gs k g [] c.places-test.true ∙ ap items (sym c.index-groups-place.is)
    ∙ ap (placed all) (sym c.as_slice.ensures.value)) here

pub places-preserved : goal.places-preserved
places-preserved c =
    let all = seen_all c.args.entries.now in
    let gs = c.args.groups.now in
    let k = c.places.place in
    let g = c.index-groups-place.result in
    let items = λ (v : Vec ℕ). placed all v.items in
    let nodes = c.content_of.new.nodes in
    let file = file_named c.args.file.now in
    let taken : take (k + 1) gs ≡ take k gs ++ g ∷ [] =
    take_more gs k g c.places-test.true ∙ ap (λ x. take k gs ++ x ∷ []) (sym c.index-groups-place.is) in
    let code : IsContentBy nodes file (placed all g.items) c.in_ok-code.code =
    subst (λ ks. IsContentBy nodes file (placed all ks) c.in_ok-code.code) c.as_slice.ensures.value
    c.in_ok-code.ensures.code in (
      Extends_trans c.places.invariant.0 c.content_of.ensures.extends,
      subst (AddsContents nodes file c.args.codes.now.items c.push_code.new.codes.items)
          (sym (ap (placed_groups all) taken ∙ map-append items (take k gs) (g ∷ [])))
          (contents_more (placed all g.items) c.in_ok-code.code c.content_of.ensures.extends c.places.invariant.1
          c.in_ok-push_code.ensures code),
    )

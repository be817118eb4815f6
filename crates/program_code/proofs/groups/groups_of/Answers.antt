use Rattle.std.proofs.Common.{◌≡◌, ◌∙◌, ◌+◌, ◌++◌, ◌∷◌, [], List, length, replicate, take}
use Rattle.std.proofs.Common.{Some, slice_get, refl, sym, ap}
use Rattle.std.specs.Option.{option_map}
use Rattle.std.proofs.lemmas.List.{take_more}
use Rattle.std.proofs.lemmas.Option.{slice_get_read, slice_get_within, slice_get-map, get_or_from_slice_get}
use Rattle.program_places.specs.Paths.{Path}
use Rattle.program_constants.specs.Constants.{first_place}
use Rattle.program_entries.specs.Seen.{seen, seen_all}
use Rattle.program_entries.specs.declared.entry.Entry.{Entry}
use Rattle.program_code.specs.Groups.{add_in, groups}
use Rattle.program_code.specs.Seen.{placed_groups}
use Rattle.program_code.proofs.GroupLaws.{groups_empty, groups_more}
use Rattle.program_code.proofs.groups.groups_of.Goals as goal

pub places-init : goal.places-init
places-init c = c.in_ok-groups.ensures (seen_all c.args.entries.now)
    ∙ ap (λ (t : List Path). replicate (length t) []) c.constants.ensures
    ∙ groups_empty c.args.table.now

pub places-preserved : goal.places-preserved
places-preserved c =
    let es = c.args.entries.now in
    let all = seen_all es in
    let k = c.places.place in
    let d = c.index-entries-place.result in
    let e = seen d in
    let paths = c.args.table.now in
    let there : slice_get all k ≡ Some e = slice_get-map seen es k
    ∙ ap (option_map seen) (slice_get_read es (length es) k d refl c.places-test.true c.index-entries-place.is) in
    let taken : take (k + 1) all ≡ take k all ++ e ∷ [] = take_more all k e (slice_get_within all k e there)
    ∙ ap (λ x. take k all ++ x ∷ []) (get_or_from_slice_get all k e e there) in
    c.in_ok-push_entry.ensures all e there
    ∙ ap (λ (x : Entry). add_in (placed_groups all c.places.groups.items) (first_place x.constant paths) e)
    (sym c.index-entries-place.is)
    ∙ ap (λ gs. add_in gs (first_place e.constant paths) e) c.places.invariant
    ∙ sym (groups_more (take k all) e paths c.requires)
    ∙ ap (λ es. groups es paths) (sym taken)

use Rattle.std.proofs.Common.{◌≡◌, ◌∙◌, ◌<◌, ◌++◌, ◌∷◌, [], length, take, sym, ap, arith, ◌+◌, Some, slice_get}
use Rattle.std.proofs.Common.{append-nil, append_assoc, add-one, ◌-◌}
use Rattle.std.specs.List.{flat_map}
use Rattle.std.proofs.lemmas.Grind.{flat_map-append}
use Rattle.std.proofs.lemmas.List.{take_more}
use Rattle.std.proofs.lemmas.Option.{get_or_from_slice_get}
use Rattle.program_places.specs.Paths.{levels}
use Rattle.program_tables.specs.Asks.{level_task}
use Rattle.program_tables.proofs.AskLaws.{level_at, levels_length, above_all}
use Rattle.program_tables.proofs.asks.push_around.Goals as goal

pub places-preserved : goal.places-preserved
places-preserved c =
    let constant = c.args.constant.now in
    let s = c.args.standings.now.spelled in
    let old = c.args.tasks.now.items in
    let k = c.places.place in
    let size = ap length c.as_slice-names.ensures in
    let within : k < length constant = omega (arith, c.places-test.true, c.saturating_sub-above.ensures, size) in
    let inside : k < length (levels constant) = omega (arith, within, levels_length constant) in
    let path : c.in_ok-from_slice.field-0 ≡ take (k + 1) constant =
    c.in_ok-from_slice.ensures ∙ ap (take (k + 1)) c.as_slice-names.ensures in
    let at : slice_get (levels constant) k ≡ Some (take (k + 1) constant) =
    level_at constant k within ∙ ap (λ n. Some (take n constant)) (sym (add-one k)) in
    let more : take (k + 1) (levels constant) ≡ take k (levels constant) ++ take (k + 1) constant ∷ [] =
    take_more (levels constant) k [] inside
    ∙ ap (λ p. take k (levels constant) ++ p ∷ [])
    (get_or_from_slice_get (levels constant) k (take (k + 1) constant) [] at) in
    c.in_ok-push_level.ensures
    ∙ ap (λ xs. xs ++ level_task s c.in_ok-from_slice.field-0) c.places.invariant
    ∙ append_assoc old (flat_map (level_task s) (take k (levels constant))) (level_task s c.in_ok-from_slice.field-0)
    ∙ ap (λ p. old ++ (flat_map (level_task s) (take k (levels constant)) ++ level_task s p)) path
    ∙ ap (λ xs. old ++ (flat_map (level_task s) (take k (levels constant)) ++ xs))
    (sym (append-nil (level_task s (take (k + 1) constant))))
    ∙ ap (λ xs. old ++ xs)
    (sym (flat_map-append (level_task s) (take k (levels constant)) (take (k + 1) constant ∷ [])))
    ∙ ap (λ ps. old ++ flat_map (level_task s) ps) (sym more)

pub returns : goal.returns
returns c =
    let constant = c.args.constant.now in
    let s = c.args.standings.now.spelled in
    let size = ap length c.as_slice-names.ensures in
    let last : c.places.place ≡ length constant - 1 =
    omega (arith, c.places-test.false, c.places.auto.place-end, c.saturating_sub-above.ensures, size) in
    c.places.invariant
    ∙ ap (λ ps. c.args.tasks.now.items ++ flat_map (level_task s) ps) (above_all constant c.places.place last)

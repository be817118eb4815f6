use Rattle.std.proofs.Common.{◌≡◌, ◌∙◌, ◌<◌, ◌++◌, ◌∷◌, [], length, take, sym, ap, arith, ◌+◌}
use Rattle.std.proofs.lemmas.List.{take_more, length-take-le}
use Rattle.program_tables.specs.Asks.{all_asks}
use Rattle.program_tables.proofs.AskLaws.{asks_more}
use Rattle.program_tables.proofs.asks.asks_of.Goals as goal

pub places-preserved : goal.places-preserved
places-preserved c =
    let ts = c.args.texts.now in
    let os = c.args.outcomes.now in
    let s = c.args.standings.now.spelled in
    let k = c.places.place in
    let t = c.index-texts-place.result in
    let o = c.index-outcomes-place.result in
    let within : k < length os = omega (arith, c.requires, c.places-test.true) in
    let texts : take (k + 1) ts ≡ take k ts ++ t ∷ [] =
    take_more ts k t c.places-test.true ∙ ap (λ x. take k ts ++ x ∷ []) (sym c.index-texts-place.is) in
    let outcomes : take (k + 1) os ≡ take k os ++ o ∷ [] =
    take_more os k o within ∙ ap (λ x. take k os ++ x ∷ []) (sym c.index-outcomes-place.is) in
    let same : length (take k os) ≡ length (take k ts) =
    length-take-le k os (omega (arith, within)) ∙ sym (length-take-le k ts (omega (arith, c.places-test.true))) in
    c.in_ok-push.ensures.items
    ∙ ap (λ xs. xs ++ c.in_ok-asks_at.field-0 ∷ []) c.places.invariant
    ∙ ap (λ x. all_asks s (take k ts) (take k os) ++ x ∷ []) c.in_ok-asks_at.ensures
    ∙ sym (asks_more s (take k ts) (take k os) t o same)
    ∙ ap (λ x. all_asks s x (take k os ++ o ∷ [])) (sym texts)
    ∙ ap (all_asks s (take (k + 1) ts)) (sym outcomes)

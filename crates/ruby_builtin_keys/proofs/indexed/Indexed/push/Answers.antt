use Rattle.std.proofs.Common.{◌≡◌, ℕ, List, [], ◌∷◌, ◌++◌, Some, length, set, ap, sym, ◌∙◌, subst, arith}
use Rattle.ruby_builtin_keys.specs.Places.{IsIndex, Pair}
use Rattle.std.proofs.lemmas.Option.{slice_get-get_or}
use Rattle.ruby_builtin_keys.proofs.PlaceLaws.{index-push}
use Rattle.ruby_builtin_keys.proofs.indexed.Indexed.push.Goals as goal

pub invariant_of-result-clause-indexed : goal.invariant_of-result-clause-indexed
invariant_of-result-clause-indexed c =
    let self = c.args.self in
    let row = c.row_of-row.result in
    let now = c.index_mut.result.now in
    let at = slice_get-get_or self.rows.items row now (omega (arith, c.row_of-row.ensures.within)) in
    let e = index-push self.rows.items self.pairs.items c.args.pair row now self.indexed (cc)
    (at ∙ ap (λ l. Some l) (sym c.index_mut.ensures.value)) in
    let grown : now ++ length self.pairs.items ∷ [] ≡ c.push.new.self =
    ap (λ n. now ++ n ∷ []) (sym (c.len-2.ensures ∙ self.pairs.ok.0)) ∙ sym c.in_ok-push.ensures.ok in
    subst (λ (l : List (List ℕ)). IsIndex l c.push-2.new.self.items) (ap (set self.rows.items row) grown)
    (subst (λ (ps : List Pair). IsIndex (set self.rows.items row (now ++ length self.pairs.items ∷ [])) ps)
    (sym c.in_ok-push-2.ensures.items) e)

use Rattle.std.proofs.Common.{◌≡◌, ◌∙◌, ◌++◌, ◌∷◌, [], length, take, sym, ap, arith, zero-add, ◌+◌}
use Rattle.std.proofs.lemmas.List.{take_more, length-take-le}
use Rattle.program_tables.specs.Tables.{owned_in, owned_tasks, tasks_of}
use Rattle.program_tables.proofs.TableLaws.{owned_more}
use Rattle.program_tables.proofs.tables.owned_in.Goals as goal

pub places-preserved : goal.places-preserved
places-preserved c =
    let os = c.args.outcomes.now in
    let k = c.places.place in
    let o = c.index-outcomes-place.result in
    let taken : take (k + 1) os ≡ take k os ++ o ∷ [] =
    take_more os k o c.places-test.true ∙ ap (λ x. take k os ++ x ∷ []) (sym c.index-outcomes-place.is) in
    let size : length (take k os) ≡ k = length-take-le k os (omega (arith, c.places-test.true)) in
    c.in_ok-push_outcome.ensures
    ∙ ap (λ xs. xs ++ owned_tasks k (tasks_of o)) c.places.invariant
    ∙ ap (λ n. owned_in 0 (take k os) ++ owned_tasks n (tasks_of o)) (sym (zero-add _ ∙ size))
    ∙ sym (owned_more 0 (take k os) o)
    ∙ ap (owned_in 0) (sym taken)

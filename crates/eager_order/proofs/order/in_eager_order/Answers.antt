use Rattle.std.proofs.Common.{◌≡◌, map, All, sym, ap, ◌∙◌, subst}
use Rattle.std.proofs.lemmas.Result.{IfOk-weaker}
use Rattle.eager_order.specs.EagerOrder.{AreInEagerOrder}
use Rattle.eager_order.specs.Placed.{IsPlaced}
use Rattle.eager_order.proofs.EagerLaws.{in_order}
use Rattle.eager_order.proofs.order.in_eager_order.Goals as goal

pub place_files-requires-clause-below : goal.place_files-requires-clause-below
place_files-requires-clause-below c = rw c.as_slice.ensures c.requires.below

pub returns : goal.returns
returns c =
    let roots = c.args.roots.now in
    let files = c.args.snapshot.now.files in
    let numbers = c.args.numbers.now in
    let placed = c.in_ok-placed.placed.items in
    let sorted = c.put_in_order.new.placed.items in
    IfOk-weaker c.numbers_of.result (λ v. v.items ≡ map (λ p. p.file) c.as_slice-2.result.now)
    (λ v. AreInEagerOrder roots files numbers v.items)
    (λ v e. subst (AreInEagerOrder roots files numbers) (sym (e ∙ ap (map (λ p. p.file)) c.as_slice-2.ensures.value))
    (in_order roots files numbers placed sorted c.args.snapshot.now.rising c.requires.once
    c.in_ok-placed.ensures.files
    (subst (λ fs. All (IsPlaced roots fs) placed) c.as_slice.ensures c.in_ok-placed.ensures.placed)
    c.put_in_order.ensures.permutation c.in_ok-put_in_order.ensures.sorted))
    c.numbers_of.ensures

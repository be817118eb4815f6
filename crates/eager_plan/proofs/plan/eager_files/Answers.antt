use Rattle.std.proofs.Common.{subst}
use Rattle.std.proofs.lemmas.Result.{IfOk-weaker}
use Rattle.eager_order.specs.EagerOrder.{AreInEagerOrder}
use Rattle.eager_plan.specs.Plan.{AreEagerFiles}
use Rattle.eager_plan.proofs.PlanLaws.{below_roots, chosen_within, chosen_below, are_eager}
use Rattle.eager_plan.proofs.plan.eager_files.Goals as goal

pub chosen_files-requires-clause-below : goal.chosen_files-requires-clause-below
chosen_files-requires-clause-below c =
    let have = rw c.as_slice-files.ensures at c.in_ok-constants.ensures in
    let are_roots = rw c.as_slice-files.ensures at c.in_ok-roots.ensures in
    rw (c.as_slice.ensures.value, c.as_slice-files.ensures)
    (below_roots c.args.snapshot.now.files c.args.config.now c.args.sites.now c.requires.sited
    c.in_ok-constants.constants.items have c.in_ok-roots.roots are_roots)

pub in_eager_order-requires-clause-within : goal.in_eager_order-requires-clause-within
in_eager_order-requires-clause-within c =
    let have = rw c.as_slice-files.ensures at c.in_ok-constants.ensures in
    let are_roots = rw c.as_slice-files.ensures at c.in_ok-roots.ensures in
    let chosen = rw (c.as_slice.ensures.value, c.as_slice-files.ensures, c.in_ok-skipped.ensures)
    at c.in_ok-chosen.ensures in
    rw c.as_slice-2.ensures.value
    (chosen_within c.args.snapshot.now.files c.args.config.now c.args.sites.now c.requires.sited
    c.in_ok-constants.constants.items have c.in_ok-roots.roots are_roots c.args.only_plan
    c.in_ok-chosen.chosen.items chosen)

pub in_eager_order-requires-clause-below : goal.in_eager_order-requires-clause-below
in_eager_order-requires-clause-below c =
    let have = rw c.as_slice-files.ensures at c.in_ok-constants.ensures in
    let are_roots = rw c.as_slice-files.ensures at c.in_ok-roots.ensures in
    let chosen = rw (c.as_slice.ensures.value, c.as_slice-files.ensures, c.in_ok-skipped.ensures)
    at c.in_ok-chosen.ensures in
    rw c.as_slice-2.ensures.value
    (chosen_below c.args.snapshot.now.files c.args.config.now c.args.sites.now c.requires.sited
    c.in_ok-constants.constants.items have c.in_ok-roots.roots are_roots c.args.only_plan
    c.in_ok-chosen.chosen.items chosen)

pub returns : goal.returns
returns c =
    let files = c.args.snapshot.now.files in
    let have = rw c.as_slice-files.ensures at c.in_ok-constants.ensures in
    let are_roots = rw c.as_slice-files.ensures at c.in_ok-roots.ensures in
    let chosen = rw (c.as_slice.ensures.value, c.as_slice-files.ensures, c.in_ok-skipped.ensures)
    at c.in_ok-chosen.ensures in
    IfOk-weaker c.in_eager_order.result
    (λ v. AreInEagerOrder c.in_ok-roots.roots files c.as_slice-2.result.now v.items)
    (λ v. AreEagerFiles files c.args.config.now c.args.sites.now.spelled c.args.only_plan v.items)
    (λ v ordered. are_eager files c.args.config.now c.args.sites.now c.requires.sited
    c.in_ok-constants.constants.items have c.in_ok-roots.roots are_roots c.args.only_plan
    c.in_ok-chosen.chosen.items chosen v.items
    (subst (λ ns. AreInEagerOrder c.in_ok-roots.roots files ns v.items) c.as_slice-2.ensures.value ordered))
    c.in_eager_order.ensures

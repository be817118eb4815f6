use Rattle.std.proofs.Common.{◌≡◌, ◌<◌, ℕ, true, length, sym, ap, ◌∙◌, subst, arith}
use Rattle.std.proofs.lemmas.Option.{same_Some}
use Rattle.system_core.specs.Tables.{names, task_at}
use Rattle.system_core.proofs.Finding.{walk_left, walk_nearer, walk_first, walk_past, walk_here, hashes-length}
use Rattle.system_core.proofs.Finding.{task_at_place}
use Rattle.system_core.proofs.table.place_of.Goals as goal

pub walk-init : goal.walk-init
walk-init g c =
    walk_first g.M.Matter.facts g.met.M.Matter.same_is_equal _ _ c.args.entries.now c.args.facts.now c.args.task.now _ _
    c.requires c.hash.ensures c.last-at.ensures.last

pub returns-then-defines-clause-found : goal.returns-then-defines-clause-found
returns-then-defines-clause-found g c = λ i same.
    let walks = walk_here g.M.Matter.facts g.met.M.Matter.same_is_equal _ _ c.in-Some.place c.args.entries.now
    c.args.facts.now c.args.task.now c.walk.at c.walk.invariant c.in-Some.is in
    subst (λ (j : ℕ). (j < length c.args.facts.now)
    × (names g.M.Matter.facts c.args.task.now (task_at c.args.entries.now c.args.facts.now j) ≡ true))
    (same_Some c.in-Some.place i same) (
      walks.0,
      ap (names g.M.Matter.facts c.args.task.now)
          (task_at_place g.M.Matter.facts g.met.M.Matter.same_is_equal c.args.entries.now c.args.facts.now
          c.in-Some.place
          c.index-facts-place.result walks.0)
          ∙ (sym c.defines.ensures ∙ c.if-defines.true),
    )

pub last_before-at-requires : goal.last_before-at-requires
last_before-at-requires g c =
    let walks = walk_here g.M.Matter.facts g.met.M.Matter.same_is_equal _ _ c.in-Some.place c.args.entries.now
    c.args.facts.now c.args.task.now c.walk.at c.walk.invariant c.in-Some.is in
    let within : c.in-Some.place < length c.args.facts.now = walks.0 in
    let even : length c.args.places.now.hashes ≡ length c.args.facts.now =
    ap length c.requires ∙ hashes-length g.M.Matter.facts c.args.entries.now c.args.facts.now in
    omega (arith, within, even)

pub walk-smaller : goal.walk-smaller
walk-smaller g c =
    subst (λ o. walk_left c.last_before-at.result < walk_left o) (sym c.in-Some.is)
    (walk_nearer _ _ _ c.in-Some.place c.last_before-at.result c.last_before-at.ensures)

pub walk-preserved : goal.walk-preserved
walk-preserved g c =
    let walks = walk_here g.M.Matter.facts g.met.M.Matter.same_is_equal _ _ c.in-Some.place c.args.entries.now
    c.args.facts.now c.args.task.now c.walk.at c.walk.invariant c.in-Some.is in
    walk_past g.M.Matter.facts g.met.M.Matter.same_is_equal _ _ c.in-Some.place c.args.entries.now c.args.facts.now
    c.args.task.now _ c.requires walks
    (ap (names g.M.Matter.facts c.args.task.now)
    (task_at_place g.M.Matter.facts g.met.M.Matter.same_is_equal c.args.entries.now c.args.facts.now c.in-Some.place
    c.index-facts-place.result walks.0)
    ∙ (sym c.defines.ensures ∙ c.if-defines.false))
    c.last_before-at.ensures

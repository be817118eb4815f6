use Rattle.std.proofs.Common.{sym, ap, ◌∙◌, subst}
use Rattle.system_laws.specs.Lawful.{AllApart}
use Rattle.system_core.specs.Tables.{lookup, table_of, hashes_of}
use Rattle.system_core.proofs.Finding.{apart_after}
use Rattle.system_core.proofs.system.System.value.Goals as goal

pub value_in-requires-clause-hashed : goal.value_in-requires-clause-hashed
value_in-requires-clause-hashed g c =
    c.self.invariant.hashed
    ∙ (λ i. hashes_of g.M.Matter.facts (sym c.deref.ensures.value i) (sym c.deref-2.ensures.value i))

pub value_in-requires-clause-apart : goal.value_in-requires-clause-apart
value_in-requires-clause-apart g c =
    subst (AllApart g.M.Matter.facts) (λ i. table_of (sym c.deref.ensures.value i) (sym c.deref-2.ensures.value i))
    (apart_after g.M.Matter.facts g.met.M.Matter.same_is_equal _ _ c.self.invariant.after)

pub returns : goal.returns
returns g c =
    c.value_in.ensures
    ∙ ((λ i. lookup g.M.Matter.facts c.args.task.now (table_of (c.deref.ensures.value i) (c.deref-2.ensures.value i)))
    ∙ ap (λ b. lookup g.M.Matter.facts c.args.task.now b.state.table) c.self.view_is)

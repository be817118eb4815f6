use Rattle.std.proofs.Common.{sym, ap, ◌∙◌}
use Rattle.system_core.specs.Tables.{lookup}
use Rattle.shop.proofs.Turns.{if_ok_map}
use Rattle.pass_loads.proofs.Steady.{table_of_pass}
use Rattle.pass_loads.proofs.section.look.Goals as goal

pub returns-in_err-found-clause-table : goal.returns-in_err-found-clause-table
returns-in_err-found-clause-table g c =
    table_of_pass g.M.Matter.facts g.met.M.Matter.same_is_equal c.args.pass.now c.lookup-found.new.pass
    c.requires.loads.0 c.requires.loads.1.0 c.requires.pass c.tells.ensures c.lookup-found.ensures.seen
    c.requires.loads.1.1

pub returns-clause-table : goal.returns-clause-table
returns-clause-table g c =
    table_of_pass g.M.Matter.facts g.met.M.Matter.same_is_equal c.args.pass.now c.lookup-found.new.pass
    c.requires.loads.0 c.requires.loads.1.0 c.requires.pass c.tells.ensures c.lookup-found.ensures.seen
    c.requires.loads.1.1

pub returns-clause-goes : goal.returns-clause-goes
returns-clause-goes g c =
    let table = table_of_pass g.M.Matter.facts g.met.M.Matter.same_is_equal c.args.pass.now c.lookup-found.new.pass
    c.requires.loads.0 c.requires.loads.1.0 c.requires.pass c.tells.ensures c.lookup-found.ensures.seen
    c.requires.loads.1.1 in
    if_ok_map c.answer.result _ _ (λ _ answers theory h looks here on. answers theory h (record {
      task = c.args.asked.now;
      looks = looks;
      is = c.as_ref.ensures.value
          ∙ (c.in_ok-found.ensures.found
          ∙ (ap (lookup g.M.Matter.facts c.args.asked.now) table ∙ sym (ap (λ t. t c.args.asked.now) here)));
    }) on) c.answer.ensures

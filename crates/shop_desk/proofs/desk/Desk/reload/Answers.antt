use Rattle.shop_desk.proofs.Acting.{exclusive_state}
use Rattle.shop_desk.proofs.Guarding.{reload_limited}
use Rattle.shop_desk.proofs.desk.Desk.reload.Goals.{in-Done, in-Refused}
use Rattle.shop_desk.proofs.desk.Desk.reload.Goals as goal

pub returns-clause-refused : goal.returns-clause-refused
returns-clause-refused g c = λ guard is.
    elim c.match-act.branch [
      | in-Done w ↦ absurd (let answer = w.result-is in cc)
      | in-Refused w ↦
          let refused = c.act.ensures.refused _ _ w.in-Refused.is in
          let answer = w.result-is in
          let limits =
          reload_limited g.M.Matter.facts c.args.self.now.state c.args.seat (exclusive_state g.M.Matter.facts
          g.met.M.Matter.same_is_equal 64 c.args.self.now.state c.act.ensures.after) c.args.program _
          c.requires.unloads.1 in
          let guards = refused.0 in (cc, refused.2)
    ]

use Rattle.shop_desk.proofs.Acting.{exclusive_state}
use Rattle.shop_desk.proofs.Guarding.{seek_load_passes}
use Rattle.shop_desk.proofs.desk.Desk.seek_load.Goals as goal

pub unreachable-requires : goal.unreachable-requires
unreachable-requires g c =
    let alone =
    exclusive_state g.M.Matter.facts g.met.M.Matter.same_is_equal 64 c.args.self.now.state c.act.ensures.after in
    let done =
    c.act.ensures.passed (seek_load_passes g.M.Matter.facts c.args.self.now.state c.args.seat alone c.args.task
    c.requires.runs c.requires.new c.requires.busy) in
    let refused = c.in-Refused.is in cc

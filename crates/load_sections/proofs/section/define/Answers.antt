use Rattle.std.proofs.Common.{◌≡◌, None}
use Rattle.system_events.specs.declared.event.Kept.TheVariants.{Define}
use Rattle.system_events.specs.Guards.{guard_of}
use Rattle.load_sections.proofs.Defining.{define_passes}
use Rattle.load_sections.proofs.section.define.Goals as goal

pub unreachable-requires : goal.unreachable-requires
unreachable-requires g c =
    let passes : guard_of g.M.Matter.facts c.reserve.new.self.state c.args.seat (Define c.args.task) ≡ None =
    rw c.in_ok-reserve.ensures.state (define_passes g.M.Matter.facts c.args.system.now.state c.args.seat c.args.task
    c.requires.passes c.requires.lacks) in
    let done = (c.apply.ensures.done passes).0 in
    cc (done, c.in-Refused.is)

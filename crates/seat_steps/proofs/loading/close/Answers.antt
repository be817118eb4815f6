use Rattle.system_events.specs.declared.event.Kept.TheVariants as kept
use Rattle.seat_steps.specs.Theories.{theories_by}
use Rattle.seat_steps.proofs.Standing.{resumes_stay}
use Rattle.seat_steps.proofs.loading.close.Goals as goal

pub closed-requires-clause-going : goal.closed-requires-clause-going
closed-requires-clause-going g c =
    let tries = rw c.in-Done.is at c.in_ok-line-2.ensures in
    resumes_stay g.M.Matter.facts g.met.M.Matter.same_is_equal g.M.Requests.talks
    (theories_by g.M.Theory.Theory.rules g.M.Theory.Program.runs g.M.Loads.theory_of)
    c.args.system.now.state c.act.new.system.state c.args.seat c.args.actor
    (record { seat = c.args.seat; kept = kept.Release }) c.tells_laws.ensures.exclusive tries.0 (λ same. tt)
    c.args.ended c.requires.going

use Rattle.seat_steps.specs.Theories.{theories_by}
use Rattle.seat_steps.proofs.Sections.{tried_stays}
use Rattle.seat_steps.proofs.loading.resume.Goals as goal

pub resumed-requires-clause-going : goal.resumed-requires-clause-going
resumed-requires-clause-going g c =
    tried_stays g.M.Matter.facts g.met.M.Matter.same_is_equal g.M.Requests.talks
    (theories_by g.M.Theory.Theory.rules g.M.Theory.Program.runs g.M.Loads.theory_of) c.args.system.now.state
    c.act.new.system.state c.args.seat c.args.actor c.tells_laws.ensures.exclusive c.in_ok-line.line c.args.ended
    c.in_ok-tried.tried c.in_ok-tried.ensures c.requires.going

use Rattle.seat_steps.specs.Theories.{theories_by}
use Rattle.seat_progress.proofs.Progress.{step_progresses}
use Rattle.seat_progress.proofs.laws.open_requests_make_progress.Goals as goal

pub returns : goal.returns
returns g c = λ old new files k request next lines table standing steps.
    step_progresses g.M.Matter.facts g.met.M.Matter.same_is_equal g.M.Requests.talks g.M.Replays.words
    g.M.Reloads.sources (theories_by g.M.Theory.Theory.rules g.M.Theory.Program.runs g.M.Loads.theory_of) old new
    files k lines next table.0 request.actor request.next standing steps

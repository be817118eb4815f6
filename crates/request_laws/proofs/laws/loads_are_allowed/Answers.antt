use Rattle.request_laws.proofs.laws.loads_are_allowed.Goals as goal

pub returns : goal.returns
returns g c = λ s q found task begins asked. g.met.M.Requests.replies_follow.tasks s.counts.program q task begins asked

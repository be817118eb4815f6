use Rattle.seat_requests.proofs.Standing.{may_end, may_load, may_refuse}
use Rattle.seat_requests.proofs.laws.standing_requests_are_allowed.Goals as goal

pub returns-clause-begins : goal.returns-clause-begins
returns-clause-begins g c = λ s k q standing. standing.stands

pub returns-clause-ends : goal.returns-clause-ends
returns-clause-ends g c = may_end g.M.Matter.facts g.M.Requests.talks

pub returns-clause-loads : goal.returns-clause-loads
returns-clause-loads g c = λ s k. may_load g.M.Matter.facts g.M.Requests.talks s k g.met.M.Requests.replies_follow

pub returns-clause-refuses : goal.returns-clause-refuses
returns-clause-refuses g c = may_refuse g.M.Matter.facts g.M.Requests.talks

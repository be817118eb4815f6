use Rattle.pass_loads.proofs.loading.unknown.Goals as goal

pub returns-in_ok-unknown-in-Some : goal.returns-in_ok-unknown-in-Some
returns-in_ok-unknown-in-Some g c = (c.in-Some.failure, (c.in-Some.is, c.in_ok-unknown-in-Some.ensures))

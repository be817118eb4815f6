use Rattle.ruby_runs.proofs.Asked.{other_ends_are_requests}
use Rattle.ruby_runs.proofs.laws.only_requests_end_otherwise.Goals as goal

pub returns : goal.returns
returns c = other_ends_are_requests

use Rattle.program_requests.proofs.Runs.{request_asks}
use Rattle.program_requests.proofs.laws.requests_ask_as_they_run.Goals as goal

pub returns : goal.returns
returns c = request_asks

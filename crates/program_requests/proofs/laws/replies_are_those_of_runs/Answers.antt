use Rattle.program_requests.proofs.Runs.{request_replies}
use Rattle.program_requests.proofs.laws.replies_are_those_of_runs.Goals as goal

pub returns : goal.returns
returns c = request_replies

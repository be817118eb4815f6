use Rattle.program_targets.proofs.Names.{request_may_begin}
use Rattle.program_targets.proofs.laws.targets_ask_for_requests_that_may_begin.Goals as goal

pub returns : goal.returns
returns c = request_may_begin

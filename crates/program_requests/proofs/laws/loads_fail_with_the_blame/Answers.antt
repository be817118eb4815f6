use Rattle.std.proofs.Common.{ap}
use Rattle.program_theory.specs.Replies.{reply_by}
use Rattle.program_requests.proofs.laws.loads_fail_with_the_blame.Goals as goal

pub returns : goal.returns
returns c = λ app request t is. ap (reply_by app request) is

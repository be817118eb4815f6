use Rattle.std.proofs.Common.{ap}
use Rattle.program_theory.specs.Replies.{reply_by}
use Rattle.program_replies.specs.Profiled.{profiled}
use Rattle.program_replies.proofs.laws.replies_tell_answers.Goals as goal

pub returns : goal.returns
returns c = record {
  value = λ files controller request v is. ap (reply_by (profiled files controller) request) is;
  error = λ files controller request e is. ap (reply_by (profiled files controller) request) is;
  blamed = λ files controller request t is. ap (reply_by (profiled files controller) request) is;
  other = λ files controller request end is. ap (reply_by (profiled files controller) request) is;
}

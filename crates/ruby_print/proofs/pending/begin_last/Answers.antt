use Rattle.std.proofs.Common.{arith}
use Rattle.std.proofs.lemmas.Grind.{common_steps}
use Rattle.ruby_print.proofs.PendingLaws.{text_push}
use Rattle.ruby_print.proofs.pending.begin_last.Goals as goal

pub returns-clause-text : goal.returns-clause-text
returns-clause-text c = grind (arith, common_steps, text_push)

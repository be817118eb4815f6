use Rattle.load_rules.proofs.Found.{IsJudgedBelow}
use Rattle.load_rules.proofs.first.find_reply.Given as goal

abbrev pub invariant-files : goal.invariant-files
invariant-files l = IsJudgedBelow l.files l.file-index l.asked l.reply

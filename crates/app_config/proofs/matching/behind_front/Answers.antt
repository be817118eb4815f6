use Rattle.app_config.proofs.MatchLaws.{behind-strip}
use Rattle.app_config.proofs.matching.behind_front.Goals as goal

pub returns : goal.returns
returns c = behind-strip c.args.piece.now c.args.text.now c.strip_prefix.result c.strip_prefix.ensures.cases

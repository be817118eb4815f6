use Rattle.tree_command.proofs.OneLaws as laws
use Rattle.tree_command.proofs.laws.never_both.Goals as goal

pub returns : goal.returns
returns c = λ bytes refusal l h. laws.never_both c.args.files.now bytes refusal l h

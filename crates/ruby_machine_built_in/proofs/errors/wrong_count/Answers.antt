use Rattle.std.specs.Fmt.{decimal}
use Rattle.ruby_builtin_base.specs.Answers.{wrong_count_text}
use Rattle.ruby_machine_built_in.proofs.errors.wrong_count.Goals as goal

pub returns : goal.returns
returns c = c.stop.ensures (wrong_count_text c.args.given (decimal c.args.expected)) c.count_text.ensures

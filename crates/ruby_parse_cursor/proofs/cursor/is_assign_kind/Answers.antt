use Rattle.ruby_parse_cursor.proofs.AssignLaws.{no_assign}
use Rattle.ruby_parse_cursor.proofs.cursor.is_assign_kind.Goals as goal

pub returns-in_default : goal.returns-in_default
returns-in_default c = λ text. no_assign c.args.kind text c.in_default.not-Op

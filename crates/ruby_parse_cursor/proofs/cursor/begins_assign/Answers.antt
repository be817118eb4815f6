use Rattle.ruby_parse_cursor.proofs.AssignLaws.{first_word}
use Rattle.ruby_parse_cursor.proofs.cursor.begins_assign.Goals as goal

pub returns-in-len1-up : goal.returns-in-len1-up
returns-in-len1-up c = first_word _ c.args.tokens.now c.is_assign_kind.result c.in-len1-up.len_at_least
    c.is_assign_kind.ensures

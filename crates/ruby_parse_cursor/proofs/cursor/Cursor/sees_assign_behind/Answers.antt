use Rattle.std.proofs.Common.{sym}
use Rattle.ruby_parse_cursor.proofs.AssignLaws.{second_word}
use Rattle.ruby_parse_cursor.proofs.cursor.Cursor.sees_assign_behind.Goals as goal

pub returns-in-len1-up : goal.returns-in-len1-up
returns-in-len1-up c =
    second_word c.self.inside.bytes.now c.self.inside.before c.self.inside.rest.now c.args.self.now
    c.begins_assign.result (sym c.self.view_is) c.in-len1-up.len_at_least c.begins_assign.ensures

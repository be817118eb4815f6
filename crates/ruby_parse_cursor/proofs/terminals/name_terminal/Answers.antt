use Rattle.ruby_parse_cursor.proofs.Codes.{has_code, has_none}
use Rattle.ruby_parse_cursor.proofs.terminals.name_terminal.Goals as goal

pub returns-in-Some : goal.returns-in-Some
returns-in-Some c = has_code _ _ _ c.requires c.in-Some.ensures.found

pub returns-in-None : goal.returns-in-None
returns-in-None c = has_none _ _ c.requires c.in-None.ensures.none

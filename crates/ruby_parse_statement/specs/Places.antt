-- Where a statement stands, as the code has it.
use Rattle.std.specs.Prelude.{List}
use Rattle.ruby_grammar.specs.Rules.{Name, Around}
use Rattle.ruby_grammar.specs.Statements.{around}
use Rattle.ruby_parse_statement.specs.declared.body.Body.{Body}

-- the place where these variables are known
abbrev pub around_view : Body → List Name → Around
around_view b names = around b.levels b.may_set names

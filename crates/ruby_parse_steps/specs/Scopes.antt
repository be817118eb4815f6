-- Where an expression stands, as the code has it.
use Rattle.ruby_parse_steps.specs.declared.scope.Scope.{Scope as Held}
use Rattle.ruby_grammar.specs.Rules.{Scope}

-- the scope that is held, as the grammar has it: its levels, and its local variables as names
abbrev pub scope_view : Held → Scope
scope_view s = record { levels = s.levels; names = s.locals.now }

use Rattle.std.proofs.Common.{◌≡◌, ◌++◌, take}
use Rattle.ruby_print.specs.Definitions.{definition_lines}
use Rattle.ruby_print.proofs.definition.+definition.Given as goal

abbrev pub invariant-push_definitions-definitions : goal.invariant-push_definitions-definitions
invariant-push_definitions-definitions l = l.written.items ≡ l.initial.written.items ++ definition_lines l.indent
    (take l.definition-index l.definitions)

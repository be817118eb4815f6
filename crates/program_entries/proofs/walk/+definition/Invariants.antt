use Rattle.std.proofs.Common.{◌≡◌, ◌++◌, take}
use Rattle.program_entries.specs.Seen.{seen_all, written_by}
use Rattle.program_entries.proofs.walk.+definition.Given as goal

abbrev pub invariant-push_definitions-definitions : goal.invariant-push_definitions-definitions
invariant-push_definitions-definitions l = seen_all l.entries.items ≡ seen_all l.initial.entries.items
    ++ written_by (take l.definition-index l.definitions) l.around l.scopes

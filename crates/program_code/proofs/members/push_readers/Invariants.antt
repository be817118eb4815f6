use Rattle.std.proofs.Common.{List, take, map}
use Rattle.ruby_nodes.specs.Entries.{Entry}
use Rattle.program_methods.specs.Methods.{Adds}
use Rattle.program_code.specs.Members.{reader_of}
use Rattle.program_code.proofs.members.push_readers.Given as goal

abbrev pub invariant-names : goal.invariant-names
invariant-names l = (known : List Entry) → Adds known l.fn.methods.items l.methods.items
    (map (reader_of l.file l.scopes) (take l.name-index l.names))

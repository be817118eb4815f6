use Rattle.std.proofs.Common.{[], take}
use Rattle.ruby_nodes.specs.Entries.{Extends}
use Rattle.program_files.specs.Contents.{instance_what}
use Rattle.program_entries.specs.Seen.{seen_all}
use Rattle.program_methods.specs.Methods.{Adds}
use Rattle.program_code.specs.Groups.{file_named, given}
use Rattle.program_code.specs.Seen.{placed}
use Rattle.program_code.proofs.members.instances_of.Given as goal

abbrev pub invariant-places : goal.invariant-places
invariant-places l = Extends l.fn.nodes l.nodes × Adds l.nodes [] l.methods.items
    (given (instance_what (file_named l.file)) (placed (seen_all l.entries) (take l.place-index l.group)))

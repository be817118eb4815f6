use Rattle.std.proofs.Common.{List, ℕ, subst, map}
use Rattle.std.proofs.lemmas.Result.{on_ok_weaker}
use Rattle.program_methods.specs.Methods.{Adds}
use Rattle.program_code.specs.Members.{reader_of}
use Rattle.program_code.proofs.members.push_instances.Goals as goal

pub returns-in-Readers-clause-added : goal.returns-in-Readers-clause-added
returns-in-Readers-clause-added c = rw c.in-Readers.is
    (on_ok_weaker c.push_readers.result (λ h.
    subst (λ (ns : List (List ℕ)). Adds c.args.nodes.now c.args.methods.now.items c.push_readers.new.methods.items
    (map (reader_of c.args.file.now c.args.entry.now.scopes) ns)) c.as_slice.ensures (h c.args.nodes.now))
    c.push_readers.ensures)

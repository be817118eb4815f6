use Rattle.std.proofs.Common.{true, false, refl}
use Rattle.program_places.specs.Places.{Assigned, Opened}
use Rattle.program_entries.specs.Seen.{seen_all}
use Rattle.program_code.specs.Groups.{file_named, opening_by}
use Rattle.program_code.specs.Seen.{placed}
use Rattle.program_code.proofs.content.content_by.Goals as goal

pub returns-in_ok-opened_of-in-Module-clause-code : goal.returns-in_ok-opened_of-in-Module-clause-code
returns-in_ok-opened_of-in-Module-clause-code c = rw c.in-Module.is (
  Opened (opening_by (file_named c.args.file.now) false (placed (seen_all c.args.entries.now) c.args.group.now)),
  refl,
  c.in_ok-opened_of-in-Module.ensures.code,
)

pub returns-in_ok-opened_of-in-Class-clause-code : goal.returns-in_ok-opened_of-in-Class-clause-code
returns-in_ok-opened_of-in-Class-clause-code c = rw c.in-Class.is (
  Opened (opening_by (file_named c.args.file.now) true (placed (seen_all c.args.entries.now) c.args.group.now)),
  refl,
  c.in_ok-opened_of-in-Class.ensures.code,
)

pub returns-in_ok-copy-in-Assigned-clause-code : goal.returns-in_ok-copy-in-Assigned-clause-code
returns-in_ok-copy-in-Assigned-clause-code c = rw c.in-Assigned.is (
  Assigned c.in-Assigned.value.now c.args.first.now.scopes,
  refl,
  (c.in_ok-node-in-Assigned.ensures.stands, c.in_ok-copy-in-Assigned.ensures),
)

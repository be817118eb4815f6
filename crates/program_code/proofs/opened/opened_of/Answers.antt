use Rattle.program_entries.specs.Seen.{seen_all}
use Rattle.program_files.specs.Contents.{instance_what, single_what}
use Rattle.program_methods.proofs.CodeLaws.{are_found_later, table_found}
use Rattle.program_code.specs.Groups.{file_named, given}
use Rattle.program_code.specs.Seen.{placed}
use Rattle.program_code.proofs.opened.opened_of.Goals as goal

pub returns-clause-code : goal.returns-clause-code
returns-clause-code c =
    let nodes = c.instances_of.new.nodes in
    let group = placed (seen_all c.args.entries.now) c.args.group.now in
    let file = file_named c.args.file.now in
    let singles = given (single_what file) group in
    let instances = given (instance_what file) group in
    record {
      opens = c.in_ok-opening.ensures file;
      singles = are_found_later c.instances_of.ensures.extends c.in_ok-new.field-0 singles
          (table_found c.singles_of.new.nodes c.in_ok-singles.singles.items c.in_ok-new.field-0 singles
          c.in_ok-singles.ensures.added c.in_ok-new.ensures);
      instances = table_found nodes c.in_ok-instances.instances.items c.in_ok-new-2.field-0 instances
          c.in_ok-instances.ensures.added c.in_ok-new-2.ensures;
    }

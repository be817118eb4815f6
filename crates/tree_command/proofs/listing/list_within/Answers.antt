use Rattle.tree_report.proofs.LimitLaws.{small_files}
use Rattle.tree_command.proofs.TreeLaws.{fault_told}
use Rattle.tree_command.proofs.listing.list_within.Goals as goal

pub read_configuration-requires : goal.read_configuration-requires
read_configuration-requires c = rw c.as_slice-files.ensures (small_files c.args.snapshot.now.files c.requires)

pub returns-clause-fault : goal.returns-clause-fault
returns-clause-fault c =
    let configured = rw c.as_slice-files.ensures at c.in_ok-config.ensures.config in
    rw c.from.ensures (fault_told c.args.snapshot.now.files c.in_ok-config.config c.in-Err.fault c.requires
    configured c.in-Err.ensures.fault)

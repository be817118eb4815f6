use Rattle.tree_report.proofs.LimitLaws.{small_files}
use Rattle.program_snapshots.proofs.ScanLaws.{scan_refused}
use Rattle.program_snapshots.proofs.siting.site_within.Goals as goal

pub read_configuration-requires : goal.read_configuration-requires
read_configuration-requires c = rw c.as_slice.ensures (small_files c.args.snapshot.files c.requires)

pub sited_of-requires-clause-configured : goal.sited_of-requires-clause-configured
sited_of-requires-clause-configured c = rw c.as_slice.ensures at c.in_ok-config.ensures.config

pub returns-in-Err-clause-refusal : goal.returns-in-Err-clause-refusal
returns-in-Err-clause-refusal c =
    let configured = rw c.as_slice.ensures at c.in_ok-config.ensures.config in
    rw c.from.ensures (scan_refused c.args.snapshot.files c.in_ok-config.config c.in-Err.fault c.requires
    configured c.in-Err.ensures.fault)

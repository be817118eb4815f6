use Rattle.std.proofs.Common.{◌≡◌, ◌++◌, drop}
use Rattle.tree_scan_sites.specs.Listed.{hidden_files}
use Rattle.tree_scan_sites.proofs.shadows.hidden_among.Given as goal

abbrev pub invariant-spelled : goal.invariant-spelled
invariant-spelled l = l.files.items ++ hidden_files l.spelled (drop l.entry-index l.spelled)
    ≡ hidden_files l.spelled l.spelled

use Rattle.std.proofs.Common.{rules}
use Rattle.std.proofs.lemmas.Fn.{always_returns_same}
use Rattle.tree_scan_sites.specs.Listed.{comes_before}
use Rattle.tree_scan_sites.proofs.FileLaws.{parted}
use Rattle.tree_scan_sites.proofs.search.place_of.Goals as goal

-- the closure asks whether a spelling's constant is before the path
pub returns-clause-parted : goal.returns-clause-parted
returns-clause-parted c =
    c.partition_point.ensures.partitioned (comes_before c.args.path.now)
    (always_returns_same _ _ _ (λ a r g called. (search rules, search rules)))
    (parted c.args.path.now c.args.spelled.now c.requires)

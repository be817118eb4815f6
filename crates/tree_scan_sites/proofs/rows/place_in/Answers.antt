use Rattle.std.proofs.Common.{rules}
use Rattle.std.proofs.lemmas.Fn.{always_returns_same}
use Rattle.tree_scan_sites.specs.Paths.{path_order}
use Rattle.tree_scan_sites.proofs.rows.place_in.Goals as goal

-- the closure compares a row's path with the path
pub returns-clause-position : goal.returns-clause-position
returns-clause-position c =
    c.binary_search_by.ensures.position (λ row. path_order row.path c.args.path.now)
    (always_returns_same _ _ _ (λ a r g called. (search rules, search rules)))

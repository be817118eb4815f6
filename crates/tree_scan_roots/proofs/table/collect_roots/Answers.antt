use Rattle.outside.specs.Tree.{paths_of}
use Rattle.tree_scan_roots.specs.Keys.{key_paths}
use Rattle.tree_scan_roots.specs.Roots.{named}
use Rattle.tree_scan_roots.proofs.KeyLaws.{distinct}
use Rattle.tree_scan_roots.proofs.RootLaws.{are_roots, joined_is}
use Rattle.tree_scan_roots.proofs.table.collect_roots.Goals as goal

pub add_line_roots-requires-clause-once : goal.add_line_roots-requires-clause-once
add_line_roots-requires-clause-once c =
    distinct (named c.args.lines.now) c.in_ok-numbers.numbers c.in_ok-numbers.ensures.numbered

pub returns-clause-roots : goal.returns-clause-roots
returns-clause-roots c =
    let lines = c.args.lines.now in
    let found = c.in_ok-directories.directories in
    are_roots (paths_of c.args.files.now) lines found c.add_line_roots.new.building.roots
    c.in_ok-add_default_roots.ensures.ordered c.in_ok-directories.ensures.exact
    (joined_is lines (key_paths found) c.add_default_roots.new.building.roots c.add_line_roots.new.building.roots
    c.in_ok-add_default_roots.ensures.added c.in_ok-add_line_roots.ensures.added)

pub returns-clause-once : goal.returns-clause-once
returns-clause-once c = distinct (named c.args.lines.now) c.in_ok-numbers.numbers c.in_ok-numbers.ensures.numbered

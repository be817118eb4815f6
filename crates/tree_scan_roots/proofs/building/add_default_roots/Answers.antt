use Rattle.std.proofs.Common.{◌≡◌, Contains, ◌∙◌, subst}
use Rattle.tree_scan_roots.specs.Roots.{root_paths}
use Rattle.tree_scan_roots.proofs.RootLaws.{IsSoFar, so_far_other}
use Rattle.tree_scan_roots.proofs.building.add_default_roots.Goals as goal

pub add_root-requires-clause-other : goal.add_root-requires-clause-other
add_root-requires-clause-other c =
    let lines = c.args.lines.now in
    let keys = c.args.directories.now.keys in
    let roots = c.directories.building.roots in
    let key = c.in-Some.directory.now in
    let so_far = subst (λ left. IsSoFar lines keys roots left) c.in-Some.ensures.steps c.directories.invariant.so_far in
    let path : c.in_ok-path.path ≡ key.items = c.in_ok-path.ensures ∙ c.as_slice.ensures.value in
    λ has. so_far_other lines keys roots key c.next.new.self c.iter-directory-items.ensures.ordered so_far
    (subst (λ p. Contains (root_paths roots) p) path has)

use Rattle.std.proofs.Common.{ℕ, List, ◌≡◌, ◌⊎◌, ◌↔◌, subst}
use Rattle.tree_scan_roots.specs.Keys.{Has}
use Rattle.tree_scan_roots.proofs.KeyLaws.{set_more}
use Rattle.tree_scan_roots.proofs.directories.add_directory.Goals as goal

pub returns-in_ok-insert : goal.returns-in_ok-insert
returns-in_ok-insert c =
    let key = c.in_ok-from_slice.field-0 in
    let e : key.items ≡ c.args.directory.now = c.in_ok-from_slice.ensures.items in
    subst
    (λ (bytes : List ℕ). (other : List ℕ) →
    Has c.insert.new.self other ↔ (Has c.args.found.now other ⊎ (bytes ≡ other)))
    e
    (set_more key.items c.args.found.now c.insert.new.self c.in_ok-insert.ensures.updates)

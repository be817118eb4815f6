use Rattle.std.proofs.Common.{◌≡◌, true, false, sym, ◌∙◌}
use Rattle.tree_scan_roots.proofs.DirectoryLaws.{top_is, top_isnt}
use Rattle.tree_scan_roots.proofs.directories.top_root.Goals as goal

pub returns-then-is_root_name : goal.returns-then-is_root_name
returns-then-is_root_name c =
    let found = c.in_ok-name.ensures.found in
    top_is c.args.path.now c.in_ok-name.name.now c.in_ok-name.field-0-1.now found.0 found.1
    (c.is_root_name.ensures.0 c.if-is_root_name.true)

pub returns-else-is_root_name : goal.returns-else-is_root_name
returns-else-is_root_name c =
    let found = c.in_ok-name.ensures.found in
    top_isnt c.args.path.now c.in_ok-name.name.now c.in_ok-name.field-0-1.now found.0 found.1
    (λ is. let z : true ≡ false = sym (c.is_root_name.ensures.1 is) ∙ c.if-is_root_name.false in cc)

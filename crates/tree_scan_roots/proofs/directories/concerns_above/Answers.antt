use Rattle.std.proofs.Common.{◌≡◌, true, false, sym, ◌∙◌}
use Rattle.tree_scan_roots.proofs.DirectoryLaws.{concerns_is, concerns_isnt}
use Rattle.tree_scan_roots.proofs.directories.concerns_above.Goals as goal

pub returns-then-begins_in_concerns : goal.returns-then-begins_in_concerns
returns-then-begins_in_concerns c =
    let found = c.in_ok-name.ensures.found in
    concerns_is c.args.path.now c.in_ok-name.name.now c.in_ok-name.below.now found.0 found.1
    (c.begins_in_concerns.ensures.0 c.if-begins_in_concerns.true)

pub returns-else-begins_in_concerns : goal.returns-else-begins_in_concerns
returns-else-begins_in_concerns c =
    let found = c.in_ok-name.ensures.found in
    concerns_isnt c.args.path.now c.in_ok-name.name.now c.in_ok-name.below.now found.0 found.1
    (λ is. let z : true ≡ false = sym (c.begins_in_concerns.ensures.1 is) ∙ c.if-begins_in_concerns.false in cc)

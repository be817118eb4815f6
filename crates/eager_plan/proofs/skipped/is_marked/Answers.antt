use Rattle.std.proofs.Common.{◌≡◌, ◌<◌, ◌≤◌, ◌+◌, ◌-◌, length, arith}
use Rattle.tree_scan.proofs.RootLaws.{inside_path}
use Rattle.eager_plan.proofs.MarkLaws.{none_so_long, unmarked_here, marked_here}
use Rattle.eager_plan.proofs.skipped.is_marked.Goals as goal

pub places-init : goal.places-init
places-init c =
    let behind : length c.args.root.now < length c.args.path.now =
    inside_path c.args.root.now c.args.path.now c.requires.0 c.requires.1 in
    record {
      within = omega arith;
      behind = behind;
      unmarked = none_so_long c.args.patterns.now c.args.root.now c.args.path.now;
    }

pub returns-then-is_named_up_to : goal.returns-then-is_named_up_to
returns-then-is_named_up_to c =
    let le : c.places.end ≤ length c.args.path.now = c.places.invariant.within in
    let behind : length c.args.root.now < c.places.end - 1 = omega arith in
    let within : c.places.end - 1 < length c.args.path.now = omega arith in
    marked_here c.args.patterns.now c.args.root.now c.args.path.now (c.places.end - 1) c.requires behind within
    c.if-is_named_up_to.ensures.0 c.if-is_named_up_to.ensures.1

pub places-preserved : goal.places-preserved
places-preserved c =
    let le : c.places.end ≤ length c.args.path.now = c.places.invariant.within in
    let last : c.places.end ≡ (c.places.end - 1) + 1 = omega arith in
    record {
      within = omega arith;
      behind = omega arith;
      unmarked = unmarked_here c.args.patterns.now c.args.root.now c.args.path.now (c.places.end - 1) c.places.end
          last c.places.invariant.unmarked c.if-is_named_up_to.ensures;
    }

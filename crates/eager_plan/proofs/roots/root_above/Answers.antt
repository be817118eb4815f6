use Rattle.std.proofs.Common.{◌∙◌, subst}
use Rattle.std.proofs.lemmas.Option.{slice_get_within}
use Rattle.tree_scan_roots.specs.Directories.{IsAbove}
use Rattle.tree_scan.proofs.RootLaws.{none_longest, same_path}
use Rattle.eager_plan.proofs.roots.root_above.Goals as goal

pub unreachable-requires : goal.unreachable-requires
unreachable-requires c =
    none_longest c.args.roots.now c.args.path.now c.requires.0 c.in-None.ensures c.requires.1

pub root_at-requires : goal.root_at-requires
root_at-requires c =
    let longest = c.in-Some.ensures in
    slice_get_within c.args.roots.now c.in-Some.number longest.root longest.at

pub returns-clause-above : goal.returns-clause-above
returns-clause-above c =
    let longest = c.in-Some.ensures in
    subst (λ root. IsAbove root c.args.path.now) (c.root_at.ensures longest.root longest.at) longest.above

pub returns-clause-longest : goal.returns-clause-longest
returns-clause-longest c = λ number other.
    let longest = c.in-Some.ensures in
    same_path c.args.roots.now c.args.path.now number c.in-Some.number other longest
    ∙ c.root_at.ensures longest.root longest.at

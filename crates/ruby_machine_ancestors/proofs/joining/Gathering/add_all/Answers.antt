use Rattle.std.proofs.Common.{◌++◌, ◌∷◌, [], ◌∙◌, add-one, ap, arith, subst, sym, take}
use Rattle.std.proofs.Math.Seq.{take-suc}
use Rattle.ruby_runs.specs.Runs.{with_paths}
use Rattle.ruby_machine_ancestors.specs.Gathers.{Gathers}
use Rattle.ruby_machine_ancestors.proofs.Gathered.{with_paths-push}
use Rattle.ruby_machine_ancestors.proofs.joining.Gathering.add_all.Goals as goal

pub paths-preserved : goal.paths-preserved
paths-preserved c before gathered =
    let paths = c.args.paths.now in
    let at = c.paths.path-index in
    let path = c.path-item.result in
    subst (Gathers c.add.new.self)
    (sym (ap (λ n. with_paths before (take n paths)) (add-one at)
    ∙ (ap (with_paths before) (take-suc paths at path (omega (arith, c.paths-test.true))
    ∙ ap (λ p. take at paths ++ p ∷ []) (sym c.path-item.is)) ∙ with_paths-push before (take at paths) path)))
    (c.in_ok-add.ensures (with_paths before (take at paths)) (c.paths.invariant before gathered))

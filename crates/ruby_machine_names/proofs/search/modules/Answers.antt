use Rattle.std.proofs.Common.{◌≡◌, ◌++◌, ◌∷◌, [], ap, sym, ◌∙◌, arith, add-one, take, length}
use Rattle.std.proofs.Math.Seq.{take-suc}
use Rattle.std.proofs.lemmas.List.Elements.{filter_map-append}
use Rattle.ruby_runs.specs.Names as spec
use Rattle.ruby_machine_names.proofs.search.modules.Goals as goal

pub items-preserved : goal.items-preserved
items-preserved c =
    let xs = c.args.items.now in
    rw (
      add-one,
      take-suc xs c.items.item-index c.item-item.result (omega (arith, c.items-test.true)),
      ← c.item-item.is,
      filter_map-append spec.module_of (take c.items.item-index xs) (c.item-item.result ∷ []),
      ← c.items.invariant,
    )
    c.in_ok-push_module.ensures

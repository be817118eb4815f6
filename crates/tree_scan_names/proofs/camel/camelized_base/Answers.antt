use Rattle.std.proofs.Common.{◌++◌, true, ap, ◌∙◌}
use Rattle.tree_scan_names.proofs.CamelLaws.{cased_from, cased_from-camelized}
use Rattle.tree_scan_names.proofs.camel.camelized_base.Goals as goal

pub bytes-init : goal.bytes-init
bytes-init c = ap (λ written. written ++ cased_from true c.args.base.now) c.new-name.ensures.items
    ∙ cased_from-camelized c.args.base.now

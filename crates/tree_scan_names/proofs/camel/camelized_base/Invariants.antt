use Rattle.std.proofs.Common.{◌≡◌, ◌++◌, drop}
use Rattle.tree_scan_names.specs.Camel.{camelized}
use Rattle.tree_scan_names.proofs.CamelLaws.{cased_from}
use Rattle.tree_scan_names.proofs.camel.camelized_base.Given as goal

abbrev pub invariant-bytes : goal.invariant-bytes
invariant-bytes l = l.name.items ++ cased_from l.begins (drop l.byte-index l.base) ≡ camelized l.base

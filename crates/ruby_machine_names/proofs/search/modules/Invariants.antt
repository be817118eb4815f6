use Rattle.std.proofs.Common.{◌≡◌, take, filter_map}
use Rattle.ruby_runs.specs.Names as spec
use Rattle.ruby_machine_names.proofs.search.modules.Given as goal

abbrev pub invariant-items : goal.invariant-items
invariant-items l = l.paths.items ≡ filter_map spec.module_of (take l.item-index l.items)

use Rattle.std.proofs.Common.{◌∙◌, sym}
use Rattle.ruby_machine_calls.proofs.Calling.{not_new_kept}
use Rattle.ruby_machine_calls.proofs.singletons.new_or_built_in.Goals as goal

pub returns-else-is_new : goal.returns-else-is_new
returns-else-is_new g c =
    let i = g.P.Lookups.index c.args.program.now in
    let k = g.P.Lookups.entries c.args.program.now in
    not_new_kept i k c.args.core.now c.built_in.result c.built_in.new.core c.args.path c.args.name.now c.args.args
    (sym c.is_new.ensures ∙ c.if-is_new.false) (c.built_in.ensures i k)

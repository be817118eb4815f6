use Rattle.program_methods.proofs.MethodLaws.{first_kept}
use Rattle.program_methods.proofs.method_table.MethodTable.new.Goals as goal

pub returns : goal.returns
returns c = first_kept c.args.methods.items c.put_in_order.new.methods.items c.put_in_order.ensures.stable

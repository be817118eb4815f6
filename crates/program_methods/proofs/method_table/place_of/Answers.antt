use Rattle.std.proofs.Common.{rules}
use Rattle.std.proofs.lemmas.Fn.{always_returns_same}
use Rattle.program_methods.specs.Methods.{comes_before}
use Rattle.program_methods.proofs.MethodLaws.{parted}
use Rattle.program_methods.proofs.method_table.place_of.Goals as goal

-- the closure asks whether a method's name is before this one
pub returns-clause-parted : goal.returns-clause-parted
returns-clause-parted c =
    c.partition_point.ensures.partitioned (comes_before c.args.name.now)
    (always_returns_same _ _ _ (λ a r g called. (search rules, search rules)))
    (parted c.args.name.now c.args.methods.now c.requires)

use Rattle.std.proofs.Common.{◌+◌, ◌*◌, refl}
use Rattle.ruby_machine_values.proofs.Paying.{paid, unpaid}
use Rattle.ruby_machine_values.proofs.making.made.Goals as goal

pub returns-in-Some : goal.returns-in-Some
returns-in-Some c i k =
    paid i k c.args.core.now c.args.value (c.args.core.now.turns * 16 + 15) c.in-Some.rest refl c.in-Some.ensures

pub returns-in-None : goal.returns-in-None
returns-in-None c i k =
    unpaid i k c.args.core.now c.args.value (c.args.core.now.turns * 16 + 15) c.spent.result refl c.in-None.ensures
    c.spent.ensures

use Rattle.load_table.proofs.Keys.{other_key}
use Rattle.load_table.proofs.table.Table.define.Goals as goal

pub returns-clause-old : goal.returns-clause-old
returns-clause-old c = λ other differs.
    c.in-Ok.ensures.updates.2 (record { task = other }) (other_key c.args.task other c.requires.load differs)

use Rattle.eager_loads.proofs.First.{defined_first}
use Rattle.load_many.proofs.Tables.{empty_is_part}
use Rattle.eager_loads.proofs.loads.load_files.Goals as goal

pub load_each-requires-clause-tasks : goal.load_each-requires-clause-tasks
load_each-requires-clause-tasks g c = c.requires.files

pub load_each-requires-clause-part : goal.load_each-requires-clause-part
load_each-requires-clause-part g c = empty_is_part _ _ c.new-table.ensures

pub lines_of-requires-clause-tasks : goal.lines_of-requires-clause-tasks
lines_of-requires-clause-tasks g c = c.requires.tasks

pub lines_of-requires-clause-part : goal.lines_of-requires-clause-part
lines_of-requires-clause-part g c = c.in_ok-loaded.ensures.part

pub returns-clause-defined : goal.returns-clause-defined
returns-clause-defined g c =
    defined_first _ _ _ _ _ c.new-table.ensures c.in_ok-loaded.ensures.defined

pub returns-clause-lines : goal.returns-clause-lines
returns-clause-lines g c = c.in_ok-lines.ensures

use Rattle.std.proofs.Common.{◌≡◌, ◌++◌}
use Rattle.by_need.specs.Load.{Gains}
use Rattle.by_need.specs.Rounds.{Part, known}
use Rattle.by_need_loader.specs.Ends.{GoesOn, defined_tasks}
use Rattle.by_need_loader.specs.Steps.{IsReady}
use Rattle.by_need_loader.specs.Progress.{left_to_do, nothing_done}
use Rattle.by_need_loader.proofs.whole.load_noting.Given as goal

abbrev pub invariant-steps : goal.invariant-steps
invariant-steps g l = record {
  ready : IsReady l.loader.phase;
  at : GoesOn (g.Y.Theory.rules l.theory) (g.Y.Program.runs l.theory) l.fn.task (g.B.Table.at l.initial.table)
      (g.B.Table.at l.table) l.loader;
  noted : l.noted.items ≡ l.initial.noted.items ++ defined_tasks at.made;
  part : Part (g.B.Table.at l.table) (known (g.Y.Theory.rules l.theory));
  gains : Gains (g.Y.Theory.rules l.theory) l.fn.task (g.B.Table.at l.initial.table) (g.B.Table.at l.table);
}

abbrev pub decreases-steps : goal.decreases-steps
decreases-steps g l = left_to_do (g.Y.Theory.rules l.theory) (g.Y.Program.runs l.theory)
    (nothing_done l.fn.task (g.B.Table.at l.table)) l.loader

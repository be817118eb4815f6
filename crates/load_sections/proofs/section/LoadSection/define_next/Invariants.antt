use Rattle.std.proofs.Common.{◌≡◌, List, Option}
use Rattle.by_need_loader.specs.Steps.{todo}
use Rattle.load_sections.specs.Sections.{table_at, IsLoading}
use Rattle.load_sections.proofs.section.LoadSection.define_next.Given as goal

abbrev pub invariant-looks : goal.invariant-looks
invariant-looks g l = record {
  seat : l.self.seat ≡ l.initial.self.seat;
  state : l.system.state ≡ l.initial.system.state;
  keeps : (sought : g.row.Y-Task.Denot) (at_first : g.row.Y-Task.Denot → Option g.row.Y-Value.Denot)
      (made : List (g.row.Y-Task.Denot × g.row.Y-Value.Denot)) →
      IsLoading g.M.Matter.facts (g.Y.Theory.rules l.theory) (g.Y.Program.runs l.theory) sought at_first
      l.initial.system.state l.initial.self.seat made l.initial.self.loader →
      IsLoading g.M.Matter.facts (g.Y.Theory.rules l.theory) (g.Y.Program.runs l.theory) sought at_first
      l.system.state l.initial.self.seat made l.self.loader;
}

abbrev pub decreases-looks : goal.decreases-looks
decreases-looks g l = todo (g.Y.Theory.rules l.theory) (g.Y.Program.runs l.theory).branch
    (g.Y.Program.runs l.theory).rest (table_at g.M.Matter.facts l.system.state) l.self.loader.tasks
    l.self.loader.waiting l.self.loader.phase

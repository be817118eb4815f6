use Rattle.std.proofs.Common.{true, subst, refl}
use Rattle.ruby_parse_marks.specs.Deeds.{done_of, Does}
use Rattle.ruby_parse_marks.proofs.NotedLaws.{sound_done, clear_is, clash_is, adds, same_places}
use Rattle.ruby_parse_marks.proofs.marks.Marks.add.Goals as goal

pub invariant_of-self-then-branch : goal.invariant_of-self-then-branch
invariant_of-self-then-branch c = sound_done c.self.inside.paths.entries c.self.inside.here
    c.self.inside.around.items (done_of c.self.inside.deeds) c.self.invariant c.args.act (done_of c.done.new.deeds)
    true (subst (λ b. Does (done_of c.self.inside.deeds) c.self.inside.here c.args.act b (done_of c.done.new.deeds))
    c.if-branch.true c.in_ok-done.ensures.ok)

pub returns-then-branch-clause-clear : goal.returns-then-branch-clause-clear
returns-then-branch-clause-clear c = clear_is c.self.inside.paths.entries c.self.inside.here
    c.self.inside.around.items (done_of c.self.inside.deeds) c.self.invariant c.args.act (done_of c.done.new.deeds)
    c.args.self.now c.self.view_is c.args.at
    (subst (λ b. Does (done_of c.self.inside.deeds) c.self.inside.here c.args.act b (done_of c.done.new.deeds))
    c.if-branch.true c.in_ok-done.ensures.ok)

pub returns-then-branch-clause-added : goal.returns-then-branch-clause-added
returns-then-branch-clause-added c = adds c.self.inside.paths.entries c.self.inside.here
    c.self.inside.around.items (done_of c.self.inside.deeds) c.self.invariant c.args.act (done_of c.done.new.deeds)
    c.args.self.now c.self.view_is c.args.at
    (subst (λ b. Does (done_of c.self.inside.deeds) c.self.inside.here c.args.act b (done_of c.done.new.deeds))
    c.if-branch.true c.in_ok-done.ensures.ok)

pub returns-clause-refused : goal.returns-clause-refused
returns-clause-refused c = (
  clash_is c.self.inside.paths.entries c.self.inside.here c.self.inside.around.items
      (done_of c.self.inside.deeds) c.self.invariant c.args.act (done_of c.done.new.deeds) c.args.self.now
      c.self.view_is c.args.at
      (subst (λ b. Does (done_of c.self.inside.deeds) c.self.inside.here c.args.act b (done_of c.done.new.deeds))
      c.if-branch.false c.in_ok-done.ensures.ok),
  refl,
)

pub returns-then-branch-clause-bodies : goal.returns-then-branch-clause-bodies
returns-then-branch-clause-bodies c = same_places c.self.inside.paths.entries c.self.inside.here
    c.self.inside.around.items (done_of c.self.inside.deeds) c.self.invariant c.args.act (done_of c.done.new.deeds)
    c.args.self.now c.self.view_is c.args.at

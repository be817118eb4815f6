use Rattle.ruby_parse_marks.specs.Deeds.{done_of}
use Rattle.ruby_parse_marks.proofs.NotedLaws.{sound_out, closed}
use Rattle.ruby_parse_marks.proofs.marks.Marks.close.Goals as goal

pub invariant_of-self : goal.invariant_of-self
invariant_of-self c = sound_out c.self.inside.paths.entries c.self.inside.here c.self.inside.around.items
    (done_of c.self.inside.deeds) c.self.invariant c.in-Some.outer c.pop.new.self.items c.in-Some.ensures.items

pub returns-in-Some : goal.returns-in-Some
returns-in-Some c = closed c.self.inside.paths.entries c.self.inside.here c.self.inside.around.items
    (done_of c.self.inside.deeds) c.self.invariant c.in-Some.outer c.pop.new.self.items c.in-Some.ensures.items
    c.args.self.now c.self.view_is

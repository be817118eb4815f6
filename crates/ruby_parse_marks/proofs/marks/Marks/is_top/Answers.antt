use Rattle.ruby_parse_marks.specs.Deeds.{done_of}
use Rattle.ruby_parse_marks.proofs.NotedLaws.{top_is}
use Rattle.ruby_parse_marks.proofs.marks.Marks.is_top.Goals as goal

pub returns : goal.returns
returns c = top_is c.self.inside.paths.entries c.self.inside.here c.self.inside.around.items
    (done_of c.self.inside.deeds) c.self.invariant c.args.self.now c.self.view_is

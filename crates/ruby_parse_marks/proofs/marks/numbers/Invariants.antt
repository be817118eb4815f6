use Rattle.std.proofs.Common.{drop}
use Rattle.ruby_parse_marks.specs.Paths.{Advanced}
use Rattle.ruby_parse_marks.proofs.marks.numbers.Given as goal

abbrev pub invariant-names : goal.invariant-names
invariant-names l = Advanced l.fn.paths.entries l.fn.outer l.names l.paths.entries l.inner (drop l.name-index l.names)

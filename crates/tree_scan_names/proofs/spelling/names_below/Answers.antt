use Rattle.tree_scan_names.proofs.SpellLaws.{IsSpelling-judged, IsSpelling-one}
use Rattle.tree_scan_names.specs.Spellings.{above, behind}
use Rattle.tree_scan_names.proofs.spelling.names_below.Goals as goal

pub returns-in-Some-clause-spelled : goal.returns-in-Some-clause-spelled
returns-in-Some-clause-spelled c =
    IsSpelling-judged c.args.rules.now (above c.args.path.now c.args.root_length)
    (behind c.args.path.now c.args.root_length) c.parts_around.result.0.now c.parts_around.result.1.now c.in-Some.names
    c.judged_names.result
    c.parts_around.ensures.above c.parts_around.ensures.behind c.if-is_passed_over.ensures
    (rw c.in-Some.is at c.in_ok-spelled_names.ensures) c.judged_names.ensures

pub returns-in-Some-clause-only : goal.returns-in-Some-clause-only
returns-in-Some-clause-only c = λ other h.
    IsSpelling-one c.args.rules.now (above c.args.path.now c.args.root_length)
    (behind c.args.path.now c.args.root_length) c.judged_names.result other (returns-in-Some-clause-spelled c) h

use Rattle.std.proofs.Common.{◌≡◌, sym, ◌∙◌, Some}
use Rattle.script_lines.specs.Lines.{verb_of}
use Rattle.script_lines.proofs.Splitting.{says_line, parts_step}
use Rattle.script_lines.proofs.words.line_told.Goals as goal

pub returns-in-Some : goal.returns-in-Some
returns-in-Some c =
    let verb : verb_of c.cut_at.result.0.now ≡ Some c.in-Some.verb = sym c.verb_of.ensures ∙ c.in-Some.is in
    says_line c.told_by.result c.args.line.now c.cut_at.result.0.now c.args.content c.cut_at.result.1
    (sym c.is_content.ensures ∙ c.if-is_content.false)
    (parts_step 32 c.args.line.now c.cut_at.result.0.now c.cut_at.result.1 c.cut_at.ensures.parts)
    (rw verb c.told_by.ensures)

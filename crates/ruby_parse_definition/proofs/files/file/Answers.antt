use Rattle.std.proofs.Common.{◌∙◌, sym, subst}
use Rattle.ruby_parse_definition.specs.Answers.{GivesFileFrom}
use Rattle.ruby_parse_definition.proofs.DefinitionLaws.{line_and_file, file_alone}
use Rattle.ruby_parse_definition.proofs.files.file.Goals as goal
use Rattle.ruby_parse_definition.proofs.files.file.Goals.{then-sees, else-sees}

pub returns-clause-reads : goal.returns-clause-reads
returns-clause-reads c = elim c.if-sees.branch [
  | then-sees w ↦ line_and_file c.args.cursor.now c.file_from.new.cursor c.file_from.result c.if-sees.cursor
      (sym c.sees.ensures ∙ w.if-sees.true) (w.cursor-is ∙ w.skip.ensures) c.file_from.ensures.reads
  | else-sees w ↦ file_alone c.args.cursor.now c.file_from.new.cursor c.file_from.result (sym c.sees.ensures
      ∙ w.if-sees.false) (subst (λ l. GivesFileFrom l c.file_from.result c.file_from.new.cursor) w.cursor-is
      c.file_from.ensures.reads)
]

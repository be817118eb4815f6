use Rattle.std.proofs.Common.{ℕ, List, inr, subst}
use Rattle.command_words.proofs.Commands.{is_command_line}
use Rattle.command_words.specs.Command.{Spells}
use Rattle.command_runs.proofs.Written.{faulty_words_written, question_written, known_written}
use Rattle.command_runs.specs.Output.{IsWanted}
use Rattle.command_runs.specs.declared.answer.Wanted.{Wanted}
use Rattle.command_runs.proofs.runs.run_words.Goals as goal

pub returns-in_default-clause-written : goal.returns-in_default-clause-written
returns-in_default-clause-written g c =
    faulty_words_written g.A.Answers.is_answer c.args.words.now _ _ c.in_default.ensures

pub returns-in-Ok-OnFiles-clause-written : goal.returns-in-Ok-OnFiles-clause-written
returns-in-Ok-OnFiles-clause-written g c =
    let P : Wanted → Type 0 = λ w. (words : List (List ℕ)) → Spells c.in-Some.command words → IsWanted words w in
    question_written g.A.Answers.is_answer c.args.words.now c.in-Ok-OnFiles.question _ _ _ _
    (subst P c.in-Ok-OnFiles.field-0-is c.in-Ok-OnFiles.ensures c.args.words.now c.in-Some.ensures)
    c.ask.ensures.written

pub returns-in-Ok-Known-clause-written : goal.returns-in-Ok-Known-clause-written
returns-in-Ok-Known-clause-written g c =
    let P : Wanted → Type 0 = λ w. (words : List (List ℕ)) → Spells c.in-Some.command words → IsWanted words w in
    known_written g.A.Answers.is_answer c.args.words.now _ c.in-Ok-Known.answer c.write_answer.result _ _
    (subst P c.in-Ok-Known.field-0-is c.in-Ok-Known.ensures c.args.words.now c.in-Some.ensures)
    c.write_answer.ensures.own c.write_answer.ensures.written

pub returns-in-Ok-Known-clause-command : goal.returns-in-Ok-Known-clause-command
returns-in-Ok-Known-clause-command g c =
    inr (is_command_line c.in-Some.command c.args.words.now c.in-Some.ensures)

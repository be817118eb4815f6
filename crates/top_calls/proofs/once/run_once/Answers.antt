use Rattle.std.proofs.Common.{◌≡◌, IfOk, Result, subst}
use Rattle.top_calls.specs.Output.{Output, not_built_line}
use Rattle.top_calls.specs.declared.answer.Answer.{Answer}
use Rattle.top_calls.specs.declared.outcome.Outcome.TheVariants.{NotBuilt}
use Rattle.top_calls.proofs.Outputs.{faulty_words_written, question_written, asked_is_built, answer_written}
use Rattle.top_calls.proofs.Outputs.{unbuilt_output}
use Rattle.top_calls.proofs.once.run_once.Goals as goal

pub returns-in_default-clause-written : goal.returns-in_default-clause-written
returns-in_default-clause-written g c = faulty_words_written c.args.words.now _ _ c.in_default.ensures

pub returns-in-Ok-clause-written : goal.returns-in-Ok-clause-written
returns-in-Ok-clause-written g c =
    question_written c.args.words.now c.in-Ok.question _ _ _ _
    (c.in-Ok.ensures c.args.words.now c.in-Some.ensures) c.ask.ensures.written

pub returns-in-Ok-clause-unread : goal.returns-in-Ok-clause-unread
returns-in-Ok-clause-unread g c = λ other.
    absurd (asked_is_built c.args.words.now c.in-Ok.question
    (c.in-Ok.ensures c.args.words.now c.in-Some.ensures) other)

pub returns-in-Err-clause-written : goal.returns-in-Err-clause-written
returns-in-Err-clause-written g c =
    let asks = c.in-Err.ensures c.args.words.now c.in-Some.ensures in
    let P = λ (given : Result Answer _). IfOk given (λ answer. (answer.bytes ≡ not_built_line)
    × (answer.outcome ≡ NotBuilt c.in-Err.what)) in
    answer_written (Output c.args.words.now) _ c.not_built.result c.write_answer.result _ _
    c.write_answer.ensures.own
    (λ files given held is. (let has = subst P is c.not_built.ensures in
    unbuilt_output c.args.words.now files c.in-Err.what given.bytes given.outcome asks has.0 has.1))
    c.write_answer.ensures.written

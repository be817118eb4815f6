use Rattle.command_runs.proofs.Statuses.{refused_is, is_refused, later_is, is_later}
use Rattle.command_runs.proofs.runs.run_command_line.Goals as goal

pub returns-clause-refused : goal.returns-clause-refused
returns-clause-refused g c =
    refused_is g.A.Answers.is_answer g.A.Answers.ends c.args.words.now _ c.run_words.result _ _
    c.run_words.ensures.written

pub returns-clause-refused_only : goal.returns-clause-refused_only
returns-clause-refused_only g c =
    is_refused g.A.Answers.is_answer g.A.Answers.ends c.args.words.now _ c.run_words.result _ _
    c.run_words.ensures.written

pub returns-clause-not_built : goal.returns-clause-not_built
returns-clause-not_built g c =
    later_is g.A.Answers.is_answer g.A.Answers.ends c.args.words.now _ c.run_words.result _ _
    c.run_words.ensures.written

pub returns-clause-not_built_only : goal.returns-clause-not_built_only
returns-clause-not_built_only g c =
    is_later g.A.Answers.is_answer g.A.Answers.ends c.args.words.now _ c.run_words.result _ _
    c.run_words.ensures.written

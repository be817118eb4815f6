use Rattle.std.proofs.lemmas.Result.{IfOk-weaker}
use Rattle.load_table.specs.Tables.{value_in}
use Rattle.request_replies.proofs.Asks.{asks_for_tasks, gained_so, replied_so}
use Rattle.request_replies.proofs.replies.reply_to.Goals as goal

pub answer_run-requires-clause-tasks : goal.answer_run-requires-clause-tasks
answer_run-requires-clause-tasks g c =
    asks_for_tasks c.requires.run.0 c.args.request.now (g.Y.Theory.rules c.args.program.now)
    ((g.Y.Program.runs c.args.program.now).rest c.args.running) c.requires.run.1

pub returns-in_err-answered-clause-gains : goal.returns-in_err-answered-clause-gains
returns-in_err-answered-clause-gains g c app is =
    gained_so app c.args.request.now (g.Y.Theory.rules c.args.program.now)
    ((g.Y.Program.runs c.args.program.now).rest c.args.running) is (value_in c.args.table.now)
    (value_in c.answer_run.new.table) c.in_err-answered.ensures.gains

pub returns-clause-reply : goal.returns-clause-reply
returns-clause-reply g c = IfOk-weaker c.reply_of.result _ _
    (λ reply told app is. replied_so app c.args.request.now (g.Y.Theory.rules c.args.program.now)
    ((g.Y.Program.runs c.args.program.now).rest c.args.running) is c.in_ok-answered.answered reply told
    c.in_ok-answered.ensures.answers) c.reply_of.ensures

pub returns-clause-gains : goal.returns-clause-gains
returns-clause-gains g c app is =
    gained_so app c.args.request.now (g.Y.Theory.rules c.args.program.now)
    ((g.Y.Program.runs c.args.program.now).rest c.args.running) is (value_in c.args.table.now)
    (value_in c.answer_run.new.table) c.in_ok-answered.ensures.gains

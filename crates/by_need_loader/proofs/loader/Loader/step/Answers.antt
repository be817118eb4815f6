use Rattle.std.proofs.Common.{sym, ◌∙◌}
use Rattle.std.proofs.lemmas.Result.{IfOk-weaker}
use Rattle.by_need_loader.proofs.Goes.{step_asked, step_lacks, step_runs}
use Rattle.by_need_loader.proofs.loader.Loader.step.Goals as goal

pub returns-in-Asked : goal.returns-in-Asked
returns-in-Asked g c =
    let r = g.Y.Theory.rules c.args.theory.now in
    let m = g.Y.Program.runs c.args.theory.now in
    let laws = g.Y.Theory.laws c.args.theory.now in
    rw (← c.self.view_is)
    (IfOk-weaker c.look.result _ _ (λ told f h ready on.
    let a = step_asked r m laws h _ _ on c.in-Asked.task (sym c.replace.ensures.value ∙ c.in-Asked.is) in
    f c.args.theory.now h _ a.0 a.1) c.look.ensures)

pub returns-in-Lacks : goal.returns-in-Lacks
returns-in-Lacks g c =
    let r = g.Y.Theory.rules c.args.theory.now in
    let m = g.Y.Program.runs c.args.theory.now in
    let laws = g.Y.Theory.laws c.args.theory.now in
    rw (← c.self.view_is)
    (IfOk-weaker c.enter.result _ _ (λ told f h ready on.
    let a = step_lacks r m laws h _ _ on c.in-Lacks.task (sym c.replace.ensures.value ∙ c.in-Lacks.is) in
    f h _ a.0 a.1 a.2) c.enter.ensures)

pub returns-in-Runs : goal.returns-in-Runs
returns-in-Runs g c =
    let r = g.Y.Theory.rules c.args.theory.now in
    let m = g.Y.Program.runs c.args.theory.now in
    let laws = g.Y.Theory.laws c.args.theory.now in
    rw (← c.self.view_is)
    (IfOk-weaker c.go_on.result _ _ (λ told f h ready on.
    let a = step_runs r m laws h _ on c.in-Runs.task c.in-Runs.running
    (sym c.replace.ensures.value ∙ c.in-Runs.is) in
    f h _ (record { keyed = a.0; running = a.1 }) a.2) c.go_on.ensures)

use Rattle.std.proofs.Common.{◌≡◌}
use Rattle.std.proofs.lemmas.Result.{IfOk-weaker}
use Rattle.request_actor.specs.declared.actor.Stage.TheVariants as stage
use Rattle.request_actor.proofs.Right.{keeps_right, goes_at, runs_whole}
use Rattle.request_actor.proofs.actor.Actor.next.Goals as goal

pub returns-in_ok-run-in-Begins-clause-right : goal.returns-in_ok-run-in-Begins-clause-right
returns-in_ok-run-in-Begins-clause-right g c =
    let here : c.args.self.now ≡ stage.Begins c.in-Begins.request = cc in
    IfOk-weaker c.run.result _ _
    (λ asked runs. keeps_right g.M.Matter.facts g.M.Requests.talks c.args.program.now
    g.met.M.Requests.replies_follow c.args.self.now c.args.answered asked c.run.new.self
    (goes_at g.M.Requests.talks c.args.program.now _ _ c.args.answered asked c.run.new.self here
    (runs_whole g.M.Requests.talks.branch _ _ asked c.run.new.self c.in_ok-run-in-Begins.ensures runs)))
    c.run.ensures

pub returns-in-Looks-clause-right : goal.returns-in-Looks-clause-right
returns-in-Looks-clause-right g c =
    let here : c.args.self.now ≡ stage.Looks c.in-Looks.task c.in-Looks.waiting = cc in
    IfOk-weaker c.looked.result _ _
    (λ asked looks. keeps_right g.M.Matter.facts g.M.Requests.talks c.args.program.now
    g.met.M.Requests.replies_follow c.args.self.now c.args.answered asked c.looked.new.self
    (goes_at g.M.Requests.talks c.args.program.now _ _ c.args.answered asked c.looked.new.self here looks))
    c.looked.ensures

pub returns-in-Loads-clause-right : goal.returns-in-Loads-clause-right
returns-in-Loads-clause-right g c =
    let here : c.args.self.now ≡ stage.Loads c.in-Loads.task c.in-Loads.waiting = cc in
    IfOk-weaker c.loaded.result _ _
    (λ asked loads. keeps_right g.M.Matter.facts g.M.Requests.talks c.args.program.now
    g.met.M.Requests.replies_follow c.args.self.now c.args.answered asked c.loaded.new.self
    (goes_at g.M.Requests.talks c.args.program.now _ _ c.args.answered asked c.loaded.new.self here loads))
    c.loaded.ensures

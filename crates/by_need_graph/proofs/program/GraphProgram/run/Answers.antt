use Rattle.std.proofs.Common.{◌≡◌, slice_get, Some, None, option_copied, sym, ap, ◌∙◌}
use Rattle.by_need_graph.specs.Graph.{ends}
use Rattle.by_need_graph.proofs.Questions.{run_asks, run_ends}
use Rattle.by_need_graph.proofs.program.GraphProgram.run.Goals as goal

pub returns-in-Some-question_at : goal.returns-in-Some-question_at
returns-in-Some-question_at c =
    let e : slice_get c.args.self.now.bodies.items c.args.running.task ≡ Some c.in-Some.body.now =
    ap (λ xs. slice_get xs c.args.running.task) (sym c.deref.ensures.value) ∙ sym c.body_at.ensures
    ∙ ap option_copied c.in-Some.is in
    let h : slice_get c.in-Some.body.now.questions.items c.args.running.place ≡ Some c.in-Some-question_at.asked =
    ap (λ xs. slice_get xs c.args.running.place) (sym c.deref-in-Some.ensures.value) ∙ sym c.question_at.ensures
    ∙ c.in-Some-question_at.is in
    run_asks _ c.in-Some.body.now c.args.running.sum c.args.running.place c.in-Some-question_at.asked e h

pub returns-in-Sum : goal.returns-in-Sum
returns-in-Sum c =
    let e : slice_get c.args.self.now.bodies.items c.args.running.task ≡ Some c.in-Some.body.now =
    ap (λ xs. slice_get xs c.args.running.task) (sym c.deref.ensures.value) ∙ sym c.body_at.ensures
    ∙ ap option_copied c.in-Some.is in
    let h : slice_get c.in-Some.body.now.questions.items c.args.running.place ≡ None =
    ap (λ xs. slice_get xs c.args.running.place) (sym c.deref-in-Some.ensures.value) ∙ sym c.question_at.ensures
    ∙ c.in-None-question_at.is in
    run_ends _ c.in-Some.body.now c.args.running.sum c.args.running.place e h ∙ ap (ends c.args.running.sum) c.in-Sum.is

pub returns-in-Fail : goal.returns-in-Fail
returns-in-Fail c =
    let e : slice_get c.args.self.now.bodies.items c.args.running.task ≡ Some c.in-Some.body.now =
    ap (λ xs. slice_get xs c.args.running.task) (sym c.deref.ensures.value) ∙ sym c.body_at.ensures
    ∙ ap option_copied c.in-Some.is in
    let h : slice_get c.in-Some.body.now.questions.items c.args.running.place ≡ None =
    ap (λ xs. slice_get xs c.args.running.place) (sym c.deref-in-Some.ensures.value) ∙ sym c.question_at.ensures
    ∙ c.in-None-question_at.is in
    run_ends _ c.in-Some.body.now c.args.running.sum c.args.running.place e h
    ∙ ap (ends c.args.running.sum) c.in-Fail.is

pub returns-in-Stop : goal.returns-in-Stop
returns-in-Stop c =
    let e : slice_get c.args.self.now.bodies.items c.args.running.task ≡ Some c.in-Some.body.now =
    ap (λ xs. slice_get xs c.args.running.task) (sym c.deref.ensures.value) ∙ sym c.body_at.ensures
    ∙ ap option_copied c.in-Some.is in
    let h : slice_get c.in-Some.body.now.questions.items c.args.running.place ≡ None =
    ap (λ xs. slice_get xs c.args.running.place) (sym c.deref-in-Some.ensures.value) ∙ sym c.question_at.ensures
    ∙ c.in-None-question_at.is in
    run_ends _ c.in-Some.body.now c.args.running.sum c.args.running.place e h
    ∙ ap (ends c.args.running.sum) c.in-Stop.is

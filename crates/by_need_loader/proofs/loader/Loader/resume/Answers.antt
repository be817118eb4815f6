use Rattle.std.proofs.Common.{sym, ◌∙◌}
use Rattle.std.proofs.lemmas.List.{nil_from_length}
use Rattle.by_need_loader.proofs.Goes.{resumed_none, resumed_some}
use Rattle.by_need_loader.proofs.loader.Loader.resume.Goals as goal

pub returns-in-None : goal.returns-in-None
returns-in-None g c =
    rw (c.set_phase.ensures, ← c.self.view_is)
    (λ s h u k w. resumed_none (g.Y.Theory.rules s) (g.Y.Program.runs s) (g.Y.Theory.laws s) h _ c.pop.new.self.items u
    c.args.value.now k w (nil_from_length _ (sym c.self.inside.tasks.ok.0 ∙ c.in-None.ensures.cases.0))
    c.in-None.ensures.items)

pub returns-in_ok-running-in-Some : goal.returns-in_ok-running-in-Some
returns-in_ok-running-in-Some g c =
    rw (c.set_phase-in-Some-pop.ensures, ← c.self.view_is)
    (λ s h u k w. resumed_some (g.Y.Theory.rules s) (g.Y.Program.runs s) (g.Y.Theory.laws s) h _ c.pop.new.self.items
    c.pop-in-Some.new.self.items c.in-Some.task c.in-Some-pop.waiting c.in_ok-running-in-Some.running u
    c.args.value.now k w c.in-Some.ensures.items c.in-Some-pop.ensures.items (c.in_ok-running-in-Some.ensures s))

use Rattle.by_need_loader.proofs.Goes.{looked}
use Rattle.by_need_loader.proofs.loader.Loader.look.Goals as goal

pub returns : goal.returns
returns g c =
    rw (c.set_phase.ensures, ← c.self.view_is)
    (λ s h bound w lt. looked (g.Y.Theory.rules s) (g.Y.Program.runs s) (g.Y.Theory.laws s) h _ c.args.task
    c.in_ok-told.told bound w c.in_ok-told.ensures lt)

use Rattle.std.proofs.Common.{sym, ap, ◌∙◌, option_copied}
use Rattle.by_need_loader.proofs.Goes.{waits_at, lacked, has_it, went_on}
use Rattle.by_need_loader.proofs.loader.Loader.answer.Goals as goal

pub returns-in-None : goal.returns-in-None
returns-in-None g c =
    rw (c.set_phase.ensures, ← c.self.view_is)
    (λ s h f on. lacked (g.Y.Theory.rules s) (g.Y.Program.runs s) (g.Y.Theory.laws s) h _ c.in-Looks.task _
    (sym c.replace.ensures.value ∙ c.in-Looks.is) f (ap option_copied c.in-None.is) on)

pub returns-in_ok-resume-in-Some : goal.returns-in_ok-resume-in-Some
returns-in_ok-resume-in-Some g c =
    rw (← c.self.view_is)
    (λ s h f on. let r = g.Y.Theory.rules s in let m = g.Y.Program.runs s in let laws = g.Y.Theory.laws s in
    let looks = sym c.replace.ensures.value ∙ c.in-Looks.is in
    went_on r m laws h _ _ _ c.in-Looks.task looks
    (c.in_ok-resume-in-Some.ensures s h c.in-Looks.task
    (has_it r m laws h _ c.in-Looks.task _ c.in-Some.value.now looks f (ap option_copied c.in-Some.is))
    (waits_at r m laws h _ _ c.in-Looks.task looks on)))

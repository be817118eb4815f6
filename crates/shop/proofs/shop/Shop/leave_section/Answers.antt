use Rattle.std.proofs.Common.{[], ◌∷◌, inl, inr, ap, subst}
use Rattle.system_events.specs.declared.event.Kept.TheVariants.{Release, Resume}
use Rattle.shop_base.specs.Passes.{Made}
use Rattle.shop_base.proofs.Gaining.{gains_made, gains-trans}
use Rattle.shop.proofs.shop.Shop.leave_section.Goals as goal

pub returns-then-release-clause-made : goal.returns-then-release-clause-made
returns-then-release-clause-made g c =
    inl (gains_made c.args.pass.now.number Release c.args.pass.now.seen c.release.new.pass.seen c.release.ensures.made)

pub returns-clause-made : goal.returns-clause-made
returns-clause-made g c =
    let number = ap (λ p. p.number) (c.release.ensures.waits c.if-release.false) in
    inr (gains-trans c.args.pass.now.number (Release ∷ []) (Resume ∷ []) c.args.pass.now.seen c.release.new.pass.seen
    c.await_resume.new.pass.seen
    (gains_made c.args.pass.now.number Release c.args.pass.now.seen c.release.new.pass.seen c.release.ensures.made)
    (gains_made c.args.pass.now.number Resume c.release.new.pass.seen c.await_resume.new.pass.seen
    (subst (λ n. Made n Resume c.release.new.pass.seen c.await_resume.new.pass.seen) number
    c.await_resume.ensures.made)))

use Rattle.std.proofs.Common.{[], ◌∷◌, sym, ap, ◌∙◌, subst}
use Rattle.reload_checks.specs.Checks.{stamps_read, unread_again, same_again}
use Rattle.shop_checks.specs.Tries.{Rebuilds}
use Rattle.shop_checks.proofs.Outcomes.{look_is, told_more}
use Rattle.shop_checks.proofs.looking.look_again.Goals as goal

pub returns-then-compare-clause-looked : goal.returns-then-compare-clause-looked
returns-then-compare-clause-looked g c = (
  stamps_read c.in-Ok.stamps ∷ [],
  (
    same_again c.in-Ok.stamps c.compare.new.pass.seen (record {
      within = c.in-Ok.ensures.within;
      held_now = c.in-Ok.ensures.held;
      lags = c.compare.ensures.seen;
      agrees = sym c.compare.ensures.answers ∙ c.if-compare.true;
    }),
    c.in-Ok.ensures.read,
  ),
)

pub returns-in-Ok-clause-looked : goal.returns-in-Ok-clause-looked
returns-in-Ok-clause-looked g c =
    let is = c.rebuild.ensures.rebuilt in
    let number = ap (λ p. p.number) c.compare.ensures.same in (
      stamps_read c.in-Ok.stamps ∷ is.0,
      (
        look_is g.M.Matter.facts g.M.Reloads.sources c.args.pass.now.number (g.T.Tree.holds c.rebuild.new.tree)
            c.in-Ok.stamps c.args.pass.now.seen c.compare.new.pass.seen c.rebuild.result is.0 c.rebuild.new.pass.seen
            (record {
              within = c.in-Ok.ensures.within;
              lags = c.compare.ensures.seen;
              differs = sym c.compare.ensures.answers ∙ c.if-compare.false;
            })
            (subst (λ n. Rebuilds g.M.Matter.facts g.M.Reloads.sources n (g.T.Tree.holds c.rebuild.new.tree)
            c.compare.new.pass.seen c.rebuild.result is.0 c.rebuild.new.pass.seen) number is.1.0),
        told_more (g.T.Tree.given c.args.tree.now) _ _ (stamps_read c.in-Ok.stamps) is.0 c.in-Ok.ensures.read is.1.1,
      ),
    )

pub returns-clause-looked : goal.returns-clause-looked
returns-clause-looked g c =
    let read = c.in-Err.ensures.refused in (read.0, (unread_again c.in-Err.fault read.0 read.1, read.2))

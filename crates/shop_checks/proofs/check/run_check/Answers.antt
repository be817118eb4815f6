use Rattle.std.proofs.Common.{◌≡◌, [], ◌∷◌, sym, ap, ◌∙◌, subst}
use Rattle.reload_checks.specs.Checks.{stamps_read, Look, unread, same, unreserved}
use Rattle.shop_base.specs.Rows.{exclusive_seat}
use Rattle.shop.specs.Leaving.{Leaves}
use Rattle.shop_checks.proofs.Outcomes.{took_is, told_more}
use Rattle.shop_checks.proofs.check.run_check.Goals as goal

pub returns-in-Err-clause-checked : goal.returns-in-Err-clause-checked
returns-in-Err-clause-checked g c =
    let read = c.in-Err.ensures.refused in (read.0, (unread c.in-Err.fault read.0 read.1, read.2))

pub leave_section-requires-clause-exclusive : goal.leave_section-requires-clause-exclusive
leave_section-requires-clause-exclusive g c =
    let taken = c.take_unload.ensures.taken
    (let at = c.in-Ok-true.is in let takes = c.in-Ok-true.field-0-test in cc) in
    let seat = ap (λ r. r.seat) (ap (λ p. p.row) c.look_again-answer.ensures.same ∙ taken.0.1) in
    (taken.0.0, seat ∙ ap (λ r. exclusive_seat r.running taken.0.0) (sym seat))

pub returns-in-Ok-true-clause-checked : goal.returns-in-Ok-true-clause-checked
returns-in-Ok-true-clause-checked g c =
    let facts = g.M.Matter.facts in
    let sources = g.M.Reloads.sources in
    let taken = c.take_unload.ensures.taken
    (let at = c.in-Ok-true.is in let takes = c.in-Ok-true.field-0-test in cc) in
    let look = c.look_again-answer.ensures.looked in
    let held = g.T.Tree.holds c.look_again-answer.new.tree in
    let number : c.take_unload.new.pass.number ≡ c.args.pass.now.number =
    ap (λ p. p.number) c.take_unload.ensures.same in
    let then : c.look_again-answer.new.pass.number ≡ c.args.pass.now.number =
    ap (λ p. p.number) c.look_again-answer.ensures.same ∙ number in (
      stamps_read c.in-Ok.stamps ∷ look.0,
      (
        took_is facts sources c.args.pass.now.number held c.in-Ok.stamps taken.1.0 c.args.pass.now.seen
            c.take_unload.new.pass.seen c.look_again-answer.new.pass.seen c.leave_section.new.pass.seen
            c.look_again-answer.result look.0 c.in-Ok.ensures.within taken.1.1
            (subst (λ n. Look facts sources n held c.take_unload.new.pass.seen c.look_again-answer.result look.0
            c.look_again-answer.new.pass.seen) number look.1.0)
            (subst (λ n. Leaves n c.look_again-answer.new.pass.seen c.leave_section.new.pass.seen) then
            c.leave_section.ensures.made),
        told_more (g.T.Tree.given c.args.tree.now) _ _ (stamps_read c.in-Ok.stamps) look.0 c.in-Ok.ensures.read
            look.1.1,
      ),
    )

pub returns-in-Ok-false-clause-checked : goal.returns-in-Ok-false-clause-checked
returns-in-Ok-false-clause-checked g c =
    let agrees = c.take_unload.ensures.agrees
    (let at = c.in-Ok-false.is in let stays = c.in-Ok-false.field-0-test in cc) in (
      stamps_read c.in-Ok.stamps ∷ [],
      (
        same c.in-Ok.stamps c.take_unload.new.pass.seen (record {
          within = c.in-Ok.ensures.within;
          held_now = c.in-Ok.ensures.held;
          lags = agrees.1.0;
          agrees = agrees.1.1;
        }),
        c.in-Ok.ensures.read,
      ),
    )

pub returns-clause-checked : goal.returns-clause-checked
returns-clause-checked g c =
    let refused = c.in-Err-take_unload.ensures.refused in (
      stamps_read c.in-Ok.stamps ∷ [],
      (
        unreserved c.in-Ok.stamps c.take_unload.new.pass.seen (record {
          within = c.in-Ok.ensures.within;
          lags = refused.1.0;
          differs = refused.1.1;
        }),
        c.in-Ok.ensures.read,
      ),
    )

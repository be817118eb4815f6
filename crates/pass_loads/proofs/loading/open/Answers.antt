use Rattle.std.specs.Prelude.{Ok}
use Rattle.std.proofs.Common.{◌≡◌, ◌≤◌, ◌+◌, ◌-◌, ℕ, length, ◌∷◌, [], None, sym, ap, ◌∙◌, subst, arith}
use Rattle.system_events.specs.declared.event.Kept.TheVariants.{Take, Seek}
use Rattle.system_events.specs.declared.event.Want.TheVariants.{Load}
use Rattle.request_laws.specs.Conduct.{at_once, sought}
use Rattle.shop_base.specs.Rows.{with_room, loading_seat}
use Rattle.shop_base.specs.Passes.{moved, Made}
use Rattle.shop_base.proofs.Gaining.{gains_made, gains-trans}
use Rattle.pass_loads.proofs.Whole.{moved_own, on_err_of, one_less}
use Rattle.pass_loads.proofs.loading.open.Goals as goal

pub returns-in_err-loading-clause-same : goal.returns-in_err-loading-clause-same
returns-in_err-loading-clause-same g c =
    moved_own c.args.pass.now c.start_loading.new.pass c.in_err-loading.ensures.err.0

pub returns-in_err-loading-clause-err : goal.returns-in_err-loading-clause-err
returns-in_err-loading-clause-err g c =
    on_err_of c.from_residual.result _
    (ap (λ x. x.row) c.in_err-loading.ensures.err.0, c.in_err-loading.ensures.err.1)

pub returns-in-Present-clause-same : goal.returns-in-Present-clause-same
returns-in-Present-clause-same g c =
    moved_own c.args.pass.now c.start_loading.new.pass (c.in_ok-loading.ensures.present (ap Ok c.in-Present.is)).1

pub returns-in-Present-clause-present : goal.returns-in-Present-clause-present
returns-in-Present-clause-present g c = λ _.
    let is = c.in_ok-loading.ensures.present (ap Ok c.in-Present.is) in (ap (λ x. x.row) is.1, is.2)

pub returns-in-Taken-clause-same : goal.returns-in-Taken-clause-same
returns-in-Taken-clause-same g c = (c.in_ok-loading.ensures.taken (ap Ok c.in-Taken.is)).0

pub returns-in-Taken-clause-open : goal.returns-in-Taken-clause-open
returns-in-Taken-clause-open g c = λ _. (c.in_ok-loading.ensures.taken (ap Ok c.in-Taken.is)).2

pub returns-in-Taken-clause-row : goal.returns-in-Taken-clause-row
returns-in-Taken-clause-row g c = λ _ begun at.
    (_, c.in_ok-loading.ensures.taken_row (ap Ok c.in-Taken.is) begun at)

pub returns-in-Taken-clause-acts : goal.returns-in-Taken-clause-acts
returns-in-Taken-clause-acts g c = λ _. (
  Take (Load c.args.task.now) ∷ [],
  (
    at_once,
    gains_made c.args.pass.now.number (Take (Load c.args.task.now)) c.args.pass.now.seen c.start_loading.new.pass.seen
        (c.in_ok-loading.ensures.taken (ap Ok c.in-Taken.is)).1,
  ),
)

pub await_loading-requires-clause-own : goal.await_loading-requires-clause-own
await_loading-requires-clause-own g c =
    ap (λ x. x.shop) (c.in_ok-loading.ensures.seeking (ap Ok c.in-Seeking.is)).0 ∙ c.requires.own

pub await_loading-requires-clause-seeks : goal.await_loading-requires-clause-seeks
await_loading-requires-clause-seeks g c = (c.in_ok-loading.ensures.seeking (ap Ok c.in-Seeking.is)).2

pub await_loading-requires-clause-room : goal.await_loading-requires-clause-room
await_loading-requires-clause-room g c =
    let row = c.in_ok-loading.ensures.seeking_row (ap Ok c.in-Seeking.is) c.requires.runs.0 c.requires.runs.1 in
    let more : c.start_loading.new.pass.row.entries ≡ c.args.pass.now.row.entries + 3 = ap (λ r. r.entries) row in
    let enough : 4 ≤ c.args.pass.now.row.entries = c.requires.room in omega (arith, more, enough)

pub returns-in-Seeking-clause-same : goal.returns-in-Seeking-clause-same
returns-in-Seeking-clause-same g c =
    let last = c.await_loading.new.pass in
    c.await_loading.ensures.same
    ∙ (ap (λ x. record (moved x last.row last.seen) { sought = None })
    (c.in_ok-loading.ensures.seeking (ap Ok c.in-Seeking.is)).0
    ∙ ap (λ o. record (moved c.args.pass.now last.row last.seen) { sought = o }) (sym c.requires.idle))

pub returns-in-Seeking-clause-open : goal.returns-in-Seeking-clause-open
returns-in-Seeking-clause-open g c = λ _. c.await_loading.ensures.loads

pub returns-in-Seeking-clause-row : goal.returns-in-Seeking-clause-row
returns-in-Seeking-clause-row g c = λ _ begun at.
    let row = c.in_ok-loading.ensures.seeking_row (ap Ok c.in-Seeking.is) begun at in
    let place : ℕ = length c.start_loading.new.pass.seen - 1 in (
      place,
      c.await_loading.ensures.row begun place (ap (λ r. r.seat) row)
          ∙ (ap (λ r. with_room (loading_seat begun place) (r.entries - 1) r.values) row
          ∙ ap (λ n. with_room (loading_seat begun place) n c.args.pass.now.row.values)
          (one_less c.args.pass.now.row.entries)),
    )

pub returns-in-Seeking-clause-acts : goal.returns-in-Seeking-clause-acts
returns-in-Seeking-clause-acts g c = λ _.
    let seeking = c.in_ok-loading.ensures.seeking (ap Ok c.in-Seeking.is) in
    let number = ap (λ x. x.number) seeking.0 in (
      Seek (Load c.args.task.now) ∷ Take (Load c.args.task.now) ∷ [],
      (
        sought,
        gains-trans c.args.pass.now.number (Seek (Load c.args.task.now) ∷ []) (Take (Load c.args.task.now) ∷ [])
            c.args.pass.now.seen c.start_loading.new.pass.seen c.await_loading.new.pass.seen
            (gains_made c.args.pass.now.number (Seek (Load c.args.task.now)) c.args.pass.now.seen
            c.start_loading.new.pass.seen seeking.1)
            (gains_made c.args.pass.now.number (Take (Load c.args.task.now)) c.start_loading.new.pass.seen
            c.await_loading.new.pass.seen
            (subst (λ n. Made n (Take (Load c.args.task.now)) c.start_loading.new.pass.seen
            c.await_loading.new.pass.seen) number c.await_loading.ensures.made)),
      ),
    )

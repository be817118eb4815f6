use Rattle.std.proofs.Common.{◌≡◌, refl, sym, ap, ◌∙◌, subst, List}
use Rattle.turn_lock.specs.Entries.{Lags}
use Rattle.system_events.specs.declared.event.Entry.{Entry}
use Rattle.shop_base.specs.declared.row.PassRow.{PassRow}
use Rattle.shop_base.specs.Rows.{IsRunning}
use Rattle.shop_base.specs.Passes.{Gains, seat_of, moved}
use Rattle.pass_requests.proofs.Serving.{asked_next, none_loaded}
use Rattle.pass_requests.proofs.Turns.{begun_answered, turn_looks, turn_loads, turn_task, turn_ends, asks_one}
use Rattle.pass_requests.proofs.replying.reply_of.Goals as goal

pub turns-init : goal.turns-init
turns-init g c =
    let start = g.P.PassCalls.pass c.args.pass.now in
    record {
      same = refl;
      given = refl;
      legal = c.tells.ensures.legal;
      going = λ q at served. (
        begun_answered g.M.Matter.facts g.met.M.Matter.same_is_equal g.M.Requests.talks g.met.M.Requests.replies_follow
            start.seen start.number q c.args.actor.now at served,
        none_loaded g.M.Matter.facts start.number q c.args.program.now start.seen c.requires.program,
      );
    }

pub returns-in_err-answered-in-Look-clause-loads : goal.returns-in_err-answered-in-Look-clause-loads
returns-in_err-answered-in-Look-clause-loads g c = λ q at served.
    let start = g.P.PassCalls.pass c.args.pass.now in
    let here = g.P.PassCalls.pass c.turns.pass in
    let later = g.P.PassCalls.pass c.look.new.pass in
    let going = c.turns.invariant.going q at served in
    let number : here.number ≡ start.number = ap (λ p. p.number) c.turns.invariant.same in
    (turn_looks g.M.Matter.facts g.met.M.Matter.same_is_equal g.M.Requests.talks g.met.M.Requests.replies_follow
    start.number q c.args.program.now start.seen here.seen later.seen c.turns.actor c.next-in-turns.new.self
    c.turns.answered c.in-Look.task c.turns.invariant.legal c.look.ensures.legal going.0 going.1
    (rw c.in-Look.is at c.in_ok-task.ensures.order)
    (subst (λ n. Lags seat_of n here.seen later.seen) number c.look.ensures.seen)).0

pub load-requires-clause-runs : goal.load-requires-clause-runs
load-requires-clause-runs g c =
    let start = g.P.PassCalls.pass c.args.pass.now in
    let here = g.P.PassCalls.pass c.turns.pass in
    let row : here.row ≡ start.row = ap (λ p. p.row) c.turns.invariant.same in
    subst (λ (r : PassRow). IsRunning r.seat) (sym row) c.requires.runs

pub load-requires-clause-task : goal.load-requires-clause-task
load-requires-clause-task g c =
    let start = g.P.PassCalls.pass c.args.pass.now in
    let here = g.P.PassCalls.pass c.turns.pass in
    let going = c.turns.invariant.going c.requires.begun.0 c.requires.begun.1.0 c.requires.begun.1.1 in
    turn_task g.M.Matter.facts g.met.M.Matter.same_is_equal g.M.Requests.talks g.met.M.Requests.replies_follow
    start.number c.requires.begun.0 c.args.program.now here.seen c.turns.actor c.next-in-turns.new.self
    c.turns.answered c.in-Load.task c.turns.invariant.legal (going.1).same going.0
    (rw c.in-Load.is at c.in_ok-task.ensures.order)

pub returns-in_err-answered-in-Load-clause-loads : goal.returns-in_err-answered-in-Load-clause-loads
returns-in_err-answered-in-Load-clause-loads g c = λ q at served.
    let start = g.P.PassCalls.pass c.args.pass.now in
    let here = g.P.PassCalls.pass c.turns.pass in
    let later = g.P.PassCalls.pass c.load.new.pass in
    let going = c.turns.invariant.going q at served in
    let number : here.number ≡ start.number = ap (λ p. p.number) c.turns.invariant.same in
    let section = c.load.ensures.section in
    (turn_loads g.M.Matter.facts g.met.M.Matter.same_is_equal g.M.Requests.talks g.met.M.Requests.replies_follow
    start.number q c.args.program.now start.seen here.seen later.seen c.turns.actor c.next-in-turns.new.self
    c.turns.answered c.in-Load.task c.turns.invariant.legal c.load.ensures.legal going.0 going.1 section.0
    (rw c.in-Load.is at c.in_ok-task.ensures.order) section.1.0
    (subst (λ n. Gains n section.0 here.seen later.seen) number section.1.1)).0

pub returns-in-End-clause-reply : goal.returns-in-End-clause-reply
returns-in-End-clause-reply g c =
    let start = g.P.PassCalls.pass c.args.pass.now in
    let here = g.P.PassCalls.pass c.turns.pass in
    let going = c.turns.invariant.going c.requires.begun.0 c.requires.begun.1.0 c.requires.begun.1.1 in
    turn_ends g.M.Matter.facts g.met.M.Matter.same_is_equal g.M.Requests.talks g.met.M.Requests.replies_follow
    start.number c.requires.begun.0 c.args.program.now here.seen c.turns.actor c.next-in-turns.new.self
    c.turns.answered c.in-End.reply c.turns.invariant.legal (going.1).same going.0
    (rw c.in-End.is at c.in_ok-task.ensures.order)

pub unreachable-requires : goal.unreachable-requires
unreachable-requires g c =
    let start = g.P.PassCalls.pass c.args.pass.now in
    let here = g.P.PassCalls.pass c.turns.pass in
    let going = c.turns.invariant.going c.requires.begun.0 c.requires.begun.1.0 c.requires.begun.1.1 in
    let asked = asked_next g.M.Matter.facts g.met.M.Matter.same_is_equal g.M.Requests.talks
    g.met.M.Requests.replies_follow here.seen start.number c.requires.begun.0 c.args.program.now c.turns.actor
    c.next-in-turns.new.self c.turns.answered c.in_ok-task.field-0 c.turns.invariant.legal (going.1).same going.0
    c.in_ok-task.ensures.order in
    asks_one c.next-in-turns.new.self c.in_ok-task.field-0 asked.asks c.in_default.not-Look c.in_default.not-Load
    c.in_default.not-End

pub turns-preserved-in-Look : goal.turns-preserved-in-Look
turns-preserved-in-Look g c =
    let start = g.P.PassCalls.pass c.args.pass.now in
    let here = g.P.PassCalls.pass c.turns.pass in
    let later = g.P.PassCalls.pass c.look.new.pass in
    let number : here.number ≡ start.number = ap (λ p. p.number) c.turns.invariant.same in
    record {
      same = c.look.ensures.same ∙ ap (λ p. moved p p.row later.seen) c.turns.invariant.same;
      given = c.look.ensures.given ∙ c.turns.invariant.given;
      legal = c.look.ensures.legal;
      going = λ q at served.
          let going = c.turns.invariant.going q at served in
          let turn = turn_looks g.M.Matter.facts g.met.M.Matter.same_is_equal g.M.Requests.talks
          g.met.M.Requests.replies_follow start.number q c.args.program.now start.seen here.seen later.seen
          c.turns.actor c.next-in-turns.new.self c.turns.answered c.in-Look.task c.turns.invariant.legal
          c.look.ensures.legal going.0 going.1 (rw c.in-Look.is at c.in_ok-task.ensures.order)
          (subst (λ n. Lags seat_of n here.seen later.seen) number c.look.ensures.seen) in
          (turn.1 c.in_ok-answered-in-Look.answered c.in_ok-answered-in-Look.ensures.answers, turn.0);
    }

pub turns-preserved : goal.turns-preserved
turns-preserved g c =
    let start = g.P.PassCalls.pass c.args.pass.now in
    let here = g.P.PassCalls.pass c.turns.pass in
    let later = g.P.PassCalls.pass c.load.new.pass in
    let number : here.number ≡ start.number = ap (λ p. p.number) c.turns.invariant.same in
    let section = c.load.ensures.section in
    record {
      same = c.load.ensures.same ∙ ap (λ p. moved p p.row later.seen) c.turns.invariant.same;
      given = c.load.ensures.given ∙ c.turns.invariant.given;
      legal = c.load.ensures.legal;
      going = λ q at served.
          let going = c.turns.invariant.going q at served in
          let turn = turn_loads g.M.Matter.facts g.met.M.Matter.same_is_equal g.M.Requests.talks
          g.met.M.Requests.replies_follow start.number q c.args.program.now start.seen here.seen later.seen
          c.turns.actor c.next-in-turns.new.self c.turns.answered c.in-Load.task c.turns.invariant.legal
          c.load.ensures.legal going.0 going.1 section.0 (rw c.in-Load.is at c.in_ok-task.ensures.order)
          section.1.0 (subst (λ n. Gains n section.0 here.seen later.seen) number section.1.1) in
          (turn.1 c.in_ok-answered-in-Load.answered c.in_ok-answered-in-Load.ensures.answers, turn.0);
    }

use Rattle.std.proofs.Common.{◌≡◌, []}
use Rattle.system_events.specs.Legal.{after, IsLegal}
use Rattle.request_actor.specs.declared.actor.Stage.TheVariants.{Begins}
use Rattle.request_laws.specs.Standing.{IsServed}
use Rattle.shop_base.specs.Passes.{seat_limit, moved}
use Rattle.pass_requests.specs.Serving.{IsAnswered, HasLoaded}
use Rattle.pass_requests.proofs.replying.reply_of.Given as goal

abbrev pub invariant-turns : goal.invariant-turns
invariant-turns g l =
    let start = g.P.PassCalls.pass l.fn.pass in
    let here = g.P.PassCalls.pass l.pass in
    record {
      same : here ≡ moved start start.row here.seen;
      given : g.P.PassCalls.given l.pass ≡ g.P.PassCalls.given l.fn.pass;
      legal : IsLegal g.M.Matter.facts seat_limit here.seen;
      going : (q : g.row.M-Request.Denot) → l.fn.actor ≡ Begins q →
          IsServed g.M.Matter.facts g.M.Requests.talks (after g.M.Matter.facts seat_limit start.seen) start.number q []
          (Begins q) →
          IsAnswered g.M.Matter.facts g.M.Requests.talks (after g.M.Matter.facts seat_limit here.seen) start.number q
          l.actor l.answered
          × HasLoaded g.M.Matter.facts start.number q l.program start.seen here.seen;
    }

use Rattle.std.proofs.Common.{◌≡◌, ◌+◌, suc, length, arith, ap, ◌∙◌}
use Rattle.by_need.specs.Rounds.{round}
use Rattle.by_need_graph.specs.Graph.{rules_of}
use Rattle.by_need_graph.proofs.Facts.{round_next, rounds_end}
use Rattle.by_need_graph.proofs.rounds.known_values.Goals as goal

pub rounds-preserved : goal.rounds-preserved
rounds-preserved c =
    let bodies = c.args.graph.now.bodies.items in
    let e = c.in_ok-values-2.ensures in
    let m : length c.in_ok-values-2.values.items ≡ length c.rounds.values.items =
    rw c.deref.ensures.value at e.length in
    let k : suc c.rounds._done ≡ c.rounds._done + 1 = omega arith in
    record {
      length_is = m ∙ c.rounds.invariant.length_is;
      known = λ t. round_next bodies c.rounds.values.items c.in_ok-values-2.values.items c.rounds._done
          c.rounds.invariant.length_is c.rounds.invariant.known m (rw c.deref.ensures.value at e.round) t
          ∙ ap (λ n. round (rules_of bodies) n t) k;
    }

pub returns-clause-known : goal.returns-clause-known
returns-clause-known c =
    let b = c.len-count.ensures in
    let o = c.args.graph.now.bodies.ok.0 in
    let f = c.rounds-test.false in
    let d = c.rounds.auto._done-end in
    let k : c.rounds._done ≡ length c.args.graph.now.bodies.items = omega (arith, b, o, f, d) in
    rounds_end c.args.graph.now.bodies.items c.rounds.values.items c.rounds._done k c.rounds.invariant.known

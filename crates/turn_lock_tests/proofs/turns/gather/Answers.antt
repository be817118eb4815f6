use Rattle.std.proofs.Common.{rules, subst, All, ◌≡◌, ◌++◌, ◌∷◌, [], option_to_list, ap, ◌∙◌}
use Rattle.turn_lock.specs.Entries.{Begins}
use Rattle.turn_lock.proofs.Histories.{length-zero}
use Rattle.turn_lock_tests.specs.Ready.{IsReady}
use Rattle.turn_lock_tests.proofs.Joins.{All-before, begins-trans, gathered_one, gathered_all}
use Rattle.turn_lock_tests.proofs.turns.gather.Goals as goal

pub loop-other-preserved : goal.loop-other-preserved
loop-other-preserved c =
    let longer : Begins c.loop-other.first.seen c.join.new.ticket.seen =
    (c.join.ensures.mine.more, c.join.ensures.mine.is) in
    let popped : c.loop-other.others.items ≡ c.pop.new.self.items ++ c.in-Some.other ∷ [] =
    c.pop.ensures.items ∙ ap (λ o. c.pop.new.self.items ++ option_to_list o) c.in-Some.is in
    record {
      ready = search rules;
      same = search rules;
      others = All-before (IsReady _) _ _ (subst (All (IsReady _)) popped c.loop-other.invariant.others);
      mine = begins-trans _ _ _ c.loop-other.invariant.mine longer;
      gathered = gathered_one _ _ _ c.in-Some.other _ _ c.loop-other.invariant.gathered popped longer
          c.join.ensures.theirs;
    }

pub returns-clause-theirs : goal.returns-clause-theirs
returns-clause-theirs c = gathered_all _ _ _ c.loop-other.invariant.gathered
    (length-zero _ (search rules))

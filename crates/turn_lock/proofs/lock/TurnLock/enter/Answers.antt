use Rattle.std.proofs.Common.{rules, subst, ◌∷◌, Some, ap, sym, ◌∙◌}
use Rattle.atomic_table.specs.Table.{rest}
use Rattle.turn_lock.specs.Entries.{NoneOf}
use Rattle.turn_lock.proofs.lock.TurnLock.enter.Goals as goal

pub exchange-requires : goal.exchange-requires
exchange-requires g c = let t = c.wait.ensures.turn in let e = ap (λ m. m.1) t.1 in
    (search rules, (Some t.0, e ∙ ap (λ l. (0, Some t.0) ∷ rest l) (sym e)))

pub invariant_of-ticket : goal.invariant_of-ticket
invariant_of-ticket g c = let b = g.B.Booked in let i = c.ticket.invariant in let t = c.wait.ensures.turn in record {
  live = search rules;
  numbered = search rules;
  counted = search rules;
  given = search rules;
  small = i.small;
  few = i.few;
  begun = i.begun;
  unused = λ zero_th k far. subst (NoneOf b.seat_of k) (search rules) (t.4 (search rules) k (search rules));
  idle = λ turn. absurd (search rules);
  busy = λ _. search rules;
}

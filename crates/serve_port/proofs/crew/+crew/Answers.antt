use Rattle.std.proofs.Common.{rules, ◌≡◌, sym, subst, [], ◌∷◌, ◌++◌}
use Rattle.connection_items.specs.Answers.{LinkIsAnswered}
use Rattle.serve_port.specs.Answered.{AllTellAnswered, TellsAnswered}
use Rattle.serve_port.specs.Became.{Became, AllBecame}
use Rattle.serve_port.proofs.Rows.{all_but_last, holds_of_last, all_with_last, pairwise_with_last}
use Rattle.serve_port.proofs.crew.+crew.Goals as goal

pub join-done-requires-after_bounds : goal.join-done-requires-after_bounds
join-done-requires-after_bounds g t c κs within =
    let closers = c.in-Some-Some.ensures'.items in
    let servers = c.in-Some-Some.ensures.items in
    let fresh = holds_of_last (λ x. g.C.Closer.count x ≡ 0) _ _ _ closers c.requires.fresh in
    let rest = all_but_last (λ x. g.C.Closer.count x ≡ 0) _ _ _ closers c.requires.fresh in
    let ready = holds_of_last g.S.ServesHeads.is_at_rest _ _ _ servers c.requires.ready in
    let others = all_but_last g.S.ServesHeads.is_at_rest _ _ _ servers c.requires.ready in
    (search rules, search rules)

pub returns-clause-became : goal.returns-clause-became
returns-clause-became g t c =
    let standing = g.S.ServesHeads.standing in
    subst (λ xs. AllBecame standing xs c.push_reserved.new.self.items) (sym c.in-Some-Some.ensures.items)
    (subst (λ ys. AllBecame standing (c.pop.new.self.items ++ c.in-Some-Some.server ∷ []) ys)
    (sym c.push_reserved.ensures.items)
    (pairwise_with_last (λ before now. Became (standing before) (standing now)) _ _ _ _
    c.join-done.ensures.second.1.1.1.1.1.0 c.join-done.ensures.first.3))

pub returns-clause-answered : goal.returns-clause-answered
returns-clause-answered g t c = λ whole.
    let both = c.either.ensures whole in
    let answered = λ (link : g.row.Q-Conn.Denot). LinkIsAnswered g.S.ServesHeads.rules
    (g.Q.Conn.Link.read_faults link) (g.Q.Conn.Link.write_faults link) (g.Q.Conn.Link.was_read link)
    (g.Q.Conn.Link.left link) (g.Q.Conn.Link.was_written link) in
    subst (AllTellAnswered answered g.C.Closer.told) (sym c.push_reserved-2.ensures.items)
    (all_with_last (λ x. TellsAnswered answered (g.C.Closer.told x)) _ _
    (c.join-done.ensures.second.1.1.1.1.1.1 both.0) (c.join-done.ensures.first.4 both.1))

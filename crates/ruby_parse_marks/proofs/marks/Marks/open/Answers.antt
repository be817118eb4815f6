use Rattle.std.proofs.Common.{sym, subst, ◌≡◌}
use Rattle.ruby_parse_marks.specs.Deeds.{done_of}
use Rattle.ruby_parse_marks.specs.Noted.{noted, IsSound}
use Rattle.ruby_parse_marks.proofs.NotedLaws.{on_err, sound_grown, same_noted, sound_in, opened}
use Rattle.ruby_parse_marks.proofs.marks.Marks.open.Goals as goal

pub invariant_of-self : goal.invariant_of-self
invariant_of-self c = sound_grown c.self.inside.paths.entries c.self.inside.here c.self.inside.around.items
    (done_of c.self.inside.deeds) c.self.invariant c.numbers.new.paths.entries
    (c.in_err-inner.ensures.err c.self.invariant.numbered c.self.invariant.here)

pub returns-in_err-inner-clause-stays : goal.returns-in_err-inner-clause-stays
returns-in_err-inner-clause-stays c = on_err c.from_residual.result
    (same_noted c.self.inside.paths.entries c.self.inside.here c.self.inside.around.items
    (done_of c.self.inside.deeds) c.self.invariant c.numbers.new.paths.entries
    (c.in_err-inner.ensures.err c.self.invariant.numbered c.self.invariant.here) c.args.self.now c.self.view_is)

pub invariant_of-self-in_err-push : goal.invariant_of-self-in_err-push
invariant_of-self-in_err-push c =
    subst (λ ns. IsSound c.numbers.new.paths.entries c.self.inside.here ns (done_of c.self.inside.deeds))
    (sym c.in_err-push.ensures.items)
    (sound_grown c.self.inside.paths.entries c.self.inside.here c.self.inside.around.items
    (done_of c.self.inside.deeds) c.self.invariant c.numbers.new.paths.entries
    (c.in_ok-inner.ensures.ok c.self.invariant.numbered c.self.invariant.here).grown)

pub returns-in_err-push-clause-stays : goal.returns-in_err-push-clause-stays
returns-in_err-push-clause-stays c = on_err c.from_residual-in_err-push.result
    (subst (λ ns. noted c.numbers.new.paths.entries c.self.inside.here ns (done_of c.self.inside.deeds)
    ≡ c.args.self.now) (sym c.in_err-push.ensures.items)
    (same_noted c.self.inside.paths.entries c.self.inside.here c.self.inside.around.items
    (done_of c.self.inside.deeds) c.self.invariant c.numbers.new.paths.entries
    (c.in_ok-inner.ensures.ok c.self.invariant.numbered c.self.invariant.here).grown c.args.self.now c.self.view_is))

pub invariant_of-self-2 : goal.invariant_of-self-2
invariant_of-self-2 c =
    let n = c.in_ok-inner.ensures.ok c.self.invariant.numbered c.self.invariant.here in
    sound_in c.self.inside.paths.entries c.self.inside.here c.self.inside.around.items
    (done_of c.self.inside.deeds) c.self.invariant c.numbers.new.paths.entries n.grown c.in_ok-inner.inner
    c.push.new.self.items c.in_ok-push.ensures.items n.within

pub returns-clause-opened : goal.returns-clause-opened
returns-clause-opened c =
    let n = c.in_ok-inner.ensures.ok c.self.invariant.numbered c.self.invariant.here in
    opened c.self.inside.paths.entries c.self.inside.here c.self.inside.around.items
    (done_of c.self.inside.deeds) c.self.invariant c.numbers.new.paths.entries n.grown c.in_ok-inner.inner
    c.push.new.self.items c.in_ok-push.ensures.items n.within c.args.names.now c.args.self.now n.path c.self.view_is

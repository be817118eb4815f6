use Rattle.std.proofs.Common.{◌∙◌, ◌∷◌, ◌++◌, [], ap}
use Rattle.std.proofs.lemmas.Result.{err_from_is_err_and}
use Rattle.ruby_parse_steps.specs.Scopes.{scope_view}
use Rattle.ruby_parse_steps.proofs.ChoiceLaws.{none_begun, none_left, ended_fails, ended_without_memory}
use Rattle.ruby_parse_steps.proofs.ChoiceLaws.{test_lacks_colon, test_goes_on, test_breaks_behind}
use Rattle.ruby_parse_steps.proofs.choices.end_choices.Goals as goal

pub returns-in-None-clause-reads : goal.returns-in-None-clause-reads
returns-in-None-clause-reads c =
    c.opens.invariant.goes_on _ _
    (none_begun (scope_view c.args.scope) c.opens.opens.items c.opens.value c.opens.cursor
    (none_left c.opens.opens.items c.pop.new.self.items _ c.in-None.ensures.items c.in-None.ensures.rest
    c.in-None.ensures.cases.0))

pub returns-in_err-value-in-Some-Other-clause-reads : goal.returns-in_err-value-in-Some-Other-clause-reads
returns-in_err-value-in-Some-Other-clause-reads c =
    let p = err_from_is_err_and c.from_residual.result c.from_residual.ensures.1 in
    rw (p.1) (ended_without_memory (scope_view c.args.scope) c.args.opens.now.items c.pop.new.self.items c.args.value
    c.args.cursor.now c.opens.cursor p.0 p.2)

pub returns-in_err-take-in-Some-Test-clause-reads : goal.returns-in_err-take-in-Some-Test-clause-reads
returns-in_err-take-in-Some-Test-clause-reads c =
    let p = err_from_is_err_and c.from_residual-in_err-take-in-Some-Test.result
    c.from_residual-in_err-take-in-Some-Test.ensures.1 in
    rw (p.1, p.2)
    (ended_fails (scope_view c.args.scope) c.args.opens.now.items c.pop.new.self.items c.args.value c.args.cursor.now
    c.opens.cursor c.take.new.self _ c.in_err-take-in-Some-Test.ensures.stays
    c.in_err-take-in-Some-Test.ensures.fault
    (c.opens.invariant.goes_on _ _
    (test_lacks_colon (scope_view c.args.scope) c.pop.new.self.items c.opens.opens.items c.in-Some-Test.test
    c.opens.value c.opens.cursor
    (c.in-Some-Test.ensures.items ∙ ap (λ x. c.pop.new.self.items ++ x ∷ []) c.in-Some-Test.field-0-is)
    c.in_err-take-in-Some-Test.ensures.other)))

pub returns-in_err-push_open-in-Some-Test-clause-reads : goal.returns-in_err-push_open-in-Some-Test-clause-reads
returns-in_err-push_open-in-Some-Test-clause-reads c =
    let p = err_from_is_err_and c.from_residual-in_err-push_open-in-Some-Test.result
    c.from_residual-in_err-push_open-in-Some-Test.ensures.1 in
    rw (p.1) (ended_without_memory (scope_view c.args.scope) c.args.opens.now.items c.push_open.new.opens.items
    c.args.value c.args.cursor.now c.take.new.self p.0 p.2)

pub returns-in-Some-Test-clause-reads : goal.returns-in-Some-Test-clause-reads
returns-in-Some-Test-clause-reads c =
    let items = c.in-Some-Test.ensures.items ∙ ap (λ x. c.pop.new.self.items ++ x ∷ []) c.in-Some-Test.field-0-is in (
      (λ v mid r end g h. c.opens.invariant.goes_on r end
          (test_goes_on (scope_view c.args.scope) c.pop.new.self.items c.opens.opens.items
          c.push_open.new.opens.items c.in-Some-Test.test c.opens.value v c.opens.cursor c.take.new.self mid end r
          items c.in_ok-push_open-in-Some-Test.ensures c.in_ok-take-in-Some-Test.ensures.ok
          c.in_ok-take-in-Some-Test.ensures.passed g h)),
      (λ e end g. c.opens.invariant.goes_on _ end
          (test_breaks_behind (scope_view c.args.scope) c.pop.new.self.items c.opens.opens.items c.in-Some-Test.test
          c.opens.value e c.opens.cursor c.take.new.self end items c.in_ok-take-in-Some-Test.ensures.ok
          c.in_ok-take-in-Some-Test.ensures.passed g)),
    )

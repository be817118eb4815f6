use Rattle.top_calls.proofs.Slashes.{one_target, no_other_target}
use Rattle.top_calls.proofs.target.first_target.Goals as goal

pub returns-then-are_letters-clause-only : goal.returns-then-are_letters-clause-only
returns-then-are_letters-clause-only c = λ controller action is.
    one_target c.args.target.now c.in_ok-rest.rest.now c.in_ok-controller.controller.now
    c.in_ok-controller.action.now controller action
    c.in_ok-rest.ensures.found c.in_ok-controller.ensures.found.0 c.in_ok-controller.ensures.found.1 is

pub returns-else-are_letters-clause-only : goal.returns-else-are_letters-clause-only
returns-else-are_letters-clause-only c = λ controller action is.
    no_other_target c.args.target.now c.in_ok-rest.rest.now c.in_ok-controller.controller.now
    c.in_ok-controller.action.now controller action
    c.in_ok-rest.ensures.found c.in_ok-controller.ensures.found.0 c.in_ok-controller.ensures.found.1
    (λ both. let is_false = c.if-are_letters.ensures.1 both in cc) is

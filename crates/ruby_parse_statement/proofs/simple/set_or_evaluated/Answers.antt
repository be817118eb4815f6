use Rattle.ruby_parse_statement.specs.Places.{around_view}
use Rattle.ruby_parse_statement.specs.Answers.{known_as}
use Rattle.ruby_parse_statement.proofs.SimpleLaws.{simple_set, simple_evaluation, simple_set_ivar, simple_barred}
use Rattle.ruby_parse_statement.proofs.simple.set_or_evaluated.Goals as goal

pub returns-then-sets-clause-reads : goal.returns-then-sets-clause-reads
returns-then-sets-clause-reads c = simple_set (around_view c.args.body c.args.locals.now) c.args.cursor.now
    c.requires.no_return c.requires.no_raise c.set_local.new.cursor (known_as c.set_local.new.locals c.set_local.result)
    (cc) c.set_local.ensures.reads

pub returns-then-not-sets_ivar-clause-reads : goal.returns-then-not-sets_ivar-clause-reads
returns-then-not-sets_ivar-clause-reads c =
    simple_evaluation (around_view c.args.body c.args.locals.now) c.args.cursor.now c.requires.no_return
    c.requires.no_raise c.evaluated.new.cursor (known_as c.args.locals.now c.evaluated.result) (cc)
    (cc) c.evaluated.ensures.reads

pub returns-then-body-clause-reads : goal.returns-then-body-clause-reads
returns-then-body-clause-reads c = simple_set_ivar (around_view c.args.body c.args.locals.now) c.args.cursor.now
    c.requires.no_return c.requires.no_raise c.set_ivar.new.cursor (known_as c.args.locals.now c.set_ivar.result)
    (cc) (cc) (cc) c.set_ivar.ensures.reads

pub returns-else-body-clause-reads : goal.returns-else-body-clause-reads
returns-else-body-clause-reads c = simple_barred (around_view c.args.body c.args.locals.now) c.args.cursor.now
    c.requires.no_return c.requires.no_raise c.skip.new.self (cc) (cc) (cc) c.skip.ensures

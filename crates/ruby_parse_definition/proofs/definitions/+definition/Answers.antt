use Rattle.std.proofs.Common.{◌∙◌, sym, ◌<◌, length, arith}
use Rattle.std.proofs.lemmas.Result.{err_from_is_err_and}
use Rattle.ruby_parse_cursor.proofs.CodeLaws.{sees_code}
use Rattle.ruby_grammar.specs.Terminals.{is_line}
use Rattle.ruby_grammar.specs.Rules.{some_defs}
use Rattle.ruby_parse_definition.specs.Places.{body_view}
use Rattle.ruby_parse_definition.proofs.MarkedSteps.{then, stop, finish}
use Rattle.ruby_parse_definition.proofs.Steps.{skip_falls}
use Rattle.ruby_parse_definition.proofs.DefinitionLaws.{definitions_break, definitions_end, definition_and_line}
use Rattle.ruby_parse_definition.proofs.DefinitionLaws.{definition_without_line, module_deep, class_deep, module_chosen}
use Rattle.ruby_parse_definition.proofs.DefinitionLaws.{class_chosen, body_breaks, body_lacks_end, body_reads}
use Rattle.ruby_parse_definition.proofs.DefinitionLaws.{module_breaks, module_reads, class_breaks, class_reads}
use Rattle.ruby_parse_definition.proofs.CountLaws.{left_again, same_again}
use Rattle.ruby_parse_definition.proofs.definitions.+definition.Goals as goal

pub class-returns-in_err-path-clause-reads : goal.class-returns-in_err-path-clause-reads
class-returns-in_err-path-clause-reads t c =
    let p = err_from_is_err_and c.from_residual.result c.from_residual.ensures.1 in
    rw (p.1, p.2) (c.in_err-path.ensures.reads c.args.levels)

pub module-returns-in_err-path-clause-reads : goal.module-returns-in_err-path-clause-reads
module-returns-in_err-path-clause-reads t c =
    let p = err_from_is_err_and c.from_residual.result c.from_residual.ensures.1 in
    rw (p.1, p.2) (c.in_err-path.ensures.reads c.args.levels)

pub class-returns-in_err-body-clause-reads : goal.class-returns-in_err-body-clause-reads
class-returns-in_err-body-clause-reads t c =
    let p = err_from_is_err_and c.from_residual-in_err-body.result c.from_residual-in_err-body.ensures.1 in
    rw (p.1, p.2) (class_breaks c.args.levels c.args.marks.now c.class.new.marks c.args.cursor.now
    c.class.new.cursor c.in_ok-path.path c.in_ok-path.ensures.inside c.in_ok-path.parent c.in_ok-path.ensures.reads _
    c.inside.new.marks c.inside.new.cursor c.in_err-body.ensures.reads)

pub class-returns-clause-reads : goal.class-returns-clause-reads
class-returns-clause-reads t c =
    rw c.close.ensures (class_reads c.args.levels c.args.marks.now c.class.new.marks c.args.cursor.now
    c.class.new.cursor c.in_ok-path.path c.in_ok-path.ensures.inside c.in_ok-path.parent c.in_ok-path.ensures.reads
    c.in_ok-body.body c.inside.new.marks c.inside.new.cursor c.in_ok-body.ensures.reads)

pub class-returns-clause-bodies : goal.class-returns-clause-bodies
class-returns-clause-bodies t c =
    rw c.close.ensures (left_again c.args.marks.now c.class.new.marks c.inside.new.marks c.in_ok-path.path
    c.in_ok-path.ensures.inside c.in_ok-body.ensures.bodies)

pub module-returns-in_err-body-clause-reads : goal.module-returns-in_err-body-clause-reads
module-returns-in_err-body-clause-reads t c =
    let p = err_from_is_err_and c.from_residual-in_err-body.result c.from_residual-in_err-body.ensures.1 in
    rw (p.1, p.2) (module_breaks c.args.levels c.args.marks.now c.module.new.marks c.args.cursor.now
    c.module.new.cursor c.in_ok-path.path c.in_ok-path.ensures.inside c.in_ok-path.ensures.reads _
    c.inside.new.marks c.inside.new.cursor c.in_err-body.ensures.reads)

pub module-returns-clause-reads : goal.module-returns-clause-reads
module-returns-clause-reads t c =
    rw c.close.ensures (module_reads c.args.levels c.args.marks.now c.module.new.marks c.args.cursor.now
    c.module.new.cursor c.in_ok-path.path c.in_ok-path.ensures.inside c.in_ok-path.ensures.reads c.in_ok-body.body
    c.inside.new.marks c.inside.new.cursor c.in_ok-body.ensures.reads)

pub module-returns-clause-bodies : goal.module-returns-clause-bodies
module-returns-clause-bodies t c =
    rw c.close.ensures (left_again c.args.marks.now c.module.new.marks c.inside.new.marks c.in_ok-path.path
    c.in_ok-path.ensures.inside c.in_ok-body.ensures.bodies)

pub definition-returns-in_err-levels-clause-reads : goal.definition-returns-in_err-levels-clause-reads
definition-returns-in_err-levels-clause-reads t c =
    let p = err_from_is_err_and c.from_residual.result c.from_residual.ensures.1 in
    rw (p.1, p.2) (module_deep c.args.place.levels c.args.marks.now.here c.args.marks.now c.args.marks.now
    c.args.cursor.now _ (sees_code c.args.cursor.now 1 (sym c.peek_code.ensures ∙ (cc))) c.in_err-levels.ensures.none
    c.in_err-levels.ensures.fault)

pub definition-returns-in_err-levels-2-clause-reads : goal.definition-returns-in_err-levels-2-clause-reads
definition-returns-in_err-levels-2-clause-reads t c =
    let p = err_from_is_err_and c.from_residual-in_err-levels-2.result c.from_residual-in_err-levels-2.ensures.1 in
    rw (p.1, p.2) (class_deep c.args.place.levels c.args.marks.now.here c.args.marks.now c.args.marks.now
    c.args.cursor.now _ (sees_code c.args.cursor.now 2 (sym c.peek_code.ensures ∙ (cc)))
    c.in_err-levels-2.ensures.none c.in_err-levels-2.ensures.fault)

pub definition-returns-in_ok-levels-clause-reads : goal.definition-returns-in_ok-levels-clause-reads
definition-returns-in_ok-levels-clause-reads t c =
    module_chosen c.args.place.levels c.args.marks.now.here c.args.marks.now c.module.new.marks c.args.cursor.now
    c.in_ok-levels.levels c.module.result c.module.new.cursor c.in_ok-levels.ensures.left
    (sees_code c.args.cursor.now 1 (sym c.peek_code.ensures ∙ (cc))) c.module.ensures.reads

pub definition-returns-in_ok-levels-2-clause-reads : goal.definition-returns-in_ok-levels-2-clause-reads
definition-returns-in_ok-levels-2-clause-reads t c =
    class_chosen c.args.place.levels c.args.marks.now.here c.args.marks.now c.class.new.marks c.args.cursor.now
    c.in_ok-levels-2.levels c.class.result c.class.new.cursor c.in_ok-levels-2.ensures.left
    (sees_code c.args.cursor.now 2 (sym c.peek_code.ensures ∙ (cc))) c.class.ensures.reads

pub definitions-returns-in_err-definition-clause-reads : goal.definitions-returns-in_err-definition-clause-reads
definitions-returns-in_err-definition-clause-reads t c =
    let p = err_from_is_err_and c.from_residual.result c.from_residual.ensures.1 in
    rw (p.1, p.2) (stop _ _ _ _ _ _ _ _ c.lines.invariant.goes_on
    (definitions_break c.args.place.levels c.args.marks.now.here c.lines.defs c.lines.marks
    c.lines.invariant.bodies.0 c.lines.cursor _
    c.definition.new.marks c.definition.new.cursor (sym c.begins.ensures ∙ c.lines-test.true)
    c.in_err-definition.ensures.reads))

pub definitions-returns-then-not-sees-clause-reads : goal.definitions-returns-then-not-sees-clause-reads
definitions-returns-then-not-sees-clause-reads t c =
    finish {s = some_defs} _ c.push.new.self _ c.definition.new.marks _ c.definition.new.cursor
    (then c.lines.invariant.goes_on
    (definition_without_line c.args.place.levels c.args.marks.now.here c.lines.defs c.lines.marks
    c.lines.invariant.bodies.0 c.lines.cursor _ c.push.new.self
    c.definition.new.marks c.definition.new.cursor (sym c.begins.ensures ∙ c.lines-test.true)
    c.in_ok-definition.ensures.reads c.in_ok-push.ensures.ok (cc)))

pub definitions-returns-then-not-sees-clause-bodies : goal.definitions-returns-then-not-sees-clause-bodies
definitions-returns-then-not-sees-clause-bodies t c = same_again c.args.marks.now c.lines.marks
    c.definition.new.marks c.lines.invariant.bodies c.in_ok-definition.ensures.bodies

pub definitions-lines-preserved : goal.definitions-lines-preserved
definitions-lines-preserved t c = record {
  goes_on = then c.lines.invariant.goes_on
      (definition_and_line c.args.place.levels c.args.marks.now.here c.lines.defs c.lines.marks
      c.lines.invariant.bodies.0 c.lines.cursor _ c.push.new.self
      c.definition.new.marks c.definition.new.cursor (sym c.begins.ensures ∙ c.lines-test.true)
      c.in_ok-definition.ensures.reads c.in_ok-push.ensures.ok c.skip.new.self (cc) c.skip.ensures);
  bodies = same_again c.args.marks.now c.lines.marks c.definition.new.marks c.lines.invariant.bodies
      c.in_ok-definition.ensures.bodies;
  shorter = let a : length c.skip.new.self < length c.definition.new.cursor =
      skip_falls is_line c.definition.new.cursor c.skip.new.self (cc) c.skip.ensures in
      omega (arith, a, c.in_ok-definition.ensures.shorter, c.lines.invariant.shorter);
}

pub definitions-returns-clause-reads : goal.definitions-returns-clause-reads
definitions-returns-clause-reads t c = finish {s = some_defs} _ c.lines.defs _ c.lines.marks _ c.lines.cursor
    (then c.lines.invariant.goes_on
    (definitions_end c.args.place.levels c.args.marks.now.here c.lines.defs c.lines.marks
    c.lines.invariant.bodies.0 c.lines.cursor (sym c.begins.ensures ∙ c.lines-test.false)))

pub inside-returns-in_err-defs-clause-reads : goal.inside-returns-in_err-defs-clause-reads
inside-returns-in_err-defs-clause-reads t c =
    let p = err_from_is_err_and c.from_residual.result c.from_residual.ensures.1 in
    rw (p.1, p.2) (body_breaks (body_view c.args.place c.args.marks.now) c.args.marks.now c.args.cursor.now _
    c.definitions.new.marks
    c.definitions.new.cursor c.in_err-defs.ensures.reads)

pub inside-returns-in_err-take-clause-reads : goal.inside-returns-in_err-take-clause-reads
inside-returns-in_err-take-clause-reads t c =
    let p = err_from_is_err_and c.from_residual-in_err-take.result c.from_residual-in_err-take.ensures.1 in
    rw (p.1, p.2) (body_lacks_end (body_view c.args.place c.args.marks.now) c.args.marks.now c.args.cursor.now
    c.in_ok-defs.defs
    c.definitions.new.marks c.definitions.new.cursor c.in_ok-defs.ensures.reads _ c.take.new.self
    c.in_err-take.ensures.stays c.in_err-take.ensures.other c.in_err-take.ensures.fault)

pub inside-returns-clause-reads : goal.inside-returns-clause-reads
inside-returns-clause-reads t c =
    body_reads (body_view c.args.place c.args.marks.now) c.args.marks.now c.args.cursor.now c.in_ok-defs.defs
    c.definitions.new.marks
    c.definitions.new.cursor c.in_ok-defs.ensures.reads c.take.new.self c.in_ok-take.ensures.ok
    c.in_ok-take.ensures.passed

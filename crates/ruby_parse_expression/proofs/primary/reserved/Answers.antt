use Rattle.std.proofs.Common.{◌≡◌, ◌∙◌, Some, ap, refl, rules}
use Rattle.ruby_types.specs.declared.tree.Expr.TheVariants as expr
use Rattle.ruby_parse_cursor.specs.Views.{code_view}
use Rattle.ruby_parse_steps.proofs.PrimaryLaws.{primary_none, no_primary}
use Rattle.ruby_parse_expression.proofs.ReservedLaws.{reserved_reads}
use Rattle.ruby_parse_expression.proofs.primary.reserved.Goals as goal
use Rattle.ruby_parse_expression.proofs.primary.reserved.Goals.{in_default-via-in-Some+in_default-1}
use Rattle.ruby_parse_expression.proofs.primary.reserved.Goals.{in_default-via-in-None-1}

pub returns-in-Some-eq12-cases-clause-reads : goal.returns-in-Some-eq12-cases-clause-reads
returns-in-Some-eq12-cases-clause-reads c = λ here.
    reserved_reads here 12 expr.Nil c.args.cursor.now c.passed.new.cursor c.passed.result c.peek_code.result
    c.peek_code.ensures (cc) refl refl c.passed.ensures.value c.passed.ensures.passed

pub returns-in-Some-eq13-cases-clause-reads : goal.returns-in-Some-eq13-cases-clause-reads
returns-in-Some-eq13-cases-clause-reads c = λ here.
    reserved_reads here 13 expr.True c.args.cursor.now c.passed-2.new.cursor c.passed-2.result c.peek_code.result
    c.peek_code.ensures (cc) refl refl c.passed-2.ensures.value c.passed-2.ensures.passed

pub returns-in-Some-eq14-cases-clause-reads : goal.returns-in-Some-eq14-cases-clause-reads
returns-in-Some-eq14-cases-clause-reads c = λ here.
    reserved_reads here 14 expr.False c.args.cursor.now c.passed-3.new.cursor c.passed-3.result c.peek_code.result
    c.peek_code.ensures (cc) refl refl c.passed-3.ensures.value c.passed-3.ensures.passed

pub returns-in-Some-eq11-cases-clause-reads : goal.returns-in-Some-eq11-cases-clause-reads
returns-in-Some-eq11-cases-clause-reads c = λ here.
    reserved_reads here 11 expr.SelfRef c.args.cursor.now c.passed-4.new.cursor c.passed-4.result c.peek_code.result
    c.peek_code.ensures (cc) refl refl c.passed-4.ensures.value c.passed-4.ensures.passed

-- the code is none of the four
pub returns-in_default-clause-reads : goal.returns-in_default-clause-reads
returns-in_default-clause-reads c = λ here. no_primary here _ c.args.cursor.now refl
    (primary_none here _ c.requires.nests c.requires.no_number c.requires.no_symbol c.requires.no_variable
    (λ e. let r : c.peek_code.result ≡ Some 12 = c.peek_code.ensures ∙ ap code_view e in
    elim c.in_default.branch [
      | in_default-via-in-Some+in_default-1 w ↦ search rules
      | in_default-via-in-None-1 w ↦ search rules
    ])
    (λ e. let r : c.peek_code.result ≡ Some 13 = c.peek_code.ensures ∙ ap code_view e in
    elim c.in_default.branch [
      | in_default-via-in-Some+in_default-1 w ↦ search rules
      | in_default-via-in-None-1 w ↦ search rules
    ])
    (λ e. let r : c.peek_code.result ≡ Some 14 = c.peek_code.ensures ∙ ap code_view e in
    elim c.in_default.branch [
      | in_default-via-in-Some+in_default-1 w ↦ search rules
      | in_default-via-in-None-1 w ↦ search rules
    ])
    (λ e. let r : c.peek_code.result ≡ Some 11 = c.peek_code.ensures ∙ ap code_view e in
    elim c.in_default.branch [
      | in_default-via-in-Some+in_default-1 w ↦ search rules
      | in_default-via-in-None-1 w ↦ search rules
    ]))

use Rattle.std.proofs.Common.{◌≤◌, ◌∙◌, ◌∷◌, ◌++◌, [], length, refl, sym, ap, arith, subst, Ok, Err, Some, None, codes}
use Rattle.std.proofs.lemmas.Result.{err_from_is_err_and}
use Rattle.descent.specs.Grammar.{give}
use Rattle.ruby_types.specs.declared.tree.Expr.TheVariants as expr
use Rattle.ruby_grammar.specs.Terminals.{units, disjunctions, is_comma, is_ask, is_tight_paren, is_close_paren}
use Rattle.ruby_grammar.specs.Terminals.{is_tight_bracket}
use Rattle.ruby_grammar.specs.Terminals.{is_open_bracket, is_close_bracket, is_open_brace, is_close_brace}
use Rattle.ruby_grammar.specs.Terminals.{is_open_paren}
use Rattle.ruby_grammar.specs.Terminals.{is_inside_open, is_inside_close}
use Rattle.ruby_grammar.specs.Rules as rules
use Rattle.ruby_grammar.specs.Values.{name_alone}
use Rattle.ruby_parse_cursor.specs.declared.fault.Fault.TheVariants as f
use Rattle.ruby_parse_cursor.specs.Views.{word_view, expression_terminal}
use Rattle.ruby_parse_steps.specs.Levels.{level_view, is_operator_terminal, is_any_operator}
use Rattle.ruby_parse_steps.proofs.LevelLaws.{level_reads, level_breaks, level_within, levels_fall, breaks_at_looser}
use Rattle.ruby_parse_steps.proofs.LevelLaws.{ends_at_looser}
use Rattle.ruby_parse_steps.proofs.LevelLaws.{ends_at_level}
use Rattle.ruby_parse_steps.specs.Opens.{BehindLast}
use Rattle.ruby_parse_steps.specs.Scopes.{scope_view}
use Rattle.ruby_parse_steps.proofs.Descent.{g_then}
use Rattle.ruby_parse_steps.proofs.ArgumentLaws.{member_breaks, members_end}
use Rattle.ruby_parse_steps.proofs.ChoiceLaws.{expression_breaks, plain_expression, choice_breaks, test_begins}
use Rattle.ruby_parse_steps.proofs.NameLaws.{arguments_deep, arguments_read, arguments_break, arguments_lack_close}
use Rattle.ruby_parse_steps.proofs.NameLaws.{perhaps_none, name_reads, call_reads, call_breaks, alone_reads, is_local}
use Rattle.ruby_parse_steps.proofs.NameLaws.{is_call}
use Rattle.ruby_parse_steps.proofs.OperatorLaws.{not_deep, not_reads, not_breaks, minus_deep, minus_reads, minus_breaks}
use Rattle.ruby_parse_steps.proofs.OperatorLaws.{unary_is_postfix, units_are_unary}
use Rattle.ruby_parse_steps.proofs.PostfixLaws as postfix_laws
use Rattle.ruby_parse_steps.proofs.PostfixLaws.{postfix_begins, postfix_breaks, postfix_ends, member_lacks_name}
use Rattle.ruby_parse_steps.proofs.PostfixLaws.{index_deep, index_reads, index_breaks, index_lacks_close}
use Rattle.ruby_parse_steps.proofs.PrimaryLaws.{sees}
use Rattle.ruby_parse_steps.proofs.WordLaws.{skip_falls}
use Rattle.ruby_parse_expression.specs.Pairs.{pair_terminal}
use Rattle.ruby_parse_expression.proofs.Lengths.{falls, no_longer, word_falls, less_than_most, inside_falls}
use Rattle.ruby_parse_expression.proofs.Lengths.{less_is_most, same_length}
use Rattle.std.proofs.Math.Nat.{le_trans}
use Rattle.ruby_parse_expression.proofs.Failing.{ended_fails_so, ended_whole, ended_inside, fails, gives}
use Rattle.ruby_parse_expression.proofs.Failing.{arguments_fail, constant_fails, perhaps_gives, pair_at}
use Rattle.ruby_parse_expression.proofs.MemberLaws.{member_goes_on, member_last, pair_goes_on, pair_last}
use Rattle.ruby_parse_expression.proofs.PairLaws.{label_reads, label_breaks, arrow_reads, arrow_breaks, arrow_lacks}
use Rattle.ruby_parse_expression.proofs.PairLaws.{arrow_breaks_behind, pair_breaks, pairs_end}
use Rattle.ruby_parse_expression.proofs.OperandLaws.{next_reads, next_breaks, last_reads, operands_end, operator_bound}
use Rattle.ruby_parse_expression.proofs.BracketLaws.{bracket_deep, is_paren, array_reads, array_breaks}
use Rattle.ruby_parse_expression.proofs.BracketLaws.{array_lacks_close, hash_reads, hash_breaks, hash_lacks_close}
use Rattle.ruby_parse_expression.proofs.BracketLaws.{group_reads, group_breaks, group_lacks_close, constant_reads}
use Rattle.ruby_parse_expression.proofs.BracketLaws.{constant_breaks, constant_taken}
use Rattle.ruby_parse_expression.proofs.PartLaws.{part_fails, part_goes_on, part_ends, part_taken}
use Rattle.ruby_parse_expression.proofs.TextLaws.{parts_end, piece_reads, inside_deep, inside_reads, inside_breaks}
use Rattle.ruby_parse_expression.proofs.TextLaws.{inside_lacks_close, text_reads, text_breaks, text_lacks_close}
use Rattle.ruby_parse_expression.proofs.+expression.Goals as goal

pub arguments::members-returns-in_err-expression-clause-reads :
    goal.arguments::members-returns-in_err-expression-clause-reads
arguments::members-returns-in_err-expression-clause-reads t c =
    let p = err_from_is_err_and c.from_residual.result c.from_residual.ensures.1 in
    rw (p.1) (c.members.invariant.goes_on (Err p.0) c.expression.new.cursor
    (member_breaks (scope_view c.args.scope) c.members.list p.0 c.members.cursor c.expression.new.cursor
    (sym (c.starts_expression.ensures ∙ ap expression_terminal c.peek_terminal.ensures) ∙ c.members-test.true)
    (fails {s = rules.an_expression} (rules.expression (scope_view c.args.scope)) c.members.cursor
    c.expression.new.cursor c.expression.new.cursor _ p.0 refl p.2 c.in_err-expression.ensures.reads)))

pub arguments::members-returns-then-not-sees-clause-reads : goal.arguments::members-returns-then-not-sees-clause-reads
arguments::members-returns-then-not-sees-clause-reads t c =
    c.members.invariant.goes_on (Ok c.push.new.self) c.expression.new.cursor
    (member_last (scope_view c.args.scope) c.members.list c.push.new.self c.in_ok-expression.field-0
    c.members.cursor c.expression.new.cursor
    (sym (c.starts_expression.ensures ∙ ap expression_terminal c.peek_terminal.ensures) ∙ c.members-test.true)
    c.in_ok-expression.ensures.reads c.in_ok-push.ensures.ok (sym c.sees.ensures ∙ c.if-not-sees.true))

pub arguments::members-members-preserved : goal.arguments::members-members-preserved
arguments::members-members-preserved t c =
    record {
      goes_on = λ r end h. c.members.invariant.goes_on r end
          (member_goes_on (scope_view c.args.scope) c.members.list c.push.new.self c.in_ok-expression.field-0
          c.members.cursor c.expression.new.cursor
          (sym (c.starts_expression.ensures ∙ ap expression_terminal c.peek_terminal.ensures) ∙ c.members-test.true)
          c.in_ok-expression.ensures.reads c.in_ok-push.ensures.ok c.skip.new.self end r (sym c.sees.ensures
          ∙ c.if-not-sees.false) c.skip.ensures h);
      shorter = less_than_most (skip_falls is_comma c.expression.new.cursor c.skip.new.self (sym c.sees.ensures
          ∙ c.if-not-sees.false) c.skip.ensures) (less_than_most c.in_ok-expression.ensures.taken
          c.members.invariant.shorter);
    }

pub arguments::members-returns-clause-reads : goal.arguments::members-returns-clause-reads
arguments::members-returns-clause-reads t c =
    c.members.invariant.goes_on (Ok c.members.list) c.members.cursor
    (members_end (scope_view c.args.scope) c.members.list c.members.cursor
    (sym (c.starts_expression.ensures ∙ ap expression_terminal c.peek_terminal.ensures) ∙ c.members-test.false))

pub arguments::pair-returns-in_err-value-clause-reads : goal.arguments::pair-returns-in_err-value-clause-reads
arguments::pair-returns-in_err-value-clause-reads t c =
    let p = err_from_is_err_and c.from_residual-in_err-value.result c.from_residual-in_err-value.ensures.1 in
    rw (p.1) (label_breaks (scope_view c.args.scope) c.args.cursor.now (word_view c.in_ok-label.label) p.0
    c.take_word.new.self c.expression.new.cursor c.in_ok-label.ensures.ok c.in_ok-label.ensures.terminal
    (fails {s = rules.an_expression} (rules.expression (scope_view c.args.scope)) c.take_word.new.self
    c.expression.new.cursor c.expression.new.cursor _ p.0 refl p.2 c.in_err-value.ensures.reads))

pub arguments::pair-returns-in_err-key-clause-reads : goal.arguments::pair-returns-in_err-key-clause-reads
arguments::pair-returns-in_err-key-clause-reads t c =
    let p = err_from_is_err_and c.from_residual-in_err-key.result c.from_residual-in_err-key.ensures.1 in
    rw (p.1) (arrow_breaks (scope_view c.args.scope) c.args.cursor.now p.0 c.expression-else-sees.new.cursor
    (sym c.sees.ensures ∙ c.if-sees.false)
    (fails {s = rules.an_expression} (rules.expression (scope_view c.args.scope)) c.args.cursor.now
    c.expression-else-sees.new.cursor c.expression-else-sees.new.cursor _ p.0 refl p.2 c.in_err-key.ensures.reads))

pub arguments::pair-returns-in_err-take-clause-reads : goal.arguments::pair-returns-in_err-take-clause-reads
arguments::pair-returns-in_err-take-clause-reads t c =
    let p = err_from_is_err_and c.from_residual-in_err-take.result c.from_residual-in_err-take.ensures.1 in
    rw (p.1) (fails {s = rules.a_pair} (rules.pair (scope_view c.args.scope)) c.args.cursor.now
    c.expression-else-sees.new.cursor c.take.new.self f.Unexpected p.0 c.in_err-take.ensures.stays
    (p.2 ∙ c.in_err-take.ensures.fault)
    (arrow_lacks (scope_view c.args.scope) c.args.cursor.now c.in_ok-key.key c.expression-else-sees.new.cursor
    (sym c.sees.ensures ∙ c.if-sees.false) c.in_ok-key.ensures.reads c.in_err-take.ensures.other))

pub arguments::pair-returns-in_err-value-2-clause-reads : goal.arguments::pair-returns-in_err-value-2-clause-reads
arguments::pair-returns-in_err-value-2-clause-reads t c =
    let p = err_from_is_err_and c.from_residual-in_err-value-2.result c.from_residual-in_err-value-2.ensures.1 in
    rw (p.1) (arrow_breaks_behind (scope_view c.args.scope) c.args.cursor.now c.in_ok-key.key p.0
    c.expression-else-sees.new.cursor c.take.new.self c.expression-else-sees-2.new.cursor (sym c.sees.ensures
    ∙ c.if-sees.false) c.in_ok-key.ensures.reads c.in_ok-take.ensures.ok c.in_ok-take.ensures.passed
    (fails {s = rules.an_expression} (rules.expression (scope_view c.args.scope)) c.take.new.self
    c.expression-else-sees-2.new.cursor c.expression-else-sees-2.new.cursor _ p.0 refl p.2
    c.in_err-value-2.ensures.reads))

pub arguments::pair-returns-in_ok-value-clause-reads : goal.arguments::pair-returns-in_ok-value-clause-reads
arguments::pair-returns-in_ok-value-clause-reads t c =
    label_reads (scope_view c.args.scope) c.args.cursor.now (word_view c.in_ok-label.label) c.in_ok-value.value
    (expr.Sym c.in_ok-name.name, c.in_ok-value.value) c.take_word.new.self c.expression.new.cursor
    c.in_ok-label.ensures.ok c.in_ok-label.ensures.terminal c.in_ok-value.ensures.reads
    (ap (λ t. (expr.Sym t, c.in_ok-value.value)) (c.in_ok-name.ensures ∙ c.before_colon.ensures))

pub arguments::pair-returns-in_ok-value-2-clause-reads : goal.arguments::pair-returns-in_ok-value-2-clause-reads
arguments::pair-returns-in_ok-value-2-clause-reads t c =
    arrow_reads (scope_view c.args.scope) c.args.cursor.now c.in_ok-key.key c.in_ok-value-2.value
    c.expression-else-sees.new.cursor c.take.new.self c.expression-else-sees-2.new.cursor (sym c.sees.ensures
    ∙ c.if-sees.false) c.in_ok-key.ensures.reads c.in_ok-take.ensures.ok c.in_ok-take.ensures.passed
    c.in_ok-value-2.ensures.reads

pub arguments::pairs-returns-in_err-pair-clause-reads : goal.arguments::pairs-returns-in_err-pair-clause-reads
arguments::pairs-returns-in_err-pair-clause-reads t c =
    let p = err_from_is_err_and c.from_residual.result c.from_residual.ensures.1 in
    rw (p.1) (c.pairs.invariant.goes_on (Err p.0) c.pair.new.cursor
    (pair_breaks (scope_view c.args.scope) c.pairs.list p.0 c.pairs.cursor c.pair.new.cursor
    (pair_at c.pairs.cursor ∙ (sym (c.starts_pair.ensures ∙ ap pair_terminal c.peek_terminal.ensures)
    ∙ c.pairs-test.true))
    (fails {s = rules.a_pair} (rules.pair (scope_view c.args.scope)) c.pairs.cursor c.pair.new.cursor
    c.pair.new.cursor _ p.0 refl p.2 c.in_err-pair.ensures.reads)))

pub arguments::pairs-returns-then-not-sees-clause-reads : goal.arguments::pairs-returns-then-not-sees-clause-reads
arguments::pairs-returns-then-not-sees-clause-reads t c =
    c.pairs.invariant.goes_on (Ok c.push.new.self) c.pair.new.cursor
    (pair_last (scope_view c.args.scope) c.pairs.list c.push.new.self c.in_ok-pair.field-0 c.pairs.cursor
    c.pair.new.cursor (pair_at c.pairs.cursor
    ∙ (sym (c.starts_pair.ensures ∙ ap pair_terminal c.peek_terminal.ensures) ∙ c.pairs-test.true))
    c.in_ok-pair.ensures.reads
    c.in_ok-push.ensures.ok (sym c.sees.ensures ∙ c.if-not-sees.true))

pub arguments::pairs-pairs-preserved : goal.arguments::pairs-pairs-preserved
arguments::pairs-pairs-preserved t c =
    record {
      goes_on = λ r end h. c.pairs.invariant.goes_on r end
          (pair_goes_on (scope_view c.args.scope) c.pairs.list c.push.new.self c.in_ok-pair.field-0 c.pairs.cursor
          c.pair.new.cursor (pair_at c.pairs.cursor
          ∙ (sym (c.starts_pair.ensures ∙ ap pair_terminal c.peek_terminal.ensures) ∙ c.pairs-test.true))
          c.in_ok-pair.ensures.reads c.in_ok-push.ensures.ok c.skip.new.self end r (sym c.sees.ensures
          ∙ c.if-not-sees.false) c.skip.ensures h);
      shorter = less_than_most (skip_falls is_comma c.pair.new.cursor c.skip.new.self
          (sym c.sees.ensures ∙ c.if-not-sees.false)
          c.skip.ensures) (less_than_most c.in_ok-pair.ensures.taken c.pairs.invariant.shorter);
    }

pub arguments::pairs-returns-clause-reads : goal.arguments::pairs-returns-clause-reads
arguments::pairs-returns-clause-reads t c =
    c.pairs.invariant.goes_on (Ok c.pairs.list) c.pairs.cursor
    (pairs_end (scope_view c.args.scope) c.pairs.list c.pairs.cursor (pair_at c.pairs.cursor
    ∙ (sym (c.starts_pair.ensures ∙ ap pair_terminal c.peek_terminal.ensures) ∙ c.pairs-test.false)))

pub operators::expression-values-init : goal.operators::expression-values-init
operators::expression-values-init t c =
    record {
      goes_on = λ v mid r end g h. g_then {s = rules.an_expression} {v = rules.an_expression}
          (rules.expression (scope_view c.args.scope)) (λ x. give x) v c.args.cursor.now mid end r g
          (subst (λ l. BehindLast (scope_view c.args.scope) l v mid r end) c.new-opens.ensures.items h);
      breaks = λ e end g. g;
      shorter = same_length c.args.cursor.now;
    }

pub operators::expression-returns-in_err-value-clause-reads :
    goal.operators::expression-returns-in_err-value-clause-reads
operators::expression-returns-in_err-value-clause-reads t c =
    let p = err_from_is_err_and c.from_residual.result c.from_residual.ensures.1 in
    rw (p.1) (c.values.invariant.breaks p.0 c.operators.new.cursor
    (expression_breaks (scope_view c.args.scope) p.0 c.values.cursor c.operators.new.cursor
    (fails {s = rules.an_expression} (rules.operators disjunctions (scope_view c.args.scope)) c.values.cursor
    c.operators.new.cursor c.operators.new.cursor _ p.0 refl p.2 c.in_err-value.ensures.reads)))

pub operators::expression-values-preserved-then-sees :
    goal.operators::expression-values-preserved-then-sees
operators::expression-values-preserved-then-sees t c =
    record {
      goes_on = λ v m s z g h. test_begins (scope_view c.args.scope) c.values.opens.items c.push_open.new.opens.items
          c.in_ok-value.value v c.values.cursor c.operators.new.cursor c.skip.new.self m z c.args.cursor.now s
          c.in_ok-push_open.ensures c.in_ok-value.ensures.reads (sym c.sees.ensures ∙ c.if-sees.true) c.skip.ensures
          g h c.values.invariant.goes_on c.values.invariant.breaks;
      breaks = λ e z g. c.values.invariant.breaks e z
          (choice_breaks (scope_view c.args.scope) c.in_ok-value.value e c.values.cursor c.operators.new.cursor
          c.skip.new.self z c.in_ok-value.ensures.reads (sym c.sees.ensures ∙ c.if-sees.true) c.skip.ensures g);
      shorter = less_than_most (skip_falls is_ask c.operators.new.cursor c.skip.new.self
          (sym c.sees.ensures ∙ c.if-sees.true)
          c.skip.ensures) (less_than_most c.in_ok-value.ensures.taken c.values.invariant.shorter);
    }

pub operators::expression-returns-in_err-value-2-clause-reads :
    goal.operators::expression-returns-in_err-value-2-clause-reads
operators::expression-returns-in_err-value-2-clause-reads t c =
    let p = err_from_is_err_and c.from_residual-in_err-value-2.result c.from_residual-in_err-value-2.ensures.1 in
    rw (p.1) (c.values.invariant.goes_on c.in_ok-value.value c.operators.new.cursor (Err p.0) c.end_choices.new.cursor
    (plain_expression (scope_view c.args.scope) c.in_ok-value.value c.values.cursor c.operators.new.cursor
    c.in_ok-value.ensures.reads (sym c.sees.ensures ∙ c.if-sees.false))
    (ended_fails_so (scope_view c.args.scope) c.values.opens.items c.end_choices.new.opens.items c.in_ok-value.value
    c.operators.new.cursor c.end_choices.new.cursor _ p.0 p.2 c.in_err-value-2.ensures.reads))

pub operators::expression-returns-in-Some-clause-reads : goal.operators::expression-returns-in-Some-clause-reads
operators::expression-returns-in-Some-clause-reads t c =
    c.values.invariant.goes_on c.in_ok-value.value c.operators.new.cursor (Ok c.in-Some.value) c.end_choices.new.cursor
    (plain_expression (scope_view c.args.scope) c.in_ok-value.value c.values.cursor c.operators.new.cursor
    c.in_ok-value.ensures.reads (sym c.sees.ensures ∙ c.if-sees.false))
    (ended_whole (scope_view c.args.scope) c.values.opens.items c.end_choices.new.opens.items c.in_ok-value.value
    c.operators.new.cursor c.end_choices.new.cursor c.in_ok-value-2.field-0 c.in-Some.value c.in-Some.is
    c.in_ok-value-2.ensures.reads)

pub operators::expression-values-preserved : goal.operators::expression-values-preserved
operators::expression-values-preserved t c =
    let h = ended_inside (scope_view c.args.scope) c.values.opens.items c.end_choices.new.opens.items
    c.in_ok-value.value
    c.operators.new.cursor c.end_choices.new.cursor c.in_ok-value-2.field-0 c.in-None.is
    c.in_ok-value-2.ensures.reads in
    record {
      goes_on = λ v m s z g k. c.values.invariant.goes_on c.in_ok-value.value c.operators.new.cursor s z
          (plain_expression (scope_view c.args.scope) c.in_ok-value.value c.values.cursor c.operators.new.cursor
          c.in_ok-value.ensures.reads (sym c.sees.ensures ∙ c.if-sees.false)) (h.0 v m s z g k);
      breaks = λ e z g. c.values.invariant.goes_on c.in_ok-value.value c.operators.new.cursor (Err e) z
          (plain_expression (scope_view c.args.scope) c.in_ok-value.value c.values.cursor c.operators.new.cursor
          c.in_ok-value.ensures.reads (sym c.sees.ensures ∙ c.if-sees.false)) (h.1 e z g);
      shorter = le_trans c.in_ok-value-2.ensures.shorter
          (less_than_most c.in_ok-value.ensures.taken c.values.invariant.shorter);
    }

pub operators::operators-returns-in_err-x-clause-reads : goal.operators::operators-returns-in_err-x-clause-reads
operators::operators-returns-in_err-x-clause-reads t c =
    let p = err_from_is_err_and c.from_residual.result c.from_residual.ensures.1 in
    rw (p.1) (breaks_at_looser (scope_view c.args.scope) units (level_view c.args.loosest) p.0 c.args.cursor.now
    c.unary.new.cursor (omega arith)
    (units_are_unary units (scope_view c.args.scope) c.args.cursor.now c.unary.new.cursor (Err p.0) refl
    (fails {s = rules.an_expression} (rules.unary (scope_view c.args.scope)) c.args.cursor.now c.unary.new.cursor
    c.unary.new.cursor _ p.0 refl p.2 c.in_err-x.ensures.reads)))

pub operators::operators-levels-init : goal.operators::operators-levels-init
operators::operators-levels-init t c =
    record {
      reads = units_are_unary units (scope_view c.args.scope) c.args.cursor.now c.unary.new.cursor (Ok c.in_ok-x.x)
          refl c.in_ok-x.ensures.reads;
      within = omega arith;
      shorter = c.in_ok-x.ensures.taken;
    }

pub operators::operators-returns-then-not-is_operator-clause-reads :
    goal.operators::operators-returns-then-not-is_operator-clause-reads
operators::operators-returns-then-not-is_operator-clause-reads t c =
    ends_at_looser (scope_view c.args.scope) (level_view c.levels.level) (level_view c.args.loosest) c.levels.x
    c.args.cursor.now c.levels.cursor c.levels.invariant.within
    (ap is_any_operator (sym c.peek_terminal.ensures) ∙ (sym c.is_operator.ensures ∙ c.if-not-is_operator.true))
    c.levels.invariant.reads

pub operators::operators-returns-in_err-x-2-clause-reads : goal.operators::operators-returns-in_err-x-2-clause-reads
operators::operators-returns-in_err-x-2-clause-reads t c =
    let p = err_from_is_err_and c.from_residual-in_err-x-2.result c.from_residual-in_err-x-2.ensures.1 in
    rw (p.1) (level_breaks (scope_view c.args.scope) (level_view c.levels.level) (level_view c.looser-level.result)
    (level_view c.args.loosest) c.levels.x p.0 c.args.cursor.now c.levels.cursor c.more_operators.new.cursor
    (sym c.is_looser_than.ensures ∙ c.levels-test.true) c.looser-level.ensures c.levels.invariant.reads
    (fails {s = rules.an_expression}
    (rules.more_operators (level_view c.looser-level.result) (scope_view c.args.scope) c.levels.x) c.levels.cursor
    c.more_operators.new.cursor c.more_operators.new.cursor _ p.0 refl p.2 c.in_err-x-2.ensures.reads))

pub operators::operators-levels-preserved : goal.operators::operators-levels-preserved
operators::operators-levels-preserved t c =
    record {
      reads = level_reads (scope_view c.args.scope) (level_view c.levels.level) (level_view c.looser-level.result)
          (level_view c.args.loosest) c.levels.x c.in_ok-x-2.x c.args.cursor.now c.levels.cursor
          c.more_operators.new.cursor (sym c.is_looser_than.ensures ∙ c.levels-test.true) c.looser-level.ensures
          c.levels.invariant.reads c.in_ok-x-2.ensures.reads;
      within = level_within (level_view c.levels.level) (level_view c.looser-level.result)
          (level_view c.args.loosest) (sym c.is_looser_than.ensures ∙ c.levels-test.true) c.looser-level.ensures;
      shorter = no_longer c.in_ok-x-2.ensures.shorter c.levels.invariant.shorter;
    }

pub operators::operators-returns-clause-reads : goal.operators::operators-returns-clause-reads
operators::operators-returns-clause-reads t c =
    ends_at_level (scope_view c.args.scope) (level_view c.levels.level) (level_view c.args.loosest) c.levels.x
    c.args.cursor.now c.levels.cursor c.levels.invariant.within
    (sym c.is_looser_than.ensures ∙ c.levels-test.false) c.levels.invariant.reads

pub operators::operators-levels-smaller : goal.operators::operators-levels-smaller
operators::operators-levels-smaller t c =
    levels_fall (level_view c.levels.level) (level_view c.looser-level.result) (level_view c.args.loosest)
    (sym c.is_looser_than.ensures ∙ c.levels-test.true) c.looser-level.ensures

pub operators::more_operators-take_word-requires : goal.operators::more_operators-take_word-requires
operators::more_operators-take_word-requires t c =
    operator_bound (level_view c.args.level) c.peek_terminal-terminal.result
    (ap (is_operator_terminal (level_view c.args.level)) (c.peek_terminal-terminal.ensures
    ∙ sym c.peek_terminal.ensures)
    ∙ (sym c.has.ensures ∙ c.operands-test.true))

pub operators::more_operators-returns-in_err-y-clause-reads :
    goal.operators::more_operators-returns-in_err-y-clause-reads
operators::more_operators-returns-in_err-y-clause-reads t c =
    let p = err_from_is_err_and c.from_residual-in_err-y.result c.from_residual-in_err-y.ensures.1 in
    rw (p.1) (c.operands.invariant.goes_on (Err p.0) c.operators.new.cursor
    (next_breaks (level_view c.args.level) (level_view c.operand_level.result)
    (scope_view c.args.scope) c.operand_level.ensures (word_view c.in_ok-operator.operator) c.operands.x
    c.operands.cursor c.take_word.new.self
    (sym (c.has.ensures ∙ ap (is_operator_terminal (level_view c.args.level)) c.peek_terminal.ensures)
    ∙ c.operands-test.true)
    c.in_ok-operator.ensures.ok p.0 c.operators.new.cursor
    (fails {s = rules.an_expression}
    (rules.operators (level_view c.operand_level.result) (scope_view c.args.scope)) c.take_word.new.self
    c.operators.new.cursor c.operators.new.cursor _ p.0 refl p.2 c.in_err-y.ensures.reads)))

pub operators::more_operators-returns-then-not-repeats-clause-reads :
    goal.operators::more_operators-returns-then-not-repeats-clause-reads
operators::more_operators-returns-then-not-repeats-clause-reads t c =
    c.operands.invariant.goes_on (Ok c.in_ok-x.x) c.operators.new.cursor
    (last_reads (level_view c.args.level) (level_view c.operand_level.result)
    (scope_view c.args.scope) c.operand_level.ensures (word_view c.in_ok-operator.operator) c.operands.x
    c.operands.cursor c.take_word.new.self
    (sym (c.has.ensures ∙ ap (is_operator_terminal (level_view c.args.level)) c.peek_terminal.ensures)
    ∙ c.operands-test.true)
    c.in_ok-operator.ensures.ok c.in_ok-y.y c.in_ok-x.x c.operators.new.cursor
    c.in_ok-y.ensures.reads c.in_ok-x.ensures (sym c.repeats.ensures ∙ c.if-not-repeats.true))

pub operators::more_operators-operands-preserved : goal.operators::more_operators-operands-preserved
operators::more_operators-operands-preserved t c =
    record {
      goes_on = λ r end h. c.operands.invariant.goes_on r end
          (next_reads (level_view c.args.level) (level_view c.operand_level.result)
          (scope_view c.args.scope) c.operand_level.ensures (word_view c.in_ok-operator.operator) c.operands.x
          c.operands.cursor c.take_word.new.self
          (sym (c.has.ensures ∙ ap (is_operator_terminal (level_view c.args.level)) c.peek_terminal.ensures)
          ∙ c.operands-test.true)
          c.in_ok-operator.ensures.ok c.in_ok-y.y c.in_ok-x.x c.operators.new.cursor end r
          c.in_ok-y.ensures.reads c.in_ok-x.ensures (sym c.repeats.ensures ∙ c.if-not-repeats.false) h);
      shorter = less_than_most (falls c.in_ok-y.ensures.taken
          (word_falls (word_view c.in_ok-operator.operator) c.operands.cursor c.take_word.new.self
          c.in_ok-operator.ensures.ok)) c.operands.invariant.shorter;
    }

pub operators::more_operators-returns-clause-reads : goal.operators::more_operators-returns-clause-reads
operators::more_operators-returns-clause-reads t c =
    c.operands.invariant.goes_on (Ok c.operands.x) c.operands.cursor
    (operands_end (level_view c.args.level) (scope_view c.args.scope) c.operands.x c.operands.cursor
    (sym (c.has.ensures ∙ ap (is_operator_terminal (level_view c.args.level)) c.peek_terminal.ensures)
    ∙ c.operands-test.false))

pub operators::unary-returns-in_err-inner-clause-reads : goal.operators::unary-returns-in_err-inner-clause-reads
operators::unary-returns-in_err-inner-clause-reads t c =
    let p = err_from_is_err_and c.from_residual.result c.from_residual.ensures.1 in
    rw (p.1) (fails {s = rules.an_expression} (rules.unary (scope_view c.args.scope)) c.args.cursor.now
    c.args.cursor.now c.args.cursor.now f.Deep p.0 refl (p.2 ∙ c.in_err-inner.ensures.fault)
    (not_deep (scope_view c.args.scope) c.args.cursor.now (sym c.sees.ensures ∙ c.if-sees.true)
    c.in_err-inner.ensures.none))

pub operators::unary-returns-in_err-x-clause-reads : goal.operators::unary-returns-in_err-x-clause-reads
operators::unary-returns-in_err-x-clause-reads t c =
    let p = err_from_is_err_and c.from_residual-in_err-x.result c.from_residual-in_err-x.ensures.1 in
    rw (p.1) (not_breaks (scope_view c.args.scope) (scope_view c.in_ok-inner.inner) c.in_ok-inner.inner.levels p.0
    c.args.cursor.now c.skip.new.self c.unary.new.cursor (sym c.sees.ensures ∙ c.if-sees.true)
    c.in_ok-inner.ensures.left c.in_ok-inner.ensures.same c.skip.ensures
    (fails {s = rules.an_expression} (rules.unary (scope_view c.in_ok-inner.inner)) c.skip.new.self
    c.unary.new.cursor c.unary.new.cursor _ p.0 refl p.2 c.in_err-x.ensures.reads))

pub operators::unary-returns-in_err-inner-2-clause-reads : goal.operators::unary-returns-in_err-inner-2-clause-reads
operators::unary-returns-in_err-inner-2-clause-reads t c =
    let p = err_from_is_err_and c.from_residual-in_err-inner-2.result c.from_residual-in_err-inner-2.ensures.1 in
    rw (p.1) (fails {s = rules.an_expression} (rules.unary (scope_view c.args.scope)) c.args.cursor.now
    c.args.cursor.now c.args.cursor.now f.Deep p.0 refl (p.2 ∙ c.in_err-inner-2.ensures.fault)
    (minus_deep (scope_view c.args.scope) c.args.cursor.now (sym c.sees.ensures ∙ c.if-sees.false)
    (sym c.sees-else-sees.ensures ∙ c.if-sees-2.true) c.in_err-inner-2.ensures.none))

pub operators::unary-returns-in_err-x-2-clause-reads : goal.operators::unary-returns-in_err-x-2-clause-reads
operators::unary-returns-in_err-x-2-clause-reads t c =
    let p = err_from_is_err_and c.from_residual-in_err-x-2.result c.from_residual-in_err-x-2.ensures.1 in
    rw (p.1) (minus_breaks (scope_view c.args.scope) (scope_view c.in_ok-inner-2.inner) c.in_ok-inner-2.inner.levels
    p.0 c.args.cursor.now c.skip-then-sees-2.new.self c.unary-then-sees-2.new.cursor (sym c.sees.ensures
    ∙ c.if-sees.false) (sym c.sees-else-sees.ensures ∙ c.if-sees-2.true) c.in_ok-inner-2.ensures.left
    c.in_ok-inner-2.ensures.same c.skip-then-sees-2.ensures
    (fails {s = rules.an_expression} (rules.unary (scope_view c.in_ok-inner-2.inner)) c.skip-then-sees-2.new.self
    c.unary-then-sees-2.new.cursor c.unary-then-sees-2.new.cursor _ p.0 refl p.2 c.in_err-x-2.ensures.reads))

pub operators::unary-returns-in_ok-negated-clause-reads : goal.operators::unary-returns-in_ok-negated-clause-reads
operators::unary-returns-in_ok-negated-clause-reads t c =
    gives {s = rules.an_expression} (rules.unary (scope_view c.args.scope)) c.args.cursor.now c.unary.new.cursor
    (expr.Not c.in_ok-x.x) c.in_ok-negated.field-0 c.in_ok-negated.ensures
    (not_reads (scope_view c.args.scope) (scope_view c.in_ok-inner.inner) c.in_ok-inner.inner.levels c.in_ok-x.x
    c.args.cursor.now c.skip.new.self c.unary.new.cursor (sym c.sees.ensures ∙ c.if-sees.true)
    c.in_ok-inner.ensures.left c.in_ok-inner.ensures.same c.skip.ensures c.in_ok-x.ensures.reads)

pub operators::unary-returns-in_ok-minus_call-clause-reads : goal.operators::unary-returns-in_ok-minus_call-clause-reads
operators::unary-returns-in_ok-minus_call-clause-reads t c =
    gives {s = rules.an_expression} (rules.unary (scope_view c.args.scope)) c.args.cursor.now
    c.unary-then-sees-2.new.cursor (expr.Call (Some c.in_ok-x-2.x) (codes "-@") []) c.in_ok-minus_call.field-0
    c.in_ok-minus_call.ensures (minus_reads (scope_view c.args.scope) (scope_view c.in_ok-inner-2.inner)
    c.in_ok-inner-2.inner.levels c.in_ok-x-2.x c.args.cursor.now c.skip-then-sees-2.new.self
    c.unary-then-sees-2.new.cursor (sym c.sees.ensures ∙ c.if-sees.false) (sym c.sees-else-sees.ensures
    ∙ c.if-sees-2.true) c.in_ok-inner-2.ensures.left c.in_ok-inner-2.ensures.same c.skip-then-sees-2.ensures
    c.in_ok-x-2.ensures.reads)

pub operators::unary-returns-else-sees-2-clause-reads : goal.operators::unary-returns-else-sees-2-clause-reads
operators::unary-returns-else-sees-2-clause-reads t c =
    unary_is_postfix (scope_view c.args.scope) c.args.cursor.now c.postfix.new.cursor c.postfix.result
    (sym c.sees.ensures ∙ c.if-sees.false) (sym c.sees-else-sees.ensures ∙ c.if-sees-2.false)
    c.postfix.ensures.reads

pub primary::arguments-returns-in_err-inner-clause-reads : goal.primary::arguments-returns-in_err-inner-clause-reads
primary::arguments-returns-in_err-inner-clause-reads t c =
    let p = err_from_is_err_and c.from_residual.result c.from_residual.ensures.1 in
    rw (p.1) (arguments_fail (scope_view c.args.scope) c.args.cursor.now c.args.cursor.now c.args.cursor.now f.Deep
    p.0 refl (p.2 ∙ c.in_err-inner.ensures.fault)
    (arguments_deep (scope_view c.args.scope) c.args.cursor.now c.in_err-inner.ensures.none))

pub primary::arguments-returns-in_err-args-clause-reads : goal.primary::arguments-returns-in_err-args-clause-reads
primary::arguments-returns-in_err-args-clause-reads t c =
    let p = err_from_is_err_and c.from_residual-in_err-args.result c.from_residual-in_err-args.ensures.1 in
    rw (p.1) (arguments_break (scope_view c.args.scope) (scope_view c.in_ok-inner.inner) c.in_ok-inner.inner.levels
    c.args.cursor.now c.skip.new.self c.in_ok-inner.ensures.left c.requires c.skip.ensures
    c.in_ok-inner.ensures.same p.0 c.members.new.cursor
    (fails {s = rules.some_expressions} (rules.members (scope_view c.in_ok-inner.inner) []) c.skip.new.self
    c.members.new.cursor c.members.new.cursor _ p.0 refl p.2 c.in_err-args.ensures.reads))

pub primary::arguments-returns-in_err-take-clause-reads : goal.primary::arguments-returns-in_err-take-clause-reads
primary::arguments-returns-in_err-take-clause-reads t c =
    let p = err_from_is_err_and c.from_residual-in_err-take.result c.from_residual-in_err-take.ensures.1 in
    rw (p.1) (arguments_fail (scope_view c.args.scope) c.args.cursor.now c.members.new.cursor c.take.new.self
    f.Unexpected p.0 c.in_err-take.ensures.stays (p.2 ∙ c.in_err-take.ensures.fault)
    (arguments_lack_close (scope_view c.args.scope) (scope_view c.in_ok-inner.inner) c.in_ok-inner.inner.levels
    c.args.cursor.now c.skip.new.self c.in_ok-inner.ensures.left c.requires c.skip.ensures
    c.in_ok-inner.ensures.same c.in_ok-args.args c.members.new.cursor c.in_ok-args.ensures.reads
    c.in_err-take.ensures.other))

pub primary::arguments-returns-clause-reads : goal.primary::arguments-returns-clause-reads
primary::arguments-returns-clause-reads t c =
    arguments_read (scope_view c.args.scope) (scope_view c.in_ok-inner.inner) c.in_ok-inner.inner.levels
    c.args.cursor.now c.skip.new.self c.in_ok-inner.ensures.left c.requires c.skip.ensures
    c.in_ok-inner.ensures.same c.in_ok-args.args c.members.new.cursor c.take.new.self c.in_ok-args.ensures.reads
    c.in_ok-take.ensures.ok c.in_ok-take.ensures.passed

pub primary::arguments-returns-clause-shorter : goal.primary::arguments-returns-clause-shorter
primary::arguments-returns-clause-shorter t c =
    less_is_most (inside_falls (skip_falls is_tight_paren c.args.cursor.now c.skip.new.self c.requires c.skip.ensures)
    c.in_ok-args.ensures.shorter
    (skip_falls is_close_paren c.members.new.cursor c.take.new.self c.in_ok-take.ensures.ok
    c.in_ok-take.ensures.passed))

pub primary::bracket-returns-in_err-inner-clause-reads : goal.primary::bracket-returns-in_err-inner-clause-reads
primary::bracket-returns-in_err-inner-clause-reads t c =
    let p = err_from_is_err_and c.from_residual.result c.from_residual.ensures.1 in
    rw (p.1) (fails {s = rules.an_expression} (rules.primary (scope_view c.args.scope)) c.args.cursor.now
    c.args.cursor.now c.args.cursor.now f.Deep p.0 refl (p.2 ∙ c.in_err-inner.ensures.fault)
    (bracket_deep (scope_view c.args.scope) c.args.cursor.now c.requires c.in_err-inner.ensures.none))

pub primary::bracket-returns-in_err-list-clause-reads : goal.primary::bracket-returns-in_err-list-clause-reads
primary::bracket-returns-in_err-list-clause-reads t c =
    let p = err_from_is_err_and c.from_residual-in_err-list.result c.from_residual-in_err-list.ensures.1 in
    rw (p.1) (array_breaks (scope_view c.args.scope) (scope_view c.in_ok-inner.inner) c.in_ok-inner.inner.levels
    c.args.cursor.now c.skip.new.self c.in_ok-inner.ensures.left c.in_ok-inner.ensures.same c.skip.ensures p.0
    c.members.new.cursor (sym c.sees.ensures ∙ c.if-sees.true)
    (fails {s = rules.some_expressions} (rules.members (scope_view c.in_ok-inner.inner) []) c.skip.new.self
    c.members.new.cursor c.members.new.cursor _ p.0 refl p.2 c.in_err-list.ensures.reads))

pub primary::bracket-returns-in_err-take-clause-reads : goal.primary::bracket-returns-in_err-take-clause-reads
primary::bracket-returns-in_err-take-clause-reads t c =
    let p = err_from_is_err_and c.from_residual-in_err-take.result c.from_residual-in_err-take.ensures.1 in
    rw (p.1) (fails {s = rules.an_expression} (rules.primary (scope_view c.args.scope)) c.args.cursor.now
    c.members.new.cursor c.take.new.self f.Unexpected p.0 c.in_err-take.ensures.stays
    (p.2 ∙ c.in_err-take.ensures.fault)
    (array_lacks_close (scope_view c.args.scope) (scope_view c.in_ok-inner.inner) c.in_ok-inner.inner.levels
    c.args.cursor.now c.skip.new.self c.in_ok-inner.ensures.left c.in_ok-inner.ensures.same c.skip.ensures
    c.in_ok-list.list c.members.new.cursor (sym c.sees.ensures ∙ c.if-sees.true) c.in_ok-list.ensures.reads
    c.in_err-take.ensures.other))

pub primary::bracket-returns-in_ok-take-clause-reads : goal.primary::bracket-returns-in_ok-take-clause-reads
primary::bracket-returns-in_ok-take-clause-reads t c =
    array_reads (scope_view c.args.scope) (scope_view c.in_ok-inner.inner) c.in_ok-inner.inner.levels
    c.args.cursor.now c.skip.new.self c.in_ok-inner.ensures.left c.in_ok-inner.ensures.same c.skip.ensures
    c.in_ok-list.list c.members.new.cursor c.take.new.self (sym c.sees.ensures ∙ c.if-sees.true)
    c.in_ok-list.ensures.reads c.in_ok-take.ensures.ok c.in_ok-take.ensures.passed

pub primary::bracket-returns-in_ok-take-clause-shorter : goal.primary::bracket-returns-in_ok-take-clause-shorter
primary::bracket-returns-in_ok-take-clause-shorter t c =
    less_is_most (inside_falls (skip_falls is_open_bracket c.args.cursor.now c.skip.new.self
    (sym c.sees.ensures ∙ c.if-sees.true)
    c.skip.ensures) c.in_ok-list.ensures.shorter
    (skip_falls is_close_bracket c.members.new.cursor c.take.new.self c.in_ok-take.ensures.ok
    c.in_ok-take.ensures.passed))

pub primary::bracket-returns-in_ok-take-clause-taken : goal.primary::bracket-returns-in_ok-take-clause-taken
primary::bracket-returns-in_ok-take-clause-taken t c =
    inside_falls (skip_falls is_open_bracket c.args.cursor.now c.skip.new.self (sym c.sees.ensures ∙ c.if-sees.true)
    c.skip.ensures) c.in_ok-list.ensures.shorter
    (skip_falls is_close_bracket c.members.new.cursor c.take.new.self c.in_ok-take.ensures.ok
    c.in_ok-take.ensures.passed)

pub primary::bracket-returns-in_err-list-2-clause-reads : goal.primary::bracket-returns-in_err-list-2-clause-reads
primary::bracket-returns-in_err-list-2-clause-reads t c =
    let p = err_from_is_err_and c.from_residual-in_err-list-2.result c.from_residual-in_err-list-2.ensures.1 in
    rw (p.1) (hash_breaks (scope_view c.args.scope) (scope_view c.in_ok-inner.inner) c.in_ok-inner.inner.levels
    c.args.cursor.now c.skip-then-sees-2.new.self c.in_ok-inner.ensures.left c.in_ok-inner.ensures.same
    c.skip-then-sees-2.ensures p.0 c.pairs.new.cursor (sym c.sees-else-sees.ensures ∙ c.if-sees-2.true)
    (fails {s = rules.some_pairs} (rules.pairs (scope_view c.in_ok-inner.inner) []) c.skip-then-sees-2.new.self
    c.pairs.new.cursor c.pairs.new.cursor _ p.0 refl p.2 c.in_err-list-2.ensures.reads))

pub primary::bracket-returns-in_err-take-2-clause-reads : goal.primary::bracket-returns-in_err-take-2-clause-reads
primary::bracket-returns-in_err-take-2-clause-reads t c =
    let p = err_from_is_err_and c.from_residual-in_err-take-2.result c.from_residual-in_err-take-2.ensures.1 in
    rw (p.1) (fails {s = rules.an_expression} (rules.primary (scope_view c.args.scope)) c.args.cursor.now
    c.pairs.new.cursor c.take-then-sees-2.new.self f.Unexpected p.0 c.in_err-take-2.ensures.stays
    (p.2 ∙ c.in_err-take-2.ensures.fault)
    (hash_lacks_close (scope_view c.args.scope) (scope_view c.in_ok-inner.inner) c.in_ok-inner.inner.levels
    c.args.cursor.now c.skip-then-sees-2.new.self c.in_ok-inner.ensures.left c.in_ok-inner.ensures.same
    c.skip-then-sees-2.ensures c.in_ok-list-2.list c.pairs.new.cursor (sym c.sees-else-sees.ensures
    ∙ c.if-sees-2.true) c.in_ok-list-2.ensures.reads c.in_err-take-2.ensures.other))

pub primary::bracket-returns-in_ok-take-2-clause-reads : goal.primary::bracket-returns-in_ok-take-2-clause-reads
primary::bracket-returns-in_ok-take-2-clause-reads t c =
    hash_reads (scope_view c.args.scope) (scope_view c.in_ok-inner.inner) c.in_ok-inner.inner.levels
    c.args.cursor.now c.skip-then-sees-2.new.self c.in_ok-inner.ensures.left c.in_ok-inner.ensures.same
    c.skip-then-sees-2.ensures c.in_ok-list-2.list c.pairs.new.cursor c.take-then-sees-2.new.self
    (sym c.sees-else-sees.ensures ∙ c.if-sees-2.true) c.in_ok-list-2.ensures.reads c.in_ok-take-2.ensures.ok
    c.in_ok-take-2.ensures.passed

pub primary::bracket-returns-in_ok-take-2-clause-shorter : goal.primary::bracket-returns-in_ok-take-2-clause-shorter
primary::bracket-returns-in_ok-take-2-clause-shorter t c =
    less_is_most (inside_falls (skip_falls is_open_brace c.args.cursor.now c.skip-then-sees-2.new.self
    (sym c.sees-else-sees.ensures ∙ c.if-sees-2.true) c.skip-then-sees-2.ensures) c.in_ok-list-2.ensures.shorter
    (skip_falls is_close_brace c.pairs.new.cursor c.take-then-sees-2.new.self c.in_ok-take-2.ensures.ok
    c.in_ok-take-2.ensures.passed))

pub primary::bracket-returns-in_ok-take-2-clause-taken : goal.primary::bracket-returns-in_ok-take-2-clause-taken
primary::bracket-returns-in_ok-take-2-clause-taken t c =
    inside_falls (skip_falls is_open_brace c.args.cursor.now c.skip-then-sees-2.new.self (sym c.sees-else-sees.ensures
    ∙ c.if-sees-2.true) c.skip-then-sees-2.ensures) c.in_ok-list-2.ensures.shorter
    (skip_falls is_close_brace c.pairs.new.cursor c.take-then-sees-2.new.self c.in_ok-take-2.ensures.ok
    c.in_ok-take-2.ensures.passed)

pub primary::bracket-returns-in_err-x-clause-reads : goal.primary::bracket-returns-in_err-x-clause-reads
primary::bracket-returns-in_err-x-clause-reads t c =
    let p = err_from_is_err_and c.from_residual-in_err-x.result c.from_residual-in_err-x.ensures.1 in
    rw (p.1) (group_breaks (scope_view c.args.scope) (scope_view c.in_ok-inner.inner) c.in_ok-inner.inner.levels
    c.args.cursor.now c.skip-else-sees-2.new.self c.in_ok-inner.ensures.left c.in_ok-inner.ensures.same
    c.skip-else-sees-2.ensures p.0 c.expression.new.cursor
    (is_paren c.args.cursor.now c.requires (sym c.sees.ensures ∙ c.if-sees.false) (sym c.sees-else-sees.ensures
    ∙ c.if-sees-2.false)) (fails {s = rules.an_expression} (rules.expression (scope_view c.in_ok-inner.inner))
    c.skip-else-sees-2.new.self c.expression.new.cursor c.expression.new.cursor _ p.0 refl p.2
    c.in_err-x.ensures.reads))

pub primary::bracket-returns-in_err-take-3-clause-reads : goal.primary::bracket-returns-in_err-take-3-clause-reads
primary::bracket-returns-in_err-take-3-clause-reads t c =
    let p = err_from_is_err_and c.from_residual-in_err-take-3.result c.from_residual-in_err-take-3.ensures.1 in
    rw (p.1) (fails {s = rules.an_expression} (rules.primary (scope_view c.args.scope)) c.args.cursor.now
    c.expression.new.cursor c.take-else-sees-2.new.self f.Unexpected p.0 c.in_err-take-3.ensures.stays
    (p.2 ∙ c.in_err-take-3.ensures.fault)
    (group_lacks_close (scope_view c.args.scope) (scope_view c.in_ok-inner.inner) c.in_ok-inner.inner.levels
    c.args.cursor.now c.skip-else-sees-2.new.self c.in_ok-inner.ensures.left c.in_ok-inner.ensures.same
    c.skip-else-sees-2.ensures c.in_ok-x.x c.expression.new.cursor
    (is_paren c.args.cursor.now c.requires (sym c.sees.ensures ∙ c.if-sees.false) (sym c.sees-else-sees.ensures
    ∙ c.if-sees-2.false)) c.in_ok-x.ensures.reads c.in_err-take-3.ensures.other))

pub primary::bracket-returns-in_ok-take-3-clause-reads : goal.primary::bracket-returns-in_ok-take-3-clause-reads
primary::bracket-returns-in_ok-take-3-clause-reads t c =
    group_reads (scope_view c.args.scope) (scope_view c.in_ok-inner.inner) c.in_ok-inner.inner.levels
    c.args.cursor.now c.skip-else-sees-2.new.self c.in_ok-inner.ensures.left c.in_ok-inner.ensures.same
    c.skip-else-sees-2.ensures c.in_ok-x.x c.expression.new.cursor c.take-else-sees-2.new.self
    (is_paren c.args.cursor.now c.requires (sym c.sees.ensures ∙ c.if-sees.false) (sym c.sees-else-sees.ensures
    ∙ c.if-sees-2.false)) c.in_ok-x.ensures.reads c.in_ok-take-3.ensures.ok c.in_ok-take-3.ensures.passed

pub primary::bracket-returns-in_ok-take-3-clause-shorter : goal.primary::bracket-returns-in_ok-take-3-clause-shorter
primary::bracket-returns-in_ok-take-3-clause-shorter t c =
    less_is_most (inside_falls (skip_falls is_open_paren c.args.cursor.now c.skip-else-sees-2.new.self
    (sees c.args.cursor.now 91
    (is_paren c.args.cursor.now c.requires (sym c.sees.ensures ∙ c.if-sees.false) (sym c.sees-else-sees.ensures
    ∙ c.if-sees-2.false)) refl) c.skip-else-sees-2.ensures) c.in_ok-x.ensures.shorter
    (skip_falls is_close_paren c.expression.new.cursor c.take-else-sees-2.new.self c.in_ok-take-3.ensures.ok
    c.in_ok-take-3.ensures.passed))

pub primary::bracket-returns-in_ok-take-3-clause-taken : goal.primary::bracket-returns-in_ok-take-3-clause-taken
primary::bracket-returns-in_ok-take-3-clause-taken t c =
    inside_falls (skip_falls is_open_paren c.args.cursor.now c.skip-else-sees-2.new.self
    (sees c.args.cursor.now 91
    (is_paren c.args.cursor.now c.requires (sym c.sees.ensures ∙ c.if-sees.false) (sym c.sees-else-sees.ensures
    ∙ c.if-sees-2.false)) refl) c.skip-else-sees-2.ensures) c.in_ok-x.ensures.shorter
    (skip_falls is_close_paren c.expression.new.cursor c.take-else-sees-2.new.self c.in_ok-take-3.ensures.ok
    c.in_ok-take-3.ensures.passed)

pub primary::index-returns-in_err-inner-clause-reads : goal.primary::index-returns-in_err-inner-clause-reads
primary::index-returns-in_err-inner-clause-reads t c =
    let p = err_from_is_err_and c.from_residual.result c.from_residual.ensures.1 in
    rw (p.1) (λ x. fails {s = rules.an_expression} (rules.more_postfix (scope_view c.args.scope) x)
    c.args.cursor.now c.args.cursor.now c.args.cursor.now f.Deep p.0 refl (p.2 ∙ c.in_err-inner.ensures.fault)
    (index_deep (scope_view c.args.scope) x c.args.cursor.now c.requires c.in_err-inner.ensures.none))

pub primary::index-returns-in_err-i-clause-reads : goal.primary::index-returns-in_err-i-clause-reads
primary::index-returns-in_err-i-clause-reads t c =
    let p = err_from_is_err_and c.from_residual-in_err-i.result c.from_residual-in_err-i.ensures.1 in
    rw (p.1) (λ x. index_breaks (scope_view c.args.scope) (scope_view c.in_ok-inner.inner) c.in_ok-inner.inner.levels
    x c.args.cursor.now c.skip.new.self c.requires c.in_ok-inner.ensures.left c.in_ok-inner.ensures.same
    c.skip.ensures p.0 c.expression.new.cursor
    (fails {s = rules.an_expression} (rules.expression (scope_view c.in_ok-inner.inner)) c.skip.new.self
    c.expression.new.cursor c.expression.new.cursor _ p.0 refl p.2 c.in_err-i.ensures.reads))

pub primary::index-returns-in_err-take-clause-reads : goal.primary::index-returns-in_err-take-clause-reads
primary::index-returns-in_err-take-clause-reads t c =
    let p = err_from_is_err_and c.from_residual-in_err-take.result c.from_residual-in_err-take.ensures.1 in
    rw (p.1) (λ x. fails {s = rules.an_expression} (rules.more_postfix (scope_view c.args.scope) x)
    c.args.cursor.now c.expression.new.cursor c.take.new.self f.Unexpected p.0 c.in_err-take.ensures.stays
    (p.2 ∙ c.in_err-take.ensures.fault)
    (index_lacks_close (scope_view c.args.scope) (scope_view c.in_ok-inner.inner) c.in_ok-inner.inner.levels
    x c.args.cursor.now c.skip.new.self c.requires c.in_ok-inner.ensures.left c.in_ok-inner.ensures.same
    c.skip.ensures c.in_ok-i.i c.expression.new.cursor c.in_ok-i.ensures.reads c.in_err-take.ensures.other))

pub primary::index-returns-in_err-take-clause-shorter : goal.primary::index-returns-in_err-take-clause-shorter
primary::index-returns-in_err-take-clause-shorter t c =
    subst (λ l. length l ≤ length c.args.cursor.now) (sym c.in_err-take.ensures.stays)
    (less_is_most (falls c.in_ok-i.ensures.taken
    (skip_falls is_tight_bracket c.args.cursor.now c.skip.new.self c.requires c.skip.ensures)))

pub primary::index-returns-clause-reads : goal.primary::index-returns-clause-reads
primary::index-returns-clause-reads t c = λ x.
    index_reads (scope_view c.args.scope) (scope_view c.in_ok-inner.inner) c.in_ok-inner.inner.levels x
    c.args.cursor.now c.skip.new.self c.requires c.in_ok-inner.ensures.left c.in_ok-inner.ensures.same
    c.skip.ensures c.in_ok-i.i (expr.Call (Some x) (codes "[]") (c.in_ok-i.i ∷ [])) c.expression.new.cursor
    c.take.new.self c.in_ok-i.ensures.reads c.in_ok-take.ensures.ok c.in_ok-take.ensures.passed refl

pub primary::index-returns-clause-shorter : goal.primary::index-returns-clause-shorter
primary::index-returns-clause-shorter t c =
    less_is_most (inside_falls (skip_falls is_tight_bracket c.args.cursor.now c.skip.new.self c.requires c.skip.ensures)
    c.in_ok-i.ensures.shorter
    (skip_falls is_close_bracket c.expression.new.cursor c.take.new.self c.in_ok-take.ensures.ok
    c.in_ok-take.ensures.passed))

pub primary::index-returns-clause-taken : goal.primary::index-returns-clause-taken
primary::index-returns-clause-taken t c =
    inside_falls (skip_falls is_tight_bracket c.args.cursor.now c.skip.new.self c.requires c.skip.ensures)
    c.in_ok-i.ensures.shorter
    (skip_falls is_close_bracket c.expression.new.cursor c.take.new.self c.in_ok-take.ensures.ok
    c.in_ok-take.ensures.passed)

pub primary::member-returns-in_err-word-clause-reads : goal.primary::member-returns-in_err-word-clause-reads
primary::member-returns-in_err-word-clause-reads t c =
    let p = err_from_is_err_and c.from_residual.result c.from_residual.ensures.1 in
    rw (p.1) (λ x. fails {s = rules.an_expression} (rules.more_postfix (scope_view c.args.scope) x)
    c.args.cursor.now c.skip.new.self c.take_word.new.self f.Unexpected p.0 c.in_err-word.ensures.stays
    (p.2 ∙ c.in_err-word.ensures.fault)
    (member_lacks_name (scope_view c.args.scope) x c.args.cursor.now c.skip.new.self c.requires
    c.skip.ensures c.in_err-word.ensures.other))

pub primary::member-returns-in_err-args-clause-reads : goal.primary::member-returns-in_err-args-clause-reads
primary::member-returns-in_err-args-clause-reads t c =
    let p = err_from_is_err_and c.from_residual-in_err-args.result c.from_residual-in_err-args.ensures.1 in
    rw (p.1) (λ x. postfix_laws.member_breaks (scope_view c.args.scope) x c.args.cursor.now
    (word_view c.in_ok-word.word) p.0 c.skip.new.self c.take_word.new.self c.perhaps_arguments.new.cursor c.requires
    c.skip.ensures c.in_ok-word.ensures.ok c.in_ok-word.ensures.terminal
    (fails {s = rules.some_expressions} (rules.perhaps_arguments (scope_view c.args.scope)) c.take_word.new.self
    c.perhaps_arguments.new.cursor c.perhaps_arguments.new.cursor _ p.0 refl p.2 c.in_err-args.ensures.reads))

pub primary::member-returns-clause-reads : goal.primary::member-returns-clause-reads
primary::member-returns-clause-reads t c = λ x.
    postfix_laws.member_reads (scope_view c.args.scope) x c.args.cursor.now
    (word_view c.in_ok-word.word) c.in_ok-args.args (expr.Call (Some x) c.in_ok-name.name c.in_ok-args.args)
    c.skip.new.self c.take_word.new.self
    c.perhaps_arguments.new.cursor c.requires c.skip.ensures c.in_ok-word.ensures.ok c.in_ok-word.ensures.terminal
    c.in_ok-args.ensures.reads (ap (λ n. expr.Call (Some x) n c.in_ok-args.args) c.in_ok-name.ensures)

pub primary::name-returns-in_err-args-clause-reads : goal.primary::name-returns-in_err-args-clause-reads
primary::name-returns-in_err-args-clause-reads t c =
    let p = err_from_is_err_and c.from_residual-in_err-args.result c.from_residual-in_err-args.ensures.1 in
    rw (p.1) (name_reads (scope_view c.args.scope) (word_view c.in_ok-word.word) c.args.cursor.now c.take_word.new.self
    c.arguments.new.cursor (Err p.0) c.requires c.in_ok-word.ensures.ok c.in_ok-word.ensures.terminal
    (call_breaks (scope_view c.args.scope) c.in_ok-word.word.text.now p.0 c.take_word.new.self c.arguments.new.cursor
    (sym c.sees_tight.ensures ∙ c.if-sees_tight.true)
    (arguments_fail (scope_view c.args.scope) c.take_word.new.self c.arguments.new.cursor c.arguments.new.cursor _
    p.0 refl p.2 c.in_err-args.ensures.reads)))

pub primary::name-returns-in_ok-args-clause-reads : goal.primary::name-returns-in_ok-args-clause-reads
primary::name-returns-in_ok-args-clause-reads t c =
    gives {s = rules.an_expression} (rules.primary (scope_view c.args.scope)) c.args.cursor.now
    c.arguments.new.cursor (expr.Call None c.in_ok-word.word.text.now c.in_ok-args.args) c.call_on_self.result
    (c.call_on_self.ensures ∙ ap (λ t. expr.Call None t c.in_ok-args.args) c.in_ok-name.ensures)
    (name_reads (scope_view c.args.scope) (word_view c.in_ok-word.word) c.args.cursor.now c.take_word.new.self
    c.arguments.new.cursor (Ok (expr.Call None c.in_ok-word.word.text.now c.in_ok-args.args)) c.requires
    c.in_ok-word.ensures.ok c.in_ok-word.ensures.terminal
    (call_reads (scope_view c.args.scope) c.in_ok-word.word.text.now c.in_ok-args.args c.take_word.new.self
    c.arguments.new.cursor (sym c.sees_tight.ensures ∙ c.if-sees_tight.true) c.in_ok-args.ensures.reads))

pub primary::name-returns-then-contains-clause-reads : goal.primary::name-returns-then-contains-clause-reads
primary::name-returns-then-contains-clause-reads t c =
    gives {s = rules.an_expression} (rules.primary (scope_view c.args.scope)) c.args.cursor.now c.take_word.new.self
    (name_alone (scope_view c.args.scope).names c.in_ok-word.word.text.now) (expr.Local c.in_ok-name.name)
    (ap (λ t. expr.Local t) c.in_ok-name.ensures
    ∙ sym (is_local (scope_view c.args.scope) c.in_ok-word.word.text.now (sym c.contains.ensures
    ∙ c.if-contains.true))) (name_reads (scope_view c.args.scope) (word_view c.in_ok-word.word) c.args.cursor.now
    c.take_word.new.self c.take_word.new.self
    (Ok (name_alone (scope_view c.args.scope).names c.in_ok-word.word.text.now)) c.requires
    c.in_ok-word.ensures.ok c.in_ok-word.ensures.terminal
    (alone_reads (scope_view c.args.scope) c.in_ok-word.word.text.now c.take_word.new.self (sym c.sees_tight.ensures
    ∙ c.if-sees_tight.false)))

pub primary::name-returns-else-contains-clause-reads : goal.primary::name-returns-else-contains-clause-reads
primary::name-returns-else-contains-clause-reads t c =
    gives {s = rules.an_expression} (rules.primary (scope_view c.args.scope)) c.args.cursor.now c.take_word.new.self
    (name_alone (scope_view c.args.scope).names c.in_ok-word.word.text.now) c.call_on_self-else-contains.result
    ((c.call_on_self-else-contains.ensures
    ∙ (ap (λ t. expr.Call None t c.new.result) c.in_ok-name.ensures
    ∙ ap (λ l. expr.Call None c.in_ok-word.word.text.now l) c.new.ensures))
    ∙ sym (is_call (scope_view c.args.scope) c.in_ok-word.word.text.now (sym c.contains.ensures
    ∙ c.if-contains.false)))
    (name_reads (scope_view c.args.scope) (word_view c.in_ok-word.word) c.args.cursor.now c.take_word.new.self
    c.take_word.new.self (Ok (name_alone (scope_view c.args.scope).names c.in_ok-word.word.text.now)) c.requires
    c.in_ok-word.ensures.ok c.in_ok-word.ensures.terminal
    (alone_reads (scope_view c.args.scope) c.in_ok-word.word.text.now c.take_word.new.self (sym c.sees_tight.ensures
    ∙ c.if-sees_tight.false)))

pub primary::perhaps_arguments-returns-then-sees_tight-clause-reads :
    goal.primary::perhaps_arguments-returns-then-sees_tight-clause-reads
primary::perhaps_arguments-returns-then-sees_tight-clause-reads t c =
    perhaps_gives (scope_view c.args.scope) c.args.cursor.now c.arguments.new.cursor c.arguments.result
    (sym c.sees_tight.ensures ∙ c.if-sees_tight.true) c.arguments.ensures.reads

pub primary::perhaps_arguments-returns-else-sees_tight-clause-reads :
    goal.primary::perhaps_arguments-returns-else-sees_tight-clause-reads
primary::perhaps_arguments-returns-else-sees_tight-clause-reads t c =
    gives {s = rules.some_expressions} (rules.perhaps_arguments (scope_view c.args.scope)) c.args.cursor.now
    c.args.cursor.now [] c.new.result c.new.ensures
    (perhaps_none (scope_view c.args.scope) c.args.cursor.now (sym c.sees_tight.ensures ∙ c.if-sees_tight.false))

pub primary::postfix-returns-in_err-x-clause-reads : goal.primary::postfix-returns-in_err-x-clause-reads
primary::postfix-returns-in_err-x-clause-reads t c =
    let p = err_from_is_err_and c.from_residual.result c.from_residual.ensures.1 in
    rw (p.1) (postfix_breaks (scope_view c.args.scope) p.0 c.args.cursor.now c.primary.new.cursor
    (fails {s = rules.an_expression} (rules.primary (scope_view c.args.scope)) c.args.cursor.now
    c.primary.new.cursor c.primary.new.cursor _ p.0 refl p.2 c.in_err-x.ensures.reads))

pub primary::postfix-calls-init : goal.primary::postfix-calls-init
primary::postfix-calls-init t c =
    record {
      goes_on = λ r end h. postfix_begins (scope_view c.args.scope) c.in_ok-x.x c.args.cursor.now
          c.primary.new.cursor end r c.in_ok-x.ensures.reads h;
      shorter = c.in_ok-x.ensures.taken;
    }

pub primary::postfix-returns-in_err-part-clause-reads : goal.primary::postfix-returns-in_err-part-clause-reads
primary::postfix-returns-in_err-part-clause-reads t c =
    let p = err_from_is_err_and c.from_residual-in_err-part.result c.from_residual-in_err-part.ensures.1 in
    rw (p.1) (c.calls.invariant.goes_on (Err p.0) c.perhaps_postfix.new.cursor
    (part_fails (scope_view c.args.scope) c.calls.x c.calls.cursor c.perhaps_postfix.new.cursor _ p.0 p.2
    c.in_err-part.ensures.reads))

pub primary::postfix-calls-preserved : goal.primary::postfix-calls-preserved
primary::postfix-calls-preserved t c =
    record {
      goes_on = λ r end h. c.calls.invariant.goes_on r end
          (part_goes_on (scope_view c.args.scope) c.calls.x c.calls.cursor c.perhaps_postfix.new.cursor
          c.in_ok-part.field-0 c.in-Some.part c.in_ok-x-2.x end r c.in-Some.is c.in_ok-part.ensures.reads
          c.in_ok-x-2.ensures h);
      shorter = falls (part_taken c.in_ok-part.field-0 c.in-Some.part (length c.perhaps_postfix.new.cursor)
          (length c.calls.cursor) c.in-Some.is c.in_ok-part.ensures.taken) c.calls.invariant.shorter;
    }

pub primary::postfix-returns-clause-reads : goal.primary::postfix-returns-clause-reads
primary::postfix-returns-clause-reads t c =
    c.calls.invariant.goes_on (Ok c.calls.x) c.perhaps_postfix.new.cursor
    (part_ends (scope_view c.args.scope) c.calls.x c.calls.cursor c.perhaps_postfix.new.cursor
    c.in_ok-part.field-0 c.in_default.is c.in_ok-part.ensures.reads)

pub primary::perhaps_postfix-returns-else-sees_tight-clause-reads :
    goal.primary::perhaps_postfix-returns-else-sees_tight-clause-reads
primary::perhaps_postfix-returns-else-sees_tight-clause-reads t c = λ x.
    postfix_ends (scope_view c.args.scope) x c.args.cursor.now (sym c.sees.ensures ∙ c.if-sees.false)
    (sym c.sees_tight.ensures ∙ c.if-sees_tight.false)

pub primary::primary-returns-in_err-constant-in-51-clause-reads :
    goal.primary::primary-returns-in_err-constant-in-51-clause-reads
primary::primary-returns-in_err-constant-in-51-clause-reads t c =
    let p = err_from_is_err_and c.from_residual.result c.from_residual.ensures.1 in
    rw (p.1) (constant_breaks (scope_view c.args.scope) c.peek_terminal.result c.args.cursor.now
    (sym c.peek_terminal.ensures)
    (first_of (assumption c.in-51.is, search (arith, c.in-51.is))) p.0 c.constant.new.cursor
    (constant_fails c.args.cursor.now c.constant.new.cursor _ p.0 p.2 c.in_err-constant-in-51.ensures.reads))

pub primary::primary-returns-in_ok-constant-in-51-clause-reads :
    goal.primary::primary-returns-in_ok-constant-in-51-clause-reads
primary::primary-returns-in_ok-constant-in-51-clause-reads t c =
    constant_reads (scope_view c.args.scope) c.peek_terminal.result c.args.cursor.now (sym c.peek_terminal.ensures)
    (first_of (assumption c.in-51.is, search (arith, c.in-51.is))) c.in_ok-constant-in-51.field-0
    c.constant.new.cursor c.in_ok-constant-in-51.ensures.reads

pub primary::primary-returns-in_ok-constant-in-51-clause-taken :
    goal.primary::primary-returns-in_ok-constant-in-51-clause-taken
primary::primary-returns-in_ok-constant-in-51-clause-taken t c =
    constant_taken c.peek_terminal.result c.args.cursor.now c.constant.new.cursor c.in_ok-constant-in-51.field-0
    (sym c.peek_terminal.ensures) (first_of (assumption c.in-51.is, search (arith, c.in-51.is)))
    c.in_ok-constant-in-51.ensures.reads

pub primary::text-returns-in_err-parts-clause-reads : goal.primary::text-returns-in_err-parts-clause-reads
primary::text-returns-in_err-parts-clause-reads t c =
    let p = err_from_is_err_and c.from_residual-in_err-parts.result c.from_residual-in_err-parts.ensures.1 in
    rw (p.1) (text_breaks (scope_view c.args.scope) (word_view c.in_ok-open.open) c.is_double.result
    c.args.cursor.now c.take_word.new.self c.requires c.in_ok-open.ensures.ok c.in_ok-open.ensures.terminal
    c.is_double.ensures p.0 c.text_parts.new.cursor
    (fails {s = rules.some_parts} (rules.text_parts (scope_view c.args.scope) c.is_double.result [])
    c.take_word.new.self c.text_parts.new.cursor c.text_parts.new.cursor _ p.0 refl p.2 c.in_err-parts.ensures.reads))

pub primary::text-returns-in_err-take-clause-reads : goal.primary::text-returns-in_err-take-clause-reads
primary::text-returns-in_err-take-clause-reads t c =
    let p = err_from_is_err_and c.from_residual-in_err-take.result c.from_residual-in_err-take.ensures.1 in
    rw (p.1) (fails {s = rules.an_expression} (rules.primary (scope_view c.args.scope)) c.args.cursor.now
    c.text_parts.new.cursor c.take.new.self f.Unexpected p.0 c.in_err-take.ensures.stays
    (p.2 ∙ c.in_err-take.ensures.fault)
    (text_lacks_close (scope_view c.args.scope) (word_view c.in_ok-open.open) c.is_double.result
    c.args.cursor.now c.take_word.new.self c.requires c.in_ok-open.ensures.ok c.in_ok-open.ensures.terminal
    c.is_double.ensures c.in_ok-parts.parts c.text_parts.new.cursor c.in_ok-parts.ensures.reads
    c.in_err-take.ensures.other))

pub primary::text-returns-clause-reads : goal.primary::text-returns-clause-reads
primary::text-returns-clause-reads t c =
    text_reads (scope_view c.args.scope) (word_view c.in_ok-open.open) c.is_double.result c.args.cursor.now
    c.take_word.new.self c.requires c.in_ok-open.ensures.ok c.in_ok-open.ensures.terminal c.is_double.ensures
    c.in_ok-parts.parts c.text_parts.new.cursor c.take.new.self c.in_ok-parts.ensures.reads
    c.in_ok-take.ensures.ok c.in_ok-take.ensures.passed

pub primary::text_parts-parts-preserved-in_ok-push : goal.primary::text_parts-parts-preserved-in_ok-push
primary::text_parts-parts-preserved-in_ok-push t c =
    record {
      goes_on = λ r end h. c.parts.invariant.goes_on r end
          (piece_reads (scope_view c.args.scope) c.args.is_double c.parts.parts c.parts.cursor
          (word_view c.in_ok-piece.piece) c.push.new.self c.take_word.new.self end r c.in_ok-piece.ensures.ok
          c.in_ok-piece.ensures.terminal (c.in_ok-push.ensures.ok
          ∙ ap (λ x. c.parts.parts ++ x ∷ []) c.in_ok-plain_part.ensures) h);
      shorter = less_than_most (word_falls (word_view c.in_ok-piece.piece) c.parts.cursor c.take_word.new.self
          c.in_ok-piece.ensures.ok) c.parts.invariant.shorter;
    }

pub primary::text_parts-returns-in_err-inner-clause-reads : goal.primary::text_parts-returns-in_err-inner-clause-reads
primary::text_parts-returns-in_err-inner-clause-reads t c =
    let p = err_from_is_err_and c.from_residual-in_err-inner.result c.from_residual-in_err-inner.ensures.1 in
    rw (p.1) (c.parts.invariant.goes_on (Err p.0) c.parts.cursor
    (fails {s = rules.some_parts} (rules.text_parts (scope_view c.args.scope) c.args.is_double c.parts.parts)
    c.parts.cursor c.parts.cursor c.parts.cursor f.Deep p.0 refl (p.2 ∙ c.in_err-inner.ensures.fault)
    (inside_deep (scope_view c.args.scope) c.args.is_double c.parts.parts c.parts.cursor (sym c.sees.ensures
    ∙ c.if-sees.false) (sym c.sees-else-sees.ensures ∙ c.if-sees-2.true) c.in_err-inner.ensures.none)))

pub primary::text_parts-returns-in_err-expression-clause-reads :
    goal.primary::text_parts-returns-in_err-expression-clause-reads
primary::text_parts-returns-in_err-expression-clause-reads t c =
    let p = err_from_is_err_and c.from_residual-in_err-expression.result c.from_residual-in_err-expression.ensures.1 in
    rw (p.1) (c.parts.invariant.goes_on (Err p.0) c.expression.new.cursor
    (inside_breaks (scope_view c.args.scope) (scope_view c.in_ok-inner.inner) c.in_ok-inner.inner.levels
    c.args.is_double c.parts.parts c.parts.cursor c.skip.new.self (sym c.sees.ensures ∙ c.if-sees.false)
    (sym c.sees-else-sees.ensures ∙ c.if-sees-2.true) c.in_ok-inner.ensures.left c.in_ok-inner.ensures.same
    c.skip.ensures p.0 c.expression.new.cursor
    (fails {s = rules.an_expression} (rules.expression (scope_view c.in_ok-inner.inner)) c.skip.new.self
    c.expression.new.cursor c.expression.new.cursor _ p.0 refl p.2 c.in_err-expression.ensures.reads)))

pub primary::text_parts-parts-smaller : goal.primary::text_parts-parts-smaller
primary::text_parts-parts-smaller t c =
    inside_falls (skip_falls is_inside_open c.parts.cursor c.skip.new.self
    (sym c.sees-else-sees.ensures ∙ c.if-sees-2.true)
    c.skip.ensures) c.in_ok-expression.ensures.shorter
    (skip_falls is_inside_close c.expression.new.cursor c.take.new.self c.in_ok-take.ensures.ok
    c.in_ok-take.ensures.passed)

pub primary::text_parts-parts-preserved : goal.primary::text_parts-parts-preserved
primary::text_parts-parts-preserved t c =
    record {
      goes_on = λ r end h. c.parts.invariant.goes_on r end
          (inside_reads (scope_view c.args.scope) (scope_view c.in_ok-inner.inner) c.in_ok-inner.inner.levels
          c.args.is_double c.parts.parts c.parts.cursor c.skip.new.self (sym c.sees.ensures ∙ c.if-sees.false)
          (sym c.sees-else-sees.ensures ∙ c.if-sees-2.true) c.in_ok-inner.ensures.left c.in_ok-inner.ensures.same
          c.skip.ensures c.in_ok-expression.field-0 c.push-then-sees-2.new.self c.expression.new.cursor
          c.take.new.self end r c.in_ok-expression.ensures.reads c.in_ok-take.ensures.ok c.in_ok-take.ensures.passed
          c.in_ok-push-2.ensures.ok h);
      shorter = less_than_most (inside_falls
          (skip_falls is_inside_open c.parts.cursor c.skip.new.self (sym c.sees-else-sees.ensures ∙ c.if-sees-2.true)
          c.skip.ensures) c.in_ok-expression.ensures.shorter
          (skip_falls is_inside_close c.expression.new.cursor c.take.new.self c.in_ok-take.ensures.ok
          c.in_ok-take.ensures.passed)) c.parts.invariant.shorter;
    }

pub primary::text_parts-returns-in_err-take-clause-reads : goal.primary::text_parts-returns-in_err-take-clause-reads
primary::text_parts-returns-in_err-take-clause-reads t c =
    let p = err_from_is_err_and c.from_residual-in_err-take.result c.from_residual-in_err-take.ensures.1 in
    rw (p.1) (c.parts.invariant.goes_on (Err p.0) c.take.new.self
    (fails {s = rules.some_parts} (rules.text_parts (scope_view c.args.scope) c.args.is_double c.parts.parts)
    c.parts.cursor c.expression.new.cursor c.take.new.self f.Unexpected p.0 c.in_err-take.ensures.stays
    (p.2 ∙ c.in_err-take.ensures.fault)
    (inside_lacks_close (scope_view c.args.scope) (scope_view c.in_ok-inner.inner) c.in_ok-inner.inner.levels
    c.args.is_double c.parts.parts c.parts.cursor c.skip.new.self (sym c.sees.ensures ∙ c.if-sees.false)
    (sym c.sees-else-sees.ensures ∙ c.if-sees-2.true) c.in_ok-inner.ensures.left c.in_ok-inner.ensures.same
    c.skip.ensures c.in_ok-expression.field-0 c.expression.new.cursor c.in_ok-expression.ensures.reads
    c.in_err-take.ensures.other)))

pub primary::text_parts-returns-else-sees-2-clause-reads : goal.primary::text_parts-returns-else-sees-2-clause-reads
primary::text_parts-returns-else-sees-2-clause-reads t c =
    c.parts.invariant.goes_on (Ok c.parts.parts) c.parts.cursor
    (parts_end (scope_view c.args.scope) c.args.is_double c.parts.parts c.parts.cursor (sym c.sees.ensures
    ∙ c.if-sees.false) (sym c.sees-else-sees.ensures ∙ c.if-sees-2.false))

use Rattle.std.proofs.Common.{◌∙◌, ap, refl, w64, rules}
use Rattle.std.proofs.lemmas.Int.{to_z-of_z}
use Rattle.ruby_types.specs.declared.tree.Expr.TheVariants as expr
use Rattle.ruby_grammar.specs.Values.{number_of}
use Rattle.ruby_grammar.specs.Values.{behind_sign as bare}
use Rattle.ruby_parse_cursor.specs.Views.{word_view}
use Rattle.ruby_parse_steps.specs.Scopes.{scope_view}
use Rattle.ruby_parse_steps.proofs.PrimaryLaws.{text_reads}
use Rattle.ruby_parse_expression.proofs.primary.literal.Goals as goal

pub returns-in_ok-take_number-in-55-clause-reads : goal.returns-in_ok-take_number-in-55-clause-reads
returns-in_ok-take_number-in-55-clause-reads c =
    let n = c.in_ok-take_number-in-55.ensures.ok in
    text_reads (scope_view c.args.scope) 55 (λ t. expr.Int (number_of t)) n.0 _ c.args.cursor.now c.take_number.new.self
    (cc) refl refl n.1 n.2 (ap (λ z. expr.Int z) (to_z-of_z w64 c.in_ok-take_number-in-55.field-0 (search rules) ∙ n.3))

pub returns-in_ok-from_bytes-in-54-clause-reads : goal.returns-in_ok-from_bytes-in-54-clause-reads
returns-in_ok-from_bytes-in-54-clause-reads c =
    text_reads (scope_view c.args.scope) 54 (λ t. expr.Sym (bare t)) (word_view c.in_ok-word-in-54.word) _
    c.args.cursor.now c.take_word.new.self (cc) refl refl c.in_ok-word-in-54.ensures.ok
    c.in_ok-word-in-54.ensures.terminal
    (ap (λ t. expr.Sym t) (c.in_ok-from_bytes-in-54.ensures ∙ c.behind_sign.ensures))

pub returns-in_ok-from_bytes-in-52-clause-reads : goal.returns-in_ok-from_bytes-in-52-clause-reads
returns-in_ok-from_bytes-in-52-clause-reads c =
    text_reads (scope_view c.args.scope) 52 (λ t. expr.Ivar (bare t)) (word_view c.in_ok-word-in-52.word) _
    c.args.cursor.now c.take_word-in-52.new.self (cc) refl refl c.in_ok-word-in-52.ensures.ok
    c.in_ok-word-in-52.ensures.terminal
    (ap (λ t. expr.Ivar t) (c.in_ok-from_bytes-in-52.ensures ∙ c.behind_sign-in-52.ensures))

pub returns-in_default-clause-reads : goal.returns-in_default-clause-reads
returns-in_default-clause-reads c = c.reserved.ensures.reads (scope_view c.args.scope)

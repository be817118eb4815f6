-- Which words may follow what each rule says, and what its sentences begin with.
use Rattle.std.specs.Prelude.{Bool, true, false, ◌||◌, not, Option, Some, None}
use Rattle.descent.specs.Lawful.{Follow}
use Rattle.ruby_grammar.specs.Words.{Word}
use Rattle.ruby_grammar.specs.Terminals.{Level, units, products, sums, comparisons, equalities, conjunctions}
use Rattle.ruby_grammar.specs.Terminals.{disjunctions}
use Rattle.ruby_grammar.specs.Terminals.{is_operator, is_end, is_if, is_elsif, is_else, is_unless, is_line, is_ivar}
use Rattle.ruby_grammar.specs.Terminals.{is_ask}
use Rattle.ruby_grammar.specs.Terminals.{is_path, is_dot, is_comma, is_close_paren, is_close_bracket, is_close_brace}
use Rattle.ruby_grammar.specs.Terminals.{is_text_close, is_tight_paren, is_tight_bracket, is_variable}
use Rattle.ruby_grammar.specs.Choices.{next_is}
use Rattle.ruby_grammar.specs.Rules.{ruby, Rule, Sort, file, definitions, more_definitions, definition, path_rest}
use Rattle.ruby_grammar.specs.Rules.{parent, constant, heading, parameter_list, parameters, more_parameters}
use Rattle.ruby_grammar.specs.Rules.{more_readers, statements, more_statements, statement, simple_statement}
use Rattle.ruby_grammar.specs.Rules.{condition_behind, then_or_line, perhaps_line, arms_rest, perhaps_expression}
use Rattle.ruby_grammar.specs.Rules.{expression, choice_rest, operators, more_operators, unary, postfix, more_postfix}
use Rattle.ruby_grammar.specs.Rules.{primary, name_rest, perhaps_arguments, members, more_members, pairs, more_pairs}
use Rattle.ruby_grammar.specs.Rules.{pair, text_parts, opened_path}

-- the end of the words, or a word that passes
abbrev pub ends_or : (Word → Bool) → Option Word → Bool
ends_or test None = true
ends_or test (Some w) = test w

-- no word that passes
abbrev pub none_is : (Word → Bool) → Option Word → Bool
none_is test a = not (next_is test a)

-- what ends the statements of a method or of an arm: `end`, `elsif` or `else`
abbrev pub ends_block : Word → Bool
ends_block w = is_end w || is_elsif w || is_else w

-- what ends a statement: a Line, or what ends its block
abbrev pub ends_statement : Word → Bool
ends_statement w = is_line w || ends_block w

-- what ends a simple statement: a condition behind it, or what ends a statement
abbrev pub ends_simple : Word → Bool
ends_simple w = is_if w || is_unless w || ends_statement w

-- what goes on with a primary, with a postfix expression, and with operators of a level and tighter ones
abbrev pub goes_on_primary : Word → Bool
goes_on_primary w = is_tight_paren w || is_path w

-- `.`, a `[` or `(` with nothing white before it, or `::`
abbrev pub goes_on_postfix : Word → Bool
goes_on_postfix w = is_dot w || is_tight_bracket w || goes_on_primary w

-- `*`, `/`, `%`, or what goes on with an operand of theirs
abbrev pub goes_on_products : Word → Bool
goes_on_products w = is_operator products w || goes_on_postfix w

-- `+`, `-`, or what goes on with an operand of theirs
abbrev pub goes_on_sums : Word → Bool
goes_on_sums w = is_operator sums w || goes_on_products w

-- `<`, `<=`, `>`, `>=`, or what goes on with an operand of theirs
abbrev pub goes_on_comparisons : Word → Bool
goes_on_comparisons w = is_operator comparisons w || goes_on_sums w

-- `==`, `!=`, or what goes on with an operand of theirs
abbrev pub goes_on_equalities : Word → Bool
goes_on_equalities w = is_operator equalities w || goes_on_comparisons w

-- `&&`, or what goes on with an operand of it
abbrev pub goes_on_conjunctions : Word → Bool
goes_on_conjunctions w = is_operator conjunctions w || goes_on_equalities w

-- `||`, or what goes on with an operand of it
abbrev pub goes_on_disjunctions : Word → Bool
goes_on_disjunctions w = is_operator disjunctions w || goes_on_conjunctions w

-- what goes on with an expression of operators of this level and tighter ones
abbrev pub goes_on : Level → Word → Bool
goes_on units = goes_on_postfix
goes_on products = goes_on_products
goes_on sums = goes_on_sums
goes_on comparisons = goes_on_comparisons
goes_on equalities = goes_on_equalities
goes_on conjunctions = goes_on_conjunctions
goes_on disjunctions = goes_on_disjunctions

-- what goes on with an expression: the `?` of a choice, or what goes on with its operators
abbrev pub goes_on_expression : Word → Bool
goes_on_expression w = is_ask w || goes_on disjunctions w

-- what stands behind arguments, or behind the expressions of an array
abbrev pub ends_members : Word → Bool
ends_members w = is_close_paren w || is_close_bracket w

-- whether this word, or the end, may stand behind what the rule says; no word that would go on with it
abbrev pub fits : {s : Sort} → Rule s → Option Word → Bool
fits (file levels anywhere) = ends_or (λ w. false)
fits (definitions here ds) = ends_or is_end
fits (more_definitions here ds) = ends_or is_end
fits (definition here) = ends_or (λ w. is_line w || is_end w)
fits (path_rest true ending names) = none_is is_path
fits (path_rest false ending names) = λ a. true
fits (opened_path true how names) = none_is is_path
fits (opened_path false how names) = λ a. true
fits (parent path at) = λ a. true
fits (constant ending) = none_is is_path
fits (heading path) = λ a. true
fits (parameter_list levels) = λ a. true
fits parameters = next_is is_close_paren
fits (more_parameters names) = next_is is_close_paren
fits (more_readers path names) = none_is is_comma
fits (statements here ss) = next_is ends_block
fits (more_statements here ss) = next_is ends_block
fits (statement here) = next_is ends_statement
fits (simple_statement here) = next_is ends_simple
fits (condition_behind levels t) = next_is ends_statement
fits then_or_line = none_is is_line
fits perhaps_line = none_is is_line
fits (arms_rest levels sets may_elsif arms b) = λ a. true
fits (perhaps_expression here) = next_is ends_simple
fits (expression here) = none_is goes_on_expression
fits (choice_rest here x) = none_is goes_on_expression
fits (operators level here) = none_is (goes_on level)
fits (more_operators level here x) = none_is (goes_on level)
fits (unary here) = none_is goes_on_postfix
fits (postfix here) = none_is goes_on_postfix
fits (more_postfix here x) = none_is goes_on_postfix
fits (primary here) = none_is goes_on_primary
fits (name_rest here name) = none_is goes_on_primary
fits (perhaps_arguments here) = none_is is_tight_paren
fits (members here xs) = next_is ends_members
fits (more_members here xs) = next_is ends_members
fits (pairs here ps) = next_is is_close_brace
fits (more_pairs here ps) = next_is is_close_brace
fits (pair here) = next_is (λ w. is_comma w || is_close_brace w)
fits (text_parts here double parts) = next_is is_text_close

-- the choice of a simple statement looks at the second word behind a variable or an instance variable
abbrev pub looks : {s : Sort} → Rule s → Option Word → Bool
looks (simple_statement here) a = next_is (λ w. is_variable w || is_ivar w) a
looks _ a = false

-- only the end of a path that counts is a mark at once
abbrev pub begins_plain : {s : Sort} → Rule s → Bool
begins_plain (path_rest more None names) = true
begins_plain (path_rest more (Some m) names) = false
begins_plain (opened_path more how names) = false
begins_plain _ = true

-- marks stand in definitions alone
abbrev pub is_quiet : {s : Sort} → Rule s → Bool
is_quiet (file levels anywhere) = false
is_quiet (definitions here ds) = false
is_quiet (more_definitions here ds) = false
is_quiet (definition here) = false
is_quiet (path_rest more None names) = true
is_quiet (path_rest more (Some m) names) = false
is_quiet (opened_path more how names) = false
is_quiet (parent path at) = false
is_quiet (constant None) = true
is_quiet (constant (Some m)) = false
is_quiet (heading path) = false
is_quiet (more_readers path names) = false
is_quiet _ = true

-- what may follow the rules of the profile, for the laws of reading by descent
abbrev pub ruby_follow : Follow ruby
ruby_follow = record { fits = fits; looks = looks; plain = begins_plain; quiet = is_quiet }

-- The language: the alternatives of each rule, and what a text of it is.
use Rattle.std.specs.Prelude.{ℕ, false, List}
use Rattle.descent.specs.Grammar.{Prod, Grammar, Spells}
use Rattle.ruby_grammar.specs.Marks.{clashes_any}
use Rattle.ruby_grammar.specs.Words.{Word}
use Rattle.ruby_grammar.specs.Rules.{ruby, Sort, Rule, file, definitions, more_definitions, definition, path_rest}
use Rattle.ruby_grammar.specs.Rules.{parent, constant, heading, parameter_list, parameters, more_parameters}
use Rattle.ruby_grammar.specs.Rules.{more_readers, statements, more_statements, statement, simple_statement}
use Rattle.ruby_grammar.specs.Rules.{condition_behind, then_or_line, perhaps_line, arms_rest, perhaps_expression}
use Rattle.ruby_grammar.specs.Rules.{expression, choice_rest, operators, more_operators, unary, postfix, more_postfix}
use Rattle.ruby_grammar.specs.Rules.{primary, name_rest, perhaps_arguments, members, more_members, pairs, more_pairs}
use Rattle.ruby_grammar.specs.Rules.{pair, text_parts, opened_path}
use Rattle.ruby_grammar.specs.Expressions.{constant_forms, path_rest_forms, expression_forms, choice_rest_forms}
use Rattle.ruby_grammar.specs.Expressions.{operators_forms, more_operators_forms, unary_forms, postfix_forms}
use Rattle.ruby_grammar.specs.Expressions.{more_postfix_forms, primary_forms, name_rest_forms, perhaps_arguments_forms}
use Rattle.ruby_grammar.specs.Expressions.{members_forms, more_members_forms, pairs_forms, more_pairs_forms, pair_forms}
use Rattle.ruby_grammar.specs.Expressions.{text_parts_forms}
use Rattle.ruby_grammar.specs.Statements.{statements_forms, more_statements_forms, statement_forms}
use Rattle.ruby_grammar.specs.Statements.{simple_statement_forms, condition_behind_forms, then_or_line_forms}
use Rattle.ruby_grammar.specs.Statements.{perhaps_line_forms, arms_rest_forms, perhaps_expression_forms}
use Rattle.ruby_grammar.specs.Definitions.{file_forms, definitions_forms, more_definitions_forms, definition_forms}
use Rattle.ruby_grammar.specs.Definitions.{parent_forms, heading_forms, parameter_list_forms, parameters_forms}
use Rattle.ruby_grammar.specs.Definitions.{more_parameters_forms, more_readers_forms, opened_path_forms}
use Rattle.ruby_types.specs.declared.tree.FileTree.{FileTree}

-- the alternatives of each rule, each defined beside the rule that it writes out
abbrev pub forms : {s : Sort} → Rule s → List (Prod ruby s)
forms (file levels anywhere) = file_forms levels anywhere
forms (definitions here ds) = definitions_forms here ds
forms (more_definitions here ds) = more_definitions_forms here ds
forms (definition here) = definition_forms here
forms (path_rest more ending names) = path_rest_forms more ending names
forms (opened_path more how names) = opened_path_forms more how names
forms (parent path at) = parent_forms path at
forms (constant ending) = constant_forms ending
forms (heading path) = heading_forms path
forms (parameter_list levels) = parameter_list_forms levels
forms parameters = parameters_forms
forms (more_parameters names) = more_parameters_forms names
forms (more_readers path names) = more_readers_forms path names
forms (statements here ss) = statements_forms here ss
forms (more_statements here ss) = more_statements_forms here ss
forms (statement here) = statement_forms here
forms (simple_statement here) = simple_statement_forms here
forms (condition_behind levels s) = condition_behind_forms levels s
forms then_or_line = then_or_line_forms
forms perhaps_line = perhaps_line_forms
forms (arms_rest levels sets may_elsif arms b) = arms_rest_forms levels sets may_elsif arms b
forms (perhaps_expression here) = perhaps_expression_forms here
forms (expression here) = expression_forms here
forms (choice_rest here a) = choice_rest_forms here a
forms (operators level here) = operators_forms level here
forms (more_operators level here a) = more_operators_forms level here a
forms (unary here) = unary_forms here
forms (postfix here) = postfix_forms here
forms (more_postfix here a) = more_postfix_forms here a
forms (primary here) = primary_forms here
forms (name_rest here name) = name_rest_forms here name
forms (perhaps_arguments here) = perhaps_arguments_forms here
forms (members here xs) = members_forms here xs
forms (more_members here xs) = more_members_forms here xs
forms (pairs here ps) = pairs_forms here ps
forms (more_pairs here ps) = more_pairs_forms here ps
forms (pair here) = pair_forms here
forms (text_parts here double parts) = text_parts_forms here double parts

-- the grammar of the profile: the alternatives of its rules, and which definitions count twice
abbrev pub ruby_grammar : Grammar ruby
ruby_grammar = record { alternatives = forms; clashes = clashes_any }

-- the levels of definitions, statements, brackets and unary operators that may nest
abbrev pub most_levels : ℕ
most_levels = 100

-- These words are a file of the profile, and this is its tree.
abbrev pub IsFile : List Word → FileTree → Type 0
IsFile ws tree = Spells ruby_grammar (file most_levels false) ws tree

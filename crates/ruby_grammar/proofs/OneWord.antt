-- The choice looks at one word, but for a simple statement.
use Rattle.std.proofs.Common.{◌≡◌, false, Option, Some, None, refl}
use Rattle.ruby_grammar.specs.Words.{Word}
use Rattle.ruby_grammar.specs.Terminals.{is_variable, is_ivar}
use Rattle.ruby_grammar.specs.Rules.{Sort, Rule, Around, file, definitions, more_definitions, definition, path_rest}
use Rattle.ruby_grammar.specs.Rules.{opened_path}
use Rattle.ruby_grammar.specs.Rules.{parent, constant, heading, parameter_list, parameters, more_parameters}
use Rattle.ruby_grammar.specs.Rules.{more_readers, statements, more_statements, statement, simple_statement}
use Rattle.ruby_grammar.specs.Rules.{condition_behind, then_or_line, perhaps_line, arms_rest, perhaps_expression}
use Rattle.ruby_grammar.specs.Rules.{expression, choice_rest, operators, more_operators, unary, postfix, more_postfix}
use Rattle.ruby_grammar.specs.Rules.{primary, name_rest, perhaps_arguments, members, more_members, pairs, more_pairs}
use Rattle.ruby_grammar.specs.Rules.{pair, text_parts}
use Rattle.ruby_grammar.specs.Choices.{pick}
use Rattle.ruby_grammar.specs.Follow.{looks}
use Rattle.ruby_grammar.proofs.Tools.{or_false}

simple_one : (here : Around) (w : Word) (b c : Option Word) → (is_variable w ≡ false) × (is_ivar w ≡ false) →
    pick (simple_statement here) (Some w) b ≡ pick (simple_statement here) (Some w) c
simple_one here w b c h = rw (h.0, h.1) refl

-- the law `one_word`: the second word makes no difference, but in a simple statement behind a variable
pub one_word : {t : Sort} (rule : Rule t) (a b c : Option Word) → looks rule a ≡ false → pick rule a b ≡ pick rule a c
one_word (simple_statement here) None b c h = refl
one_word (simple_statement here) (Some w) b c h = simple_one here w b c (or_false (is_variable w) (is_ivar w) h)
one_word (file levels anywhere) a b c h = refl
one_word (definitions here ds) a b c h = refl
one_word (more_definitions here ds) a b c h = refl
one_word (definition here) a b c h = refl
one_word (path_rest more ending names) a b c h = refl
one_word (opened_path more how names) a b c h = refl
one_word (parent path at) a b c h = refl
one_word (constant ending) a b c h = refl
one_word (heading path) a b c h = refl
one_word (parameter_list levels) a b c h = refl
one_word parameters a b c h = refl
one_word (more_parameters names) a b c h = refl
one_word (more_readers path names) a b c h = refl
one_word (statements here ss) a b c h = refl
one_word (more_statements here ss) a b c h = refl
one_word (statement here) a b c h = refl
one_word (condition_behind levels t) a b c h = refl
one_word then_or_line a b c h = refl
one_word perhaps_line a b c h = refl
one_word (arms_rest levels sets may_elsif arms d) a b c h = refl
one_word (perhaps_expression here) a b c h = refl
one_word (expression here) a b c h = refl
one_word (choice_rest here x) a b c h = refl
one_word (operators level here) a b c h = refl
one_word (more_operators level here x) a b c h = refl
one_word (unary here) a b c h = refl
one_word (postfix here) a b c h = refl
one_word (more_postfix here x) a b c h = refl
one_word (primary here) a b c h = refl
one_word (name_rest here name) a b c h = refl
one_word (perhaps_arguments here) a b c h = refl
one_word (members here xs) a b c h = refl
one_word (more_members here xs) a b c h = refl
one_word (pairs here ps) a b c h = refl
one_word (more_pairs here ps) a b c h = refl
one_word (pair here) a b c h = refl
one_word (text_parts here double parts) a b c h = refl

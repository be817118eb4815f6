-- Each tree that some text has is formed.
use Rattle.std.proofs.Common.{◌≡◌, ℕ, List, [], ◌∷◌, ◌||◌, None, refl, sym, ap, ◌∙◌, subst}
use Rattle.ruby_types.specs.declared.tree.FileTree.{FileTree}
use Rattle.ruby_token.specs.Cut.{done}
use Rattle.descent.specs.Grammar.{Prod, Item, word, marked, Among, Clear}
use Rattle.ruby_grammar.specs.Marks.{Mark, clash, clashes_any}
use Rattle.ruby_grammar.specs.Rules.{opened_path}
use Rattle.ruby_grammar.specs.Rules.{ruby, Sort, Rule, file, definitions, more_definitions, definition, path_rest}
use Rattle.ruby_grammar.specs.Rules.{parent, constant, heading, parameter_list, parameters, more_parameters}
use Rattle.ruby_grammar.specs.Rules.{more_readers, statements, more_statements, statement, simple_statement}
use Rattle.ruby_grammar.specs.Rules.{condition_behind, then_or_line, perhaps_line, arms_rest, perhaps_expression}
use Rattle.ruby_grammar.specs.Rules.{expression, choice_rest, operators, more_operators, unary, postfix, more_postfix}
use Rattle.ruby_grammar.specs.Rules.{primary, name_rest, perhaps_arguments, members, more_members, pairs, more_pairs}
use Rattle.ruby_grammar.specs.Rules.{pair, text_parts}
use Rattle.ruby_grammar.specs.Language.{forms, ruby_grammar}
use Rattle.ruby_grammar.specs.Faults.{IsText}
use Rattle.ruby_grammar.proofs.Tools.{each_among}
use Rattle.ruby_print_pieces.specs.FormedFiles.{mark_of, Apart, FormedDef, several_definitions, FormedFile}
use Rattle.ruby_print_trees.proofs.Meaning.{SoundWords, Fine, EachFine, deed_of, deeds_in}
use Rattle.ruby_print_trees.proofs.Reading.{serves}
use Rattle.ruby_print_trees.proofs.Sounding.{sound_words}
use Rattle.ruby_print_trees.proofs.Expressions as e
use Rattle.ruby_print_trees.proofs.Statements as s
use Rattle.ruby_print_trees.proofs.Bodies as b

fine_rule : (t : Sort) (rule : Rule t) → EachFine rule
fine_rule _ (file levels anywhere) = b.fine_file levels anywhere
fine_rule _ (definitions here ds) = b.fine_definitions here ds
fine_rule _ (more_definitions here ds) = b.fine_more_definitions here ds
fine_rule _ (definition here) = b.fine_definition here
fine_rule _ (path_rest more ending names) = e.fine_path more ending names
fine_rule _ (opened_path more how names) = e.fine_opened more how names
fine_rule _ (parent path at) = b.fine_parent path at
fine_rule _ (constant ending) = e.fine_constant ending
fine_rule _ (heading path) = b.fine_heading path
fine_rule _ (parameter_list levels) = b.fine_parameter_list levels
fine_rule _ parameters = b.fine_parameters
fine_rule _ (more_parameters names) = b.fine_more_parameters names
fine_rule _ (more_readers path names) = b.fine_readers path names
fine_rule _ (statements here ss) = s.fine_statements here ss
fine_rule _ (more_statements here ss) = s.fine_more_statements here ss
fine_rule _ (statement here) = s.fine_statement here
fine_rule _ (simple_statement here) = s.fine_simple here
fine_rule _ (condition_behind levels x) = s.fine_condition levels x
fine_rule _ then_or_line = s.fine_then
fine_rule _ perhaps_line = s.fine_line
fine_rule _ (arms_rest levels sets may_elsif arms l) = s.fine_arms levels sets may_elsif arms l
fine_rule _ (perhaps_expression here) = s.fine_perhaps here
fine_rule _ (expression here) = e.fine_expression here
fine_rule _ (choice_rest here x) = e.fine_choice here x
fine_rule _ (operators level here) = e.fine_operators level here
fine_rule _ (more_operators level here x) = e.fine_more_operators level here x
fine_rule _ (unary here) = e.fine_unary here
fine_rule _ (postfix here) = e.fine_postfix here
fine_rule _ (more_postfix here x) = e.fine_more_postfix here x
fine_rule _ (primary here) = e.fine_primary here
fine_rule _ (name_rest here name) = e.fine_name here name
fine_rule _ (perhaps_arguments here) = e.fine_arguments here
fine_rule _ (members here xs) = e.fine_members here xs
fine_rule _ (more_members here xs) = e.fine_more_members here xs
fine_rule _ (pairs here ps) = e.fine_pairs here ps
fine_rule _ (more_pairs here ps) = e.fine_more_pairs here ps
fine_rule _ (pair here) = e.fine_pair here
fine_rule _ (text_parts here double ps) = e.fine_parts here double ps

fine : (t : Sort) (rule : Rule t) (p : Prod ruby t) → Among p (forms rule) → Fine rule p
fine t rule p am = each_among (λ q. Fine rule q) (fine_rule t rule) am

-- ---- what is clear is apart: no place counts

abbrev placeless : List Mark → List Mark
placeless [] = []
placeless (m ∷ ms) = mark_of (deed_of m) ∷ placeless ms

same_clashes : (ms : List Mark) (m : Mark) → clashes_any (placeless ms) (mark_of (deed_of m)) ≡ clashes_any ms m
same_clashes [] m = refl
same_clashes (n ∷ ms) m = ap (λ v. clash m n || v) (same_clashes ms m)

apart : (ms : List Mark) (ts : List (Item ruby)) → Clear ruby_grammar ms ts → Apart (placeless ms) (deeds_in ts)
apart ms [] c = tt
apart ms (word w ∷ ts) c = apart ms ts c
apart ms (marked m ∷ ts) c = (same_clashes ms m ∙ c.0, apart (m ∷ ms) ts c.1)

-- ---- files

-- The law of this crate: each tree that some text has is formed.
pub formed_text : (bytes : List ℕ) (tree : FileTree) → IsText bytes tree → FormedFile tree
formed_text bytes tree t = record {
  deeds = deeds_in t.spelled.items;
  formed = serves fine t.spelled.says (λ x n. FormedDef [] several_definitions x.defs n) [] None
      (subst (λ l. SoundWords None l) (sym t.spelled.spelled) (sound_words bytes (done t.tokens) t.lexed))
      (λ y n b h. h refl);
  apart = apart [] t.spelled.items t.spelled.clear;
}

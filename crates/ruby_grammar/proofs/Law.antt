-- The grammar and the choices of its reader meet the laws of descent.
use Rattle.std.proofs.Common.{◌≡◌, ◌<◌, true, List, ◌∷◌, ◌++◌, Some, length}
use Rattle.descent.specs.Grammar.{Prod, Among, Is, Item, words}
use Rattle.descent.specs.Reading.{take, choose, head, Outcome, Reads}
use Rattle.descent.specs.Lawful.{Lawful, left}
use Rattle.ruby_grammar.specs.Words.{Word}
use Rattle.ruby_grammar.specs.Marks.{Mark}
use Rattle.ruby_grammar.specs.Rules.{ruby, Val, Sort, Rule, file, definitions, more_definitions, definition, path_rest}
use Rattle.ruby_grammar.specs.Rules.{opened_path}
use Rattle.ruby_grammar.specs.Rules.{parent, constant, heading, parameter_list, parameters, more_parameters}
use Rattle.ruby_grammar.specs.Rules.{more_readers, statements, more_statements, statement, simple_statement}
use Rattle.ruby_grammar.specs.Rules.{condition_behind, then_or_line, perhaps_line, arms_rest, perhaps_expression}
use Rattle.ruby_grammar.specs.Rules.{expression, choice_rest, operators, more_operators, unary, postfix, more_postfix}
use Rattle.ruby_grammar.specs.Rules.{primary, name_rest, perhaps_arguments, members, more_members, pairs, more_pairs}
use Rattle.ruby_grammar.specs.Rules.{pair, text_parts}
use Rattle.ruby_grammar.specs.Language.{forms, ruby_grammar}
use Rattle.ruby_grammar.specs.Choices.{ruby_choices}
use Rattle.ruby_grammar.specs.Follow.{ruby_follow, fits, looks}
use Rattle.ruby_grammar.proofs.Chosen as c
use Rattle.ruby_grammar.proofs.OneWord as o
use Rattle.ruby_grammar.proofs.Passing as p
use Rattle.ruby_grammar.proofs.Barring as b
use Rattle.ruby_grammar.proofs.Choosing as k
use Rattle.ruby_grammar.proofs.Fits as f
use Rattle.ruby_grammar.proofs.Ending as n
use Rattle.ruby_grammar.proofs.Going as g
use Rattle.ruby_grammar.proofs.Marking as m
use Rattle.ruby_grammar.proofs.Assigns as a

passes_rule : {t : Sort} (rule : Rule t) (w : Word) (ws : List Word) (q : Prod ruby t) (ms : List Mark)
    (out : Outcome ruby t) →
    looks rule (Some w) ≡ true → choose ruby_choices rule (w ∷ ws) ≡ take q →
    Reads ruby_grammar ruby_choices t q ms (w ∷ ws) out → length (left out) < length (w ∷ ws)
passes_rule (simple_statement here) w ws q ms out h e r = p.simple_passes here w ws q h e ms out r
passes_rule (file levels anywhere) w ws q ms out h e r = cc
passes_rule (definitions here ds) w ws q ms out h e r = cc
passes_rule (more_definitions here ds) w ws q ms out h e r = cc
passes_rule (definition here) w ws q ms out h e r = cc
passes_rule (path_rest more ending names) w ws q ms out h e r = cc
passes_rule (opened_path more how names) w ws q ms out h e r = cc
passes_rule (parent path at) w ws q ms out h e r = cc
passes_rule (constant ending) w ws q ms out h e r = cc
passes_rule (heading path) w ws q ms out h e r = cc
passes_rule (parameter_list levels) w ws q ms out h e r = cc
passes_rule parameters w ws q ms out h e r = cc
passes_rule (more_parameters names) w ws q ms out h e r = cc
passes_rule (more_readers path names) w ws q ms out h e r = cc
passes_rule (statements here ss) w ws q ms out h e r = cc
passes_rule (more_statements here ss) w ws q ms out h e r = cc
passes_rule (statement here) w ws q ms out h e r = cc
passes_rule (condition_behind levels t) w ws q ms out h e r = cc
passes_rule then_or_line w ws q ms out h e r = cc
passes_rule perhaps_line w ws q ms out h e r = cc
passes_rule (arms_rest levels sets may_elsif arms c) w ws q ms out h e r = cc
passes_rule (perhaps_expression here) w ws q ms out h e r = cc
passes_rule (expression here) w ws q ms out h e r = cc
passes_rule (choice_rest here x) w ws q ms out h e r = cc
passes_rule (operators level here) w ws q ms out h e r = cc
passes_rule (more_operators level here x) w ws q ms out h e r = cc
passes_rule (unary here) w ws q ms out h e r = cc
passes_rule (postfix here) w ws q ms out h e r = cc
passes_rule (more_postfix here x) w ws q ms out h e r = cc
passes_rule (primary here) w ws q ms out h e r = cc
passes_rule (name_rest here name) w ws q ms out h e r = cc
passes_rule (perhaps_arguments here) w ws q ms out h e r = cc
passes_rule (members here xs) w ws q ms out h e r = cc
passes_rule (more_members here xs) w ws q ms out h e r = cc
passes_rule (pairs here ps) w ws q ms out h e r = cc
passes_rule (more_pairs here ps) w ws q ms out h e r = cc
passes_rule (pair here) w ws q ms out h e r = cc
passes_rule (text_parts here double parts) w ws q ms out h e r = cc

chooses : {t : Sort} (rule : Rule t) (q : Prod ruby t) (ts : List (Item ruby)) (x : Val t) (rest : List Word) →
    Among q (forms rule) → Is ruby_grammar t q ts x → fits rule (head rest) ≡ true →
    choose ruby_choices rule (words ts ++ rest) ≡ take q
chooses {t} rule q ts x rest = k.chooses_rule a.evaluating_chosen t rule q ts x rest

-- the reader's choices meet each law that makes reading by descent exact for this grammar
pub lawful : Lawful ruby_grammar ruby_choices ruby_follow
lawful = record {
  chosen = c.chosen;
  one_word = o.one_word;
  passes = passes_rule;
  one_word_stops = b.one_word_stops;
  chooses = chooses;
  follows = f.follows_rule;
  ends = n.ends_rule;
  goes = g.goes_rule;
  bars = b.bars;
  plain_rule = m.plain_rule;
  marked_rule = b.marked_rule;
  quiet_rule = m.quiet_rule;
  looks_quiet = m.looks_quiet;
}

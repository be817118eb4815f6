-- What is barred begins a statement all the same; and what a path's end looks at.
use Rattle.std.proofs.Common.{◌≡◌, ◌⊎◌, inl, inr, Bool, true, false, ◌||◌, ◌&&◌, List, [], ◌∷◌, Option, Some, None}
use Rattle.std.proofs.Common.{refl, sym, subst, if◌then◌else◌}
use Rattle.ruby_types.specs.declared.tree.Expr.{Expr}
use Rattle.descent.specs.Grammar.{Prod, give, token, mark, Among, first, later, Is, is_given, is_word, is_marked, Item}
use Rattle.descent.specs.Grammar.{word, marked, only}
use Rattle.descent.specs.Reading.{Choice, take, too_deep, barred, nothing, choose}
use Rattle.descent.specs.Lawful.{BeginsWith, CanBegin}
use Rattle.descent.proofs.Lists.{same_others}
use Rattle.descent.proofs.Complete.{extend, alone}
use Rattle.ruby_grammar.specs.Words.{Word}
use Rattle.ruby_grammar.specs.Marks.{Mark}
use Rattle.ruby_grammar.specs.Terminals.{units, products, sums, comparisons, equalities, conjunctions, disjunctions}
use Rattle.ruby_grammar.specs.Terminals.{is_variable, is_ivar, is_assign, is_return, is_raise, is_path}
use Rattle.ruby_grammar.specs.Rules.{ruby, Val, Name, Sort, Rule, Around, Scope, a_statement, some_names, file}
use Rattle.ruby_grammar.specs.Rules.{definitions, more_definitions, definition, path_rest, parent, constant, heading}
use Rattle.ruby_grammar.specs.Rules.{PathOpening, opened_path}
use Rattle.ruby_grammar.specs.Rules.{parameter_list, parameters, more_parameters, more_readers, statements}
use Rattle.ruby_grammar.specs.Rules.{more_statements, statement, simple_statement, condition_behind, then_or_line}
use Rattle.ruby_grammar.specs.Rules.{perhaps_line, arms_rest, perhaps_expression, expression, choice_rest, operators}
use Rattle.ruby_grammar.specs.Rules.{more_operators, unary, postfix, more_postfix, primary, name_rest}
use Rattle.ruby_grammar.specs.Rules.{perhaps_arguments, members, more_members, pairs, more_pairs, pair, text_parts}
use Rattle.ruby_grammar.specs.Language.{forms, ruby_grammar}
use Rattle.ruby_grammar.specs.Definitions as d
use Rattle.ruby_grammar.specs.Choices.{next_is, pick, ruby_choices, pick_set_ivar}
use Rattle.ruby_grammar.specs.Follow.{looks, begins_plain}
use Rattle.ruby_grammar.specs.Expressions as e
use Rattle.ruby_grammar.specs.Statements as s
use Rattle.ruby_grammar.proofs.Tools.{and_true, among_behind}
use Rattle.ruby_grammar.proofs.Chosen.{barred_is}
use Rattle.ruby_grammar.proofs.Ending.{const_word, more_postfix_end, more_operators_end}

-- ---- an expression of one word

abbrev Alone : {t : Sort} → Rule t → Word → Val t → Type 0
Alone {t} rule w x = Is ruby_grammar t (only rule) (word w ∷ []) x

postfix_of : (here : Scope) (w : Word) (x : Expr) → Alone (primary here) w x → Alone (postfix here) w x
postfix_of here w x a = alone ruby_grammar first (extend ruby_grammar a (more_postfix_end here x).2)

unary_of : (here : Scope) (w : Word) (x : Expr) → Alone (primary here) w x → Alone (unary here) w x
unary_of here w x a = alone ruby_grammar
    (among_behind (e.opening here.levels (e.not_from here))
    (among_behind (e.opening here.levels (e.minus_from here)) first)) (postfix_of here w x a)

units_of : (here : Scope) (w : Word) (x : Expr) → Alone (primary here) w x → Alone (operators units here) w x
units_of here w x a = alone ruby_grammar first (unary_of here w x a)

products_of : (here : Scope) (w : Word) (x : Expr) → Alone (primary here) w x → Alone (operators products here) w x
products_of here w x a =
    alone ruby_grammar first (extend ruby_grammar (units_of here w x a) (more_operators_end products here x).2)

sums_of : (here : Scope) (w : Word) (x : Expr) → Alone (primary here) w x → Alone (operators sums here) w x
sums_of here w x a = alone ruby_grammar first
    (extend ruby_grammar (products_of here w x a) (more_operators_end sums here x).2)

comparisons_of : (here : Scope) (w : Word) (x : Expr) → Alone (primary here) w x →
    Alone (operators comparisons here) w x
comparisons_of here w x a =
    alone ruby_grammar first (extend ruby_grammar (sums_of here w x a) (more_operators_end comparisons here x).2)

equalities_of : (here : Scope) (w : Word) (x : Expr) → Alone (primary here) w x → Alone (operators equalities here) w x
equalities_of here w x a =
    alone ruby_grammar first (extend ruby_grammar (comparisons_of here w x a) (more_operators_end equalities here x).2)

conjunctions_of : (here : Scope) (w : Word) (x : Expr) → Alone (primary here) w x →
    Alone (operators conjunctions here) w x
conjunctions_of here w x a =
    alone ruby_grammar first (extend ruby_grammar (equalities_of here w x a) (more_operators_end conjunctions here x).2)

disjunctions_of : (here : Scope) (w : Word) (x : Expr) → Alone (primary here) w x →
    Alone (operators disjunctions here) w x
disjunctions_of here w x a =
    alone ruby_grammar first
    (extend ruby_grammar (conjunctions_of here w x a) (more_operators_end disjunctions here x).2)

choice_of : (here : Scope) (x : Expr) → Is ruby_grammar _ (only (choice_rest here x)) [] x
choice_of here x = alone ruby_grammar (later first) is_given

expression_of : (here : Scope) (w : Word) (x : Expr) → Alone (primary here) w x → Alone (expression here) w x
expression_of here w x a =
    alone ruby_grammar first (extend ruby_grammar (disjunctions_of here w x a) (choice_of here x))

ivar_alone : (here : Scope) (w : Word) → is_ivar w ≡ true → (x : Expr) × Alone (primary here) w x
ivar_alone here w h = (
  _,
  alone ruby_grammar (later (later (later (later (later (later (later (later first))))))))
      (is_word h is_given),
)

begins_ivar : (here : Around) (w : Word) → is_ivar w ≡ true → BeginsWith ruby_grammar (simple_statement here) w
begins_ivar here w h =
    let a = ivar_alone (s.scope_of here) w h in (
      [],
      _,
      alone ruby_grammar
          (later (later (later (among_behind (s.where_it_may here.sets (s.setting_ivar here)) first))))
          (extend ruby_grammar (expression_of (s.scope_of here) w a.0 a.1) is_given),
    )

-- ---- what is barred

-- of a simple statement's choices only that at `@x =` can be barred
pub bar_of : (b c d f : Bool) (here : Around) →
    (if b then take (s.returning here) else
    (if c then take (s.raising here) else
    (if d then take (s.setting here) else
    (if f then pick_set_ivar here.sets here else take (s.evaluating here))))) ≡ barred → f ≡ true
bar_of true c d f here h = cc
bar_of false true d f here h = cc
bar_of false false true f here h = cc
bar_of false false false true here h = refl
bar_of false false false false here h = cc

or_second : (a b : Bool) → b ≡ true → (a || b) ≡ true
or_second true b h = refl
or_second false b h = h

bar_simple : (here : Around) (w : Word) (b : Option Word) → pick (simple_statement here) (Some w) b ≡ barred →
    ((is_variable w || is_ivar w) ≡ true) × BeginsWith ruby_grammar (simple_statement here) w
bar_simple here w b h =
    let i = (and_true (is_ivar w) (next_is is_assign b)
    (bar_of (is_return w) (is_raise w) (is_variable w && next_is is_assign b) (is_ivar w && next_is is_assign b)
    here h)).0 in
    (or_second (is_variable w) (is_ivar w) i, begins_ivar here w i)

-- the law `bars`: what is barred at its second word begins with a word that begins some statement, as `@x`
pub bars : {t : Sort} (rule : Rule t) (w : Word) (b : Option Word) → pick rule (Some w) b ≡ barred →
    (looks rule (Some w) ≡ true) × BeginsWith ruby_grammar rule w
bars (simple_statement here) w b h = bar_simple here w b h
bars (file levels anywhere) w b h = absurd (barred_is (file levels anywhere) (Some w) b h)
bars (definitions here ds) w b h = absurd (barred_is (definitions here ds) (Some w) b h)
bars (more_definitions here ds) w b h = absurd (barred_is (more_definitions here ds) (Some w) b h)
bars (definition here) w b h = absurd (barred_is (definition here) (Some w) b h)
bars (path_rest more ending names) w b h = absurd (barred_is (path_rest more ending names) (Some w) b h)
bars (opened_path more how names) w b h = absurd (barred_is (opened_path more how names) (Some w) b h)
bars (parent path at) w b h = absurd (barred_is (parent path at) (Some w) b h)
bars (constant ending) w b h = absurd (barred_is (constant ending) (Some w) b h)
bars (heading path) w b h = absurd (barred_is (heading path) (Some w) b h)
bars (parameter_list levels) w b h = absurd (barred_is (parameter_list levels) (Some w) b h)
bars parameters w b h = absurd (barred_is parameters (Some w) b h)
bars (more_parameters names) w b h = absurd (barred_is (more_parameters names) (Some w) b h)
bars (more_readers path names) w b h = absurd (barred_is (more_readers path names) (Some w) b h)
bars (statements here ss) w b h = absurd (barred_is (statements here ss) (Some w) b h)
bars (more_statements here ss) w b h = absurd (barred_is (more_statements here ss) (Some w) b h)
bars (statement here) w b h = absurd (barred_is (statement here) (Some w) b h)
bars (condition_behind levels t) w b h = absurd (barred_is (condition_behind levels t) (Some w) b h)
bars then_or_line w b h = absurd (barred_is then_or_line (Some w) b h)
bars perhaps_line w b h = absurd (barred_is perhaps_line (Some w) b h)
bars (arms_rest levels sets may_elsif arms c) w b h =
    absurd (barred_is (arms_rest levels sets may_elsif arms c) (Some w) b h)
bars (perhaps_expression here) w b h = absurd (barred_is (perhaps_expression here) (Some w) b h)
bars (expression here) w b h = absurd (barred_is (expression here) (Some w) b h)
bars (choice_rest here x) w b h = absurd (barred_is (choice_rest here x) (Some w) b h)
bars (operators level here) w b h = absurd (barred_is (operators level here) (Some w) b h)
bars (more_operators level here x) w b h = absurd (barred_is (more_operators level here x) (Some w) b h)
bars (unary here) w b h = absurd (barred_is (unary here) (Some w) b h)
bars (postfix here) w b h = absurd (barred_is (postfix here) (Some w) b h)
bars (more_postfix here x) w b h = absurd (barred_is (more_postfix here x) (Some w) b h)
bars (primary here) w b h = absurd (barred_is (primary here) (Some w) b h)
bars (name_rest here name) w b h = absurd (barred_is (name_rest here name) (Some w) b h)
bars (perhaps_arguments here) w b h = absurd (barred_is (perhaps_arguments here) (Some w) b h)
bars (members here xs) w b h = absurd (barred_is (members here xs) (Some w) b h)
bars (more_members here xs) w b h = absurd (barred_is (more_members here xs) (Some w) b h)
bars (pairs here ps) w b h = absurd (barred_is (pairs here ps) (Some w) b h)
bars (more_pairs here ps) w b h = absurd (barred_is (more_pairs here ps) (Some w) b h)
bars (pair here) w b h = absurd (barred_is (pair here) (Some w) b h)
bars (text_parts here double parts) w b h = absurd (barred_is (text_parts here double parts) (Some w) b h)

-- ---- before a variable something is chosen

abbrev Settled : Choice ruby a_statement → Type 0
Settled (take p) = Unit {0}
Settled too_deep = ⊥
Settled barred = Unit {0}
Settled nothing = ⊥

set_settled : (sets : Bool) (here : Around) → Settled (pick_set_ivar sets here)
set_settled true here = tt
set_settled false here = tt

settled_if : (b : Bool) (c d : Choice ruby a_statement) → Settled c → Settled d → Settled (if b then c else d)
settled_if true c d h k = h
settled_if false c d h k = k

settled : (here : Around) (a b : Option Word) → Settled (pick (simple_statement here) a b)
settled here a b =
    settled_if (next_is is_return a) _ _ tt
    (settled_if (next_is is_raise a) _ _ tt
    (settled_if (next_is is_variable a && next_is is_assign b) _ _ tt
    (settled_if (next_is is_ivar a && next_is is_assign b) _ _ (set_settled here.sets here) tt)))

-- the law `one_word_stops`: where two words are looked at, something is chosen or barred
pub one_word_stops : {t : Sort} (rule : Rule t) (w : Word) (b : Option Word) → looks rule (Some w) ≡ true →
    (pick rule (Some w) b ≡ too_deep → ⊥) × (pick rule (Some w) b ≡ nothing → ⊥)
one_word_stops (simple_statement here) w b h =
    (λ e. subst (λ c. Settled c) e (settled here (Some w) b), λ e. subst (λ c. Settled c) e (settled here (Some w) b))
one_word_stops (file levels anywhere) w b h = cc
one_word_stops (definitions here ds) w b h = cc
one_word_stops (more_definitions here ds) w b h = cc
one_word_stops (definition here) w b h = cc
one_word_stops (path_rest more ending names) w b h = cc
one_word_stops (opened_path more how names) w b h = cc
one_word_stops (parent path at) w b h = cc
one_word_stops (constant ending) w b h = cc
one_word_stops (heading path) w b h = cc
one_word_stops (parameter_list levels) w b h = cc
one_word_stops parameters w b h = cc
one_word_stops (more_parameters names) w b h = cc
one_word_stops (more_readers path names) w b h = cc
one_word_stops (statements here ss) w b h = cc
one_word_stops (more_statements here ss) w b h = cc
one_word_stops (statement here) w b h = cc
one_word_stops (condition_behind levels t) w b h = cc
one_word_stops then_or_line w b h = cc
one_word_stops perhaps_line w b h = cc
one_word_stops (arms_rest levels sets may_elsif arms c) w b h = cc
one_word_stops (perhaps_expression here) w b h = cc
one_word_stops (expression here) w b h = cc
one_word_stops (choice_rest here x) w b h = cc
one_word_stops (operators level here) w b h = cc
one_word_stops (more_operators level here x) w b h = cc
one_word_stops (unary here) w b h = cc
one_word_stops (postfix here) w b h = cc
one_word_stops (more_postfix here x) w b h = cc
one_word_stops (primary here) w b h = cc
one_word_stops (name_rest here name) w b h = cc
one_word_stops (perhaps_arguments here) w b h = cc
one_word_stops (members here xs) w b h = cc
one_word_stops (more_members here xs) w b h = cc
one_word_stops (pairs here ps) w b h = cc
one_word_stops (more_pairs here ps) w b h = cc
one_word_stops (pair here) w b h = cc
one_word_stops (text_parts here double parts) w b h = cc

-- ---- the end of a path that counts

token_first : (test : Word → Bool) (next : Word → Prod ruby some_names) (us ts : List (Item ruby)) (x : List Name)
    (m : Mark) → Is ruby_grammar some_names (token test next) us x → us ≡ marked m ∷ ts → ⊥
token_first test next us ts x m (is_word t a) e = cc

mark_alone : (m n : Mark) (names x : List Name) (us ts : List (Item ruby)) →
    Is ruby_grammar some_names (mark m (give names)) us x → us ≡ marked n ∷ ts → ts ≡ []
mark_alone m n names x us ts (is_marked is_given) e = sym (same_others (marked m) (marked n) [] ts e)

path_goes_on : (m : Mark) (names : List Name) (w : Word) → is_path w ≡ true →
    BeginsWith ruby_grammar (path_rest true (Some m) names) w
path_goes_on m names w h = (
  word const_word ∷ marked m ∷ [],
  _,
  alone ruby_grammar first (is_word h (is_word refl (alone ruby_grammar (later first) (is_marked is_given)))),
)

path_ready : (m : Mark) (names : List Name) (w : Word) (ws : List Word) (b : Bool) → is_path w ≡ b →
    (choose ruby_choices (path_rest true (Some m) names) (w ∷ ws) ≡ take (mark m (give names)))
    ⊎ CanBegin ruby_grammar (path_rest true (Some m) names) (w ∷ ws)
path_ready m names w ws true h = inr (path_goes_on m names w h)
path_ready m names w ws false h = inl (rw h refl)

path_marked : (m : Mark) (names : List Name) (ws : List Word) →
    (choose ruby_choices (path_rest true (Some m) names) ws ≡ take (mark m (give names)))
    ⊎ CanBegin ruby_grammar (path_rest true (Some m) names) ws
path_marked m names [] = inl refl
path_marked m names (w ∷ ws) = path_ready m names w ws (is_path w) refl

opened_goes_on : (how : PathOpening) (names : List Name) (w : Word) → is_path w ≡ true →
    BeginsWith ruby_grammar (opened_path true how names) w
opened_goes_on how names w h = (
  word const_word ∷ marked _ ∷ [],
  _,
  alone ruby_grammar first (is_word h (is_word refl (alone ruby_grammar (later first) (is_marked is_given)))),
)

opened_ready : (how : PathOpening) (names : List Name) (w : Word) (ws : List Word) (b : Bool) → is_path w ≡ b →
    (choose ruby_choices (opened_path true how names) (w ∷ ws) ≡ take (d.opened_path_end how names))
    ⊎ CanBegin ruby_grammar (opened_path true how names) (w ∷ ws)
opened_ready how names w ws true h = inr (opened_goes_on how names w h)
opened_ready how names w ws false h = inl (rw h refl)

opened_marked : (how : PathOpening) (names : List Name) (ws : List Word) →
    (choose ruby_choices (opened_path true how names) ws ≡ take (d.opened_path_end how names))
    ⊎ CanBegin ruby_grammar (opened_path true how names) ws
opened_marked how names [] = inl refl
opened_marked how names (w ∷ ws) = opened_ready how names w ws (is_path w) refl

-- the law `marked_rule`: a path's end is a mark alone, chosen unless `::` goes on with the path
pub marked_rule : {t : Sort} (rule : Rule t) (p : Prod ruby t) (m : Mark) (ts : List (Item ruby)) (x : Val t) →
    Among p (forms rule) → begins_plain rule ≡ false → Is ruby_grammar t p (marked m ∷ ts) x →
    (ts ≡ []) × ((ws : List Word) → (choose ruby_choices rule ws ≡ take p) ⊎ CanBegin ruby_grammar rule ws)
marked_rule (path_rest true (Some n) names) p m ts x first h a = absurd (token_first _ _ _ ts x m a refl)
marked_rule (path_rest true (Some n) names) p m ts x (later first) h a =
    (mark_alone n m names x _ ts a refl, path_marked n names)
marked_rule (path_rest false (Some n) names) p m ts x first h a = (mark_alone n m names x _ ts a refl, λ ws. inl refl)
marked_rule (path_rest true (Some n) names) p m ts v (later (later am)) h a = elim am [ ]
marked_rule (path_rest false (Some n) names) p m ts v (later am) h a = elim am [ ]
marked_rule (path_rest true None names) p m ts v am h a = cc
marked_rule (path_rest false None names) p m ts v am h a = cc
marked_rule (opened_path true how names) p m ts x first h a = absurd (token_first _ _ _ ts x m a refl)
marked_rule (opened_path true how names) p m ts x (later first) h a =
    (mark_alone (d.opens how names) m names x _ ts a refl, opened_marked how names)
marked_rule (opened_path false how names) p m ts x first h a =
    (mark_alone (d.opens how names) m names x _ ts a refl, λ ws. inl refl)
marked_rule (opened_path true how names) p m ts v (later (later am)) h a = elim am [ ]
marked_rule (opened_path false how names) p m ts v (later am) h a = elim am [ ]
marked_rule (file levels anywhere) p m ts v am h a = cc
marked_rule (definitions here ds) p m ts v am h a = cc
marked_rule (more_definitions here ds) p m ts v am h a = cc
marked_rule (definition here) p m ts v am h a = cc
marked_rule (parent path at) p m ts v am h a = cc
marked_rule (constant ending) p m ts v am h a = cc
marked_rule (heading path) p m ts v am h a = cc
marked_rule (parameter_list levels) p m ts v am h a = cc
marked_rule parameters p m ts v am h a = cc
marked_rule (more_parameters names) p m ts v am h a = cc
marked_rule (more_readers path names) p m ts v am h a = cc
marked_rule (statements here ss) p m ts v am h a = cc
marked_rule (more_statements here ss) p m ts v am h a = cc
marked_rule (statement here) p m ts v am h a = cc
marked_rule (condition_behind levels t) p m ts v am h a = cc
marked_rule then_or_line p m ts v am h a = cc
marked_rule perhaps_line p m ts v am h a = cc
marked_rule (arms_rest levels sets may_elsif arms c) p m ts v am h a = cc
marked_rule (perhaps_expression here) p m ts v am h a = cc
marked_rule (expression here) p m ts v am h a = cc
marked_rule (choice_rest here x) p m ts v am h a = cc
marked_rule (operators level here) p m ts v am h a = cc
marked_rule (more_operators level here x) p m ts v am h a = cc
marked_rule (unary here) p m ts v am h a = cc
marked_rule (postfix here) p m ts v am h a = cc
marked_rule (more_postfix here x) p m ts v am h a = cc
marked_rule (primary here) p m ts v am h a = cc
marked_rule (name_rest here name) p m ts v am h a = cc
marked_rule (perhaps_arguments here) p m ts v am h a = cc
marked_rule (members here xs) p m ts v am h a = cc
marked_rule (more_members here xs) p m ts v am h a = cc
marked_rule (pairs here ps) p m ts v am h a = cc
marked_rule (more_pairs here ps) p m ts v am h a = cc
marked_rule (pair here) p m ts v am h a = cc
marked_rule (text_parts here double parts) p m ts v am h a = cc
marked_rule (simple_statement here) p m ts v am h a = cc

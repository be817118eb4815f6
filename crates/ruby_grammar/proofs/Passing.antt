-- Simple statements that begin with a variable or an instance variable, and ends of parents' paths.
use Rattle.std.proofs.Common.{◌≡◌, ◌⊎◌, inl, inr, Bool, true, false, ◌||◌, ◌&&◌, List, ◌∷◌, Option, Some, refl, sym}
use Rattle.std.proofs.Common.{subst, ◌∙◌, if◌then◌else◌}
use Rattle.ruby_types.specs.declared.tree.Expr.TheVariants as expr
use Rattle.ruby_grammar.specs.Values.{behind_sign}
use Rattle.descent.specs.Grammar.{Prod, give, token, call, only}
use Rattle.descent.specs.Reading.{take, choose, head}
use Rattle.descent.proofs.Moves.{Moves, moves_token, moves_call}
use Rattle.descent.proofs.Laws.{take_is}
use Rattle.ruby_grammar.specs.Words.{Word}
use Rattle.ruby_grammar.specs.Terminals.{units, products, sums, comparisons, equalities, conjunctions, disjunctions}
use Rattle.ruby_grammar.specs.Terminals.{terminal}
use Rattle.ruby_grammar.specs.Terminals.{is_variable, is_ivar, is_name, is_assign}
use Rattle.ruby_grammar.specs.Rules.{ruby, Val, Sort, Around, Scope, an_expression, a_statement, simple_statement}
use Rattle.ruby_grammar.specs.Rules.{expression, operators, unary, postfix, primary, name_rest}
use Rattle.ruby_grammar.specs.Language.{ruby_grammar}
use Rattle.ruby_grammar.specs.Choices.{next_is, pick, ruby_choices, pick_set_ivar}
use Rattle.ruby_grammar.specs.Expressions as e
use Rattle.ruby_grammar.specs.Statements as s
use Rattle.ruby_grammar.proofs.Tools.{terminal_is, or_true, and_true}

-- a variable or an instance variable
abbrev pub Starts : Word → Type 0
Starts w = (terminal w ≡ 0) ⊎ (terminal w ≡ 52)

-- the two words that a simple statement is chosen by: a variable or an instance variable comes first
pub starts_by : (w : Word) → (is_variable w || is_ivar w) ≡ true → Starts w
starts_by w h = elim (or_true (is_variable w) (is_ivar w) h) [
  | inl v ↦ inl (terminal_is 0 w (and_true (is_name w) _ v).0)
  | inr i ↦ inr (terminal_is 52 w i)
]

abbrev Move : {t : Sort} → Prod ruby t → List Word → Type 0
Move p ws = Moves ruby_grammar ruby_choices p ws

primary_moves : (here : Scope) (next : Val an_expression → Prod ruby an_expression) (w : Word) (ws : List Word) →
    Starts w → Move (call (primary here) next) (w ∷ ws)
primary_moves here next w ws (inl h) = moves_call ruby_grammar ruby_choices (primary here) next
    (token is_name λ v. only (name_rest here v.text)) (w ∷ ws) (rw h refl)
    (moves_token ruby_grammar ruby_choices _ _ w ws (rw h refl))
primary_moves here next w ws (inr h) = moves_call ruby_grammar ruby_choices (primary here) next
    (token is_ivar λ v. give (expr.Ivar (behind_sign v.text))) (w ∷ ws) (rw h refl)
    (moves_token ruby_grammar ruby_choices _ _ w ws (rw h refl))

postfix_moves : (here : Scope) (next : Val an_expression → Prod ruby an_expression) (w : Word) (ws : List Word) →
    Starts w → Move (call (postfix here) next) (w ∷ ws)
postfix_moves here next w ws h = moves_call ruby_grammar ruby_choices (postfix here) next (e.postfix_from here)
    (w ∷ ws) refl (primary_moves here _ w ws h)

unary_moves : (here : Scope) (next : Val an_expression → Prod ruby an_expression) (w : Word) (ws : List Word) →
    Starts w → Move (call (unary here) next) (w ∷ ws)
unary_moves here next w ws (inl h) = moves_call ruby_grammar ruby_choices (unary here) next (only (postfix here))
    (w ∷ ws) (rw h refl) (postfix_moves here _ w ws (inl h))
unary_moves here next w ws (inr h) = moves_call ruby_grammar ruby_choices (unary here) next (only (postfix here))
    (w ∷ ws) (rw h refl) (postfix_moves here _ w ws (inr h))

units_move : (here : Scope) (next : Val an_expression → Prod ruby an_expression) (w : Word) (ws : List Word) →
    Starts w → Move (call (operators units here) next) (w ∷ ws)
units_move here next w ws h = moves_call ruby_grammar ruby_choices (operators units here) next
    (e.operators_from units here) (w ∷ ws) refl (unary_moves here _ w ws h)

products_move : (here : Scope) (next : Val an_expression → Prod ruby an_expression) (w : Word) (ws : List Word) →
    Starts w → Move (call (operators products here) next) (w ∷ ws)
products_move here next w ws h = moves_call ruby_grammar ruby_choices (operators products here) next
    (e.operators_from products here) (w ∷ ws) refl (units_move here _ w ws h)

sums_move : (here : Scope) (next : Val an_expression → Prod ruby an_expression) (w : Word) (ws : List Word) →
    Starts w → Move (call (operators sums here) next) (w ∷ ws)
sums_move here next w ws h = moves_call ruby_grammar ruby_choices (operators sums here) next
    (e.operators_from sums here) (w ∷ ws) refl (products_move here _ w ws h)

comparisons_move : (here : Scope) (next : Val an_expression → Prod ruby an_expression) (w : Word) (ws : List Word) →
    Starts w → Move (call (operators comparisons here) next) (w ∷ ws)
comparisons_move here next w ws h = moves_call ruby_grammar ruby_choices (operators comparisons here) next
    (e.operators_from comparisons here) (w ∷ ws) refl (sums_move here _ w ws h)

equalities_move : (here : Scope) (next : Val an_expression → Prod ruby an_expression) (w : Word) (ws : List Word) →
    Starts w → Move (call (operators equalities here) next) (w ∷ ws)
equalities_move here next w ws h = moves_call ruby_grammar ruby_choices (operators equalities here) next
    (e.operators_from equalities here) (w ∷ ws) refl (comparisons_move here _ w ws h)

conjunctions_move : (here : Scope) (next : Val an_expression → Prod ruby an_expression) (w : Word) (ws : List Word) →
    Starts w → Move (call (operators conjunctions here) next) (w ∷ ws)
conjunctions_move here next w ws h = moves_call ruby_grammar ruby_choices (operators conjunctions here) next
    (e.operators_from conjunctions here) (w ∷ ws) refl (equalities_move here _ w ws h)

disjunctions_move : (here : Scope) (next : Val an_expression → Prod ruby an_expression) (w : Word) (ws : List Word) →
    Starts w → Move (call (operators disjunctions here) next) (w ∷ ws)
disjunctions_move here next w ws h = moves_call ruby_grammar ruby_choices (operators disjunctions here) next
    (e.operators_from disjunctions here) (w ∷ ws) refl (conjunctions_move here _ w ws h)

expression_moves : (here : Scope) (next : Val an_expression → Prod ruby a_statement) (w : Word) (ws : List Word) →
    Starts w → Move (call (expression here) next) (w ∷ ws)
expression_moves here next w ws h = moves_call ruby_grammar ruby_choices (expression here) next
    (e.expression_from here) (w ∷ ws) refl (disjunctions_move here _ w ws h)

-- what a simple statement that begins so is chosen to be
set_moves : (sets : Bool) (here : Around) (w : Word) (ws : List Word) (p : Prod ruby a_statement) →
    is_ivar w ≡ true → pick_set_ivar sets here ≡ take p → Move p (w ∷ ws)
set_moves true here w ws p i c = subst (λ q. Move q (w ∷ ws)) (take_is _ refl c)
    (moves_token ruby_grammar ruby_choices _ _ w ws i)
set_moves false here w ws p i c = cc

ivar_moves : (b : Bool) (here : Around) (w : Word) (ws : List Word) (p : Prod ruby a_statement) →
    (b ≡ true → is_ivar w ≡ true) → Starts w → (if b then pick_set_ivar here.sets here else take (s.evaluating here))
    ≡ take p → Move p (w ∷ ws)
ivar_moves true here w ws p i h c = set_moves here.sets here w ws p (i refl) c
ivar_moves false here w ws p i h c = subst (λ q. Move q (w ∷ ws)) (take_is _ refl c)
    (expression_moves (s.scope_of here) _ w ws h)

variable_moves : (b d : Bool) (here : Around) (w : Word) (ws : List Word) (p : Prod ruby a_statement) →
    (b ≡ true → is_variable w ≡ true) → (d ≡ true → is_ivar w ≡ true) → Starts w →
    (if b then take (s.setting here) else (if d then pick_set_ivar here.sets here else take (s.evaluating here)))
    ≡ take p → Move p (w ∷ ws)
variable_moves true d here w ws p v i h c = subst (λ q. Move q (w ∷ ws)) (take_is _ refl c)
    (moves_token ruby_grammar ruby_choices _ _ w ws (v refl))
variable_moves false d here w ws p v i h c = ivar_moves d here w ws p i h c

-- before such a word a statement is no `return` or `raise`, so only the `=` behind it makes a difference
pub no_keyword : (here : Around) (w : Word) (b : Option Word) → Starts w →
    pick (simple_statement here) (Some w) b
    ≡ (if is_variable w && next_is is_assign b then take (s.setting here) else
    (if is_ivar w && next_is is_assign b then pick_set_ivar here.sets here else take (s.evaluating here)))
no_keyword here w b (inl h) = rw h refl
no_keyword here w b (inr h) = rw h refl

-- the law `passes`: a simple statement that begins with a variable passes that word, whatever is chosen
pub simple_passes : (here : Around) (w : Word) (ws : List Word) (p : Prod ruby a_statement) →
    (is_variable w || is_ivar w) ≡ true → choose ruby_choices (simple_statement here) (w ∷ ws) ≡ take p →
    Move p (w ∷ ws)
simple_passes here w ws p h c =
    variable_moves (is_variable w && next_is is_assign (head ws)) (is_ivar w && next_is is_assign (head ws)) here w ws p
    (λ t. (and_true (is_variable w) _ t).0) (λ t. (and_true (is_ivar w) _ t).0) (starts_by w h)
    (sym (no_keyword here w (head ws) (starts_by w h)) ∙ c)

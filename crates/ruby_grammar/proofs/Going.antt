-- Each test passes some word.
use Rattle.std.proofs.Common.{◌≡◌, ℕ, zero, suc, ◌+◌, ◌<◌, Bool, true, false, List, [], ◌∷◌, ◌++◌, length, Some, None}
use Rattle.std.proofs.Common.{refl, codes, bytes_eq, arith}
use Rattle.ruby_token.specs.declared.token.Op.TheVariants as op
use Rattle.ruby_token.specs.declared.token.Op.{Op}
use Rattle.ruby_token.specs.declared.token.TokenKind.{TokenKind}
use Rattle.ruby_token.specs.declared.token.TokenKind.TheVariants as k
use Rattle.ruby_types.specs.declared.tree.Expr.{Expr}
use Rattle.ruby_types.specs.declared.tree.Stmt.{Stmt}
use Rattle.descent.specs.Grammar.{Prod, Among}
use Rattle.descent.specs.Lawful.{Goes}
use Rattle.ruby_grammar.specs.Words.{Word}
use Rattle.ruby_grammar.specs.Terminals.{Level, units, products, sums, comparisons, equalities, conjunctions}
use Rattle.ruby_grammar.specs.Terminals.{disjunctions}
use Rattle.ruby_grammar.specs.Terminals.{is_new_parameter, has, ends_in_suffix}
use Rattle.ruby_grammar.specs.Rules.{ruby, Sort, Rule, Body, Around, Scope, Block, file, definitions, more_definitions}
use Rattle.ruby_grammar.specs.Rules.{definition, path_rest, parent, constant, heading, parameter_list, parameters}
use Rattle.ruby_grammar.specs.Rules.{opened_path}
use Rattle.ruby_grammar.specs.Rules.{more_parameters, more_readers, statements, more_statements, statement}
use Rattle.ruby_grammar.specs.Rules.{simple_statement, condition_behind, then_or_line, perhaps_line, arms_rest}
use Rattle.ruby_grammar.specs.Rules.{perhaps_expression, expression, choice_rest, operators, more_operators, unary}
use Rattle.ruby_grammar.specs.Rules.{postfix, more_postfix, primary, name_rest, perhaps_arguments, members}
use Rattle.ruby_grammar.specs.Rules.{more_members, pairs, more_pairs, pair, text_parts}
use Rattle.ruby_grammar.specs.Language.{forms}
use Rattle.ruby_grammar.specs.Expressions as e
use Rattle.ruby_grammar.specs.Statements as s
use Rattle.ruby_grammar.specs.Definitions as d
use Rattle.ruby_grammar.proofs.Tools.{Each, each_among, each_append, each_opening, and_true}

-- ---- some words

-- a word of this kind and text at place 0, for examples of sentences
abbrev pub a_word : TokenKind → List ℕ → Word
a_word kind text = record { kind = kind; text = text; tight = true; at = 0 }

-- an operator's word, for examples of sentences; no test looks at its text
abbrev pub an_op : Op → Word
an_op o = a_word (k.Op o) []

-- ---- a name that is none of these

stretch : ℕ → List ℕ
stretch zero = []
stretch (suc n) = 122 ∷ stretch n

weight : List (List ℕ) → ℕ
weight [] = 0
weight (n ∷ ns) = length n + weight ns

stretch-length : (n : ℕ) → length (stretch n) ≡ n
unfolding stretch
stretch-length zero = refl
stretch-length (suc n) = omega (arith, stretch-length n)

equal_lengths : (a b : List ℕ) → bytes_eq a b ≡ true → length a ≡ length b
equal_lengths [] [] h = refl
equal_lengths [] (x ∷ b) h = cc
equal_lengths (x ∷ a) [] h = cc
equal_lengths (x ∷ a) (y ∷ b) h = omega (arith, equal_lengths a b (and_true _ _ h).1)

differs : (a b : List ℕ) → (length a ≡ length b → ⊥) → bytes_eq a b ≡ false
differs a b f = by (bytes_eq a b) refl
  where
    by : (c : Bool) → bytes_eq a b ≡ c → bytes_eq a b ≡ false
    by true e = absurd (f (equal_lengths a b e))
    by false e = e

none_of : (ns : List (List ℕ)) (n : ℕ) → weight ns < n → has ns (stretch n) ≡ false
unfolding weight
none_of [] n h = refl
none_of (m ∷ ns) n h =
    let here = differs m (stretch n) (λ e. omega (arith, h, e, stretch-length n)) in
    let others = none_of ns n (omega (arith, h)) in
    rw (here, others) refl

-- its text
pub fresh_text : List (List ℕ) → List ℕ
fresh_text ns = stretch (suc (weight ns))

no_suffix : (n : ℕ) → ends_in_suffix (stretch n) ≡ false
unfolding stretch
no_suffix zero = refl
no_suffix (suc zero) = refl
no_suffix (suc (suc n)) = no_suffix (suc n)

abbrev fresh : List (List ℕ) → Word
fresh ns = a_word k.Name (fresh_text ns)

fresh_is : (ns : List (List ℕ)) → is_new_parameter ns (fresh ns) ≡ true
unfolding fresh_text stretch
fresh_is ns = rw (no_suffix (suc (weight ns)), none_of ns (suc (weight ns)) (omega arith)) refl

-- ---- what goes

abbrev AllGo : {t : Sort} → List (Prod ruby t) → Type 0
AllGo ps = Each (λ p. Goes p) ps

opening_goes : {t : Sort} (levels : ℕ) (f : ℕ → Prod ruby t) (qs : List (Prod ruby t)) → ((n : ℕ) → Goes (f n)) →
    AllGo qs → AllGo (e.opening levels f ++ qs)
opening_goes levels f qs h k = each_append (λ p. Goes p) (e.opening levels f) qs
    (each_opening (λ p. Goes p) levels f h) k

opened_goes : {t : Sort} (levels : ℕ) (f : ℕ → Prod ruby t) → ((n : ℕ) → Goes (f n)) → AllGo (e.opening levels f)
opened_goes levels f h = each_opening (λ p. Goes p) levels f h

behind_goes : (b : Bool) (level : Level) (here : Scope) (a : Expr) → Goes (e.operators_behind b level here a)
behind_goes true level here a = λ z. tt
behind_goes false level here a = tt

operators_go : (level : Level) (here : Scope) → AllGo (e.operators_forms level here)
operators_go units here = (λ y. tt, tt)
operators_go products here = (λ y z. tt, tt)
operators_go sums here = (λ y z. tt, tt)
operators_go comparisons here = (λ y z. tt, tt)
operators_go equalities here = (λ y z. tt, tt)
operators_go conjunctions here = (λ y z. tt, tt)
operators_go disjunctions here = (λ y z. tt, tt)

set_goes : (sets : Bool) (here : Around) → AllGo (s.where_it_may sets (s.setting_ivar here))
set_goes true here = (((a_word k.Ivar [], refl), λ w t. ((an_op op.Assign, refl), λ w t. λ y. tt)), tt)
set_goes false here = tt

elsif_goes : (may_elsif : Bool) (levels : ℕ) (sets : Bool) (arms : List (Expr × List Stmt)) (b : Block) →
    AllGo (s.elsif_forms levels sets may_elsif arms b)
elsif_goes true levels sets arms b = (((a_word k.Name (codes "elsif"), refl), λ w t. λ x y z r. tt), tt)
elsif_goes false levels sets arms b = tt

branch_goes : (closed : Bool) (levels : ℕ) (sets may_elsif : Bool) (arms : List (Expr × List Stmt)) (b : Block) →
    AllGo (s.branch_forms closed levels sets may_elsif arms b)
branch_goes true levels sets may_elsif arms b = (
  ((a_word k.Name (codes "else"), refl), λ w t. λ x y. ((a_word k.Name (codes "end"), refl), λ w t. tt)),
  elsif_goes may_elsif levels sets arms b,
)
branch_goes false levels sets may_elsif arms b = tt

member_goes : (top : Bool) (here : Body) → AllGo (d.member_forms top here)
member_goes true here = tt
member_goes false here = (
  ((a_word k.Name (codes "include"), refl), λ w t. λ y. tt),
  (
    ((a_word k.Name (codes "attr_reader"), refl), λ w t. ((a_word k.Sym [], refl), λ w t. λ y. tt)),
    opened_goes here.levels (d.method_from here)
        (λ n. ((a_word k.Name (codes "def"), refl), λ w t. λ x y z. ((a_word k.Name (codes "end"), refl), λ w t. tt))),
  ),
)

goes_forms : {t : Sort} (rule : Rule t) → AllGo (forms rule)
goes_forms (file levels anywhere) = (((a_word k.Line [], refl), λ w t. λ y. tt), (λ y. tt, tt))
goes_forms (definitions here ds) = (λ y z. tt, (tt, tt))
goes_forms (more_definitions here ds) = (((a_word k.Line [], refl), λ w t. λ y. tt), (tt, tt))
goes_forms (definition here) = each_append (λ p. Goes p) (d.top_forms here) _ (
  ((a_word k.Const [], refl), λ w t. ((an_op op.Assign, refl), λ w t. λ y. tt)),
  opening_goes here.levels (d.module_from here) _
      (λ n. (
        (a_word k.Name (codes "module"), refl),
        λ w t. (
          (a_word k.Const [], refl),
          λ w t. λ x.
              ((a_word k.Line [], refl), λ w t. λ y. ((a_word k.Name (codes "end"), refl), λ w t. tt)),
        ),
      ))
      (opened_goes here.levels (d.class_from here)
      (λ n. (
        (a_word k.Name (codes "class"), refl),
        λ w t.
            ((a_word k.Const [], refl), λ w t. λ x y z. ((a_word k.Name (codes "end"), refl), λ w t. tt)),
      ))),
)
    (member_goes (d.at_top here.path) here)
goes_forms (path_rest true None names) =
    (((an_op op.Path, refl), λ w t. ((a_word k.Const [], refl), λ w t. λ y. tt)), (tt, tt))
goes_forms (path_rest true (Some m) names) =
    (((an_op op.Path, refl), λ w t. ((a_word k.Const [], refl), λ w t. λ y. tt)), (tt, tt))
goes_forms (path_rest false None names) = (tt, tt)
goes_forms (path_rest false (Some m) names) = (tt, tt)
goes_forms (opened_path true how names) =
    (((an_op op.Path, refl), λ w t. ((a_word k.Const [], refl), λ w t. λ y. tt)), (tt, tt))
goes_forms (opened_path false how names) = (tt, tt)
goes_forms (parent path at) = (
  ((an_op op.Less, refl), λ w t. λ x. ((a_word k.Line [], refl), λ w t. tt)),
  (((a_word k.Line [], refl), λ w t. tt), tt),
)
goes_forms (constant ending) = (
  ((an_op op.Path, refl), λ w t. ((a_word k.Const [], refl), λ w t. λ y. tt)),
  (((a_word k.Const [], refl), λ w t. λ y. tt), tt),
)
goes_forms (heading path) = (
  (
    (a_word k.Name (codes "self"), refl),
    λ w t.
        ((an_op op.Dot, refl), λ w t. ((a_word k.Name (codes "x"), refl), λ w t. tt)),
  ),
  (((a_word k.Name (codes "x"), refl), λ w t. tt), tt),
)
goes_forms (parameter_list levels) = (
  ((a_word k.Line [], refl), λ w t. tt),
  opened_goes levels d.parameters_from
      (λ n. (
        (an_op op.OpenParen, refl),
        λ w t. λ x.
            ((an_op op.CloseParen, refl), λ w t. ((a_word k.Line [], refl), λ w t. tt)),
      )),
)
goes_forms parameters = (((a_word k.Name (codes "x"), refl), λ w t. λ y. tt), (tt, tt))
goes_forms (more_parameters names) =
    (((an_op op.Comma, refl), λ w t. ((fresh names, fresh_is names), λ v u y. tt)), (tt, tt))
goes_forms (more_readers path names) =
    (((an_op op.Comma, refl), λ w t. ((a_word k.Sym [], refl), λ w t. λ y. tt)), (tt, tt))
goes_forms (statements here ss) = (λ y z. tt, (tt, tt))
goes_forms (more_statements here ss) = (((a_word k.Line [], refl), λ w t. λ y. tt), (tt, tt))
goes_forms (statement here) = (
  λ y z. tt,
  opening_goes here.levels (s.if_from here) _
      (λ n. ((a_word k.Name (codes "if"), refl), λ w t. λ x y z r. tt))
      (opened_goes here.levels (s.unless_from here)
      (λ n. ((a_word k.Name (codes "unless"), refl), λ w t. λ x y z r. tt))),
)
goes_forms (simple_statement here) = (
  ((a_word k.Name (codes "return"), refl), λ w t. λ y. tt),
  (
    ((a_word k.Name (codes "raise"), refl), λ w t. λ y. tt),
    (
      ((a_word k.Name (codes "x"), refl), λ w t. ((an_op op.Assign, refl), λ w t. λ y. tt)),
      each_append (λ p. Goes p) (s.where_it_may here.sets (s.setting_ivar here)) _ (set_goes here.sets here)
          (λ y. tt, tt),
    ),
  ),
)
goes_forms (condition_behind levels t) = (
  ((a_word k.Name (codes "if"), refl), λ w t. λ y. tt),
  (((a_word k.Name (codes "unless"), refl), λ w t. λ y. tt), (tt, tt)),
)
goes_forms then_or_line =
    (((a_word k.Name (codes "then"), refl), λ w t. λ y. tt), (((a_word k.Line [], refl), λ w t. tt), tt))
goes_forms perhaps_line = (((a_word k.Line [], refl), λ w t. tt), (tt, tt))
goes_forms (arms_rest levels sets may_elsif arms b) =
    (((a_word k.Name (codes "end"), refl), λ w t. tt), branch_goes b.closed levels sets may_elsif arms b)
goes_forms (perhaps_expression here) = (λ y. tt, (tt, tt))
goes_forms (expression here) = (λ y z. tt, tt)
goes_forms (choice_rest here x) =
    (((an_op op.Ask, refl), λ w t. λ y. ((an_op op.Colon, refl), λ w t. λ z. tt)), (tt, tt))
goes_forms (operators level here) = operators_go level here
goes_forms (more_operators products here x) = (((an_op op.Times, refl), λ w t. λ y z. tt), (tt, tt))
goes_forms (more_operators sums here x) = (((an_op op.Plus, refl), λ w t. λ y z. tt), (tt, tt))
goes_forms (more_operators comparisons here x) = (((an_op op.Less, refl), λ w t. λ y z. tt), (tt, tt))
goes_forms (more_operators equalities here x) = (((an_op op.Same, refl), λ w t. λ y. tt), (tt, tt))
goes_forms (more_operators conjunctions here x) = (((an_op op.AndAlso, refl), λ w t. λ y z. tt), (tt, tt))
goes_forms (more_operators disjunctions here x) = (((an_op op.OrElse, refl), λ w t. λ y z. tt), (tt, tt))
goes_forms (more_operators units here x) = (tt, tt)
goes_forms (unary here) = opening_goes here.levels (e.not_from here) _ (λ n. ((an_op op.Not, refl), λ w t. λ y. tt))
    (opening_goes here.levels (e.minus_from here) _ (λ n. ((an_op op.Minus, refl), λ w t. λ y. tt)) ((λ y. tt, tt)))
goes_forms (postfix here) = (λ y z. tt, tt)
goes_forms (more_postfix here x) = (
  ((an_op op.Dot, refl), λ w t. ((a_word k.Name (codes "x"), refl), λ w t. λ y z. tt)),
  opening_goes here.levels (e.index_from here x) _
      (λ n. ((an_op op.OpenBracket, refl), λ w t. λ y. ((an_op op.CloseBracket, refl), λ w t. λ z. tt))) ((tt, tt)),
)
goes_forms (primary here) = (
  ((a_word k.Int [], refl), λ w t. tt),
  (
    ((a_word k.TextOpen [], refl), λ w t. λ y. ((a_word k.TextClose [], refl), λ w t. tt)),
    (
      ((a_word k.Sym [], refl), λ w t. tt),
      (
        ((a_word k.Name (codes "nil"), refl), λ w t. tt),
        (
          ((a_word k.Name (codes "true"), refl), λ w t. tt),
          (
            ((a_word k.Name (codes "false"), refl), λ w t. tt),
            (
              ((a_word k.Name (codes "self"), refl), λ w t. tt),
              (
                ((a_word k.Name (codes "x"), refl), λ w t. λ y. tt),
                (
                  ((a_word k.Ivar [], refl), λ w t. tt),
                  (
                    λ y. tt,
                    opening_goes here.levels (e.array_from here) _
                        (λ n. ((an_op op.OpenBracket, refl), λ w t. λ y. ((an_op op.CloseBracket, refl), λ w t. tt)))
                        (opening_goes here.levels (e.hash_from here) _
                        (λ n. ((an_op op.OpenBrace, refl), λ w t. λ y. ((an_op op.CloseBrace, refl), λ w t. tt)))
                        (opened_goes here.levels (e.group_from here)
                        (λ n. ((an_op op.OpenParen, refl), λ w t. λ y. ((an_op op.CloseParen, refl), λ w t. tt))))),
                  ),
                ),
              ),
            ),
          ),
        ),
      ),
    ),
  ),
)
goes_forms (name_rest here name) = opening_goes here.levels (e.call_from here name) _
    (λ n. ((an_op op.OpenParen, refl), λ w t. λ y. ((an_op op.CloseParen, refl), λ w t. tt))) ((tt, tt))
goes_forms (perhaps_arguments here) = opening_goes here.levels (e.arguments_from here) _
    (λ n. ((an_op op.OpenParen, refl), λ w t. λ y. ((an_op op.CloseParen, refl), λ w t. tt))) ((tt, tt))
goes_forms (members here xs) = (λ y z. tt, (tt, tt))
goes_forms (pairs here xs) = (λ y z. tt, (tt, tt))
goes_forms (more_members here xs) = (((an_op op.Comma, refl), λ w t. λ y. tt), (tt, tt))
goes_forms (more_pairs here xs) = (((an_op op.Comma, refl), λ w t. λ y. tt), (tt, tt))
goes_forms (pair here) =
    (((a_word k.Label [], refl), λ w t. λ y. tt), (λ x. ((an_op op.Arrow, refl), λ w t. λ y. tt), tt))
goes_forms (text_parts here double parts) = (
  ((a_word k.TextPiece [], refl), λ w t. λ y. tt),
  opening_goes here.levels (e.inside_from here double parts) _
      (λ n. ((a_word k.InsideOpen [], refl), λ w t. λ y. ((a_word k.InsideClose [], refl), λ w t. λ z. tt))) ((tt, tt)),
)

-- the law `goes`: each test in an alternative passes some word, so no alternative is dead
pub goes_rule : {t : Sort} (rule : Rule t) (p : Prod ruby t) → Among p (forms rule) → Goes p
goes_rule rule p am = each_among (λ q. Goes q) (goes_forms rule) am

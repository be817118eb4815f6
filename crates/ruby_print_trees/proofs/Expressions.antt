-- Each alternative of the rules of expressions is fine.
use Rattle.std.proofs.Common.{Bool, true, false, List, Option, Some, None, refl, subst}
use Rattle.ruby_types.specs.declared.tree.Expr.{Expr}
use Rattle.ruby_types.specs.declared.tree.Part.{Part}
use Rattle.ruby_token.proofs.Words.{split_if}
use Rattle.ruby_grammar.specs.Terminals.{Level, units, products, sums, comparisons, equalities, conjunctions}
use Rattle.ruby_grammar.specs.Terminals.{disjunctions}
use Rattle.ruby_grammar.specs.Terminals.{has}
use Rattle.ruby_grammar.specs.Marks.{Mark}
use Rattle.ruby_grammar.specs.Rules.{PathOpening, opened_path}
use Rattle.ruby_grammar.specs.Rules.{Name, Scope, path_rest, constant, expression, choice_rest, operators}
use Rattle.ruby_grammar.specs.Rules.{more_operators, unary, postfix, more_postfix, primary, name_rest}
use Rattle.ruby_grammar.specs.Rules.{perhaps_arguments, members, more_members, pairs, more_pairs, pair, text_parts}
use Rattle.ruby_grammar.specs.Expressions as e
use Rattle.ruby_grammar.specs.Values.{text_bytes}
use Rattle.ruby_print_pieces.specs.Formed as f
use Rattle.ruby_print_trees.proofs.Meaning.{Fine, EachFine, Parts}
use Rattle.ruby_print_trees.proofs.Lists.{opened, opened_then, no_members, member_more, members_all, no_pairs}
use Rattle.ruby_print_trees.proofs.Lists.{pair_more, pairs_all, no_parts, inside_more, plain_more, parts_all}
use Rattle.ruby_print_trees.proofs.Lists.{no_plain_before, path_push}
use Rattle.ruby_print_trees.proofs.Words.{name_of, const_of, ivar_of, label_of, symbol_of, number_of_word, piece_of}
use Rattle.ruby_print_trees.proofs.Words.{operation_of}

-- ---- constants

-- Each production of the rule of a path's further names gives formed trees.
pub fine_path : (more : Bool) (ending : Option Mark) (names : List Name) → EachFine (path_rest more ending names)
fine_path true None names = (
  λ a w t s b w' t' s' b' y n c h. (λ p. h.0 (path_push names w'.text p (const_of w' t' s')), λ z. cc, refl),
  (λ a. (λ p. p, λ z. refl, refl), tt),
)
fine_path true (Some m) names = (
  λ a w t s b w' t' s' b' y n c h. (λ p. h.0 (path_push names w'.text p (const_of w' t' s')), λ z. cc, h.2),
  (λ a. (λ p. p, λ z. refl, refl), tt),
)
fine_path false None names = (λ a. (λ p. p, λ z. refl, refl), tt)
fine_path false (Some m) names = (λ a. (λ p. p, λ z. refl, refl), tt)

-- the rest of a path that is opened, and its deed
pub fine_opened : (more : Bool) (how : PathOpening) (names : List Name) → EachFine (opened_path more how names)
fine_opened true how names = (
  λ a w t s b w' t' s' b' y n c h. (λ p. h.0 (path_push names w'.text p (const_of w' t' s')), λ z. cc, h.2),
  (λ a. (λ p. p, λ z. refl, refl), tt),
)
fine_opened false how names = (λ a. (λ p. p, λ z. refl, refl), tt)

constant_from : (top : Bool) (ending : Option Mark) → Fine (constant ending) (e.constant_from top ending)
constant_from top None = λ a w t s b y n c h. (h.0 (const_of w t s, tt), refl)
constant_from top (Some m) = λ a w t s b y n c h. (h.0 (const_of w t s, tt), h.2)

-- Each production of the rule of constants gives formed trees.
pub fine_constant : (ending : Option Mark) → EachFine (constant ending)
fine_constant ending = (λ a w t s b. constant_from true ending (Some w), (constant_from false ending, tt))

-- ---- operators

-- Each production of the rule of expressions gives formed trees.
pub fine_expression : (here : Scope) → EachFine (expression here)
fine_expression here = (λ a x n b h y n' b' g. g h, tt)

-- Each production of the rule of what follows a choice gives formed trees.
pub fine_choice : (here : Scope) (x : Expr) → EachFine (choice_rest here x)
fine_choice here x = (λ a w t s b y n c h w' t' s' b' z n' c' g i. f.is_choice i h g, (λ a i. i, tt))

-- Each production of the rule of operators gives formed trees.
pub fine_operators : (level : Level) (here : Scope) → EachFine (operators level here)
fine_operators units here = (λ a x n b h. h, tt)
fine_operators products here = (λ a x n b h y n' b' g. g h, tt)
fine_operators sums here = (λ a x n b h y n' b' g. g h, tt)
fine_operators comparisons here = (λ a x n b h y n' b' g. g h, tt)
fine_operators equalities here = (λ a x n b h y n' b' g. g h, tt)
fine_operators conjunctions here = (λ a x n b h y n' b' g. g h, tt)
fine_operators disjunctions here = (λ a x n b h y n' b' g. g h, tt)

-- Each production of the rule of further operators gives formed trees.
pub fine_more_operators : (level : Level) (here : Scope) (x : Expr) → EachFine (more_operators level here x)
fine_more_operators units here x = (λ a i. i, tt)
fine_more_operators products here x =
    (λ a w t s b y n c h z n' c' g i. g (operation_of products w here.names x y t s i h), (λ a i. i, tt))
fine_more_operators sums here x = (
  λ a w t s b y n c h z n' c' g i. g (operation_of sums w here.names x y t s i h),
  (λ a i. i, tt),
)
fine_more_operators comparisons here x =
    (λ a w t s b y n c h z n' c' g i. g (operation_of comparisons w here.names x y t s i h), (λ a i. i, tt))
fine_more_operators equalities here x =
    (λ a w t s b y n c h i. operation_of equalities w here.names x y t s i h, (λ a i. i, tt))
fine_more_operators conjunctions here x =
    (λ a w t s b y n c h z n' c' g i. g (operation_of conjunctions w here.names x y t s i h), (λ a i. i, tt))
fine_more_operators disjunctions here x =
    (λ a w t s b y n c h z n' c' g i. g (operation_of disjunctions w here.names x y t s i h), (λ a i. i, tt))

-- Each production of the rule of unary operators gives formed trees.
pub fine_unary : (here : Scope) → EachFine (unary here)
fine_unary here =
    opened_then (unary here) here.levels (e.not_from here) _ (λ n a w t s b y m c h. f.is_not h)
    (opened_then (unary here) here.levels (e.minus_from here) _ (λ n a w t s b y m c h. f.is_minus h)
    (λ a y m c h. h, tt))

-- ---- primaries, and what stands behind them

-- Each production of the rule of calls and indexes gives formed trees.
pub fine_postfix : (here : Scope) → EachFine (postfix here)
fine_postfix here = (λ a x n b h y n' b' g. g h, tt)

-- Each production of the rule of further calls and indexes gives formed trees.
pub fine_more_postfix : (here : Scope) (x : Expr) → EachFine (more_postfix here x)
fine_more_postfix here x = (
  λ a w t s b w' t' s' b' xs n c h y n' c' g i. g (f.is_call i (name_of w' t' s') h),
  opened_then (more_postfix here x) here.levels (e.index_from here x) _
      (λ n a w t s b y m c h w' t' s' b' z m' c' g i. g (f.is_index i h)) (λ a i. i, tt),
)

-- Each production of the rule of primary expressions gives formed trees.
pub fine_primary : (here : Scope) → EachFine (primary here)
fine_primary here = (
  λ a w t s b. f.is_int (number_of_word w t s),
  (
    λ a w t s b ps n c g w' t' s' b'. f.is_text (g false (no_parts here.names) tt),
    (
      λ a w t s b. f.is_symbol (symbol_of w t s),
      (
        λ a w t s b. f.is_nil,
        (
          λ a w t s b. f.is_true,
          (
            λ a w t s b. f.is_false,
            (
              λ a w t s b. f.is_self,
              (
                λ a w t s b y n c g. g (name_of w t s),
                (
                  λ a w t s b. f.is_ivar (ivar_of w t s),
                  (
                    λ a y n c h. f.is_const h.0,
                    opened_then (primary here) here.levels (e.array_from here) _
                        (λ n a w t s b xs m c g w' t' s' b'. f.is_array (g (no_members here.names)))
                        (opened_then (primary here) here.levels (e.hash_from here) _
                        (λ n a w t s b ps m c g w' t' s' b'. f.is_hash (g (no_pairs here.names)))
                        (opened (primary here) here.levels (e.group_from here) (λ n a w t s b y m c h w' t' s' b'. h))),
                  ),
                ),
              ),
            ),
          ),
        ),
      ),
    ),
  ),
)

-- Each production of the rule of what follows a name gives formed trees.
pub fine_name : (here : Scope) (name : Name) → EachFine (name_rest here name)
fine_name here name =
    opened_then (name_rest here name) here.levels (e.call_from here name) _
    (λ n a w t s b xs m c g w' t' s' b' i. f.is_call_on_self i (g (no_members here.names))) (
      λ a i. split_if (λ x. f.Formed here.names f.one x) (has here.names name) _ _ (λ h. f.is_local i h)
          (λ h. f.is_call_on_self i f.no_more),
      tt,
    )

-- Each production of the rule of arguments gives formed trees.
pub fine_arguments : (here : Scope) → EachFine (perhaps_arguments here)
fine_arguments here = opened_then (perhaps_arguments here) here.levels (e.arguments_from here) _
    (λ n a w t s b xs m c g w' t' s' b'. g (no_members here.names)) (λ a. f.no_more, tt)

-- ---- lists

-- Each production of the rule of members gives formed trees.
pub fine_members : (here : Scope) (xs : List Expr) → EachFine (members here xs)
fine_members here xs = (
  λ a x n c h ys n' c' g i. g (member_more here.names xs x i h),
  (λ a i. members_all here.names xs i, tt),
)

-- Each production of the rule of further members gives formed trees.
pub fine_more_members : (here : Scope) (xs : List Expr) → EachFine (more_members here xs)
fine_more_members here xs = (λ a w t s b ys n c g i. g i, (λ a i. members_all here.names xs i, tt))

-- Each production of the rule of pairs gives formed trees.
pub fine_pairs : (here : Scope) (ps : List (Expr × Expr)) → EachFine (pairs here ps)
fine_pairs here ps = (
  λ a p n c h qs n' c' g i. g (pair_more here.names ps p i h),
  (λ a i. pairs_all here.names ps i, tt),
)

-- Each production of the rule of further pairs gives formed trees.
pub fine_more_pairs : (here : Scope) (ps : List (Expr × Expr)) → EachFine (more_pairs here ps)
fine_more_pairs here ps = (λ a w t s b qs n c g i. g i, (λ a i. pairs_all here.names ps i, tt))

-- Each production of the rule of one pair gives formed trees.
pub fine_pair : (here : Scope) → EachFine (pair here)
fine_pair here = (λ a w t s b y n c h. (f.is_symbol (label_of w t s), h), (λ a x n c h w t s b y n' c' g. (h, g), tt))

-- Each production of the rule of a text's parts gives formed trees.
pub fine_parts : (here : Scope) (double : Bool) (ps : List Part) → EachFine (text_parts here double ps)
fine_parts here double ps = (
  λ a w t s b qs n c g plain i p.
      g true (plain_more here.names ps (text_bytes double w.text)
      (subst (λ v. Parts here.names v ps) (no_plain_before plain a w p b t) i) (piece_of w t s double)) t,
  opened_then (text_parts here double ps) here.levels (e.inside_from here double ps) _
      (λ n a w t s b x m c h w' t' s' b' qs m' c' g plain i p. g false (inside_more here.names plain ps x i h) tt)
      (λ a plain i p. parts_all here.names plain ps i, tt),
)

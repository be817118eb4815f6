-- Each alternative of the rules of statements is fine.
use Rattle.std.proofs.Common.{◌≡◌, ℕ, Bool, true, false, List, [], Option, Some, None, refl}
use Rattle.ruby_types.specs.declared.tree.Expr.{Expr}
use Rattle.ruby_types.specs.declared.tree.Stmt.{Stmt}
use Rattle.ruby_types.specs.declared.tree.Stmt.TheVariants as stmt
use Rattle.ruby_grammar.specs.Rules.{Name, Known, Block, Around, Scope, statements, more_statements, statement}
use Rattle.ruby_grammar.specs.Rules.{simple_statement, condition_behind, then_or_line, perhaps_line, arms_rest}
use Rattle.ruby_grammar.specs.Rules.{perhaps_expression}
use Rattle.ruby_grammar.specs.Statements as r
use Rattle.ruby_grammar.proofs.Tools.{Each, each_append}
use Rattle.ruby_print_pieces.specs.Formed as f
use Rattle.ruby_print_pieces.specs.FormedStatements as t
use Rattle.ruby_print_trees.proofs.Meaning.{Fine, EachFine, Perhaps}
use Rattle.ruby_print_trees.proofs.Lists.{opened, opened_then, no_statements, statement_more, statements_all, no_arms}
use Rattle.ruby_print_trees.proofs.Lists.{arm_more}
use Rattle.ruby_print_trees.proofs.Words.{variable_of, ivar_of}

-- Each production of the rule of statements gives formed trees.
pub fine_statements : (here : Around) (ss : List Stmt) → EachFine (statements here ss)
fine_statements here ss = (
  λ a x n c h y n' c' g names i. g names (statement_more here.sets names here.names x.names ss x.stmt i h),
  (λ a names i. statements_all here.sets names here.names ss i, tt),
)

-- Each production of the rule of further statements gives formed trees.
pub fine_more_statements : (here : Around) (ss : List Stmt) → EachFine (more_statements here ss)
fine_more_statements here ss =
    (λ a w v s b y n c g names i. g names i, (λ a names i. statements_all here.sets names here.names ss i, tt))

-- ---- simple ones

returns_of : (sets : Bool) (names : List Name) (o : Option Expr) → Perhaps names o →
    t.FormedStmt sets t.simple names (stmt.Return o) names
returns_of sets names None h = t.returns
returns_of sets names (Some x) h = t.returns_value h

set_fine : (here : Around) (sets : Bool) → here.sets ≡ sets →
    Each (λ p. Fine (simple_statement here) p) (r.where_it_may sets (r.setting_ivar here))
set_fine here true e = (λ a w v s b w' v' s' b' x n c h. t.assigns_ivar e (ivar_of w v s) h, tt)
set_fine here false e = tt

-- Each production of the rule of simple statements gives formed trees.
pub fine_simple : (here : Around) → EachFine (simple_statement here)
fine_simple here = (
  λ a w v s b o n c h. returns_of here.sets here.names o h,
  (
    λ a w v s b x n c h. t.raises h,
    (
      λ a w v s b w' v' s' b' x n c h. t.assigns (variable_of w v s) h,
      each_append (λ p. Fine (simple_statement here) p) (r.where_it_may here.sets (r.setting_ivar here)) _
          (set_fine here here.sets refl)
          (λ a x n c h. t.evaluates h, tt),
    ),
  ),
)

-- Each production of the rule of a value that may lack gives formed trees.
pub fine_perhaps : (here : Scope) → EachFine (perhaps_expression here)
fine_perhaps here = (λ a x n c h. h, (λ a. tt, tt))

-- ---- conditions

-- Each production of the rule of a condition behind a statement gives formed trees.
pub fine_condition : (levels : ℕ) (x : Known) → EachFine (condition_behind levels x)
fine_condition levels x = (
  λ a w v s b y n c h sets names i. t.conditional i h,
  (
    λ a w v s b y n c h sets names i. t.conditional i (f.is_not h),
    (λ a sets names i. t.plain i, tt),
  ),
)

-- Each production of the rule of what stands behind a condition gives formed trees.
pub fine_then : EachFine then_or_line
fine_then = (λ a w v s b y n c h. tt, (λ a w v s b. tt, tt))

-- Each production of the rule of a line that may lack gives formed trees.
pub fine_line : EachFine perhaps_line
fine_line = (λ a w v s b. tt, (λ a. tt, tt))

elsif_fine : (levels : ℕ) (sets can may_elsif : Bool) (arms : List (Expr × List Stmt)) (l : Block) →
    Each (λ p. Fine (arms_rest levels sets can arms l) p) (r.elsif_forms levels sets may_elsif arms l)
elsif_fine levels sets can true arms l = (
  λ a w v s b x n c h u n1 c1 g y n2 c2 i z n3 c3 k names j.
      k names (arm_more sets names l.names y.names arms x y.stmts j.1 h (i l.names (no_statements sets l.names))),
  tt,
)
elsif_fine levels sets can false arms l = tt

branch_fine : (levels : ℕ) (sets may_elsif closed : Bool) (arms : List (Expr × List Stmt)) (l : Block) →
    Each (λ p. Fine (arms_rest levels sets may_elsif arms l) p) (r.branch_forms closed levels sets may_elsif arms l)
branch_fine levels sets may_elsif true arms l = (
  λ a w v s b u n c g y n' c' h w' v' s' b' names i. t.block i.0 (h l.names (no_statements sets l.names)),
  elsif_fine levels sets may_elsif may_elsif arms l,
)
branch_fine levels sets may_elsif false arms l = tt

-- Each production of the rule of an `if`'s further arms gives formed trees.
pub fine_arms : (levels : ℕ) (sets may_elsif : Bool) (arms : List (Expr × List Stmt)) (l : Block) →
    EachFine (arms_rest levels sets may_elsif arms l)
fine_arms levels sets may_elsif arms l =
    (λ a w v s b names i. t.block i.0 t.no_more, branch_fine levels sets may_elsif l.closed arms l)

-- Each production of the rule of one statement gives formed trees.
pub fine_statement : (here : Around) → EachFine (statement here)
fine_statement here = (
  λ a x n c h y n' c' g. g here.sets here.names h,
  opened_then (statement here) here.levels (r.if_from here) _
      (λ m a w v s b x n c h u n1 c1 g y n2 c2 i z n3 c3 k.
      k here.names (arm_more here.sets here.names here.names y.names [] x y.stmts
      (no_arms here.sets here.names) h (i here.names (no_statements here.sets here.names))))
      (opened (statement here) here.levels (r.unless_from here)
      (λ m a w v s b x n c h u n1 c1 g y n2 c2 i z n3 c3 k.
      k here.names (arm_more here.sets here.names here.names y.names [] _ y.stmts (no_arms here.sets here.names)
      (f.is_not h) (i here.names (no_statements here.sets here.names))))),
)

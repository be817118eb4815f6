-- What the statements and definitions that hold lists are printed as.
use Rattle.std.proofs.Common.{◌≡◌, ℕ, ◌+◌, ◌<◌, Bool, true, false, List, [], ◌∷◌, ◌++◌, length, map, take, get_or, cond}
use Rattle.std.proofs.Common.{Option, codes, refl, ap, ◌∙◌, sym, append-nil, arith}
use Rattle.std.specs.List.{flat_map}
use Rattle.std.proofs.lemmas.Grind.{common_steps}
use Rattle.std.proofs.lemmas.List.{take_more}
use Rattle.std.proofs.lemmas.List.Folds.{flat_map-map}
use Rattle.ruby_types.specs.declared.tree.ConstRef.{ConstRef}
use Rattle.ruby_types.specs.declared.tree.Expr.{Expr}
use Rattle.ruby_types.specs.declared.tree.Stmt.{Stmt, fold_out-Stmt, map-Stmt}
use Rattle.ruby_types.specs.declared.tree.Stmt.TheVariants as s
use Rattle.ruby_types.specs.declared.tree.Def.{Def, fold_out-Def, map-Def}
use Rattle.ruby_types.specs.declared.tree.Def.TheVariants as d
use Rattle.ruby_types.specs.Paths.{path_text}
use Rattle.ruby_print.specs.Pieces.{joined}
use Rattle.ruby_print.specs.Expressions.{alone}
use Rattle.ruby_print.specs.Statements.{Placed, deeper, line, inside, behind, otherwise, statement_step, statement}
use Rattle.ruby_print.specs.Statements.{statement_lines, statements_behind, statement_arms}
use Rattle.ruby_print.specs.Definitions.{body, parent_text, symbol, definition_step, definition, definition_lines}
use Rattle.ruby_print.proofs.Joins.{is_nil, nil-push}

-- Statements inside a definition are their lines, two spaces deeper.
pub statements_inside : (indent : List ℕ) (ss : List Stmt) → inside indent (map statement ss)
    ≡ 10 ∷ (statement_lines (deeper indent) ss ++ indent)
statements_inside indent ss = ap (λ t. 10 ∷ (t ++ indent)) (flat_map-map (line (deeper indent)) statement ss)

-- Definitions inside a definition are their lines, two spaces deeper.
pub definitions_inside : (indent : List ℕ) (ds : List Def) → inside indent (map definition ds)
    ≡ 10 ∷ (definition_lines (deeper indent) ds ++ indent)
definitions_inside indent ds = ap (λ t. 10 ∷ (t ++ indent)) (flat_map-map (line (deeper indent)) definition ds)

-- ---- an `if`

all_behind : (indent : List ℕ) (as' : List (Expr × List Stmt)) →
    flat_map (behind indent) (map (λ a. (a.0, map statement a.1)) as') ≡ flat_map (statements_behind indent) as'
all_behind indent [] = refl
all_behind indent (a ∷ as') =
    ap (λ t. (t ++ (codes " if " ++ alone a.0)) ++ flat_map (behind indent)
    (map (λ a. (a.0, map statement a.1)) as')) (flat_map-map (λ x. x indent) statement a.1)
    ∙ ap (λ t. statements_behind indent a ++ t) (all_behind indent as')

-- The text of an `if` behind its statement, read off the definition.
pub print-behind : (as' : List (Expr × List Stmt)) (other : List Stmt) (indent : List ℕ) →
    statement (s.If as' other true) indent ≡ flat_map (statements_behind indent) as'
print-behind as' other indent =
    ap (λ f. f indent) (fold_out-Stmt Placed statement_step (s.If as' other true)
    ∙ ap (λ l. statement_step (map-Stmt Stmt Placed statement l)) (s.outs-If as' other true))
    ∙ all_behind indent as'

-- The text of a block `if`, read off the definition.
pub print-If : (as' : List (Expr × List Stmt)) (other : List Stmt) (indent : List ℕ) →
    statement (s.If as' other false) indent ≡ statement_arms indent (codes "if ") as' ++
    (otherwise indent (map statement other) ++ codes "end")
print-If as' other indent =
    ap (λ f. f indent) (fold_out-Stmt Placed statement_step (s.If as' other false)
    ∙ ap (λ l. statement_step (map-Stmt Stmt Placed statement l)) (s.outs-If as' other false))

arm_assoc : (w c i t u : List ℕ) → w ++ (c ++ (i ++ (t ++ u))) ≡ (w ++ (c ++ (i ++ t))) ++ u
arm_assoc w c i t u = grind (arith, common_steps)

-- one arm more
arms-push : (indent word : List ℕ) (as' : List (Expr × List Stmt)) (a : Expr × List Stmt) →
    statement_arms indent word (as' ++ a ∷ []) ≡ statement_arms indent word as' ++
    (cond (is_nil as') word (codes "elsif ") ++ (alone a.0 ++ inside indent (map statement a.1)))
arms-push indent word [] a = ap (λ t. word ++ (alone a.0 ++ t)) (append-nil _)
arms-push indent word (b ∷ []) a =
    ap (λ t. word ++ (alone b.0 ++ (inside indent (map statement b.1) ++ t))) (arms-push indent (codes "elsif ") [] a)
    ∙ arm_assoc word (alone b.0) (inside indent (map statement b.1)) [] _
arms-push indent word (b ∷ c ∷ as') a =
    ap (λ t. word ++ (alone b.0 ++ (inside indent (map statement b.1) ++ t)))
    (arms-push indent (codes "elsif ") (c ∷ as') a)
    ∙ arm_assoc word (alone b.0) (inside indent (map statement b.1)) _ _

arm_steps : (o0 o1 o2 o3 o4 t w c i : List ℕ) → o1 ≡ o0 ++ t → o2 ≡ o1 ++ w → o3 ≡ o2 ++ c → o4 ≡ o3 ++ i →
    o4 ≡ o0 ++ (t ++ (w ++ (c ++ i)))
arm_steps o0 o1 o2 o3 o4 t w c i p q r z = grind (arith, common_steps)

-- One more arm keeps the invariant of the loop over arms.
pub arms-more : (indent : List ℕ) (as' : List (Expr × List Stmt)) (i : ℕ) (a : Expr × List Stmt)
    (o0 o1 o2 o3 o4 : List ℕ) (first : Bool) →
    i < length as' → a ≡ get_or as' i a →
    (first ≡ is_nil (take i as')) × (o1 ≡ o0 ++ statement_arms indent (codes "if ") (take i as')) →
    o2 ≡ o1 ++ cond first (codes "if ") (codes "elsif ") → o3 ≡ o2 ++ alone a.0 →
    o4 ≡ o3 ++ inside indent (map statement a.1) →
    (false ≡ is_nil (take (i + 1) as')) × (o4 ≡ o0 ++ statement_arms indent (codes "if ") (take (i + 1) as'))
arms-more indent as' i a o0 o1 o2 o3 o4 first h e inv b c z =
    rw (take_more as' i a h, ← e) (
      nil-push (take i as') a,
      arm_steps o0 o1 o2 o3 o4 _ _ _ _ inv.1 (rw inv.0 at b) c z
          ∙ ap (λ t. o0 ++ t) (sym (arms-push indent (codes "if ") (take i as') a)),
    )

-- ---- other statements

-- The text of an assignment, read off the definition.
pub print-Set : (name : List ℕ) (value : Expr) (indent : List ℕ) → statement (s.Set name value) indent
    ≡ name ++ (codes " = " ++ alone value)
print-Set name value indent = ap (λ f. f indent) (fold_out-Stmt Placed statement_step (s.Set name value)
    ∙ ap (λ l. statement_step (map-Stmt Stmt Placed statement l)) (s.outs-Set name value))

-- The text of an instance variable's assignment, read off the definition.
pub print-SetIvar : (name : List ℕ) (value : Expr) (indent : List ℕ) → statement (s.SetIvar name value) indent
    ≡ 64 ∷ (name ++ (codes " = " ++ alone value))
print-SetIvar name value indent = ap (λ f. f indent) (fold_out-Stmt Placed statement_step (s.SetIvar name value)
    ∙ ap (λ l. statement_step (map-Stmt Stmt Placed statement l)) (s.outs-SetIvar name value))

-- The text of `raise`, read off the definition.
pub print-Raise : (x : Expr) (indent : List ℕ) → statement (s.Raise x) indent ≡ codes "raise " ++ alone x
print-Raise x indent = ap (λ f. f indent) (fold_out-Stmt Placed statement_step (s.Raise x)
    ∙ ap (λ l. statement_step (map-Stmt Stmt Placed statement l)) (s.outs-Raise x))

-- ---- definitions

print-Module : (path : List (List ℕ)) (ds : List Def) (indent : List ℕ) → definition (d.Module path ds) indent
    ≡ codes "module " ++ (path_text path ++ body indent (map definition ds))
print-Module path ds indent = ap (λ f. f indent) (fold_out-Def Placed definition_step (d.Module path ds)
    ∙ ap (λ l. definition_step (map-Def Def Placed definition l)) (d.outs-Module path ds))

print-Class : (path : List (List ℕ)) (parent : Option ConstRef) (ds : List Def) (indent : List ℕ) →
    definition (d.Class path parent ds) indent
    ≡ codes "class " ++ (path_text path ++ (parent_text parent ++ body indent (map definition ds)))
print-Class path parent ds indent = ap (λ f. f indent) (fold_out-Def Placed definition_step (d.Class path parent ds)
    ∙ ap (λ l. definition_step (map-Def Def Placed definition l)) (d.outs-Class path parent ds))

print-Readers : (names : List (List ℕ)) (indent : List ℕ) → definition (d.Readers names) indent
    ≡ codes "attr_reader " ++ joined (map symbol names)
print-Readers names indent = ap (λ f. f indent) (fold_out-Def Placed definition_step (d.Readers names)
    ∙ ap (λ l. definition_step (map-Def Def Placed definition l)) (d.outs-Readers names))

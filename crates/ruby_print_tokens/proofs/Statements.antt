-- Printed statements are found as their pieces.
use Rattle.std.proofs.Common.{◌≡◌, Bool, true, false, List, [], ◌∷◌, map, ap, sym, ◌∙◌, subst, Some, None}
use Rattle.ruby_types.specs.declared.tree.Stmt.{Stmt, fold_out-Stmt, map-Stmt, out-Stmt}
use Rattle.ruby_types.specs.declared.tree.Stmt.TheVariants as stmt
use Rattle.ruby_types.specs.declared.tree.Stmt.TheOpen.{Stmt-F}
use Rattle.ruby_grammar.specs.Rules.{Name}
use Rattle.ruby_print.specs.Statements as print
use Rattle.ruby_print_pieces.specs.Statements.{Placed, statement, statement_step}
use Rattle.ruby_print_pieces.specs.FormedStatements as formed
use Rattle.ruby_print_pieces.specs.FormedStatements.{Form, Held, FormedStmt, simple, whole, several, branches}
use Rattle.ruby_print_pieces.proofs.Folds.{placed_statement}
use Rattle.ruby_print_tokens.proofs.StatementsLines.{Item, EachItem}
use Rattle.ruby_print_tokens.proofs.StatementsSimple.{expression_item, set_item, ivar_item, return_item}
use Rattle.ruby_print_tokens.proofs.StatementsSimple.{return_value_item, raise_item, behind_item}
use Rattle.ruby_print_tokens.proofs.StatementsArms.{EachArm, block_item}

print_level : (x : Stmt) (l : Stmt-F Stmt) → out-Stmt x ≡ l →
    print.statement x ≡ print.statement_step (map-Stmt Stmt print.Placed print.statement l)
print_level x l e = fold_out-Stmt print.Placed print.statement_step x
    ∙ ap (λ l. print.statement_step (map-Stmt Stmt print.Placed print.statement l)) e

item_level : (x : Stmt) (l : Stmt-F Stmt) → out-Stmt x ≡ l →
    Item (statement_step (map-Stmt Stmt Placed statement l))
    (print.statement_step (map-Stmt Stmt print.Placed print.statement l)) → Item (statement x) (print.statement x)
item_level x l e t = subst (λ f. Item f (print.statement x)) (sym (placed_statement x e))
    (subst (λ g. Item (statement_step (map-Stmt Stmt Placed statement l)) g) (sym (print_level x l e)) t)

abbrev Says : (f : Form) → Held f → Type 0
Says simple x = Item (statement x) (print.statement x)
Says whole x = Item (statement x) (print.statement x)
Says several ss = EachItem (map statement ss) (map print.statement ss)
Says branches as' = EachArm as'

says : {sets : Bool} {f : Form} {names after : List Name} {x : Held f} → FormedStmt sets f names x after → Says f x
says (formed.evaluates {x = x} h) = item_level _ _ (stmt.outs-Expr x) (expression_item h)
says (formed.assigns {n = n} {x = x} p h) = item_level _ _ (stmt.outs-Set n x) (set_item p.spelled h)
says (formed.assigns_ivar {n = n} {x = x} e p h) = item_level _ _ (stmt.outs-SetIvar n x) (ivar_item p h)
says formed.returns = item_level _ _ (stmt.outs-Return None) return_item
says (formed.returns_value {x = x} h) = item_level _ _ (stmt.outs-Return (Some x)) (return_value_item h)
says (formed.raises {x = x} h) = item_level _ _ (stmt.outs-Raise x) (raise_item h)
says (formed.plain h) = says h
says (formed.conditional {s = s} {x = x} h g) = item_level _ _ (stmt.outs-If ((x, s ∷ []) ∷ []) [] true)
    (behind_item g (says h))
says (formed.block {as' = as'} {other = other} h g) = item_level _ _ (stmt.outs-If as' other false)
    (block_item as' other (says h) (says g))
says formed.no_more = tt
says (formed.one_more h g) = (says h, says g)
says (formed.last_arm {names = names} h g) = ((names, h), says g, tt)
says (formed.arm_more {names = names} h g k) = ((names, h), says g, says k)

-- The law of statements: the lexer finds their pieces.
pub statement_items : {sets : Bool} {names after : List Name} {ss : List Stmt} →
    FormedStmt sets several names ss after → EachItem (map statement ss) (map print.statement ss)
statement_items h = says h

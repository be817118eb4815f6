-- How a reserved word is read that is an expression by itself.
use Rattle.std.proofs.Common.{◌≡◌, ◌∙◌, ℕ, false, ◌==◌, List, drop, Option, Some, Result, Ok, sym, subst}
use Rattle.descent.specs.Grammar.{token, give}
use Rattle.descent.specs.Reading.{take}
use Rattle.ruby_types.specs.declared.tree.Expr.{Expr}
use Rattle.ruby_grammar.specs.Words.{Word}
use Rattle.ruby_grammar.specs.Terminals.{is}
use Rattle.ruby_grammar.specs.Rules.{Scope, primary}
use Rattle.ruby_parse_cursor.specs.declared.fault.Fault.{Fault}
use Rattle.ruby_parse_cursor.specs.Views.{head_terminal, code_view}
use Rattle.ruby_parse_cursor.proofs.CodeLaws.{code_is}
use Rattle.ruby_parse_steps.specs.Gives.{GivesRule}
use Rattle.ruby_parse_steps.proofs.PrimaryLaws.{primary_at, word_reads}

-- A word of this code at hand is this value.
pub reserved_reads : (here : Scope) (n : ℕ) (x : Expr) (ws rest : List Word) (r : Result Expr Fault)
    (seen : Option ℕ) → seen ≡ code_view (head_terminal ws) → seen ≡ Some n → (98 == n) ≡ false →
    primary_at here n ≡ take (token (is n) λ _. give x) → r ≡ Ok x → rest ≡ drop 1 ws →
    GivesRule (primary here) ws r rest
reserved_reads here n x ws rest r seen at some word value given passed =
    subst (λ z. GivesRule (primary here) ws z rest) (sym given)
    (word_reads here n x ws rest (code_is _ n (sym at ∙ some)) word value passed)

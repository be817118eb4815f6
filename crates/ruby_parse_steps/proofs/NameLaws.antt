-- How names and arguments in parentheses are read.
use Rattle.std.proofs.Common.{◌≡◌, ℕ, suc, Bool, true, false, cond, List, [], ◌∷◌, drop, refl, ap, ◌∙◌, Result, Ok, Err}
use Rattle.std.proofs.Common.{None}
use Rattle.descent.specs.Grammar.{give, token, only}
use Rattle.descent.specs.Reading.{take, head, choose}
use Rattle.ruby_types.specs.declared.tree.Expr.{Expr}
use Rattle.ruby_types.specs.declared.tree.Expr.TheVariants as expr
use Rattle.ruby_grammar.specs.Words.{Word}
use Rattle.ruby_grammar.specs.Terminals.{is_name, has, is_tight_paren, is_close_paren}
use Rattle.ruby_grammar.specs.Rules.{Scope, an_expression, some_expressions, primary, name_rest, perhaps_arguments}
use Rattle.ruby_grammar.specs.Rules.{members}
use Rattle.ruby_grammar.specs.Values.{name_alone}
use Rattle.ruby_grammar.specs.Expressions.{at_levels, arguments_from, call_from}
use Rattle.ruby_grammar.specs.Choices.{ruby_choices, next_is, deepen}
use Rattle.ruby_parse_cursor.specs.Views.{head_terminal}
use Rattle.ruby_parse_cursor.specs.declared.fault.Fault.{Fault}
use Rattle.ruby_parse_cursor.specs.declared.fault.Fault.TheVariants as f
use Rattle.ruby_parse_steps.specs.Gives.{GivesRule}
use Rattle.ruby_parse_steps.specs.Primaries.{arguments_then, GivesArguments}
use Rattle.ruby_parse_steps.proofs.Descent.{g_give, g_chosen, g_word, g_deep}
use Rattle.ruby_parse_steps.proofs.EnclosedLaws.{enclosed_reads, enclosed_breaks, enclosed_lacks_close}
use Rattle.ruby_parse_steps.proofs.PrimaryLaws.{chosen_at}

-- ---- arguments
-- No level is left for arguments.
pub arguments_deep : (here : Scope) (ws : List Word) → here.levels ≡ 0 → GivesArguments here ws (Err f.Deep) ws
arguments_deep here ws l = λ s outer next c. g_deep outer ws (c ∙ ap (λ n. deepen n (arguments_then here next)) l)

module _ (here inner : Scope) (n : ℕ) (ws mid : List Word) (l : here.levels ≡ suc n)
    (p : next_is is_tight_paren (head ws) ≡ true) (d : mid ≡ drop 1 ws) (i : inner ≡ at_levels here n) where
  -- Arguments in parentheses.
  pub arguments_read : (args : List Expr) (behind rest : List Word) →
      GivesRule (members inner []) mid (Ok args) behind → next_is is_close_paren (head behind) ≡ true →
      rest ≡ drop 1 behind → GivesArguments here ws (Ok args) rest
  arguments_read args behind rest a q e = λ s outer next c r end k.
      enclosed_reads outer (λ h. members h []) next is_tight_paren is_close_paren here inner n ws mid
      (c ∙ ap (λ m. deepen m (arguments_then here next)) l) p d i args behind rest end r a q e k

  -- A fault in arguments.
  pub arguments_break : (e : Fault) (rest : List Word) → GivesRule (members inner []) mid (Err e) rest →
      GivesArguments here ws (Err e) rest
  arguments_break e rest a = λ s outer next c.
      enclosed_breaks outer (λ h. members h []) next is_tight_paren is_close_paren here inner n ws mid
      (c ∙ ap (λ m. deepen m (arguments_then here next)) l) p d i e rest a

  -- The closing parenthesis of arguments lacks.
  pub arguments_lack_close : (args : List Expr) (behind : List Word) →
      GivesRule (members inner []) mid (Ok args) behind → next_is is_close_paren (head behind) ≡ false →
      GivesArguments here ws (Err f.Unexpected) behind
  arguments_lack_close args behind a q = λ s outer next c.
      enclosed_lacks_close outer (λ h. members h []) next is_tight_paren is_close_paren here inner n ws mid
      (c ∙ ap (λ m. deepen m (arguments_then here next)) l) p d i args behind a q

-- Want of memory in arguments.
pub arguments_memory : (here : Scope) (ws rest : List Word) → GivesArguments here ws (Err f.Memory) rest
arguments_memory here ws rest = λ s outer next c ms. tt

-- ---- arguments, perhaps
perhaps_chosen : (here : Scope) (ws : List Word) (b : Bool) → next_is is_tight_paren (head ws) ≡ b →
    choose ruby_choices (perhaps_arguments here) ws ≡ cond b (deepen here.levels (arguments_from here)) (take (give []))
perhaps_chosen here ws b e = ap (λ b. cond b (deepen here.levels (arguments_from here)) (take (give []))) e

-- Arguments that may stand there, where they do.
pub perhaps_reads : (here : Scope) (args : List Expr) (ws rest : List Word) → next_is is_tight_paren (head ws)
    ≡ true → GivesArguments here ws (Ok args) rest → GivesRule (perhaps_arguments here) ws (Ok args) rest
perhaps_reads here args ws rest p g = g some_expressions (perhaps_arguments here) (λ xs. give xs)
    (perhaps_chosen here ws true p) (Ok args) rest (g_give {s = some_expressions} args rest)

-- A fault in arguments that may stand there.
pub perhaps_breaks : (here : Scope) (e : Fault) (ws rest : List Word) → next_is is_tight_paren (head ws) ≡ true →
    GivesArguments here ws (Err e) rest → GivesRule (perhaps_arguments here) ws (Err e) rest
perhaps_breaks here e ws rest p g = g some_expressions (perhaps_arguments here) (λ xs. give xs)
    (perhaps_chosen here ws true p)

-- No arguments stand there.
pub perhaps_none : (here : Scope) (ws : List Word) → next_is is_tight_paren (head ws) ≡ false →
    GivesRule (perhaps_arguments here) ws (Ok []) ws
perhaps_none here ws p = g_chosen {s = some_expressions} (perhaps_arguments here) (give []) ws ws (Ok [])
    (perhaps_chosen here ws false p) (g_give {s = some_expressions} [] ws)

-- ---- a name and what follows it
-- A name, and what follows it.
pub name_reads : (here : Scope) (w : Word) (ws mid rest : List Word) (r : Result Expr Fault) → head_terminal ws ≡ 0 →
    ws ≡ w ∷ mid → is_name w ≡ true → GivesRule (name_rest here w.text) mid r rest → GivesRule (primary here) ws r rest
name_reads here w ws mid rest r s e n g = g_chosen {s = an_expression} (primary here)
    (token is_name λ v. only (name_rest here v.text)) ws rest r (chosen_at here ws 0 _ s refl refl)
    (g_word {s = an_expression} is_name _ w ws mid rest r e n g)

rest_chosen : (here : Scope) (name : List ℕ) (ws : List Word) (b : Bool) → next_is is_tight_paren (head ws) ≡ b →
    choose ruby_choices (name_rest here name) ws ≡ cond b (deepen here.levels (call_from here name))
    (take (give (name_alone here.names name)))
rest_chosen here name ws b e =
    ap (λ b. cond b (deepen here.levels (call_from here name)) (take (give (name_alone here.names name)))) e

-- A call on self with its arguments.
pub call_reads : (here : Scope) (name : List ℕ) (args : List Expr) (ws rest : List Word) →
    next_is is_tight_paren (head ws) ≡ true → GivesArguments here ws (Ok args) rest →
    GivesRule (name_rest here name) ws (Ok (expr.Call None name args)) rest
call_reads here name args ws rest p g = g an_expression (name_rest here name) (λ xs. give (expr.Call None name xs))
    (rest_chosen here name ws true p) (Ok (expr.Call None name args)) rest
    (g_give {s = an_expression} (expr.Call None name args) rest)

-- A fault in the arguments of a call on self.
pub call_breaks : (here : Scope) (name : List ℕ) (e : Fault) (ws rest : List Word) → next_is is_tight_paren (head ws)
    ≡ true → GivesArguments here ws (Err e) rest → GivesRule (name_rest here name) ws (Err e) rest
call_breaks here name e ws rest p g = g an_expression (name_rest here name) (λ xs. give (expr.Call None name xs))
    (rest_chosen here name ws true p)

-- A name alone.
pub alone_reads : (here : Scope) (name : List ℕ) (ws : List Word) → next_is is_tight_paren (head ws) ≡ false →
    GivesRule (name_rest here name) ws (Ok (name_alone here.names name)) ws
alone_reads here name ws p = g_chosen {s = an_expression} (name_rest here name) (give (name_alone here.names name))
    ws ws (Ok (name_alone here.names name)) (rest_chosen here name ws false p)
    (g_give {s = an_expression} (name_alone here.names name) ws)

-- A name that is known is a local variable.
pub is_local : (here : Scope) (name : List ℕ) → has here.names name ≡ true →
    name_alone here.names name ≡ expr.Local name
is_local here name e = ap (λ b. cond b (expr.Local name) (expr.Call None name [])) e

-- A name that is not known is a call on self.
pub is_call : (here : Scope) (name : List ℕ) → has here.names name ≡ false →
    name_alone here.names name ≡ expr.Call None name []
is_call here name e = ap (λ b. cond b (expr.Local name) (expr.Call None name [])) e

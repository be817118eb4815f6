-- Calls and indexes behind an expression, as the code reads them.
use Rattle.std.specs.Prelude.{List, [], ◌∷◌, codes, Option, Some, None, Result, Ok, Err}
use Rattle.ruby_types.specs.declared.tree.Expr.{Expr}
use Rattle.ruby_types.specs.declared.tree.Expr.TheVariants as expr
use Rattle.ruby_grammar.specs.Words.{Word}
use Rattle.ruby_grammar.specs.Rules.{Scope, more_postfix}
use Rattle.ruby_parse_cursor.specs.declared.fault.Fault.{Fault}
use Rattle.ruby_parse_steps.specs.declared.postfixes.Postfix.{Postfix}
use Rattle.ruby_parse_steps.specs.declared.postfixes.Postfix.TheVariants as behind
use Rattle.ruby_parse_steps.specs.Gives.{GivesRule, GivesMore}

-- the expression with this behind it: `a[b]` is the call `[]`
abbrev pub with_postfix : Expr → Postfix → Expr
with_postfix x (behind.Call name args) = expr.Call (Some x) name args
with_postfix x (behind.Index i) = expr.Call (Some x) (codes "[]") (i ∷ [])

-- What was returned stands behind any expression, and what follows goes on with both.
abbrev pub GivesPostfix : Scope → List Word → Result Postfix Fault → List Word → Type 0
GivesPostfix here ws (Ok p) rest = (x : Expr) → GivesMore (more_postfix here) x ws (Ok (with_postfix x p)) rest
GivesPostfix here ws (Err e) rest = (x : Expr) → GivesRule (more_postfix here x) ws (Err e) rest

-- The same where nothing may stand there, and an expression is whole.
abbrev pub GivesPerhapsPostfix : Scope → List Word → Result (Option Postfix) Fault → List Word → Type 0
GivesPerhapsPostfix here ws (Ok (Some p)) rest = GivesPostfix here ws (Ok p) rest
GivesPerhapsPostfix here ws (Ok None) rest = (x : Expr) → GivesRule (more_postfix here x) ws (Ok x) rest
GivesPerhapsPostfix here ws (Err e) rest = GivesPostfix here ws (Err e) rest

-- Steps of the reading of one statement.
use Rattle.std.proofs.Common.{◌≡◌, Bool, true, false, List, [], ◌∷◌, drop, sym}
use Rattle.std.proofs.Common.{subst, Result, Ok, Err}
use Rattle.std.proofs.lemmas.Bool.{eqb-true}
use Rattle.ruby_types.specs.declared.tree.Expr.{Expr}
use Rattle.descent.specs.Grammar.{Prod, give, token, call}
use Rattle.descent.specs.Reading.{take, head, choose}
use Rattle.ruby_grammar.specs.Words.{Word}
use Rattle.ruby_grammar.specs.Rules.{ruby, Sort, Val, Rule, Known, Scope, a_statement, expression}
use Rattle.ruby_grammar.specs.Choices.{ruby_choices, next_is}
use Rattle.ruby_parse_cursor.specs.declared.fault.Fault.{Fault}
use Rattle.ruby_parse_cursor.specs.declared.fault.Fault.TheVariants as f
use Rattle.ruby_parse_steps.specs.Gives.{Gives, GivesRule}
use Rattle.ruby_parse_steps.proofs.Descent.{g_give, g_chosen, g_word, g_skip, g_lacks, g_then, g_fails, g_memory}

-- a word that passes, whatever it is
pub skips : (test : Word → Bool) (p : Prod ruby a_statement) (ws mid rest : List Word) (r : Result Known Fault) →
    next_is test (head ws) ≡ true → mid ≡ drop 1 ws → Gives p mid r rest →
    Gives {s = a_statement} (token test λ _. p) ws r rest
skips test p ws mid rest r t d g = g_skip {s = a_statement} test (λ _. p) ws mid rest r t d (λ _. g)

-- A word at hand, and what follows it.
pub passes : (test : Word → Bool) (next : Word → Prod ruby a_statement) (w : Word) (ws mid rest : List Word)
    (r : Result Known Fault) → ws ≡ w ∷ mid → test w ≡ true → Gives {s = a_statement} (next w) mid r rest →
    Gives {s = a_statement} (token test next) ws r rest
passes test next w ws mid rest r e t g = g_word {s = a_statement} test next w ws mid rest r e t g

-- A fault that is equal to one of a law.
pub fails : {s : Sort} (p : Prod ruby s) (ws rest : List Word) (e : Fault) → rest ≡ ws → e ≡ f.Unexpected →
    Gives {s = s} p ws (Err f.Unexpected) ws → Gives {s = s} p ws (Err e) rest
fails {s} p ws rest e d u g = subst (λ x. Gives {s = s} p ws (Err x) rest) (sym u)
    (subst (λ l. Gives {s = s} p ws (Err f.Unexpected) l) (sym d) g)

-- A word that lacks.
pub lacks : (test : Word → Bool) (next : Word → Prod ruby a_statement) (ws rest : List Word) (e : Fault) →
    rest ≡ ws → next_is test (head ws) ≡ false → e ≡ f.Unexpected →
    Gives {s = a_statement} (token test next) ws (Err e) rest
lacks test next ws rest e d t u = fails {s = a_statement} (token test next) ws rest e d u
    (g_lacks {s = a_statement} test next ws t)

-- an expression
pub value : (here : Scope) (next : Expr → Known) (x : Expr) (ws rest : List Word) →
    GivesRule (expression here) ws (Ok x) rest →
    Gives {s = a_statement} (call (expression here) λ x. give (next x)) ws (Ok (next x)) rest
value here next x ws rest g = g_then {s = a_statement} (expression here) (λ x. give (next x)) x ws rest rest
    (Ok (next x)) g (g_give {s = a_statement} (next x) rest)

-- An expression, and what follows it.
pub value_then : (here : Scope) (next : Expr → Prod ruby a_statement) (x : Expr) (ws mid rest : List Word)
    (r : Result Known Fault) → GivesRule (expression here) ws (Ok x) mid →
    Gives {s = a_statement} (next x) mid r rest → Gives {s = a_statement} (call (expression here) next) ws r rest
value_then here next x ws mid rest r g h = g_then {s = a_statement} (expression here) next x ws mid rest r g h

-- A fault in an expression.
pub value_fails : (here : Scope) (next : Expr → Prod ruby a_statement) (e : Fault) (ws rest : List Word) →
    GivesRule (expression here) ws (Err e) rest → Gives {s = a_statement} (call (expression here) next) ws (Err e) rest
value_fails here next e ws rest g = g_fails {s = a_statement} (expression here) next ws rest e g

-- what another rule says
pub rule_then : {v : Sort} (rule : Rule v) (next : Val v → Prod ruby a_statement) (y : Val v)
    (ws mid rest : List Word) (r : Result Known Fault) → GivesRule {s = v} rule ws (Ok y) mid →
    Gives {s = a_statement} (next y) mid r rest → Gives {s = a_statement} (call rule next) ws r rest
rule_then {v} rule next y ws mid rest r g h = g_then {s = a_statement} {v = v} rule next y ws mid rest r g h

-- A fault of a rule stops what calls it.
pub rule_fails : {v : Sort} (rule : Rule v) (next : Val v → Prod ruby a_statement) (e : Fault)
    (ws rest : List Word) → GivesRule {s = v} rule ws (Err e) rest →
    Gives {s = a_statement} (call rule next) ws (Err e) rest
rule_fails {v} rule next e ws rest g = g_fails {s = a_statement} {v = v} rule next ws rest e g

-- What the chosen production reads, the rule reads.
pub picked : (rule : Rule a_statement) (p : Prod ruby a_statement) (ws rest : List Word) (r : Result Known Fault) →
    choose ruby_choices rule ws ≡ take p → Gives p ws r rest → GivesRule rule ws r rest
picked rule p ws rest r c g = g_chosen {s = a_statement} rule p ws rest r c g

-- want of memory is free
pub unmade : (p : Prod ruby a_statement) (ws rest : List Word) (e : Fault) → e ≡ f.Memory → Gives p ws (Err e) rest
unmade p ws rest e u = subst (λ x. Gives p ws (Err x) rest) (sym u) (g_memory {s = a_statement} p ws rest)

-- ---- words of two terminals

-- ---- lengths

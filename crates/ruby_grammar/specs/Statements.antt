-- The rules of statements.
use Rattle.std.specs.Prelude.{ℕ, Bool, true, false, List, [], ◌∷◌, ◌++◌, Some, None}
use Rattle.ruby_types.specs.declared.tree.Expr.{Expr}
use Rattle.ruby_types.specs.declared.tree.Expr.TheVariants as expr
use Rattle.ruby_types.specs.declared.tree.Stmt.{Stmt}
use Rattle.ruby_types.specs.declared.tree.Stmt.TheVariants as stmt
use Rattle.descent.specs.Grammar.{Prod, give, token, call, only}
use Rattle.ruby_grammar.specs.Terminals.{is_variable, is_ivar, is_assign, is_return, is_raise, is_if, is_unless}
use Rattle.ruby_grammar.specs.Terminals.{is_elsif}
use Rattle.ruby_grammar.specs.Terminals.{is_else, is_end, is_then, is_line}
use Rattle.ruby_grammar.specs.Rules.{ruby, Name, Known, Block, Around, Scope, a_statement, a_block, no_value}
use Rattle.ruby_grammar.specs.Rules.{perhaps_an_expression}
use Rattle.ruby_grammar.specs.Rules.{statements, more_statements, statement, simple_statement, condition_behind}
use Rattle.ruby_grammar.specs.Rules.{then_or_line, perhaps_line, arms_rest, perhaps_expression, expression}
use Rattle.ruby_grammar.specs.Values.{behind_sign}
use Rattle.ruby_grammar.specs.Expressions.{opening}

-- what stands around the expressions of a statement
abbrev pub scope_of : Around → Scope
scope_of here = record { levels = here.levels; names = here.names }

-- the levels left and the variables known, as what stands around an expression
abbrev pub scope : ℕ → List Name → Scope
scope levels names = record { levels = levels; names = names }

-- the levels left, whether `@x =` may stand, and the variables known, as what stands around a statement
abbrev pub around : ℕ → Bool → List Name → Around
around levels sets names = record { levels = levels; sets = sets; names = names }

-- the same place, behind what makes these names known
abbrev pub behind : Around → List Name → Around
behind here names = record { levels = here.levels; sets = here.sets; names = names }

-- a statement, with the variables known behind it
abbrev pub known : Stmt → List Name → Known
known s names = record { stmt = s; names = names }

-- statements, with the variables known behind them and whether the last has its Line
abbrev pub block : List Stmt → List Name → Bool → Block
block ss names closed = record { stmts = ss; names = names; closed = closed }

-- { stmt L }, where the last one may lack its Line before `end`
abbrev pub statement_then : Around → List Stmt → Prod ruby a_block
statement_then here ss = call (statement here) λ s. only (more_statements (behind here s.names) (ss ++ s.stmt ∷ []))

-- { stmt L }, behind these: one statement more, or no more, each with its Line
abbrev pub statements_forms : Around → List Stmt → List (Prod ruby a_block)
statements_forms here ss = statement_then here ss ∷ give (block ss here.names true) ∷ []

-- behind a statement: a Line and perhaps more, or the block's end without one
abbrev pub more_statements_forms : Around → List Stmt → List (Prod ruby a_block)
more_statements_forms here ss = (token is_line λ _. only (statements here ss)) ∷ give (block ss here.names false) ∷ []

-- simple = "return" [ expr ] | "raise" expr | NAME "=" expr | IVAR "=" expr | expr
abbrev pub returning : Around → Prod ruby a_statement
returning here = token is_return λ _. call (perhaps_expression (scope_of here)) λ o.
    give (known (stmt.Return o) here.names)

-- "raise" expr
abbrev pub raising : Around → Prod ruby a_statement
raising here = token is_raise λ _. call (expression (scope_of here)) λ x. give (known (stmt.Raise x) here.names)

-- the variable is known from its name on
abbrev pub setting : Around → Prod ruby a_statement
setting here = token is_variable λ w. token is_assign λ _.
    call (expression (scope here.levels (w.text ∷ here.names))) λ x.
    give (known (stmt.Set w.text x) (w.text ∷ here.names))

-- an instance variable is assigned only in a method `initialize` that isn't a singleton's
abbrev pub setting_ivar : Around → Prod ruby a_statement
setting_ivar here = token is_ivar λ w. token is_assign λ _. call (expression (scope_of here)) λ x.
    give (known (stmt.SetIvar (behind_sign w.text) x) here.names)

-- an expression alone, for its effects or as the method's value
abbrev pub evaluating : Around → Prod ruby a_statement
evaluating here = call (expression (scope_of here)) λ x. give (known (stmt.Expr x) here.names)

-- one alternative where the flag is true, else none
abbrev pub where_it_may : {A : Type 0} → Bool → A → List A
where_it_may true a = a ∷ []
where_it_may false a = []

-- the forms of a simple statement, with `@x =` only where it may stand
abbrev pub simple_statement_forms : Around → List (Prod ruby a_statement)
simple_statement_forms here = returning here ∷ raising here ∷ setting here ∷
    (where_it_may here.sets (setting_ivar here) ++ (evaluating here ∷ []))

-- [ expr ], behind `return`
abbrev pub perhaps_expression_forms : Scope → List (Prod ruby perhaps_an_expression)
perhaps_expression_forms here = (call (expression here) λ x. give (Some x)) ∷ give None ∷ []

-- simple [ ("if" | "unless") expr ]
abbrev pub if_behind : ℕ → Known → Prod ruby a_statement
if_behind levels s = token is_if λ _. call (expression (scope levels s.names)) λ x.
    give (known (stmt.If ((x, s.stmt ∷ []) ∷ []) [] true) s.names)

-- "unless" expr behind a statement: the `if` of the negated condition
abbrev pub unless_behind : ℕ → Known → Prod ruby a_statement
unless_behind levels s = token is_unless λ _. call (expression (scope levels s.names)) λ x.
    give (known (stmt.If ((expr.Not x, s.stmt ∷ []) ∷ []) [] true) s.names)

-- [ ("if" | "unless") expr ], behind a simple statement
abbrev pub condition_behind_forms : ℕ → Known → List (Prod ruby a_statement)
condition_behind_forms levels s = if_behind levels s ∷ unless_behind levels s ∷ give s ∷ []

-- "then" | L, and a Line may stand behind `then`
abbrev pub then_or_line_forms : List (Prod ruby no_value)
then_or_line_forms = (token is_then λ _. only perhaps_line) ∷ (token is_line λ _. give tt) ∷ []

-- [ L ], behind `then` and `else`
abbrev pub perhaps_line_forms : List (Prod ruby no_value)
perhaps_line_forms = (token is_line λ _. give tt) ∷ give tt ∷ []

-- a condition, its statements and what follows them; arms are there before
abbrev pub arm_from : ℕ → Bool → Bool → (Expr → Expr) → List Name → List (Expr × List Stmt) → Prod ruby a_statement
arm_from levels sets may_elsif condition names arms =
    call (expression (scope levels names)) λ x. call then_or_line λ _.
    call (statements (around levels sets names) []) λ b.
    only (arms_rest levels sets may_elsif (arms ++ (condition x, b.stmts) ∷ []) b)

-- ("if" | "unless") expr ("then" | L) { stmt L } { "elsif" expr ("then" | L) { stmt L } } [ "else" [ L ] { stmt L } ]
-- "end"
abbrev pub if_from : Around → ℕ → Prod ruby a_statement
if_from here levels = token is_if λ _. arm_from levels here.sets true (λ x. x) here.names []

-- an `unless` is the `if` of its negated condition, and has no `elsif`
abbrev pub unless_from : Around → ℕ → Prod ruby a_statement
unless_from here levels = token is_unless λ _. arm_from levels here.sets false (λ x. expr.Not x) here.names []

-- "elsif" and one arm more, in which the variables of the arms before are known
abbrev pub elsif_more : ℕ → Bool → List (Expr × List Stmt) → Block → Prod ruby a_statement
elsif_more levels sets arms b = token is_elsif λ _. arm_from levels sets true (λ x. x) b.names arms

-- "else" [ L ] { stmt L } "end"; so the tree knows that there was an `else`, even an empty one
abbrev pub else_more : ℕ → Bool → List (Expr × List Stmt) → Block → Prod ruby a_statement
else_more levels sets arms b = token is_else λ _. call perhaps_line λ _.
    call (statements (around levels sets b.names) []) λ c. token is_end λ _.
    give (known (stmt.If arms c.stmts false) c.names)

-- "end" right behind the arms: there is no `else`
abbrev pub arms_end : List (Expr × List Stmt) → Block → Prod ruby a_statement
arms_end arms b = token is_end λ _. give (known (stmt.If arms [] false) b.names)

-- No Line may lack before `elsif` and `else`; behind `unless` there is no `elsif`.
abbrev pub elsif_forms : ℕ → Bool → Bool → List (Expr × List Stmt) → Block → List (Prod ruby a_statement)
elsif_forms levels sets may_elsif arms b = where_it_may may_elsif (elsif_more levels sets arms b)

-- `else` or `elsif`, only where the last statement of the arm has its Line
abbrev pub branch_forms : Bool → ℕ → Bool → Bool → List (Expr × List Stmt) → Block → List (Prod ruby a_statement)
branch_forms true levels sets may_elsif arms b = else_more levels sets arms b ∷ elsif_forms levels sets may_elsif arms b
branch_forms false levels sets may_elsif arms b = []

-- behind an arm's statements: `end`, or a branch more
abbrev pub arms_rest_forms : ℕ → Bool → Bool → List (Expr × List Stmt) → Block → List (Prod ruby a_statement)
arms_rest_forms levels sets may_elsif arms b = arms_end arms b ∷ branch_forms b.closed levels sets may_elsif arms b

-- a simple statement and perhaps a condition behind it, or an `if` or `unless`, which opens a level
abbrev pub statement_forms : Around → List (Prod ruby a_statement)
statement_forms here =
    (call (simple_statement here) λ s. only (condition_behind here.levels s))
    ∷ (opening here.levels (if_from here) ++ opening here.levels (unless_from here))

-- The rules of expressions.
use Rattle.std.specs.Prelude.{ℕ, zero, suc, Bool, true, false, List, [], ◌∷◌, ◌++◌, Option, Some, None, codes}
use Rattle.ruby_types.specs.declared.tree.Expr.{Expr}
use Rattle.ruby_types.specs.declared.tree.Expr.TheVariants as expr
use Rattle.ruby_types.specs.declared.tree.Part.{Part}
use Rattle.ruby_types.specs.declared.tree.Part.TheVariants as part
use Rattle.descent.specs.Grammar.{Prod, give, token, call, mark, only}
use Rattle.ruby_grammar.specs.Terminals.{Level, units, disjunctions, tighter, is_operator, repeats, is_name, is_not}
use Rattle.ruby_grammar.specs.Terminals.{is_minus, is_ask, is_colon, is_dot, is_path, is_const, is_comma, is_arrow}
use Rattle.ruby_grammar.specs.Terminals.{is_int}
use Rattle.ruby_grammar.specs.Terminals.{is_text_open, is_text_piece, is_text_close, is_inside_open, is_inside_close}
use Rattle.ruby_grammar.specs.Terminals.{is_sym, is_label, is_ivar, is_nil, is_true, is_false, is_self, is_open_paren}
use Rattle.ruby_grammar.specs.Terminals.{is_close_paren, is_open_bracket, is_close_bracket, is_open_brace}
use Rattle.ruby_grammar.specs.Terminals.{is_close_brace}
use Rattle.ruby_grammar.specs.Terminals.{is_tight_paren, is_tight_bracket}
use Rattle.ruby_grammar.specs.Marks.{Mark}
use Rattle.ruby_grammar.specs.Rules.{ruby, Name, Sort, Scope, an_expression, some_expressions, some_pairs, a_pair}
use Rattle.ruby_grammar.specs.Rules.{some_parts, a_constant, some_names}
use Rattle.ruby_grammar.specs.Rules.{constant, path_rest, expression, choice_rest, operators, more_operators, unary}
use Rattle.ruby_grammar.specs.Rules.{postfix, more_postfix, primary, name_rest, perhaps_arguments, members}
use Rattle.ruby_grammar.specs.Rules.{more_members, pairs, more_pairs, pair, text_parts}
use Rattle.ruby_grammar.specs.Values.{number_of, behind_sign, before_colon, text_bytes, is_double_quote, operation}
use Rattle.ruby_grammar.specs.Values.{name_alone}

-- what opens a level stands only where one is left
abbrev pub opening : {s : Sort} → ℕ → (ℕ → Prod ruby s) → List (Prod ruby s)
opening zero inside = []
opening (suc levels) inside = inside levels ∷ []

-- the scope with so many levels
abbrev pub at_levels : Scope → ℕ → Scope
at_levels here levels = record { levels = levels; names = here.names }

-- cref = [ "::" ] CONST { "::" CONST }
abbrev pub constant_from : Bool → Option Mark → Prod ruby a_constant
constant_from top ending = token is_const λ w. call (path_rest true ending (w.text ∷ [])) λ path.
    give (record { top = top; path = path })

-- cref with `::` before it or without: of `::A::B` the path is A, B from the top
abbrev pub constant_forms : Option Mark → List (Prod ruby a_constant)
constant_forms ending = (token is_path λ _. constant_from true ending) ∷ constant_from false ending ∷ []

-- behind a path's end comes the mark, if there is one
abbrev pub path_end : Option Mark → List Name → Prod ruby some_names
path_end None names = give names
path_end (Some m) names = mark m (give names)

-- "::" CONST, and perhaps more of the path
abbrev pub path_more : Option Mark → List Name → Prod ruby some_names
path_more ending names = token is_path λ _. token is_const λ w. only (path_rest true ending (names ++ w.text ∷ []))

-- { "::" CONST } and the path's end; where the flag is false the end alone
abbrev pub path_rest_forms : Bool → Option Mark → List Name → List (Prod ruby some_names)
path_rest_forms true ending names = path_more ending names ∷ path_end ending names ∷ []
path_rest_forms false ending names = path_end ending names ∷ []

-- expr = or [ "?" expr ":" expr ]
abbrev pub expression_from : Scope → Prod ruby an_expression
expression_from here = call (operators disjunctions here) λ a. only (choice_rest here a)

-- an expression has one form: operators of the loosest level, and perhaps a choice behind them
abbrev pub expression_forms : Scope → List (Prod ruby an_expression)
expression_forms here = expression_from here ∷ []

-- "?" expr ":" expr, behind the condition
abbrev pub choice_more : Scope → Expr → Prod ruby an_expression
choice_more here a = token is_ask λ _. call (expression here) λ b. token is_colon λ _. call (expression here) λ c.
    give (expr.Choose a b c)

-- [ "?" expr ":" expr ], behind the condition
abbrev pub choice_rest_forms : Scope → Expr → List (Prod ruby an_expression)
choice_rest_forms here a = choice_more here a ∷ give a ∷ []

-- or = and { "||" and }, and so on down to prod = unary { ("*" | "/" | "%") unary }
abbrev pub operators_from : Level → Scope → Prod ruby an_expression
operators_from units here = only (unary here)
operators_from level here = call (operators (tighter level) here) λ a. only (more_operators level here a)

-- operators of a level have one form: an operand, and perhaps operators behind it
abbrev pub operators_forms : Level → Scope → List (Prod ruby an_expression)
operators_forms level here = operators_from level here ∷ []

-- where operators of the level may stand in a row, more may follow
abbrev pub operators_behind : Bool → Level → Scope → Expr → Prod ruby an_expression
operators_behind true level here a = only (more_operators level here a)
operators_behind false level here a = give a

-- an operator of the level and its second operand; so `a - b - c` is `(a - b) - c`, and `a == b == c` is none
abbrev pub operator_more : Level → Scope → Expr → Prod ruby an_expression
operator_more level here a = token (is_operator level) λ w. call (operators (tighter level) here) λ b.
    operators_behind (repeats level) level here (operation w a b)

-- one operator more of the level, or none; of unary operands never one
abbrev pub more_operators_forms : Level → Scope → Expr → List (Prod ruby an_expression)
more_operators_forms units here a = give a ∷ []
more_operators_forms level here a = operator_more level here a ∷ give a ∷ []

-- unary = ("!" | "-") unary | post
abbrev pub not_from : Scope → ℕ → Prod ruby an_expression
not_from here levels = token is_not λ _. call (unary (at_levels here levels)) λ a. give (expr.Not a)

-- "-" unary, a call of `-@`; it opens a level
abbrev pub minus_from : Scope → ℕ → Prod ruby an_expression
minus_from here levels = token is_minus λ _. call (unary (at_levels here levels)) λ a.
    give (expr.Call (Some a) (codes "-@") [])

-- "!" unary, "-" unary, where a level is left, or post
abbrev pub unary_forms : Scope → List (Prod ruby an_expression)
unary_forms here = opening here.levels (not_from here) ++
    (opening here.levels (minus_from here) ++ (only (postfix here) ∷ []))

-- post = prim { "." NAME [ "(" [ args ] ")" ] | "[" expr "]" }
abbrev pub postfix_from : Scope → Prod ruby an_expression
postfix_from here = call (primary here) λ a. only (more_postfix here a)

-- a postfix expression has one form: a primary, and perhaps calls and indices behind it
abbrev pub postfix_forms : Scope → List (Prod ruby an_expression)
postfix_forms here = postfix_from here ∷ []

-- "." NAME [ "(" [ args ] ")" ], a call on what stands before it, and perhaps more
abbrev pub method_call : Scope → Expr → Prod ruby an_expression
method_call here a = token is_dot λ _. token is_name λ w. call (perhaps_arguments here) λ args.
    only (more_postfix here (expr.Call (Some a) w.text args))

-- "[" expr "]", with nothing white before the bracket: a call of `[]`, and perhaps more
abbrev pub index_from : Scope → Expr → ℕ → Prod ruby an_expression
index_from here a levels = token is_tight_bracket λ _. call (expression (at_levels here levels)) λ b.
    token is_close_bracket λ _. only (more_postfix here (expr.Call (Some a) (codes "[]") (b ∷ [])))

-- a call or an index more behind an expression, or none
abbrev pub more_postfix_forms : Scope → Expr → List (Prod ruby an_expression)
more_postfix_forms here a = method_call here a ∷ (opening here.levels (index_from here a) ++ (give a ∷ []))

-- [ "(" [ args ] ")" ]
abbrev pub arguments_from : Scope → ℕ → Prod ruby some_expressions
arguments_from here levels = token is_tight_paren λ _. call (members (at_levels here levels) []) λ args.
    token is_close_paren λ _. give args

-- arguments in parentheses, where a level is left, or none
abbrev pub perhaps_arguments_forms : Scope → List (Prod ruby some_expressions)
perhaps_arguments_forms here = opening here.levels (arguments_from here) ++ (give [] ∷ [])

-- prim = INT | text | SYM | "nil" | "true" | "false" | "self" | NAME [ "(" [ args ] ")" ] | IVAR | cref
--        | "[" [ args ] "]" | "{" [ pair { "," pair } [ "," ] ] "}" | "(" expr ")"
abbrev pub array_from : Scope → ℕ → Prod ruby an_expression
array_from here levels = token is_open_bracket λ _. call (members (at_levels here levels) []) λ xs.
    token is_close_bracket λ _. give (expr.Array xs)

-- "{" [ pair { "," pair } [ "," ] ] "}", which opens a level
abbrev pub hash_from : Scope → ℕ → Prod ruby an_expression
hash_from here levels = token is_open_brace λ _. call (pairs (at_levels here levels) []) λ ps.
    token is_close_brace λ _. give (expr.Hash ps)

-- "(" expr ")", which opens a level and has the value of the expression
abbrev pub group_from : Scope → ℕ → Prod ruby an_expression
group_from here levels = token is_open_paren λ _. call (expression (at_levels here levels)) λ a.
    token is_close_paren λ _. give a

-- a text: its opening quote, its parts, its closing quote
abbrev pub text_from : Scope → Prod ruby an_expression
text_from here = token is_text_open λ w. call (text_parts here (is_double_quote w) []) λ parts.
    token is_text_close λ _. give (expr.Str parts)

-- a constant as an expression, whose path never counts as a definition
abbrev pub constant_alone : Prod ruby an_expression
constant_alone = call (constant None) λ c. give (expr.Const c)

-- the forms of a primary; brackets, braces and parentheses only where a level is left
abbrev pub primary_forms : Scope → List (Prod ruby an_expression)
primary_forms here =
    (token is_int λ w. give (expr.Int (number_of w.text)))
    ∷ text_from here
    ∷ (token is_sym λ w. give (expr.Sym (behind_sign w.text)))
    ∷ (token is_nil λ _. give expr.Nil)
    ∷ (token is_true λ _. give expr.True)
    ∷ (token is_false λ _. give expr.False)
    ∷ (token is_self λ _. give expr.SelfRef)
    ∷ (token is_name λ w. only (name_rest here w.text))
    ∷ (token is_ivar λ w. give (expr.Ivar (behind_sign w.text)))
    ∷ constant_alone
    ∷ (opening here.levels (array_from here) ++
    (opening here.levels (hash_from here) ++ opening here.levels (group_from here)))

-- A NAME without parentheses is a local variable where it is known, else a call on self.
abbrev pub call_from : Scope → Name → ℕ → Prod ruby an_expression
call_from here name levels = token is_tight_paren λ _. call (members (at_levels here levels) []) λ args.
    token is_close_paren λ _. give (expr.Call None name args)

-- behind a name: arguments in parentheses, where a level is left, or none
abbrev pub name_rest_forms : Scope → Name → List (Prod ruby an_expression)
name_rest_forms here name = opening here.levels (call_from here name) ++ (give (name_alone here.names name) ∷ [])

-- args = expr { "," expr } [ "," ]
abbrev pub member_then : Scope → List Expr → Prod ruby some_expressions
member_then here xs = call (expression here) λ x. only (more_members here (xs ++ x ∷ []))

-- expr { "," expr } [ "," ], behind these: one expression more, or no more
abbrev pub members_forms : Scope → List Expr → List (Prod ruby some_expressions)
members_forms here xs = member_then here xs ∷ give xs ∷ []

-- behind an expression: a comma and perhaps more, or the end
abbrev pub more_members_forms : Scope → List Expr → List (Prod ruby some_expressions)
more_members_forms here xs = (token is_comma λ _. only (members here xs)) ∷ give xs ∷ []

-- a pair behind these, and what follows it
abbrev pub pair_then : Scope → List (Expr × Expr) → Prod ruby some_pairs
pair_then here ps = call (pair here) λ p. only (more_pairs here (ps ++ p ∷ []))

-- pair { "," pair } [ "," ], behind these: one pair more, or no more
abbrev pub pairs_forms : Scope → List (Expr × Expr) → List (Prod ruby some_pairs)
pairs_forms here ps = pair_then here ps ∷ give ps ∷ []

-- behind a pair: a comma and perhaps more, or the end
abbrev pub more_pairs_forms : Scope → List (Expr × Expr) → List (Prod ruby some_pairs)
more_pairs_forms here ps = (token is_comma λ _. only (pairs here ps)) ∷ give ps ∷ []

-- pair = LABEL expr | expr "=>" expr
abbrev pub label_pair : Scope → Prod ruby a_pair
label_pair here = token is_label λ w. call (expression here) λ b. give (expr.Sym (before_colon w.text), b)

-- expr "=>" expr: a pair whose key is any expression
abbrev pub arrow_pair : Scope → Prod ruby a_pair
arrow_pair here = call (expression here) λ a. token is_arrow λ _. call (expression here) λ b. give (a, b)

-- `a: 1`, whose key is the symbol `:a`, or `a => 1`
abbrev pub pair_forms : Scope → List (Prod ruby a_pair)
pair_forms here = label_pair here ∷ arrow_pair here ∷ []

-- the pieces of a text, and the expressions inside it
abbrev pub inside_from : Scope → Bool → List Part → ℕ → Prod ruby some_parts
inside_from here double parts levels = token is_inside_open λ _. call (expression (at_levels here levels)) λ x.
    token is_inside_close λ _. only (text_parts here double (parts ++ part.Inside x ∷ []))

-- a piece of a text, its escapes read by the quote, and more parts
abbrev pub piece_from : Scope → Bool → List Part → Prod ruby some_parts
piece_from here double parts = token is_text_piece λ w.
    only (text_parts here double (parts ++ part.Plain (text_bytes double w.text) ∷ []))

-- a part more of a text, or its end; an expression inside it opens a level
abbrev pub text_parts_forms : Scope → Bool → List Part → List (Prod ruby some_parts)
text_parts_forms here double parts =
    piece_from here double parts
    ∷ (opening here.levels (inside_from here double parts) ++ (give parts ∷ []))

-- The values that words stand for.
use Rattle.std.specs.Prelude.{ℕ, Bool, false, ◌==◌, ◌&&◌, ◌||◌, List, [], ◌∷◌, if◌then◌else◌, Some, None, ℤ, pos, ◌-ℤ◌}
use Rattle.std.specs.Prelude.{drop, take, length, ◌-◌}
use Rattle.ruby_token.specs.Number.{magnitude}
use Rattle.ruby_types.specs.declared.tree.Expr.{Expr}
use Rattle.ruby_types.specs.declared.tree.Expr.TheVariants as expr
use Rattle.ruby_grammar.specs.Words.{Word}
use Rattle.ruby_grammar.specs.Terminals.{is, has}
use Rattle.ruby_grammar.specs.Rules.{Name}

-- the number that is written so, perhaps with a `-` before it
abbrev pub number_of : List ℕ → ℤ
number_of [] = pos 0
number_of (b ∷ bs) = if b == 45 then pos 0 -ℤ pos (magnitude bs) else pos (magnitude (b ∷ bs))

-- the name of a Sym or an Ivar, without its `:` or `@`
abbrev pub behind_sign : List ℕ → Name
behind_sign text = drop 1 text

-- the name of a Label, without its `:`
abbrev pub before_colon : List ℕ → Name
before_colon text = take (length text - 1) text

-- the byte that an escape in double quotes stands for: `\n`, `\t`, `\r`, `\e`; of `\"`, `\\` and `\#` the byte itself
abbrev pub escaped : ℕ → ℕ
escaped b = if b == 110 then 10 else (if b == 116 then 9 else (if b == 114 then 13 else (if b == 101 then 27 else b)))

-- the bytes of a piece in double quotes
abbrev pub double_text : List ℕ → List ℕ
double_text [] = []
double_text (b ∷ []) = b ∷ []
double_text (b ∷ c ∷ bs) = if b == 92 then escaped c ∷ double_text bs else b ∷ double_text (c ∷ bs)

-- the bytes of a piece in single quotes, where a backslash before another byte than `'` and `\` stands for itself
abbrev pub single_text : List ℕ → List ℕ
single_text [] = []
single_text (b ∷ []) = b ∷ []
single_text (b ∷ c ∷ bs) = if (b == 92) && ((c == 39) || (c == 92)) then c ∷ single_text bs else b ∷ single_text
    (c ∷ bs)

-- the bytes that a piece of a text stands for, by its quote; the flag is true of double quotes
abbrev pub text_bytes : Bool → List ℕ → List ℕ
text_bytes double text = if double then double_text text else single_text text

-- the text begins with this byte
abbrev pub begins_with : ℕ → List ℕ → Bool
begins_with b [] = false
begins_with b (c ∷ cs) = c == b

-- the quote `"`
abbrev pub is_double_quote : Word → Bool
is_double_quote w = begins_with 34 w.text

-- an operator of two operands: `a != b` is Not of the Call `==`
abbrev pub operation : Word → Expr → Expr → Expr
operation w a b =
    if is 70 w then expr.Or a b
    else (if is 71 w then expr.And a b
    else (if is 74 w then expr.Not (expr.Call (Some a) (61 ∷ 61 ∷ []) (b ∷ []))
    else expr.Call (Some a) w.text (b ∷ [])))

-- a name alone: a local variable where it is known, else a call on self
abbrev pub name_alone : List Name → Name → Expr
name_alone names name = if has names name then expr.Local name else expr.Call None name []

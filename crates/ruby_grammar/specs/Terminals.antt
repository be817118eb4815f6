-- What each word is to the grammar: a number for each reserved word, for each kind of token and for each operator.
use Rattle.std.specs.Prelude.{ℕ, Bool, true, false, ◌==◌, ◌&&◌, ◌||◌, not, nat_le, List, [], ◌∷◌, bytes_eq}
use Rattle.std.specs.Prelude.{if◌then◌else◌}
use Rattle.ruby_token.specs.declared.token.Op.{Op}
use Rattle.ruby_token.specs.declared.token.Op.TheVariants as op
use Rattle.ruby_token.specs.declared.token.TokenKind.{TokenKind}
use Rattle.ruby_token.specs.declared.token.TokenKind.TheVariants as k
use Rattle.ruby_token.specs.Bytes.{is_suffix}
use Rattle.ruby_words.specs.Words.{word_rows}
use Rattle.ruby_grammar.specs.Words.{Word}

-- the code that a table gives a name, 0 where it has none
abbrev pub code_in : List (List ℕ × ℕ) → List ℕ → ℕ
code_in [] name = 0
code_in (row ∷ rows) name = if bytes_eq row.0 name then row.1 else code_in rows name

-- Names: 1 to 17 for a reserved word, 18 to 47 for a left-out one, 0 for any other.
abbrev pub name_terminal : List ℕ → ℕ
name_terminal text = code_in word_rows text

-- operators: 70 to 97 for those of the profile and for `|`, 99 for any that it leaves out
abbrev pub op_terminal : Op → ℕ
op_terminal op.OrElse = 70
op_terminal op.AndAlso = 71
op_terminal op.Not = 72
op_terminal op.Same = 73
op_terminal op.Differs = 74
op_terminal op.Less = 75
op_terminal op.AtMost = 76
op_terminal op.More = 77
op_terminal op.AtLeast = 78
op_terminal op.Plus = 79
op_terminal op.Minus = 80
op_terminal op.Times = 81
op_terminal op.Divide = 82
op_terminal op.Modulo = 83
op_terminal op.Ask = 84
op_terminal op.Colon = 85
op_terminal op.Path = 86
op_terminal op.Dot = 87
op_terminal op.Comma = 88
op_terminal op.Assign = 89
op_terminal op.Arrow = 90
op_terminal op.OpenParen = 91
op_terminal op.CloseParen = 92
op_terminal op.OpenBracket = 93
op_terminal op.CloseBracket = 94
op_terminal op.OpenBrace = 95
op_terminal op.CloseBrace = 96
op_terminal op.Bar = 97
op_terminal _ = 99

-- 50 to 60 for kinds of tokens other than names and operators, whose numbers turn on the text or the operator
abbrev pub kind_terminal : TokenKind → List ℕ → ℕ
kind_terminal k.Line text = 50
kind_terminal k.Name text = name_terminal text
kind_terminal k.Const text = 51
kind_terminal k.Ivar text = 52
kind_terminal k.Label text = 53
kind_terminal k.Sym text = 54
kind_terminal k.Int text = 55
kind_terminal k.TextOpen text = 56
kind_terminal k.TextPiece text = 57
kind_terminal k.InsideOpen text = 58
kind_terminal k.InsideClose text = 59
kind_terminal k.TextClose text = 60
kind_terminal (k.Op o) text = op_terminal o

-- a word's number, by its kind and its text: that of `class` is 2, of a constant 51
abbrev pub terminal : Word → ℕ
terminal w = kind_terminal w.kind w.text

-- ---- the tests of the grammar

-- the word has this number
abbrev pub is : ℕ → Word → Bool
is n w = terminal w == n

-- a name that is no word of Ruby's own
abbrev pub is_name : Word → Bool
is_name = is 0

-- `module`, which opens a module
abbrev pub is_module : Word → Bool
is_module = is 1

-- `class`, which opens a class
abbrev pub is_class : Word → Bool
is_class = is 2

-- `def`, which defines a method
abbrev pub is_def : Word → Bool
is_def = is 3

-- `end`, which closes a definition, an `if` or an `unless`
abbrev pub is_end : Word → Bool
is_end = is 4

-- `if`, before a choice of statements or behind a simple one
abbrev pub is_if : Word → Bool
is_if = is 5

-- `elsif`, before a further arm of an `if`
abbrev pub is_elsif : Word → Bool
is_elsif = is 6

-- `else`, before the last arm of an `if` or `unless`
abbrev pub is_else : Word → Bool
is_else = is 7

-- `unless`, before a choice of statements or behind a simple one
abbrev pub is_unless : Word → Bool
is_unless = is 8

-- `then`, which may stand behind a condition in place of a Line
abbrev pub is_then : Word → Bool
is_then = is 9

-- `return`, perhaps with an expression behind it
abbrev pub is_return : Word → Bool
is_return = is 10

-- `self`, an expression, and before the name of a singleton method
abbrev pub is_self : Word → Bool
is_self = is 11

-- `nil`, an expression
abbrev pub is_nil : Word → Bool
is_nil = is 12

-- `true`, an expression
abbrev pub is_true : Word → Bool
is_true = is 13

-- `false`, an expression
abbrev pub is_false : Word → Bool
is_false = is 14

-- `raise`, with an expression behind it
abbrev pub is_raise : Word → Bool
is_raise = is 15

-- `include`, with a module's path behind it
abbrev pub is_include : Word → Bool
is_include = is 16

-- `attr_reader`, with symbols behind it
abbrev pub is_attr_reader : Word → Bool
is_attr_reader = is 17

-- a Line: one line end or several in a row, each an LF or `;`
abbrev pub is_line : Word → Bool
is_line = is 50

-- a constant's name, as `User`
abbrev pub is_const : Word → Bool
is_const = is 51

-- an instance variable, as `@name`
abbrev pub is_ivar : Word → Bool
is_ivar = is 52

-- a label, as the `a:` of `{a: 1}`
abbrev pub is_label : Word → Bool
is_label = is 53

-- a symbol, as `:name`
abbrev pub is_sym : Word → Bool
is_sym = is 54

-- a number, perhaps with its sign
abbrev pub is_int : Word → Bool
is_int = is 55

-- a text's opening quote
abbrev pub is_text_open : Word → Bool
is_text_open = is 56

-- plain bytes and escapes of a text
abbrev pub is_text_piece : Word → Bool
is_text_piece = is 57

-- `#{`, before an expression inside a text
abbrev pub is_inside_open : Word → Bool
is_inside_open = is 58

-- the `}` behind an expression inside a text
abbrev pub is_inside_close : Word → Bool
is_inside_close = is 59

-- a text's closing quote
abbrev pub is_text_close : Word → Bool
is_text_close = is 60

-- `!`
abbrev pub is_not : Word → Bool
is_not = is 72

-- `<`, before a class's parent; in expressions a comparison
abbrev pub is_less : Word → Bool
is_less = is 75

-- `-` that isn't a number's sign
abbrev pub is_minus : Word → Bool
is_minus = is 80

-- `?`, behind the condition of a choice
abbrev pub is_ask : Word → Bool
is_ask = is 84

-- `:`, between the two values of a choice
abbrev pub is_colon : Word → Bool
is_colon = is 85

-- `::`, before or between the names of a path
abbrev pub is_path : Word → Bool
is_path = is 86

-- `.`, before a method's name
abbrev pub is_dot : Word → Bool
is_dot = is 87

-- `,`
abbrev pub is_comma : Word → Bool
is_comma = is 88

-- `=`, behind a constant or variable
abbrev pub is_assign : Word → Bool
is_assign = is 89

-- `=>`, between the key and the value of a pair
abbrev pub is_arrow : Word → Bool
is_arrow = is 90

-- `(`, whether or not something white stands before it
abbrev pub is_open_paren : Word → Bool
is_open_paren = is 91

-- `)`
abbrev pub is_close_paren : Word → Bool
is_close_paren = is 92

-- `[`, whether or not something white stands before it
abbrev pub is_open_bracket : Word → Bool
is_open_bracket = is 93

-- `]`
abbrev pub is_close_bracket : Word → Bool
is_close_bracket = is 94

-- `{`, of a hash
abbrev pub is_open_brace : Word → Bool
is_open_brace = is 95

-- `}`, of a hash
abbrev pub is_close_brace : Word → Bool
is_close_brace = is 96

-- a `(` or `[` that goes on with an expression: nothing white stands before it
abbrev pub is_tight_paren : Word → Bool
is_tight_paren w = is_open_paren w && w.tight

-- the `[` of `a[0]`, and not that of `a [0]`
abbrev pub is_tight_bracket : Word → Bool
is_tight_bracket w = is_open_bracket w && w.tight

-- a word that the profile leaves out, or an operator that it does
abbrev pub is_left_out : Word → Bool
is_left_out w = (nat_le 18 (terminal w) && nat_le (terminal w) 47) || (terminal w == 99)

-- ---- names

-- the name ends in `?` or `!`
abbrev pub ends_in_suffix : List ℕ → Bool
ends_in_suffix [] = false
ends_in_suffix (b ∷ []) = is_suffix b
ends_in_suffix (b ∷ c ∷ bs) = ends_in_suffix (c ∷ bs)

-- a name that can be a parameter or be assigned: it has no suffix
abbrev pub is_variable : Word → Bool
is_variable w = is_name w && not (ends_in_suffix w.text)

-- the name is one of these
abbrev pub has : List (List ℕ) → List ℕ → Bool
has [] name = false
has (n ∷ names) name = bytes_eq n name || has names name

-- a parameter that isn't there yet
abbrev pub is_new_parameter : List (List ℕ) → Word → Bool
is_new_parameter names w = is_variable w && not (has names w.text)

-- ---- operators by level

-- levels of operators with two operands, from the tightest on; `units` has none
pub data Level : Type 0 where
  units : Level
  products : Level
  sums : Level
  comparisons : Level
  equalities : Level
  conjunctions : Level
  disjunctions : Level

-- the level of the operands
abbrev pub tighter : Level → Level
tighter disjunctions = conjunctions
tighter conjunctions = equalities
tighter equalities = comparisons
tighter comparisons = sums
tighter sums = products
tighter products = units
tighter units = units

-- the word is an operator of this level, with two operands
abbrev pub is_operator : Level → Word → Bool
is_operator disjunctions w = is 70 w
is_operator conjunctions w = is 71 w
is_operator equalities w = is 73 w || is 74 w
is_operator comparisons w = is 75 w || is 76 w || is 77 w || is 78 w
is_operator sums w = is 79 w || is 80 w
is_operator products w = is 81 w || is 82 w || is 83 w
is_operator units w = false

-- more than one operator of the level may stand in a row
abbrev pub repeats : Level → Bool
repeats equalities = false
repeats _ = true

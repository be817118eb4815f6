-- How values and errors are printed (the Ruby documentation of to_s and inspect of each class, and the way in which
-- Ruby
-- reports an exception that nobody rescues).
use Rattle.std.specs.Prelude.{ℕ, List, [], ◌∷◌, ◌++◌, map, codes}
use Rattle.std.specs.Fmt.{signed_decimal}
use Rattle.plain_text.specs.Quoting.{quoted}
use Rattle.ruby_types.specs.Paths.{path_text}
use Rattle.ruby_types.specs.declared.value.Value.{Value, Value-F, fold-Value, out-Value}
use Rattle.ruby_types.specs.declared.value.Value.TheOpen as layer
use Rattle.ruby_types.specs.declared.request.ErrorClass.{ErrorClass}
use Rattle.ruby_types.specs.declared.request.ErrorClass.TheVariants as class
use Rattle.ruby_types.specs.declared.request.RubyError.{RubyError}

-- the members with `, ` between them
abbrev pub joined : List (List ℕ) → List ℕ
joined [] = []
joined (first ∷ []) = first
joined (first ∷ next ∷ members) = first ++ (44 ∷ 32 ∷ joined (next ∷ members))

-- a key and its value with `=>` between them
abbrev pub pair_text : List ℕ × List ℕ → List ℕ
pair_text p = p.0 ++ (61 ∷ 62 ∷ p.1)

-- One level of `inspect`, with the texts of what is inside: `nil`, `-7`, `"a\n"`, `:name`, `[1, 2]`, `{:a=>1}`,
-- `Admin::User`, and `#<Post>` for an object of Post.
abbrev pub inspect_layer : Value-F (List ℕ) → List ℕ
inspect_layer layer.Nil = codes "nil"
inspect_layer layer.True = codes "true"
inspect_layer layer.False = codes "false"
inspect_layer (layer.Int number) = signed_decimal number
inspect_layer (layer.Str text) = quoted text
inspect_layer (layer.Sym name) = 58 ∷ name
inspect_layer (layer.Array members) = 91 ∷ (joined members ++ 93 ∷ [])
inspect_layer (layer.Hash pairs) = 123 ∷ (joined (map pair_text pairs) ++ 125 ∷ [])
inspect_layer (layer.Module path) = path_text path
inspect_layer (layer.Object class variables) = 35 ∷ 60 ∷ (path_text class ++ 62 ∷ [])

-- What `inspect` gives: `[1, "a", nil]`, `{:b=>:c}`, `#<Post>`.
abbrev pub inspect : Value → List ℕ
inspect = fold-Value (List ℕ) inspect_layer

-- A pair of a hash: `:b=>:c`.
abbrev pub inspect_pair : Value × Value → List ℕ
inspect_pair p = pair_text (inspect p.0, inspect p.1)

-- One level of `to_s`, given what `inspect` shows: nil is empty, texts and symbols are their text, all else is as
-- `inspect` shows it.
abbrev pub to_s_layer : List ℕ → Value-F Value → List ℕ
to_s_layer inspected layer.Nil = []
to_s_layer inspected (layer.Str text) = text
to_s_layer inspected (layer.Sym name) = name
to_s_layer inspected _ = inspected

-- What `to_s` gives: the text of a Str or Sym, nothing for nil, else as `inspect`.
abbrev pub to_s : Value → List ℕ
to_s value = to_s_layer (inspect value) (out-Value value)

-- the class of an error, as Ruby names it
abbrev pub class_name : ErrorClass → List ℕ
class_name class.Name = codes "NameError"
class_name class.NoMethod = codes "NoMethodError"
class_name class.Argument = codes "ArgumentError"
class_name class.Kind = codes "TypeError"
class_name class.ZeroDivision = codes "ZeroDivisionError"
class_name class.Range = codes "RangeError"
class_name class.Key = codes "KeyError"
class_name class.Runtime = codes "RuntimeError"
class_name class.Syntax = codes "SyntaxError"
class_name class.Stack = codes "SystemStackError"
class_name class.Load = codes "LoadError"
class_name class.TurnBudget = codes "TurnBudgetError"

-- the path of the file whose code ran, in parentheses behind a space, where there is one
abbrev pub place_text : List ℕ → List ℕ
place_text [] = []
place_text (byte ∷ path) = codes " (" ++ (byte ∷ path) ++ codes ")"

-- an error as it is reported: `ZeroDivisionError: divided by 0 (app/controllers/calc_controller.rb)`
abbrev pub error_text : RubyError → List ℕ
error_text error = class_name error.class ++ codes ": " ++ error.message ++ place_text error.path

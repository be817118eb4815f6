-- What calls of built-in methods do, and how values are printed and made.
use Rattle.std.specs.Prelude.{ℕ, ◌-◌, ◌/◌, Bool, true, false, List, ◌++◌, codes}
use Rattle.ruby_types.specs.Paths.{path_text}
use Rattle.ruby_types.specs.Size.{size}
use Rattle.ruby_types.specs.declared.value.Value.{Value, Value-F, out-Value}
use Rattle.ruby_types.specs.declared.value.Value.TheOpen as layer
use Rattle.ruby_types.specs.declared.request.ErrorClass.{ErrorClass}
use Rattle.ruby_types.specs.declared.request.ErrorClass.TheVariants as class
use Rattle.ruby_types.specs.declared.request.RubyError.{RubyError}
use Rattle.ruby_builtin_base.specs.declared.called.Called.{Called}
use Rattle.ruby_builtin_base.specs.declared.called.Called.TheVariants as called
use Rattle.program_places.specs.Paths.{Name}
use Rattle.ruby_runs.specs.Doing.{Doing, Here, pure, ◌>>◌, raise, fail, error_at, spent, pay}

-- The built-in methods: what a call of one answers, by the turns left, the receiver, the name and the arguments; and
-- how values are printed. What runs do is defined for any table of them; the profile's is `built_in_called` of
-- `ruby_builtin`.
pub record BuiltIns : Type 0 where
  pub called : ℕ → Value → Name → List Value → Called
  pub to_s : Value → List ℕ
  pub inspect : Value → List ℕ

-- whether one level of a value is neither nil nor false
abbrev pub is_truthy_layer : Value-F Value → Bool
is_truthy_layer layer.Nil = false
is_truthy_layer layer.False = false
is_truthy_layer _ = true

-- Only nil and false are false.
abbrev pub is_truthy : Value → Bool
is_truthy value = is_truthy_layer (out-Value value)

-- the kind of one level of a value
abbrev pub kind_layer : Value-F Value → List ℕ
kind_layer layer.Nil = codes "NilClass"
kind_layer layer.True = codes "TrueClass"
kind_layer layer.False = codes "FalseClass"
kind_layer (layer.Int number) = codes "Integer"
kind_layer (layer.Str text) = codes "String"
kind_layer (layer.Sym name) = codes "Symbol"
kind_layer (layer.Array items) = codes "Array"
kind_layer (layer.Hash pairs) = codes "Hash"
kind_layer (layer.Module path) = codes "Module"
kind_layer (layer.Object class variables) = path_text class

-- The kind of a receiver, as an error names it: of an object its class, of a module or class `Module`.
abbrev pub kind_name : Value → List ℕ
kind_name on = kind_layer (out-Value on)

-- `undefined method 'shout' for String`
abbrev pub undefined_method : Value → Name → List ℕ
undefined_method on name = codes "undefined method '" ++ (name ++ (codes "' for " ++ kind_name on))

-- An error of a built-in method, which knows no file, as it is raised here. That the budget is spent is said with the
-- budget of the whole run.
abbrev pub raised_here : Here → RubyError → ErrorClass → RubyError
raised_here here error class.TurnBudget = spent here
raised_here here error class = error_at here class error.message

-- How a call ends that a built-in method answered: with its value for its cost, or with its error. (No row answers that
-- memory is lacking.)
abbrev pub ended_call : Here → Value → Name → Called → Doing Value
ended_call here on name (called.Value value cost) = λ turns go. go value (turns - cost)
ended_call here on name (called.Raised error) = raise (raised_here here error error.class)
ended_call here on name called.NoMethod = fail here class.NoMethod (undefined_method on name)
ended_call here on name called.Memory = raise (spent here)

-- A call of a built-in method, with the turns that are left.
abbrev pub built_in_call : BuiltIns → Here → Value → Name → List Value → Doing Value
built_in_call rows here on name args = λ turns. ended_call here on name (rows.called turns on name args) turns

-- Making a value costs its size by 16.
abbrev pub made : Here → Value → Doing Value
made here value = pay here (size value / 16) >> pure value

-- The built-in methods: the rows of the receiver's own kind, and behind them those that every value has. The tables
-- are `int_rows`, `str_rows`, `sym_rows`, `array_rows`, `hash_rows`, `module_rows` and `value_rows`, which name each
-- method with what it comes to.
use Rattle.std.specs.Prelude.{ℕ, List, Option, Some, None}
use Rattle.ruby_types.specs.declared.value.Value.{Value, Value-F, out-Value}
use Rattle.ruby_types.specs.declared.value.Value.TheOpen as layer
use Rattle.ruby_builtin_base.specs.Answers.{Answer, called_of}
use Rattle.ruby_builtin_base.specs.Rows.{row_of}
use Rattle.ruby_builtin_base.specs.declared.call.Call.{Call}
use Rattle.ruby_builtin_base.specs.declared.called.Called.{Called}
use Rattle.ruby_builtin_base.specs.declared.called.Called.TheVariants.{NoMethod}
use Rattle.ruby_builtin_arrays.specs.ArrayRows.{array_rows}
use Rattle.ruby_builtin_hashes.specs.HashRows.{hash_rows}
use Rattle.ruby_builtin_common.specs.CommonRows.{value_rows, sym_rows, module_rows}
use Rattle.ruby_builtin_numbers.specs.IntRows.{int_rows}
use Rattle.ruby_builtin_texts.specs.StrRows.{str_rows}

-- what a method comes to, by its arguments
abbrev pub Method : Type 0
Method = List Value → Answer

-- a row at its receiver
abbrev pub at_receiver : {On : Type 0} → On → Option (On → Method) → Option Method
at_receiver on None = None
at_receiver on (Some row) = Some (row on)

-- the method of this name among those of the receiver's own kind
abbrev pub own_layer : Value-F Value → List ℕ → Option Method
own_layer (layer.Int number) name = at_receiver number (row_of int_rows name)
own_layer (layer.Str text) name = at_receiver text (row_of str_rows name)
own_layer (layer.Sym symbol) name = at_receiver symbol (row_of sym_rows name)
own_layer (layer.Array items) name = at_receiver items (row_of array_rows name)
own_layer (layer.Hash pairs) name = at_receiver pairs (row_of hash_rows name)
own_layer (layer.Module path) name = at_receiver path (row_of module_rows name)
own_layer other name = None

-- The row of the receiver's own kind, if it has one of this name.
abbrev pub own_row : Value → List ℕ → Option Method
own_row on name = own_layer (out-Value on) name

-- The row of the own kind, or else that of every value.
abbrev pub or_common : Option Method → Option Method → Option Method
or_common None common = common
or_common (Some own) common = Some own

-- the method of this name that a receiver has
abbrev pub built_in : Value → List ℕ → Option Method
built_in on name = or_common (own_row on name) (at_receiver on (row_of value_rows name))

-- What a call answers: that there is no such method, which costs nothing, or what the method comes to.
abbrev pub method_called : ℕ → Value → List ℕ → List Value → Option Method → Called
method_called left on name args None = NoMethod
method_called left on name args (Some method) = called_of left on name args (method args)

-- What a call gives: the row's answer with its cost, or no method.
abbrev pub built_in_called : ℕ → Value → List ℕ → List Value → Called
built_in_called left on name args = method_called left on name args (built_in on name)

-- the same of a call and of the receiver's own kind alone
abbrev pub own_called : Call → Option Method → Called
own_called call row = method_called call.left call.on.now call.name.now call.args.now row

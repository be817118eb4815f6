-- What a call of a built-in method gives stands, where the receiver and the arguments do.
use Rattle.std.proofs.Common.{◌≡◌, ℕ, Bool, true, false, List, [], ◌∷◌, Option, Some, None, refl, subst}
use Rattle.std.proofs.Common.{length}
use Rattle.std.specs.Prelude.{nat_le, if◌then◌else◌}
use Rattle.std.specs.Str.{bytes_eq}
use Rattle.ruby_types.specs.Size.{size}
use Rattle.ruby_types.specs.declared.value.Value.{Value, Value-F, out-Value}
use Rattle.ruby_types.specs.declared.value.Value.TheOpen as layer
use Rattle.ruby_types.specs.declared.request.ErrorClass.{ErrorClass}
use Rattle.ruby_types.specs.declared.request.ErrorClass.TheVariants as class
use Rattle.ruby_builtin_base.specs.Answers.{Answer, Gives, Raises, WrongArgument, WrongCount, called_of, raised}
use Rattle.ruby_builtin_base.specs.Answers.{wrong_argument_text, wrong_count_text}
use Rattle.ruby_builtin_base.specs.Costs.{call_sizes, cost}
use Rattle.ruby_builtin_base.specs.Rows.{row_of}
use Rattle.ruby_builtin_base.specs.declared.called.Called.{Called}
use Rattle.ruby_builtin_base.specs.declared.called.Called.TheVariants as called
use Rattle.ruby_builtin_arrays.specs.ArrayRows.{array_rows}
use Rattle.ruby_builtin_hashes.specs.HashRows.{hash_rows}
use Rattle.ruby_builtin_common.specs.CommonRows.{value_rows, sym_rows, module_rows}
use Rattle.ruby_builtin_numbers.specs.IntRows.{int_rows}
use Rattle.ruby_builtin_texts.specs.StrRows.{str_rows}
use Rattle.ruby_builtin.specs.Rows.{Method, at_receiver, own_layer, own_row, or_common, built_in, method_called}
use Rattle.ruby_builtin.specs.Rows.{built_in_called}
use Rattle.program_places.specs.Places.{Index}
use Rattle.program_places.specs.Tasks.{EachIs}
use Rattle.ruby_runs.specs.BuiltIns.{BuiltIns}
use Rattle.program_built_ins.specs.Rows.{Anything, AnswerStands, MethodStands, RowsStand}
use Rattle.program_values.specs.Standing.{Stands, PairStands, NamesNothingNew}
use Rattle.program_values.proofs.Values.{items_stand, pairs_stand}
use Rattle.program_built_ins.proofs.Numbers.{int_rows_stand}
use Rattle.program_built_ins.proofs.Texts.{str_rows_stand}
use Rattle.program_built_ins.proofs.Arrays.{array_rows_stand}
use Rattle.program_built_ins.proofs.Hashes.{hash_rows_stand}
use Rattle.program_built_ins.proofs.Common.{value_rows_stand, sym_rows_stand, module_rows_stand}

module _ (index : Index) where
  -- what a method gives stands, if there is one
  abbrev FoundStands : Option Method → Type 0
  FoundStands None = Unit {0}
  FoundStands (Some method) = MethodStands index method

  row_here : {On : Type 0} (on : On) (found : Bool) (row : On → Method) (later : Option (On → Method)) →
      MethodStands index (row on) → FoundStands (at_receiver on later) →
      FoundStands (at_receiver on (if found then Some row else later))
  row_here on true row later h k = h
  row_here on false row later h k = k

  row_stands : {On : Type 0} (P : On → Type 0) (on : On) → P on → (rows : List (List ℕ × (On → Method))) →
      RowsStand index P rows → (name : List ℕ) → FoundStands (at_receiver on (row_of rows name))
  unfolding row_of
  row_stands P on h [] each name = tt
  row_stands P on h (row ∷ rows) each name = row_here on (bytes_eq row.0 name) row.1 (row_of rows name)
      (each.0 on h) (row_stands P on h rows each.1 name)

  own_stands : (on : Value) (x : Value-F Value) → out-Value on ≡ x → Stands index on → (name : List ℕ) →
      FoundStands (own_layer x name)
  own_stands on (layer.Int number) is h name = row_stands Anything number tt int_rows (int_rows_stand index) name
  own_stands on (layer.Str text) is h name = row_stands Anything text tt str_rows (str_rows_stand index) name
  own_stands on (layer.Sym symbol) is h name = row_stands Anything symbol tt sym_rows (sym_rows_stand index) name
  own_stands on (layer.Array items) is h name = row_stands (EachIs (Stands index)) items
      (items_stand index on items is h) array_rows (array_rows_stand index) name
  own_stands on (layer.Hash pairs) is h name = row_stands (EachIs (PairStands index)) pairs
      (pairs_stand index on pairs is h) hash_rows (hash_rows_stand index) name
  own_stands on (layer.Module path) is h name = row_stands Anything path tt module_rows (module_rows_stand index) name
  own_stands on x is h name = tt

  or_common_stands : (own common : Option Method) → FoundStands own → FoundStands common →
      FoundStands (or_common own common)
  or_common_stands None common h k = k
  or_common_stands (Some own) common h k = h

  built_in_stands : (on : Value) (name : List ℕ) → Stands index on → FoundStands (built_in on name)
  built_in_stands on name h = or_common_stands (own_row on name) (at_receiver on (row_of value_rows name))
      (own_stands on (out-Value on) refl h name)
      (row_stands (Stands index) on h value_rows (value_rows_stand index) name)

  value_within : (enough : Bool) (made v : Value) (paid spent : ℕ) (otherwise : Called) →
      ((w : Value) (n : ℕ) → otherwise ≡ called.Value w n → ⊥) → Stands index made →
      (if enough then called.Value made paid else otherwise) ≡ called.Value v spent → Stands index v
  value_within true made v paid spent otherwise never h is = let e : made ≡ v = cc in subst (Stands index) e h
  value_within false made v paid spent otherwise never h is = absurd (never v spent is)

  no_value : (class : ErrorClass) (message : List ℕ) (v : Value) (spent : ℕ) →
      raised class message ≡ called.Value v spent → ⊥
  no_value class message v spent is = cc

  no_value_within : (enough : Bool) (class other : ErrorClass) (message text : List ℕ) (v : Value) (spent : ℕ) →
      (if enough then raised class message else raised other text) ≡ called.Value v spent → ⊥
  no_value_within true class other message text v spent is = no_value class message v spent is
  no_value_within false class other message text v spent is = no_value other text v spent is

  called_stands : (left : ℕ) (on : Value) (name : List ℕ) (args : List Value) (answer : Answer) (v : Value)
      (spent : ℕ) → AnswerStands index answer → called_of left on name args answer ≡ called.Value v spent →
      Stands index v
  called_stands left on name args (Gives made) v spent h is =
      value_within (nat_le (cost (call_sizes on args) (size made)) left) made v (cost (call_sizes on args) (size made))
      spent (raised class.TurnBudget []) (no_value class.TurnBudget []) h is
  called_stands left on name args (Raises raised_class message) v spent h is = absurd (no_value_within
      (nat_le (cost (call_sizes on args) 0) left) raised_class class.TurnBudget message [] v spent is)
  called_stands left on name args WrongArgument v spent h is = absurd (no_value_within
      (nat_le (cost (call_sizes on args) 0) left) class.Kind class.TurnBudget (wrong_argument_text name) [] v spent is)
  called_stands left on name args (WrongCount expected) v spent h is = absurd (no_value_within
      (nat_le (cost (call_sizes on args) 0) left) class.Argument class.TurnBudget
      (wrong_count_text (length args) expected) [] v spent is)

  method_stands : (left : ℕ) (on : Value) (name : List ℕ) (args : List Value) (o : Option Method) (v : Value)
      (spent : ℕ) → FoundStands o → EachIs (Stands index) args →
      method_called left on name args o ≡ called.Value v spent → Stands index v
  method_stands left on name args None v spent h each is = absurd (cc)
  method_stands left on name args (Some method) v spent h each is =
      called_stands left on name args (method args) v spent (h args each) is

  -- what a call of a built-in method gives stands
  pub built_in_value_stands : (left spent : ℕ) (on v : Value) (name : List ℕ) (args : List Value) →
      built_in_called left on name args ≡ called.Value v spent → Stands index on → EachIs (Stands index) args →
      Stands index v
  built_in_value_stands left spent on v name args is h each =
      method_stands left on name args (built_in on name) v spent (built_in_stands on name h) each is

  -- tables of these methods name nothing new
  pub names_nothing_new : (rows : BuiltIns) → rows.called ≡ built_in_called → NamesNothingNew index rows
  names_nothing_new rows same turns spent on v name args is h each =
      built_in_value_stands turns spent on v name args
      (subst (λ (f : ℕ → Value → List ℕ → List Value → Called). f turns on name args ≡ called.Value v spent) same is)
      h each

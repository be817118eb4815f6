-- The rows of every value, of Symbol and of Module give the receiver, texts, symbols, numbers and truth values.
use Rattle.std.proofs.Common.{length}
use Rattle.ruby_builtin_common.specs.CommonRows.{is_nil, value_rows, sym_rows, module_rows}
use Rattle.ruby_builtin_base.specs.Answers.{Gives}
use Rattle.ruby_builtin_base.specs.Characters.{characters}
use Rattle.ruby_builtin_base.specs.Printed.{inspect, to_s}
use Rattle.ruby_builtin_base.specs.Results.{count, truth}
use Rattle.ruby_types.specs.Paths.{path_text}
use Rattle.ruby_types.specs.Same.{same}
use Rattle.ruby_types.specs.declared.value.Value.TheVariants.{True, Str, Sym}
use Rattle.program_places.specs.Places.{Index}
use Rattle.program_built_ins.specs.Rows.{Anything, RowsStand}
use Rattle.program_values.specs.Standing.{Stands}
use Rattle.program_values.proofs.Values.{boolean_stands, str_stands, sym_stands}
use Rattle.program_built_ins.proofs.Arguments.{◌and◌, none_stands, value_stands}
use Rattle.program_built_ins.proofs.Arguments.{count_stands, truth_stands}
use Rattle.std.specs.Prelude.{true}

module _ (index : Index) where
  -- what a row of every value gives stands, where the receiver does
  pub value_rows_stand : RowsStand index (Stands index) value_rows
  value_rows_stand =
      (λ on h. value_stands index (λ other. truth (same on other)) (λ other k. truth_stands index (same on other)))
      and (λ on h. none_stands index (Gives on) h)
      and (λ on h. none_stands index (Gives True) (boolean_stands index true))
      and (λ on h. none_stands index (Gives (Str (inspect on))) (str_stands index (inspect on)))
      and (λ on h. none_stands index (truth (is_nil on)) (truth_stands index (is_nil on)))
      and (λ on h. none_stands index (Gives (Str (to_s on))) (str_stands index (to_s on)))
      and tt

  -- what a row of Symbol gives stands
  pub sym_rows_stand : RowsStand index Anything sym_rows
  sym_rows_stand =
      (λ name h. none_stands index (count (length (characters name))) (count_stands index (length (characters name))))
      and (λ name h. none_stands index (Gives (Sym name)) (sym_stands index name))
      and tt

  -- what a row of Module gives stands
  pub module_rows_stand : RowsStand index Anything module_rows
  module_rows_stand =
      (λ path h. none_stands index (Gives (Str (path_text path))) (str_stands index (path_text path)))
      and tt

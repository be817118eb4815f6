-- The rows of String give texts, symbols, numbers, truth values, nil, and arrays of texts.
use Rattle.std.proofs.Common.{ℕ, Bool, true, false, List, [], ◌∷◌, Option, Some, None, map}
use Rattle.std.specs.Prelude.{ℤ, pos, int_lt, unsigned_abs, ◌++◌, ◌==◌, nat_eq, length, reverse, if◌then◌else◌, codes}
use Rattle.std.specs.Char.{to_ascii_uppercase, to_ascii_lowercase}
use Rattle.std.specs.List.{repeat, concat, starts_with, ends_with}
use Rattle.std.specs.Ordering.{is_lt, is_le, is_gt, is_ge}
use Rattle.ruby_types.specs.declared.request.ErrorClass.TheVariants as class
use Rattle.ruby_types.specs.declared.value.Value.TheVariants.{Str, Sym, Array}
use Rattle.ruby_builtin_base.specs.Answers.{Gives, Raises}
use Rattle.ruby_builtin_base.specs.Characters.{characters}
use Rattle.ruby_builtin_base.specs.Results.{count, integer, truth}
use Rattle.ruby_builtin_texts.specs.StrRows.{text, text_or_nil, times, compared, str_rows}
use Rattle.ruby_builtin_texts.specs.Parts.{stripped, capitalized, has_part, counted}
use Rattle.ruby_builtin_texts.specs.Numerals.{leading_number}
use Rattle.program_places.specs.Places.{Index}
use Rattle.program_places.specs.Tasks.{EachIs}
use Rattle.program_built_ins.specs.Rows.{Anything, AnswerStands, RowsStand}
use Rattle.program_values.specs.Standing.{Stands}
use Rattle.program_values.proofs.Values.{array_stands, nil_stands, str_stands, sym_stands}
use Rattle.program_built_ins.proofs.Arguments.{◌and◌, none_stands, int_row_stands}
use Rattle.program_built_ins.proofs.Arguments.{text_row_stands, integer_stands, count_stands, truth_stands}

module _ (index : Index) where
  text_or_nil_stands : (o : Option (List ℕ)) → AnswerStands index (text_or_nil o)
  text_or_nil_stands None = nil_stands index
  text_or_nil_stands (Some bytes) = str_stands index bytes

  times_by : (negative : Bool) (bytes : List ℕ) →
      AnswerStands index (if negative then Raises class.Argument (codes "negative argument") else text bytes)
  times_by true bytes = tt
  times_by false bytes = str_stands index bytes

  times_stands : (s : List ℕ) (n : ℤ) → AnswerStands index (times s n)
  times_stands s n = times_by (int_lt n (pos 0)) (repeat (unsigned_abs n) s)

  texts_stand : (texts : List (List ℕ)) → EachIs (Stands index) (map Str texts)
  texts_stand [] = tt
  texts_stand (first ∷ others) = (str_stands index first, texts_stand others)

  -- what a row of String gives stands
  pub str_rows_stand : RowsStand index Anything str_rows
  str_rows_stand =
      (λ s h. int_row_stands index (λ n. times s n) (λ n. times_stands s n))
      and (λ s h. text_row_stands index (λ t. text (s ++ t)) (λ t. str_stands index (s ++ t)))
      and (λ s h. text_row_stands index (λ t. truth (is_lt (compared s t)))
      (λ t. truth_stands index (is_lt (compared s t))))
      and (λ s h. text_row_stands index (λ t. truth (is_le (compared s t)))
      (λ t. truth_stands index (is_le (compared s t))))
      and (λ s h. text_row_stands index (λ t. truth (is_gt (compared s t)))
      (λ t. truth_stands index (is_gt (compared s t))))
      and (λ s h. text_row_stands index (λ t. truth (is_ge (compared s t)))
      (λ t. truth_stands index (is_ge (compared s t))))
      and (λ s h. int_row_stands index (λ n. text_or_nil (counted (characters s) n))
      (λ n. text_or_nil_stands (counted (characters s) n)))
      and (λ s h. none_stands index (count (length s)) (count_stands index (length s)))
      and (λ s h. none_stands index (text (capitalized s)) (str_stands index (capitalized s)))
      and (λ s h. none_stands index (Gives (Array (map Str (characters s))))
      (array_stands index (map Str (characters s)) (texts_stand (characters s))))
      and (λ s h. none_stands index (text (map to_ascii_lowercase s)) (str_stands index (map to_ascii_lowercase s)))
      and (λ s h. none_stands index (truth (length s == 0)) (truth_stands index (length s == 0)))
      and (λ s h. text_row_stands index (λ t. truth (ends_with nat_eq s t))
      (λ t. truth_stands index (ends_with nat_eq s t)))
      and (λ s h. text_row_stands index (λ t. truth (has_part s t)) (λ t. truth_stands index (has_part s t)))
      and (λ s h. none_stands index (count (length (characters s))) (count_stands index (length (characters s))))
      and (λ s h. none_stands index (text (concat (reverse (characters s))))
      (str_stands index (concat (reverse (characters s)))))
      and (λ s h. none_stands index (count (length (characters s))) (count_stands index (length (characters s))))
      and (λ s h. text_row_stands index (λ t. truth (starts_with nat_eq s t))
      (λ t. truth_stands index (starts_with nat_eq s t)))
      and (λ s h. none_stands index (text (stripped s)) (str_stands index (stripped s)))
      and (λ s h. none_stands index (integer (leading_number s)) (integer_stands index (leading_number s)))
      and (λ s h. none_stands index (Gives (Sym s)) (sym_stands index s))
      and (λ s h. none_stands index (text (map to_ascii_uppercase s)) (str_stands index (map to_ascii_uppercase s)))
      and tt

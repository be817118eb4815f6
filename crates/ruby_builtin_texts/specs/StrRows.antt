-- The rows of String (the Ruby documentation of String and Comparable), in the order of their names' bytes.
use Rattle.std.specs.Prelude.{ℕ, ℤ, pos, unsigned_abs, int_lt, nat_eq, ◌==◌, if◌then◌else◌}
use Rattle.std.specs.Prelude.{Option, Some, None, List, [], ◌∷◌, ◌++◌, length, map, reverse, codes}
use Rattle.std.specs.List.{repeat, concat, starts_with, ends_with}
use Rattle.std.specs.Char.{to_ascii_uppercase, to_ascii_lowercase}
use Rattle.std.specs.Ordering.{nat_cmp, is_lt, is_le, is_gt, is_ge}
use Rattle.std.specs.Cmp.Lexicographic.{slice_cmp}
use Rattle.std.specs.declared.cmp.Ordering.{Ordering}
use Rattle.ruby_types.specs.declared.value.Value.{Value}
use Rattle.ruby_types.specs.declared.request.ErrorClass.TheVariants as class
use Rattle.ruby_types.specs.declared.value.Value.TheVariants.{Nil, Str, Sym, Array}
use Rattle.ruby_builtin_base.specs.Answers.{Answer, Gives, Raises}
use Rattle.ruby_builtin_base.specs.Arguments.{takes_none, takes_int, takes_text}
use Rattle.ruby_builtin_base.specs.Characters.{characters}
use Rattle.ruby_builtin_base.specs.Results.{count, integer, truth}
use Rattle.ruby_builtin_texts.specs.Parts.{stripped, capitalized, has_part, counted}
use Rattle.ruby_builtin_texts.specs.Numerals.{leading_number}

-- A text as a row gives it.
abbrev pub text : List ℕ → Answer
text bytes = Gives (Str bytes)

-- A text, or nil where there is none.
abbrev pub text_or_nil : Option (List ℕ) → Answer
text_or_nil None = Gives Nil
text_or_nil (Some bytes) = text bytes

-- a text so many times
abbrev pub times : List ℕ → ℤ → Answer
times s n =
    if int_lt n (pos 0) then Raises class.Argument (codes "negative argument") else text (repeat (unsigned_abs n) s)

-- two texts compared by their first bytes that differ, the beginning of another being less
abbrev pub compared : List ℕ → List ℕ → Ordering
compared = slice_cmp nat_cmp

-- A row is what a text comes to with arguments.
abbrev pub str_rows : List (List ℕ × (List ℕ → List Value → Answer))
str_rows =
    (codes "*", λ s. takes_int (λ n. times s n))
    ∷ (codes "+", λ s. takes_text (λ t. text (s ++ t)))
    ∷ (codes "<", λ s. takes_text (λ t. truth (is_lt (compared s t))))
    ∷ (codes "<=", λ s. takes_text (λ t. truth (is_le (compared s t))))
    ∷ (codes ">", λ s. takes_text (λ t. truth (is_gt (compared s t))))
    ∷ (codes ">=", λ s. takes_text (λ t. truth (is_ge (compared s t))))
    ∷ (codes "[]", λ s. takes_int (λ n. text_or_nil (counted (characters s) n)))
    ∷ (codes "bytesize", λ s. takes_none (count (length s)))
    ∷ (codes "capitalize", λ s. takes_none (text (capitalized s)))
    ∷ (codes "chars", λ s. takes_none (Gives (Array (map Str (characters s)))))
    ∷ (codes "downcase", λ s. takes_none (text (map to_ascii_lowercase s)))
    ∷ (codes "empty?", λ s. takes_none (truth (length s == 0)))
    ∷ (codes "end_with?", λ s. takes_text (λ t. truth (ends_with nat_eq s t)))
    ∷ (codes "include?", λ s. takes_text (λ t. truth (has_part s t)))
    ∷ (codes "length", λ s. takes_none (count (length (characters s))))
    ∷ (codes "reverse", λ s. takes_none (text (concat (reverse (characters s)))))
    ∷ (codes "size", λ s. takes_none (count (length (characters s))))
    ∷ (codes "start_with?", λ s. takes_text (λ t. truth (starts_with nat_eq s t)))
    ∷ (codes "strip", λ s. takes_none (text (stripped s)))
    ∷ (codes "to_i", λ s. takes_none (integer (leading_number s)))
    ∷ (codes "to_sym", λ s. takes_none (Gives (Sym s)))
    ∷ (codes "upcase", λ s. takes_none (text (map to_ascii_uppercase s)))
    ∷ []

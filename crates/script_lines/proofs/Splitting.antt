-- A script and a line, cut step by step.
use Rattle.std.proofs.Common.{◌≡◌, ◌≤◌, ◌<◌, ◌+◌, ℕ, true, false, Bool, List, [], ◌∷◌, length}
use Rattle.std.proofs.Common.{refl, sym, ap, ◌∙◌, arith, subst}
use Rattle.std.specs.Prelude.{◌==◌, Option, Some, None, MatchOption, if◌then◌else◌, Result, Err}
use Rattle.std.proofs.lemmas.List.Splits.{length-slice_split}
use denote.Ref.{Bor}
use Rattle.app_config.specs.Text.{split}
use Rattle.app_config.specs.Entries.{is_blank}
use Rattle.app_config.specs.Loops.Left.{parts_left, size_left}
use Rattle.script_lines.specs.Content.{is_content, content_of, contents, behind_contents, count_contents, BeginsWith}
use Rattle.script_lines.specs.Content.{BeginsWithNone, content_then, behind_if, count_then}
use Rattle.script_lines.specs.Lines.{line_told, told_by, verb_of, words, worded, Says}
use Rattle.script_lines.specs.Reading.{turn_from, turn_of}
use Rattle.script_lines.specs.declared.instruction.Instruction.{Instruction}
use Rattle.script_lines.specs.declared.instruction.LineKind.{LineKind}
use Rattle.script_lines.specs.declared.instruction.LineKind.TheVariants.{StrayContent}

-- PARTS

-- the parts of a text are the first and those of what stands behind it
pub parts_step : (byte : ℕ) (text first : List ℕ) (behind : Option (Bor (List ℕ))) →
    MatchOption behind (split byte text ≡ first ∷ []) (λ rest. split byte text ≡ first ∷ split byte rest.now) →
    split byte text ≡ first ∷ parts_left byte behind
parts_step byte text first None parts = parts
parts_step byte text first (Some rest) parts = parts

-- what stands behind the first part is smaller than the text
pub size_step : (text first : List ℕ) (behind : Option (Bor (List ℕ))) →
    MatchOption behind (length first ≡ length text) (λ rest. length first + length rest.now + 1 ≡ length text) →
    (length first + size_left behind ≤ length text)
size_step text first None parts = omega arith
size_step text first (Some rest) parts = omega arith

filled : (parts : List (List ℕ)) → 0 < length parts →
    (first : List ℕ) × ((rest : List (List ℕ)) × (parts ≡ first ∷ rest))
filled [] some = absurd (omega arith)
filled (first ∷ rest) some = (first, (rest, refl))

split_is_filled : (text : List ℕ) → 0 < length (split 32 text)
split_is_filled text = omega (arith, length-slice_split (λ b. b == 32) text)

-- a text with two spaces has three parts and perhaps more
pub three_words : (text first second behind more : List ℕ) → split 32 text ≡ first ∷ split 32 behind →
    split 32 behind ≡ second ∷ split 32 more →
    (a : List ℕ) × (b : List ℕ) × (c : List ℕ) × ((rest : List (List ℕ)) × (split 32 text ≡ a ∷ b ∷ c ∷ rest))
three_words text first second behind more one two =
    let three = filled (split 32 more) (split_is_filled more) in
    (first, second, three.0, (three.1.0, one ∙ ap (λ ws. first ∷ ws) (two ∙ ap (λ ws. second ∷ ws) three.1.1)))

-- WORDS

-- what a line tells, by its first word and the words behind it
told_by_words : (line word content : List ℕ) (behind : Option (Bor (List ℕ))) → is_content line ≡ false →
    split 32 line ≡ word ∷ parts_left 32 behind →
    line_told line content ≡ told_by (verb_of word) (parts_left 32 behind) content
told_by_words line word content behind plain parts =
    ap (λ (b : Bool). if b then Err StrayContent else worded (words line) content) plain
    ∙ ap (λ ws. worded ws content) parts

-- what is told by a verb and the words behind it is told by the line
pub says_line : (answer : Result Instruction LineKind) (line word content : List ℕ) (behind : Option (Bor (List ℕ))) →
    is_content line ≡ false → split 32 line ≡ word ∷ parts_left 32 behind →
    Says answer (told_by (verb_of word) (parts_left 32 behind) content) → Says answer (line_told line content)
says_line answer line word content behind plain parts says =
    let P : Result Instruction LineKind → Type 0 = λ told. Says answer told in
    subst P (sym (told_by_words line word content behind plain parts)) says

-- CONTENT

-- a line that is none of content ends it
pub begins_with_none : (line : List ℕ) (lines all : List (List ℕ)) → all ≡ line ∷ lines → content_of line ≡ None →
    BeginsWithNone all
begins_with_none line lines all is none = record {
  content = ap contents is ∙ ap (λ o. content_then o (contents lines)) none;
  behind = ap behind_contents is
      ∙ (ap (λ o. behind_if o (line ∷ lines) (behind_contents lines)) none ∙ sym is);
  count = ap count_contents is ∙ ap (λ o. count_then o (count_contents lines)) none;
}

-- no line is none of content
pub no_line_begins : BeginsWithNone []
no_line_begins = record { content = refl; behind = refl; count = refl }

-- a line of content, and what stands behind it
pub begins_with : (line text : List ℕ) (lines all : List (List ℕ)) → all ≡ line ∷ lines →
    content_of line ≡ Some text → BeginsWith text lines all
begins_with line text lines all is found = record {
  content = ap contents is ∙ ap (λ o. content_then o (contents lines)) found;
  behind = ap behind_contents is ∙ ap (λ o. behind_if o (line ∷ lines) (behind_contents lines)) found;
  count = ap count_contents is ∙ ap (λ o. count_then o (count_contents lines)) found;
}

-- TURNS

-- a blank line counts for nothing
pub turn_behind_blank : (number : ℕ) (line : List ℕ) (lines all : List (List ℕ)) → all ≡ line ∷ lines →
    is_blank line ≡ true → turn_from number all ≡ turn_from (number + 1) lines
turn_behind_blank number line lines all is blank = ap (turn_from number) is
    ∙ ap (λ (b : Bool). if b then turn_from (number + 1) lines
    else turn_of (number + 1) (line_told line (contents lines)) lines) blank

-- any other line tells
pub turn_at_line : (number : ℕ) (line : List ℕ) (lines all : List (List ℕ)) → all ≡ line ∷ lines →
    is_blank line ≡ false →
    turn_from number all ≡ turn_of (number + 1) (line_told line (contents lines)) lines
turn_at_line number line lines all is blank = ap (turn_from number) is
    ∙ ap (λ (b : Bool). if b then turn_from (number + 1) lines
    else turn_of (number + 1) (line_told line (contents lines)) lines) blank

-- a line that isn't blank has a byte
pub line_is_filled : (line : List ℕ) → is_blank line ≡ false → 0 < length line
line_is_filled [] blank = absurd (cc)
line_is_filled (byte ∷ rest) blank = omega arith

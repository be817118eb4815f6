-- Each instruction that is told is of the grammar.
use Rattle.std.proofs.Common.{◌≡◌, ℕ, ◌+◌, ◌-◌, ◌<◌, ◌≤◌, List, [], ◌∷◌, length, Option, Some, None, Bool, true, false}
use Rattle.std.proofs.Common.{refl, sym, ap, ◌∙◌, subst, arith}
use Rattle.std.specs.Prelude.{Result, Ok, Err, ◌&&◌, not, nat_le, option_map, if◌then◌else◌}
use Rattle.std.specs.Str.{all_ascii_digits, is_utf8}
use Rattle.std.specs.Str.Parse.{digits_value}
use Rattle.std.proofs.lemmas.Bool.{and_parts}
use Rattle.std.proofs.lemmas.Bool.Decides.{nat_tests}
use Rattle.app_config.specs.Entries.{is_blank}
use Rattle.word_forms.specs.Numbers.{begins_with_zero, value_within, number_of}
use Rattle.word_forms.specs.Targets.{is_target}
use Rattle.script_lines.specs.Content.{is_content, contents, content_of, behind_if, behind_contents, count_contents}
use Rattle.script_lines.specs.Grammar.{IsOfGrammar}
use Rattle.script_lines.specs.Lines.{line_told, worded, words, told_by, verb_of, write_told, remove_told, request_told}
use Rattle.script_lines.specs.Lines.{request_of, seated, only_seat, known_seat, seat_or_fault, seat_of, is_script_path}
use Rattle.script_lines.specs.Lines.{is_script_target}
use Rattle.script_lines.specs.Reading.{Left, Tells, turn_of, turn_from, next_turn}
use Rattle.script_lines.specs.declared.instruction.Instruction.{Instruction}
use Rattle.script_lines.specs.declared.instruction.Instruction.TheVariants.{Write, Remove, Request, Step, Finish}
use Rattle.script_lines.specs.declared.instruction.Told.{Told}
use Rattle.script_lines.specs.declared.instruction.LineKind.{LineKind}
use Rattle.script_lines.specs.declared.words.Verb.{Verb}
use Rattle.script_lines.specs.declared.words.Verb.TheVariants as verb
use Rattle.script_lines.specs.declared.instruction.LineKind.TheVariants.{BadPath, BadTarget, StrayContent}

-- SEATS

-- a number within a bound is at most that
within_most : (most n m : ℕ) → value_within most n ≡ Some m → m ≤ most
within_most most n m is = by (nat_le 1 n) (nat_le n most) refl refl
  where
    by : (a b : Bool) → nat_le 1 n ≡ a → nat_le n most ≡ b → m ≤ most
    by true true one two =
        let found : (if nat_le 1 n && nat_le n most then Some n else None) ≡ Some n = rw (one, two) refl in
        let same : m ≡ n = cc (is, found) in
        grind (arith, nat_tests)
    by true false one two =
        let found : (if nat_le 1 n && nat_le n most then Some n else None) ≡ None = rw (one, two) refl in
        absurd (cc (is, found))
    by false b one two =
        let found : (if nat_le 1 n && nat_le n most then Some n else None) ≡ None = rw one refl in
        absurd (cc (is, found))

-- a number that a word writes is within the bound
number_within : (most : ℕ) (word : List ℕ) (n : ℕ) → number_of most word ≡ Some n → n ≤ most
number_within most word n is = by (not (begins_with_zero word) && all_ascii_digits word) refl
  where
    by : (b : Bool) → (not (begins_with_zero word) && all_ascii_digits word) ≡ b → n ≤ most
    by true is_so = within_most most (digits_value 10 word) n
        (sym (ap (λ b. if b then value_within most (digits_value 10 word) else None) is_so) ∙ is)
    by false not_so = absurd (cc (ap (λ b. if b then value_within most (digits_value 10 word) else None) not_so, is))

-- a seat that a word writes is one of 64
seat_within : (word : List ℕ) (seat : ℕ) → seat_of word ≡ Some seat → seat < 64
seat_within word seat is = by (number_of 64 word) refl
  where
    by : (o : Option ℕ) → number_of 64 word ≡ o → seat < 64
    by None none = absurd (cc (ap (option_map (λ n. n - 1)) none, is))
    by (Some n) some =
        let same : seat ≡ n - 1 = cc (ap (option_map (λ m. m - 1)) some, is) in
        let le : n ≤ 64 = number_within 64 word n some in
        omega arith

known_within : (word : List ℕ) (seat : ℕ) → known_seat word ≡ Ok seat → seat < 64
known_within word seat is = by (seat_of word) refl
  where
    by : (o : Option ℕ) → seat_of word ≡ o → seat < 64
    by None none = absurd (cc (ap seat_or_fault none, is))
    by (Some n) some =
        let same : n ≡ seat = cc (ap seat_or_fault some, is) in
        seat_within word seat (some ∙ ap (λ m. Some m) same)

-- INSTRUCTIONS

-- what is made of a seat that a word writes
seated_within : (make : ℕ → Result Instruction LineKind) (word : List ℕ) (told : Instruction) →
    ((seat : ℕ) → seat < 64 → make seat ≡ Ok told → IsOfGrammar told) → seated make (known_seat word) ≡ Ok told →
    IsOfGrammar told
seated_within make word told of is = by (known_seat word) refl
  where
    by : (r : Result ℕ LineKind) → known_seat word ≡ r → IsOfGrammar told
    by (Ok seat) found = of seat (known_within word seat found) (sym (ap (seated make) found) ∙ is)
    by (Err kind) found = absurd (cc (ap (seated make) found, is))

-- a test of a length
short_length : (n : ℕ) → nat_le n 2048 ≡ true → n ≤ 2048
short_length n is = grind (arith, nat_tests)

-- a request, or the fault of its target
abbrev target_or_fault : ℕ → List ℕ → Bool → Result Instruction LineKind
target_or_fault seat target b = if b then Ok (Request seat target) else Err BadTarget

-- a target that is told
target_of_grammar : (target : List ℕ) (told : Instruction) (seat : ℕ) → seat < 64 →
    request_of target seat ≡ Ok told → IsOfGrammar told
target_of_grammar target told seat below is = by (is_script_target target) refl
  where
    by : (b : Bool) → is_script_target target ≡ b → IsOfGrammar told
    by true is_so =
        let both = and_parts (is_target target) (nat_le (length target) 2048) is_so in
        let same : Request seat target ≡ told = cc (ap (target_or_fault seat target) is_so, is) in
        subst IsOfGrammar same (below, both.0, short_length (length target) both.1)
    by false not_so = absurd (cc (ap (target_or_fault seat target) not_so, is))

-- an instruction, or the fault of its path
abbrev path_or_fault : Instruction → Bool → Result Instruction LineKind
path_or_fault made b = if b then Ok made else Err BadPath

-- a path that is told
path_of_grammar : (path : List ℕ) (made told : Instruction) →
    path_or_fault made (is_script_path path) ≡ Ok told →
    ((is_script_path path ≡ true) → IsOfGrammar made) → IsOfGrammar told
path_of_grammar path made told is of = by (is_script_path path) refl
  where
    by : (b : Bool) → is_script_path path ≡ b → IsOfGrammar told
    by true is_so =
        let same : made ≡ told =
        cc (ap (path_or_fault made) is_so, is) in
        subst IsOfGrammar same (of is_so)
    by false not_so = absurd (cc (ap (path_or_fault made) not_so, is))

write_of_grammar : (operands : List (List ℕ)) (content : List ℕ) (told : Instruction) →
    write_told operands content ≡ Ok told → IsOfGrammar told
write_of_grammar [] content told is = absurd (cc is)
write_of_grammar (path ∷ []) content told is =
    path_of_grammar path (Write path content) told is (λ is_so. and_parts (is_utf8 path) _ is_so)
write_of_grammar (path ∷ more ∷ rest) content told is = absurd (cc is)

remove_of_grammar : (operands : List (List ℕ)) (told : Instruction) → remove_told operands ≡ Ok told →
    IsOfGrammar told
remove_of_grammar [] told is = absurd (cc is)
remove_of_grammar (path ∷ []) told is =
    path_of_grammar path (Remove path) told is (λ is_so. and_parts (is_utf8 path) _ is_so)
remove_of_grammar (path ∷ more ∷ rest) told is = absurd (cc is)

request_of_grammar : (operands : List (List ℕ)) (told : Instruction) → request_told operands ≡ Ok told →
    IsOfGrammar told
request_of_grammar [] told is = absurd (cc is)
request_of_grammar (seat ∷ []) told is = absurd (cc is)
request_of_grammar (seat ∷ target ∷ []) told is =
    seated_within (request_of target) seat told (λ n below made. target_of_grammar target told n below made) is
request_of_grammar (seat ∷ target ∷ more ∷ rest) told is = absurd (cc is)

seat_of_grammar : (make : ℕ → Instruction) (operands : List (List ℕ)) (told : Instruction) →
    ((seat : ℕ) → seat < 64 → IsOfGrammar (make seat)) →
    seated (λ seat. Ok (make seat)) (only_seat operands) ≡ Ok told →
    IsOfGrammar told
seat_of_grammar make [] told of is = absurd (cc is)
seat_of_grammar make (word ∷ []) told of is =
    seated_within (λ seat. Ok (make seat)) word told
    (λ seat below made. let same : make seat ≡ told = cc made in subst IsOfGrammar same (of seat below)) is
seat_of_grammar make (word ∷ more ∷ rest) told of is = absurd (cc is)

verb_of_grammar : (v : Option Verb) (operands : List (List ℕ)) (content : List ℕ) (told : Instruction) →
    told_by v operands content ≡ Ok told → IsOfGrammar told
verb_of_grammar None operands content told is = absurd (cc is)
verb_of_grammar (Some verb.Write) operands content told is = write_of_grammar operands content told is
verb_of_grammar (Some verb.Remove) operands content told is = remove_of_grammar operands told is
verb_of_grammar (Some verb.Request) operands content told is = request_of_grammar operands told is
verb_of_grammar (Some verb.Step) operands content told is =
    seat_of_grammar (λ seat. Step seat) operands told (λ seat below. below) is
verb_of_grammar (Some verb.Finish) operands content told is =
    seat_of_grammar (λ seat. Finish seat) operands told (λ seat below. below) is

words_of_grammar : (ws : List (List ℕ)) (content : List ℕ) (told : Instruction) → worded ws content ≡ Ok told →
    IsOfGrammar told
words_of_grammar [] content told is = absurd (cc is)
words_of_grammar (word ∷ operands) content told is = verb_of_grammar (verb_of word) operands content told is

-- what words tell, or stray content
abbrev stray_or : List ℕ → List ℕ → Bool → Result Instruction LineKind
stray_or line content b = if b then Err StrayContent else worded (words line) content

-- what a line tells is of the grammar
line_of_grammar : (line content : List ℕ) (told : Instruction) → line_told line content ≡ Ok told → IsOfGrammar told
line_of_grammar line content told is = by (is_content line) refl
  where
    by : (b : Bool) → is_content line ≡ b → IsOfGrammar told
    by true is_so = absurd (cc (ap (stray_or line content) is_so, is))
    by false not_so = words_of_grammar (words line) content told (sym (ap (stray_or line content) not_so) ∙ is)

-- TURNS

-- no more lines stand behind content than there were
behind_is_less : (lines : List (List ℕ)) → length (behind_contents lines) ≤ length lines
behind_is_less [] = omega arith
behind_is_less (line ∷ lines) = by (content_of line) (behind_is_less lines)
  where
    by : (o : Option (List ℕ)) → length (behind_contents lines) ≤ length lines →
        length (behind_if o (line ∷ lines) (behind_contents lines)) ≤ length (line ∷ lines)
    by None less = omega arith
    by (Some text) less = omega (arith, less)

-- what a turn tells that a line begins, with what is left behind it
pub record IsGood (told : Told) (later : Left) (lines : List (List ℕ)) : Type 0 where
  pub grammar : IsOfGrammar told.instruction
  pub fewer : length later.lines ≤ length lines

plain_is_good : (number : ℕ) (instruction : Instruction) (lines : List (List ℕ)) (told : Told) (later : Left) →
    Tells (record { line = number; instruction = instruction }) (record { number = number; lines = lines })
    ≡ Tells told later → IsOfGrammar instruction → IsGood told later lines
plain_is_good number instruction lines told later is of =
    let same : record { line = number; instruction = instruction } ≡ told = cc is in
    let left : record { number = number; lines = lines } ≡ later = cc is in
    record {
      grammar = subst (λ (t : Told). IsOfGrammar t.instruction) same of;
      fewer = subst (λ (l : Left). length l.lines ≤ length lines) left (omega arith);
    }

turn_is_good : (number : ℕ) (found : Result Instruction LineKind) (lines : List (List ℕ)) (told : Told) (later : Left) →
    ((is : Instruction) → found ≡ Ok is → IsOfGrammar is) → turn_of number found lines ≡ Tells told later →
    IsGood told later lines
turn_is_good number (Err kind) lines told later of is = absurd (cc is)
turn_is_good number (Ok (Write path content)) lines told later of is =
    let same : record { line = number; instruction = Write path content } ≡ told = cc is in
    let left : record { number = number + count_contents lines; lines = behind_contents lines } ≡ later = cc is in
    record {
      grammar = subst (λ (t : Told). IsOfGrammar t.instruction) same (of (Write path content) refl);
      fewer = subst (λ (l : Left). length l.lines ≤ length lines) left (behind_is_less lines);
    }
turn_is_good number (Ok (Remove path)) lines told later of is =
    plain_is_good number (Remove path) lines told later is (of (Remove path) refl)
turn_is_good number (Ok (Request seat target)) lines told later of is =
    plain_is_good number (Request seat target) lines told later is (of (Request seat target) refl)
turn_is_good number (Ok (Step seat)) lines told later of is =
    plain_is_good number (Step seat) lines told later is (of (Step seat) refl)
turn_is_good number (Ok (Finish seat)) lines told later of is =
    plain_is_good number (Finish seat) lines told later is (of (Finish seat) refl)

-- what a text tells that begins with these lines
pub record IsNext (told : Told) (later : Left) (lines : List (List ℕ)) : Type 0 where
  pub grammar : IsOfGrammar told.instruction
  pub fewer : length later.lines < length lines

next_is_good : (number : ℕ) (lines : List (List ℕ)) (told : Told) (later : Left) →
    turn_from number lines ≡ Tells told later → IsNext told later lines
next_is_good number [] told later is = absurd (cc is)
next_is_good number (line ∷ lines) told later is =
    by (is_blank line) refl (next_is_good (number + 1) lines told later)
  where
    by : (b : Bool) → is_blank line ≡ b → (turn_from (number + 1) lines ≡ Tells told later → IsNext told later lines) →
        IsNext told later (line ∷ lines)
    by true is_so behind =
        let next : IsNext told later lines = behind (sym (ap (λ b. if b then turn_from (number + 1) lines
        else turn_of (number + 1) (line_told line (contents lines)) lines) is_so) ∙ is) in
        let fewer : length later.lines < length lines = next.fewer in
        record { grammar = next.grammar; fewer = omega arith }
    by false not_so behind =
        let good : IsGood told later lines =
        turn_is_good (number + 1) (line_told line (contents lines)) lines told later
        (λ made found. line_of_grammar line (contents lines) made found)
        (sym (ap (λ b. if b then turn_from (number + 1) lines
        else turn_of (number + 1) (line_told line (contents lines)) lines) not_so) ∙ is) in
        let fewer : length later.lines ≤ length lines = good.fewer in
        record { grammar = good.grammar; fewer = omega arith }

-- what a script tells next is of the grammar, and fewer lines are left behind it
pub told_is_good : (left later : Left) (told : Told) → next_turn left ≡ Tells told later →
    IsNext told later left.lines
told_is_good left later told is = next_is_good left.number left.lines told later is

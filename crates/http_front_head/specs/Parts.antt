-- What a head says to the connection that it came on (RFC 9110, sections 5.1 and 8.6; RFC 9112, sections 6.1, 6.3
-- and 9.6).
use Rattle.std.specs.Prelude.{◌==◌, ◌&&◌, ◌||◌, ℕ, Bool, false, not, nat_lt, List, [], ◌∷◌, length, map}
use Rattle.std.specs.Prelude.{Option, Some, None, codes, bytes_eq, if◌then◌else◌}
use Rattle.std.specs.List.{list_all, list_any, slice_split}
use Rattle.std.specs.Char.{is_ascii_digit}
use Rattle.std.specs.Str.{str_eq_ignore_ascii_case}
use Rattle.httparse.specs.Grammar.{RequestHead, trim_ows}
use Rattle.httparse.specs.Spans.{name_and_value}
use Rattle.http_front_head.specs.declared.parts.Verb.{Verb}
use Rattle.http_front_head.specs.declared.parts.Verb.TheVariants.{Get, HeadOnly, Other}
use Rattle.http_front_head.specs.declared.parts.HeadParts.{HeadParts}

-- a header line: its name, and its value without the white space around it
abbrev pub Line : Type 0
Line = List ℕ × List ℕ

-- Names and options are compared without regard to the case of ASCII letters.
abbrev pub is_word : List ℕ → List ℕ → Bool
is_word = str_eq_ignore_ascii_case

-- ---- whether the connection closes

-- a member of a comma list, without the spaces and tabs around it, is `close`
abbrev pub says_close : List ℕ → Bool
says_close member = is_word (trim_ows member) (codes "close")

-- the members of a comma list: what stands between its commas
abbrev pub members : List ℕ → List (List ℕ)
members value = slice_split (λ b. b == 44) value

-- some member of a comma list is
abbrev pub lists_close : List ℕ → Bool
lists_close value = list_any says_close (members value)

-- a `connection` line with `close` in its list
abbrev pub is_close_line : Line → Bool
is_close_line line = is_word line.0 (codes "connection") && lists_close line.1

-- The connection closes behind the response: by such a line, or because the version is 1.0.
abbrev pub closes : (minor : ℕ) → List Line → Bool
closes minor lines = minor == 0 || list_any is_close_line lines

-- ---- whether there is a body

-- a `content-length` line
abbrev pub is_length_line : Line → Bool
is_length_line line = is_word line.0 (codes "content-length")

-- one digit or more, and nothing else
abbrev pub is_number : List ℕ → Bool
is_number value = nat_lt 0 (length value) && list_all is_ascii_digit value

-- a number of zeros alone
abbrev pub is_zero : List ℕ → Bool
is_zero value = list_all (λ b. b == 48) value

-- a `transfer-encoding` line, or a length above 0
abbrev pub is_body_line : Line → Bool
is_body_line line = is_word line.0 (codes "transfer-encoding") || (is_length_line line && not (is_zero line.1))

-- A body is announced by such a line.
abbrev pub has_body : List Line → Bool
has_body lines = list_any is_body_line lines

-- a length that is no number
abbrev pub is_faulty_line : Line → Bool
is_faulty_line line = is_length_line line && not (is_number line.1)

-- a length line has another one behind it
abbrev pub repeats_length : List Line → Bool
repeats_length [] = false
repeats_length (line ∷ lines) = (is_length_line line && list_any is_length_line lines) || repeats_length lines

-- The length of the body can't be told: it is given twice, or is no number.
abbrev pub has_faulty_length : List Line → Bool
has_faulty_length lines = repeats_length lines || list_any is_faulty_line lines

-- ---- the whole head

-- the method, as far as it is told apart
abbrev pub verb_of : List ℕ → Verb
verb_of method =
    if bytes_eq method (codes "GET") then Get
    else (if bytes_eq method (codes "HEAD") then HeadOnly else Other)

-- what is said by these parts
abbrev pub parts_of : (method target : List ℕ) → (minor : ℕ) → List Line → HeadParts
parts_of method target minor lines =
    record { verb = verb_of method; target = target; close = closes minor lines; body = has_body lines }

-- what they say, unless the length is at fault
abbrev pub judged : (method target : List ℕ) → (minor : ℕ) → List Line → Option HeadParts
judged method target minor lines =
    if has_faulty_length lines then None else Some (parts_of method target minor lines)

-- what a head says, unless its length is at fault
unfoldable pub judge : RequestHead → Option HeadParts
judge head = judged head.method head.target head.minor (map name_and_value head.fields)

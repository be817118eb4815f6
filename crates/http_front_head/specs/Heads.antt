-- What the first bytes of an input are (RFC 9112, sections 2 to 5, as `httparse` reads it with its default settings).
use Rattle.std.specs.Prelude.{◌≡◌, ◌⊎◌, ◌<◌, ◌≤◌, ℕ, List, take, length, Some, None, ⊤}
use Rattle.httparse.specs.Grammar.{RequestHead, print_request, ReadsRequest, HasNoRequest, NeverHasRequest}
use Rattle.httparse.specs.Grammar.{MayBecomeRequest, EndsInTarget}
use Rattle.httparse.specs.Spans.{RequestExceeds, IsRequestWithin, IsRequestOf}
use Rattle.httparse.specs.declared.spans.HeaderSpan.{HeaderSpan}
use Rattle.http_front_head.specs.declared.parts.Head.{Head}
use Rattle.http_front_head.specs.declared.parts.Head.TheVariants.{Whole, More, Bad, Long, Many, Memory}
use Rattle.http_front_head.specs.declared.parts.HeadParts.{HeadParts}
use Rattle.http_front_head.specs.declared.kind.Kind.{Kind}
use Rattle.http_front_head.specs.declared.kind.Kind.TheVariants.{Found, Open, Lost, Crowded}
use Rattle.http_front_head.specs.Parts.{judge}

-- the greatest number of bytes of a head
abbrev pub longest_head : ℕ
longest_head = 16384

-- the greatest number of its header lines
abbrev pub most_lines : ℕ
most_lines = 64

-- the bytes that are looked at
abbrev pub looked_at : List ℕ → List ℕ
looked_at bytes = take longest_head bytes

-- bytes begin with this head, which has at most so many header lines
abbrev pub BeginsHead : List ℕ → RequestHead → Type 0
BeginsHead bytes head = (rest : List ℕ) × ReadsRequest bytes head rest × (length head.fields ≤ most_lines)

-- They hold no head, and they can become one, or their target can go on; and their header lines are few.
pub record IsOpen (bytes : List ℕ) : Type 0 where
  pub none : HasNoRequest bytes
  pub may : MayBecomeRequest bytes
  pub few : ¬ (RequestExceeds most_lines bytes)

-- They can't become a head, and not for their many header lines.
pub record IsLost (bytes : List ℕ) : Type 0 where
  pub never : NeverHasRequest bytes
  pub past_target : ¬ (EndsInTarget bytes)
  pub few : ¬ (RequestExceeds most_lines bytes)

-- a head that says this, and has so many bytes
abbrev pub BeginsWholeHead : List ℕ → ℕ → HeadParts → Type 0
BeginsWholeHead bytes n parts =
    (head : RequestHead) × BeginsHead bytes head × (judge head ≡ Some parts) × (n ≡ length (print_request head))

-- a head whose length of a body is at fault
abbrev pub BeginsFaultyHead : List ℕ → Type 0
BeginsFaultyHead bytes = (head : RequestHead) × BeginsHead bytes head × (judge head ≡ None)

-- a head that bytes begin with, judged
abbrev pub IsJudged : List ℕ → Head → Type 0
IsJudged bytes (Whole n parts) = BeginsWholeHead bytes n parts
IsJudged bytes Bad = BeginsFaultyHead bytes
IsJudged bytes More = ⊥
IsJudged bytes Long = ⊥
IsJudged bytes Many = ⊥
IsJudged bytes Memory = ⊥

-- What the bytes are, by their first `longest_head` bytes: a whole head of n bytes and what it says; an input that can
-- go on, or is too long for that; one that can't become a head or has a faulty one; one with too many header lines.
-- Want of memory is nothing that bytes are.
--
-- `GET /a HTTP/1.1`, CR LF, CR LF is a whole head of 19 bytes; its first 18 bytes are More; `GET /a HTTP/2` is Bad.
abbrev pub IsHead : List ℕ → Head → Type 0
IsHead bytes (Whole n parts) = BeginsWholeHead (looked_at bytes) n parts
IsHead bytes More = IsOpen (looked_at bytes) × (length bytes < longest_head)
IsHead bytes Bad = BeginsFaultyHead (looked_at bytes) ⊎ IsLost (looked_at bytes)
IsHead bytes Long = IsOpen (looked_at bytes) × (longest_head ≤ length bytes)
IsHead bytes Many = RequestExceeds most_lines (looked_at bytes)
IsHead bytes Memory = ⊥

-- no whole head can come of this, however the bytes go on
abbrev pub IsHopeless : Head → Type 0
IsHopeless (Whole n parts) = ⊥
IsHopeless More = ⊥
IsHopeless Bad = ⊤
IsHopeless Long = ⊤
IsHopeless Many = ⊤
IsHopeless Memory = ⊥

-- what bytes are, before a head in them is judged
abbrev pub IsKind : List ℕ → List HeaderSpan → Kind → Type 0
IsKind bytes headers (Found spans) = IsRequestWithin bytes headers spans × IsRequestOf bytes headers spans
IsKind bytes headers Open = IsOpen bytes
IsKind bytes headers Lost = IsLost bytes
IsKind bytes headers Crowded = RequestExceeds most_lines bytes

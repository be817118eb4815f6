-- The lines behind a `write` that tell the content of its file.
use Rattle.std.specs.Prelude.{◌≡◌, ℕ, suc, List, [], ◌∷◌, ◌++◌, ◌==◌, Option, Some, None, Bool, false, if◌then◌else◌}

-- a line of content begins with `|` (124)
abbrev pub is_content : List ℕ → Bool
is_content [] = false
is_content (first ∷ _) = first == 124

-- the text of a line of content: what stands behind the `|` (124) that such a line begins with
abbrev pub content_of : List ℕ → Option (List ℕ)
content_of [] = None
content_of (first ∷ text) = if first == 124 then Some text else None

-- a line of content and what follows it, each line ended by LF (10); nothing where the line is none
abbrev pub content_then : Option (List ℕ) → List ℕ → List ℕ
content_then None more = []
content_then (Some text) more = text ++ 10 ∷ more

-- The content that the lines at the front of a list tell: of `|a`, `|`, `b` it is `a`, LF, LF.
abbrev pub contents : List (List ℕ) → List ℕ
contents [] = []
contents (line ∷ lines) = content_then (content_of line) (contents lines)

-- the lines from a first one on that is no line of content; else those behind it
abbrev pub behind_if : Option (List ℕ) → List (List ℕ) → List (List ℕ) → List (List ℕ)
behind_if None here behind = here
behind_if (Some text) here behind = behind

-- the lines behind the content
abbrev pub behind_contents : List (List ℕ) → List (List ℕ)
behind_contents [] = []
behind_contents (line ∷ lines) = behind_if (content_of line) (line ∷ lines) (behind_contents lines)

-- one line of content more than these, or none where the line is none
abbrev pub count_then : Option (List ℕ) → ℕ → ℕ
count_then None more = 0
count_then (Some text) more = suc more

-- how many lines the content has
abbrev pub count_contents : List (List ℕ) → ℕ
count_contents [] = 0
count_contents (line ∷ lines) = count_then (content_of line) (count_contents lines)

-- lines that don't begin with one of content
pub record BeginsWithNone (lines : List (List ℕ)) : Type 0 where
  pub content : contents lines ≡ []
  pub behind : behind_contents lines ≡ lines
  pub count : count_contents lines ≡ 0

-- lines that begin with one of content, with this text and these lines behind it
pub record BeginsWith (text : List ℕ) (behind_it lines : List (List ℕ)) : Type 0 where
  pub content : contents lines ≡ text ++ 10 ∷ contents behind_it
  pub behind : behind_contents lines ≡ behind_contents behind_it
  pub count : count_contents lines ≡ suc (count_contents behind_it)

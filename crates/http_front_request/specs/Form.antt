-- The parameters that a form gives (URL Standard, section 5; Ruby on Rails guide "Action Controller Overview", on
-- parameters).
use Rattle.std.specs.Prelude.{ℕ, List, [], ◌∷◌, map, if◌then◌else◌, bytes_eq}
use Rattle.std.specs.Str.Lossy.{utf8_lossy}
use Rattle.form_urlencoded.specs.Form.{decode, raw_pairs}

-- A text of a form: `+` is a space, `%41` is `A`, and what is not UTF-8 becomes U+FFFD.
abbrev pub decoded : List ℕ → List ℕ
decoded bytes = utf8_lossy (decode bytes)

-- a name and its value
abbrev pub decoded_pair : List ℕ × List ℕ → List ℕ × List ℕ
decoded_pair pair = (decoded pair.0, decoded pair.1)

-- The pairs between the `&`, each a name and a value on the two sides of its first `=`. An empty piece is no pair.
abbrev pub form_pairs : List ℕ → List (List ℕ × List ℕ)
form_pairs form = map decoded_pair (raw_pairs form)

-- the value that the last of the pairs with this name gives it, or else this one
abbrev pub last_value : (name value : List ℕ) → List (List ℕ × List ℕ) → List ℕ
last_value name value [] = value
last_value name value (p ∷ pairs) = last_value name (if bytes_eq p.0 name then p.1 else value) pairs

-- the pairs with another name
abbrev pub without : (name : List ℕ) → List (List ℕ × List ℕ) → List (List ℕ × List ℕ)
without name [] = []
without name (p ∷ pairs) = if bytes_eq p.0 name then without name pairs else p ∷ without name pairs

-- Each name once. A repeated name keeps its first place and takes its last value: of `a=1&b=2&a=3` they are `a` with
-- `3` and `b` with `2`.
abbrev pub each_once : List (List ℕ × List ℕ) → List (List ℕ × List ℕ)
each_once [] = []
each_once (p ∷ pairs) = (p.0, last_value p.0 p.1 pairs) ∷ without p.0 (each_once pairs)

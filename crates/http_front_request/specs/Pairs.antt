-- A form's pairs as they are read one after another.
use Rattle.std.specs.Prelude.{ℕ, List, [], ◌∷◌, if◌then◌else◌, bytes_eq, String, string_bytes}

-- a name that is there keeps its place and takes the value; another one goes last
abbrev pub given : List (List ℕ × List ℕ) → (name value : List ℕ) → List (List ℕ × List ℕ)
given [] name value = (name, value) ∷ []
given (p ∷ pairs) name value =
    if bytes_eq name p.0 then (p.0, value) ∷ pairs else p ∷ given pairs name value

-- each pair in turn
abbrev pub given_all : (done pairs : List (List ℕ × List ℕ)) → List (List ℕ × List ℕ)
given_all done [] = done
given_all done (p ∷ pairs) = given_all (given done p.0 p.1) pairs

-- the bytes of a name and a value
abbrev pub entry_bytes : {A : Type 0} → String A × String A → List ℕ × List ℕ
entry_bytes entry = (string_bytes entry.0, string_bytes entry.1)

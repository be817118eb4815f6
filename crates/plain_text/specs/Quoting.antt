-- How texts stand in double quotes (the Ruby documentation of String#inspect and of string literals).
use Rattle.std.specs.Prelude.{ℕ, List, [], ◌∷◌, ◌++◌, if◌then◌else◌, ◌==◌}
use Rattle.std.specs.List.{flat_map}

-- One byte inside quotes, by a table of escapes: a byte that the table has stands as a `\` (92) and the table's letter,
-- any other as itself.
abbrev pub escaped_by : List (ℕ × ℕ) → ℕ → List ℕ
escaped_by [] byte = byte ∷ []
escaped_by (escape ∷ escapes) byte = if byte == escape.0 then 92 ∷ escape.1 ∷ [] else escaped_by escapes byte

-- what `inspect` escapes: `"` (34) and `\` (92) as themselves, LF (10) as `n`, TAB (9) as `t`, CR (13) as `r`
abbrev pub inspect_escapes : List (ℕ × ℕ)
inspect_escapes = (34, 34) ∷ (92, 92) ∷ (10, 110) ∷ (9, 116) ∷ (13, 114) ∷ []

-- What stands for a byte in double quotes, as `inspect` writes it: LF is `\n`, `é` is itself.
abbrev pub escaped : ℕ → List ℕ
escaped byte = escaped_by inspect_escapes byte

-- the bytes between double quotes, each as it stands there
abbrev pub quoted : List ℕ → List ℕ
quoted bytes = 34 ∷ (flat_map escaped bytes ++ 34 ∷ [])

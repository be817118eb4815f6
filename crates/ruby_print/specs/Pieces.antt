-- The small pieces of a printed text.
use Rattle.std.specs.Prelude.{ℕ, List, [], ◌∷◌, ◌++◌, if◌then◌else◌, ◌==◌}
use Rattle.ruby_types.specs.Paths.{path_text}
use Rattle.ruby_types.specs.declared.tree.ConstRef.{ConstRef}

-- One byte of a text in double quotes (Ruby's documentation of string literals): `"` (34), `\` (92) and `#` (35)
-- stand behind
-- a `\`; LF (10) is `\n`, TAB (9) `\t`, CR (13) `\r` and ESC (27) `\e`; any other byte is itself.
abbrev pub escaped : ℕ → List ℕ
escaped byte =
    if byte == 34 then 92 ∷ 34 ∷ []
    else (if byte == 92 then 92 ∷ 92 ∷ []
    else (if byte == 35 then 92 ∷ 35 ∷ []
    else (if byte == 10 then 92 ∷ 110 ∷ []
    else (if byte == 9 then 92 ∷ 116 ∷ []
    else (if byte == 13 then 92 ∷ 114 ∷ []
    else (if byte == 27 then 92 ∷ 101 ∷ [] else byte ∷ []))))))

-- the members of a list with `, ` between them
abbrev pub joined : List (List ℕ) → List ℕ
joined [] = []
joined (x ∷ []) = x
joined (x ∷ y ∷ ys) = x ++ (44 ∷ 32 ∷ joined (y ∷ ys))

-- a constant as it is written: `A::B`, or `::A::B` where it is of the top level
abbrev pub constant_text : ConstRef → List ℕ
constant_text c = (if c.top then 58 ∷ 58 ∷ [] else []) ++ path_text c.path

-- in parentheses
abbrev pub grouped : List ℕ → List ℕ
grouped text = 40 ∷ (text ++ 41 ∷ [])

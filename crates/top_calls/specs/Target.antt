-- The targets that are answered today.
use Rattle.std.specs.Prelude.{◌≡◌, ℕ, Bool, true, List, ◌∷◌, ◌++◌, ◌==◌, not}
use Rattle.std.specs.List.{list_all}
use Rattle.load_rules.specs.Names.{IsLetters}

-- the target is `/NAME/ACTION`, both of letters `a` to `z`
abbrev pub IsFirstTarget : List ℕ → (controller action : List ℕ) → Type 0
IsFirstTarget target controller action = (target ≡ 47 ∷ (controller ++ 47 ∷ action)) × IsLetters controller
    × IsLetters action

-- the byte is another than `/`
abbrev pub is_no_slash : ℕ → Bool
is_no_slash byte = not (byte == 47)

-- a piece of a path: it has no `/`
abbrev pub IsSegment : List ℕ → Type 0
IsSegment bytes = list_all is_no_slash bytes ≡ true

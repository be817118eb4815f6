-- What a full list of notes keeps of a number more.
use Rattle.std.specs.Prelude.{ℕ, List, [], ◌∷◌, ◌++◌, length, nat_lt, if◌then◌else◌}

-- the notes with one number more, where there is room for it
abbrev pub noted : ℕ → List ℕ → List ℕ
noted n notes = if nat_lt (length notes) 1024 then (notes ++ n ∷ []) else notes

-- Entries at places of a list.
use Rattle.std.specs.Prelude.{ℕ, List, [], ◌∷◌, map, Option, Some, None, slice_get}
use Rattle.std.specs.Global.{Vec}
use Rattle.std.specs.List.{flat_map}
use Rattle.program_files.specs.Entries.{Entry}

-- the entry, if there is one
abbrev pub entry_list : Option Entry → List Entry
entry_list None = []
entry_list (Some e) = e ∷ []

-- the entry at a place
abbrev pub entry_at : List Entry → (place : ℕ) → List Entry
entry_at es place = entry_list (slice_get es place)

-- the entries at these places
abbrev pub placed : List Entry → (places : List ℕ) → List Entry
placed es places = flat_map (entry_at es) places

-- the entries at the places of each group
abbrev pub placed_groups : List Entry → List (Vec ℕ) → List (List Entry)
placed_groups es groups = map (λ g. placed es g.items) groups

-- What counts in a file, and what counts twice.
use Rattle.std.specs.Prelude.{ℕ, Bool, true, false, ◌&&◌, not, List, [], ◌∷◌, bytes_eq}
use Rattle.std.specs.List.{list_any}

-- what a definition does to its path
pub data Act : Type 0 where
  assigns : Act
  opens_module : Act
  opens_class : Act
  gives_parent : Act
  -- a method of the body at the path; the flag is true of a singleton method
  defines : Bool → List ℕ → Act

-- The full path, what is done, and the place of the name that does it.
pub record Mark : Type 0 where
  pub path : List (List ℕ)
  pub act : Act
  pub at : ℕ

-- the paths are equal, name by name
abbrev pub same_path : List (List ℕ) → List (List ℕ) → Bool
same_path [] [] = true
same_path [] (n ∷ ns) = false
same_path (m ∷ ms) [] = false
same_path (m ∷ ms) (n ∷ ns) = bytes_eq m n && same_path ms ns

-- both flags are true, or both false
abbrev pub same_flag : Bool → Bool → Bool
same_flag true b = b
same_flag false b = not b

-- A path is assigned twice, assigned and opened, opened with another keyword, given a parent twice, or a method of
-- one kind
-- and name is defined twice in its body.
abbrev pub acts_clash : Act → Act → Bool
acts_clash assigns assigns = true
acts_clash assigns opens_module = true
acts_clash assigns opens_class = true
acts_clash opens_module assigns = true
acts_clash opens_module opens_class = true
acts_clash opens_class assigns = true
acts_clash opens_class opens_module = true
acts_clash gives_parent gives_parent = true
acts_clash (defines single name) (defines single' name') = same_flag single single' && bytes_eq name name'
acts_clash _ _ = false

-- the two definitions count twice: of one path, with acts that can't both stand in a file
abbrev pub clash : Mark → Mark → Bool
clash m n = same_path m.path n.path && acts_clash m.act n.act

-- a mark clashes with one of those before it
abbrev pub clashes_any : List Mark → Mark → Bool
clashes_any ms m = list_any (clash m) ms

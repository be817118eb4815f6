-- How a controller's file and class are named.
use Rattle.std.specs.Prelude.{◌≡◌, ◌≢◌, ℕ, true, List, [], ◌∷◌, ◌++◌, codes}
use Rattle.std.specs.List.{list_all}
use Rattle.std.specs.Char.{is_ascii_lowercase, to_ascii_uppercase}

-- one or more letters `a` to `z`
abbrev pub IsLetters : List ℕ → Type 0
IsLetters name = (name ≢ []) × (list_all is_ascii_lowercase name ≡ true)

-- the file of a controller: of `hello`, `app/controllers/hello_controller.rb`
abbrev pub first_path : List ℕ → List ℕ
first_path name = codes "app/controllers/" ++ (name ++ codes "_controller.rb")

-- the text with its first byte in upper case
abbrev pub capitalized : List ℕ → List ℕ
capitalized [] = []
capitalized (byte ∷ bytes) = to_ascii_uppercase byte ∷ bytes

-- The class of a controller: of `hello`, `HelloController`. Each piece of the file's base name between `_` is
-- capitalized,
-- and the pieces are joined.
abbrev pub class_name : List ℕ → List ℕ
class_name name = capitalized name ++ codes "Controller"

-- The target of a request.
use Rattle.std.specs.Prelude.{ℕ, Bool, false, List, [], ◌∷◌, ◌==◌, ◌&&◌, nat_le}
use Rattle.std.specs.List.{list_all}

-- a visible ASCII byte, from `!` (33) to `~` (126)
abbrev pub is_visible : ℕ → Bool
is_visible byte = nat_le 33 byte && nat_le byte 126

-- A target begins with `/` (47) and has visible ASCII bytes alone (RFC 3986, section 2; RFC 9112, section 3.2.1: a
-- target in origin form is an absolute path).
abbrev pub is_target : List ℕ → Bool
is_target [] = false
is_target (first ∷ rest) = (first == 47) && list_all is_visible rest

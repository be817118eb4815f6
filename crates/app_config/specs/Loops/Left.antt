-- What is left of a text that is read part by part: nothing behind its last part.
use Rattle.std.specs.Prelude.{ℕ, suc, List, [], length, Option, Some, None}
use denote.Ref.{Bor}
use Rattle.app_config.specs.Text.{split}

-- the parts that are left
abbrev pub parts_left : ℕ → Option (Bor (List ℕ)) → List (List ℕ)
parts_left byte None = []
parts_left byte (Some rest) = split byte rest.now

-- a bound on them
abbrev pub size_left : Option (Bor (List ℕ)) → ℕ
size_left None = 0
size_left (Some rest) = suc (length rest.now)

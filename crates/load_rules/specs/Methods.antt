-- What is read back from a tree of the first form.
use Rattle.std.specs.Prelude.{◌≡◌, ℕ, List, Option, Some, None}
use Rattle.std.specs.Borrow.{Bor}
use Rattle.load_rules.specs.declared.form.FirstMethod.{FirstMethod}
use Rattle.load_rules.specs.FirstForm.{FirstParts}

-- a text was found, and it is this one
abbrev pub HasText : Option (Bor (List ℕ)) → List ℕ → Type 0
HasText None text = ⊥
HasText (Some found) text = found.now ≡ text

-- the name and the text of these parts
abbrev pub IsMethodOf : FirstMethod → FirstParts → Type 0
IsMethodOf method parts = (method.name.now ≡ parts.name) × (method.text.now ≡ parts.text)

-- a method was found, and it is the one of these parts
abbrev pub HasMethod : Option FirstMethod → FirstParts → Type 0
HasMethod None parts = ⊥
HasMethod (Some method) parts = IsMethodOf method parts

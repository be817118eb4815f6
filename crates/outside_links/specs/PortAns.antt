-- What the answer of a port says.
use Rattle.std.specs.Prelude.{◌≡◌, ◌≢◌, ℕ, Bool, true, false, List, [], ◌∷◌, Option, ⊤}
use Rattle.outside.specs.Told.{prefixed}
use Rattle.outside_links.specs.declared.ports.PortAns.{PortAns}
use Rattle.outside_links.specs.declared.ports.PortAns.TheVariants.{Link, End, Failed}

-- the call counts as a fault
abbrev pub port_failed : {L : Type 0} → PortAns L → Bool
port_failed (Link link) = false
port_failed End = false
port_failed Failed = true

-- how many links the answer gives
abbrev pub links_given : {L : Type 0} → PortAns L → ℕ
links_given (Link link) = 1
links_given End = 0
links_given Failed = 0

-- A port has ended once it has answered End.
abbrev pub Ends : {L : Type 0} → PortAns L → (before now : Bool) → Type 0
Ends (Link link) before now = now ≡ before
Ends End before now = now ≡ true
Ends Failed before now = now ≡ before

-- A link that is given is the first that was left. End and Failed take none.
abbrev pub TakesLink : {L : Type 0} → PortAns L → (before now : Option (List L)) → Type 0
TakesLink (Link link) before now = before ≡ prefixed (link ∷ []) now
TakesLink End before now = now ≡ before
TakesLink Failed before now = now ≡ before

-- An answer that isn't Failed is End exactly where no link is left.
abbrev pub EndsWhereNoLinkIsLeft : {L : Type 0} → PortAns L → (left : List L) → Type 0
EndsWhereNoLinkIsLeft (Link link) left = left ≢ []
EndsWhereNoLinkIsLeft End left = left ≡ []
EndsWhereNoLinkIsLeft Failed left = ⊤

-- a link that is given is such a one
abbrev pub GivesOnly : {L : Type 0} → (L → Type 0) → PortAns L → Type 0
GivesOnly P (Link link) = P link
GivesOnly P End = ⊤
GivesOnly P Failed = ⊤

-- Small facts on lists and results.
use Rattle.std.proofs.Common.{◌≡◌, ℕ, List, [], ◌∷◌, length, Bool, true, false, sym, refl, ◌∙◌}
use Rattle.std.proofs.Common.{arith, eqb}
use Rattle.std.proofs.lemmas.Bool.{false≢true, eqb-true, eq-eqb}

-- a list whose length was found to be 0 is empty
pub empty_when : {T : Type 0} (ts : List T) (n : ℕ) (b : Bool) → n ≡ length ts → b ≡ eqb n 0 → b ≡ true → ts ≡ []
empty_when [] n b l e h = refl
empty_when (t ∷ ts) n b l e h = let z : n ≡ 0 = eqb-true n 0 (sym e ∙ h) in absurd (omega (arith, z, l))

-- a list whose length was found to be another is not
pub full_when : {T : Type 0} (ts : List T) (n : ℕ) (b : Bool) → n ≡ length ts → b ≡ eqb n 0 → b ≡ false → ts ≡ [] → ⊥
full_when [] n b l e h none = false≢true (sym h ∙ e ∙ eq-eqb n 0 l)
full_when (t ∷ ts) n b l e h none = absurd cc

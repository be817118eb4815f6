-- The heads that bytes begin with.
use Rattle.std.specs.Prelude.{◌≡◌, ◌⊎◌, ℕ, true, false, List, [], ◌∷◌, drop, ⊤}
use Rattle.connection_items.specs.declared.heads.Reading.TheVariants.{Whole}
use Rattle.connection_items.specs.Rules.{Rules, HasNoHead, closes}

module _ {P I E R H F : Type 0} (rules : Rules P I E R H F) where
  -- These are all whole heads that the bytes begin with, ending after one that closes, and this is the rest: there is
  -- no whole head, and all is the rest; or the first one closes, and what is behind it is the rest; or it doesn't, and
  -- the others are the heads of what is behind it.
  abbrev pub Heads : (bytes : List ℕ) → List P → (rest : List ℕ) → Type 0
  Heads bytes [] rest = HasNoHead rules bytes × (bytes ≡ rest)
  Heads bytes (p ∷ ps) rest = (n : ℕ) × (rules.reads bytes (Whole n p)
      × (((closes rules p ≡ true) × (ps ≡ []) × (drop n bytes ≡ rest))
      ⊎ ((closes rules p ≡ false) × Heads (drop n bytes) ps rest)))

  -- The bytes begin with these heads, of which none but the last closes.
  abbrev pub BeginWith : (bytes : List ℕ) → List P → Type 0
  BeginWith bytes [] = ⊤
  BeginWith bytes (p ∷ ps) = (n : ℕ) × (rules.reads bytes (Whole n p)
      × (((closes rules p ≡ true) × (ps ≡ [])) ⊎ ((closes rules p ≡ false) × BeginWith (drop n bytes) ps)))

  -- The bytes begin with these heads, none of which closes, and this is behind them. There may be more heads in it.
  abbrev pub Passed : (bytes : List ℕ) → List P → (behind : List ℕ) → Type 0
  Passed bytes [] behind = bytes ≡ behind
  Passed bytes (p ∷ ps) behind = (n : ℕ) × (rules.reads bytes (Whole n p)
      × ((closes rules p ≡ false) × Passed (drop n bytes) ps behind))

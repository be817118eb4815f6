-- How a pass leaves a section.
use Rattle.std.specs.Prelude.{◌⊎◌, ℕ, List, [], ◌∷◌}
use Rattle.system_events.specs.declared.event.Entry.{Entry}
use Rattle.system_events.specs.declared.event.Kept.TheVariants.{Release, Resume}
use Rattle.shop_base.specs.Passes.{Gains}

-- Its own acts among all that `seen` grew by are a Release, and a Resume where it had to wait for those that go first.
abbrev pub Leaves : {M T V P Q R F : Type 0} → ℕ → List (Entry M T V P Q R F) → List (Entry M T V P Q R F) → Type 0
Leaves k before now = Gains k (Release ∷ []) before now ⊎ Gains k (Release ∷ Resume ∷ []) before now

-- How fresh the generation in force is that a request begins on.
use Rattle.std.specs.Prelude.{◌≡◌, ◌≢◌, ◌≤◌, ◌⊎◌, ℕ, Bool, true, List, [], ◌∷◌, ◌++◌, length}
use Rattle.system_events.specs.declared.event.Entry.{Entry}
use Rattle.system_events.specs.declared.event.Kept.{Kept}
use Rattle.system_events.specs.declared.event.Kept.TheVariants.{Reload}
use Rattle.system_events.specs.Facts.{Facts}
use Rattle.system_events.specs.Legal.{after}
use Rattle.system_laws.specs.Lawful.{IsNoReload, NoReload}
use Rattle.shop_base.specs.Passes.{seat_limit, entry}

module _ {M T V P Q R F : Type 0} where
  -- none of the acts is a Reload
  abbrev pub NoneReloads : List (Kept M T V P Q R F) → Type 0
  NoneReloads [] = Unit {0}
  NoneReloads (kept ∷ more) = IsNoReload kept × NoneReloads more

module _ {M T V P Q R F : Type 0} (f : Facts T V P Q R F) where
  -- The last Reload of a history is of another seat than k, and so many entries or more stand before it.
  pub record ReloadedSince (k count : ℕ) (history : List (Entry M T V P Q R F)) : Type 0 where
    pub front : List (Entry M T V P Q R F)
    pub seat : ℕ
    pub program : P
    pub rest : List (Entry M T V P Q R F)
    pub is : history ≡ front ++ entry seat (Reload program) ∷ rest
    pub last : NoReload f rest
    pub other : seat ≢ k
    pub since : count ≤ length front

module _ {M T V P Q R F S : Type 0} (f : Facts T V P Q R F) (has_stamps : P → S → Bool) where
  -- the files of the program in force after a history have these stamps
  abbrev pub in_force : List (Entry M T V P Q R F) → S → Bool
  in_force history stamps = has_stamps (after f seat_limit history).counts.program stamps

  -- A request of seat k that begins behind this history is on a fresh generation: the last Reload has the stamps that
  -- its check was given last, or another seat made it since its check began, when so many entries were there.
  abbrev pub IsFresh : ℕ → S → ℕ → List (Entry M T V P Q R F) → Type 0
  IsFresh k stamps count history = (in_force history stamps ≡ true) ⊎ ReloadedSince f k count history

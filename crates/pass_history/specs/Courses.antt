-- What a pass's turns add to its acts and to its items.
use Rattle.std.specs.Prelude.{◌≡◌, ℕ, ◌==◌, if◌then◌else◌, List, [], ◌∷◌, ◌++◌, Option, None}
use Rattle.system_events.specs.declared.event.Entry.{Entry}
use Rattle.system_events.specs.declared.event.Kept.{Kept}
use Rattle.system_events.specs.declared.event.Kept.TheVariants.{Begin, End, Refuse}
use Rattle.shop_base.specs.Passes.{Gains}
use Rattle.shop_base.specs.Mine.{Item, generation_after, request_after, mine}

module _ {M T V P Q R F : Type 0} where
  -- the number of the generation in force after these entries, where this one was before them
  abbrev pub generation_from : ℕ → List (Entry M T V P Q R F) → ℕ
  generation_from generation [] = generation
  generation_from generation (e ∷ es) = generation_from (generation_after generation e.kept) es

  -- the request that seat k runs after these entries, where it ran this one before them
  abbrev pub request_from : ℕ → Option Q → List (Entry M T V P Q R F) → Option Q
  request_from k running [] = running
  request_from k running (e ∷ es) =
      request_from k (if e.seat == k then request_after running e.kept else running) es

  -- the number of the generation in force after a history, which the opening Reload begins as 0
  abbrev pub generation_in : List (Entry M T V P Q R F) → ℕ
  generation_in [] = 0
  generation_in (opening ∷ es) = generation_from 0 es

  -- the request that seat k runs after a history
  abbrev pub request_in : ℕ → List (Entry M T V P Q R F) → Option Q
  request_in k [] = None
  request_in k (opening ∷ es) = request_from k None es

  -- the act neither begins nor ends a request
  abbrev pub IsQuiet : Kept M T V P Q R F → Type 0
  IsQuiet (Begin request) = ⊥
  IsQuiet (End reply) = ⊥
  IsQuiet (Refuse cause) = ⊥
  IsQuiet _ = Unit {0}

  -- none of the acts begins or ends a request
  abbrev pub AreQuiet : List (Kept M T V P Q R F) → Type 0
  AreQuiet [] = Unit {0}
  AreQuiet (kept ∷ more) = IsQuiet kept × AreQuiet more

  -- Several turns of a pass: of all that it has seen since, these acts are its own, and it gained these items.
  -- Of Share, Begin r, End a, Unshare the item is r with a on the generation in force.
  pub record Course (k : ℕ) (acts : List (Kept M T V P Q R F)) (items : List (Item M T V P Q R F))
      (before now : List (Entry M T V P Q R F)) : Type 0 where
    pub gains : Gains k acts before now
    pub items_are : mine k now ≡ mine k before ++ items

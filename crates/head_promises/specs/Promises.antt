-- What is promised of each head that a pass serves.
use Rattle.std.specs.Prelude.{◌≡◌, ◌⊎◌, ℕ, Bool, List, [], ◌∷◌, map, Option, IfSome}
use Rattle.outside.specs.declared.files.Stamp.{Stamp}
use Rattle.turn_lock.specs.Entries.{Lags, Begins}
use Rattle.system_events.specs.declared.event.Cause.{Cause}
use Rattle.system_events.specs.declared.event.Counts.{Counts}
use Rattle.system_events.specs.declared.event.Entry.{Entry}
use Rattle.system_events.specs.declared.event.Kept.{Kept}
use Rattle.system_events.specs.Facts.{Facts}
use Rattle.system_events.specs.Legal.{after, IsLegal}
use Rattle.shop_base.specs.Passes.{seat_limit, seat_of, entry}
use Rattle.shop_base.specs.Mine.{Item}
use Rattle.connection_items.specs.Exchanges.{Standing, Exchange, Attempt}
use Rattle.pass_history.specs.Courses.{generation_in}
use Rattle.head_promises.specs.Courses.{Wanted, Outcome, Replied, Refused, Abandoned, Unbegun, items_of, HeadCourse}

-- N: what is read of a head. B: receipts. H: what the hooks keep.
module _ {M T V P Q R F N B H : Type 0} (f : Facts T V P Q R F) (has_stamps : P → List (List ℕ × Stamp) → Bool)
    (wanted : N → Wanted Q (Cause M T V P Q R F)) where
  -- A head that got an item. One seat made all its entries, in the order of its course, in a legal history; its item is
  -- the one of its outcome, with the generation that was in force at its Begin or its Refuse.
  pub record Promise (old : Standing (Item M T V P Q R F) (Entry M T V P Q R F) H)
      (x : Exchange N (Item M T V P Q R F) (Entry M T V P Q R F) B)
      (new : Standing (Item M T V P Q R F) (Entry M T V P Q R F) H) : Type 0 where
    pub seat : ℕ
    pub outcome : Outcome Q R (Cause M T V P Q R F)
    pub acts : List (Kept M T V P Q R F)
    pub legal : IsLegal f seat_limit new.seen
    pub course : HeadCourse f has_stamps seat (wanted x.head) outcome x.added.given x.added.reloaded acts old.seen
        new.seen
    pub entries : x.added.entries ≡ map (entry seat) acts
    pub item : items_of outcome (generation_in course.begun) ≡ x.item ∷ []

-- an outcome without an item
abbrev pub HasNoItem : {Q R C : Type 0} → Outcome Q R C → Type 0
HasNoItem (Replied q reply) = ⊥
HasNoItem (Refused why) = ⊥
HasNoItem (Abandoned q) = Unit {0}
HasNoItem Unbegun = Unit {0}

-- L: limits that are met.
module _ {M T V P Q R F N H L : Type 0} (f : Facts T V P Q R F) (has_stamps : P → List (List ℕ × Stamp) → Bool)
    (wanted : N → Wanted Q (Cause M T V P Q R F)) (MeetsLimit : Counts M T V P Q R F → L → Type 0) where
  -- A head that got no item. It wasn't shared, and made no entry and read nothing; or its course has an outcome without
  -- an item. A limit, where one is told, was met in what the pass has seen since.
  pub record Shortfall (old : Standing (Item M T V P Q R F) (Entry M T V P Q R F) H)
      (a : Attempt N (Entry M T V P Q R F)) (limit : Option L)
      (new : Standing (Item M T V P Q R F) (Entry M T V P Q R F) H) : Type 0 where
    pub seat : ℕ
    pub acts : List (Kept M T V P Q R F)
    pub legal : IsLegal f seat_limit new.seen
    pub entries : a.added.entries ≡ map (entry seat) acts
    pub course : ((acts ≡ []) × ((a.added.given ≡ []) × Lags seat_of seat old.seen new.seen))
        ⊎ ((outcome : Outcome Q R (Cause M T V P Q R F))
        × (HasNoItem outcome
        × HeadCourse f has_stamps seat (wanted a.head) outcome a.added.given a.added.reloaded acts old.seen new.seen))
    pub met : IfSome limit (λ l. (at : List (Entry M T V P Q R F))
        × (Begins old.seen at × (Begins at new.seen × MeetsLimit (after f seat_limit at).counts l)))

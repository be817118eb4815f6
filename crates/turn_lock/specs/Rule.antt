-- The rule of the table: what holds between any two steps.
use Rattle.std.specs.Prelude.{◌≡◌, ℕ, ◌+◌, ◌%◌, ◌^◌, ◌<◌, ◌≤◌, Bool, true, false, List, [], ◌∷◌, length, Option, Some}
use Rattle.std.specs.Prelude.{None}
use mathlib.Core.Option.{none, some}
use mathlib.Core.Option as maybe
use lib.ListN.{get_elem?}
use Rattle.atomic_table.specs.Table.{State}
use Rattle.turn_lock.specs.declared.view.View.{View}
use Rattle.turn_lock.specs.Entries.{NoneFrom, Lags, Begins}

-- f of each, added up
abbrev pub total : {A : Type 0} → (A → ℕ) → List A → ℕ
total f [] = 0
total f (x ∷ xs) = f x + total f xs

-- 1 where there is one
abbrev pub count_some : Option ℕ → ℕ
count_some (Some _) = 1
count_some None = 0

-- 1 where it is so
abbrev pub count_true : Bool → ℕ
count_true true = 1
count_true false = 0

module _ {B E W : Type 0} where
  -- 1 for a view with a ticket
  abbrev pub ticket_count : View B E W → ℕ
  ticket_count v = count_some v.ticket

  -- 1 for a live view
  abbrev pub live_count : View B E W → ℕ
  live_count v = count_true v.live

-- the slot, which is out while a turn lasts
abbrev pub slot_home : {B : Type 0} → Bool → B → maybe.Option (Option B)
slot_home true value = none
slot_home false value = some (Some value)

module _ {B E W : Type 0} (history : B → List E) (seat_of : E → ℕ) (rows : B → ℕ → W) (rest : W) where
  -- What the rule says of the view of the seat i. The numbers below given were given; owner has the seat of each
  -- number, and holder the seat of each ticket that is out.
  pub record Fits
      (log : List E) (value : B) (taken : Bool) (served drawn given : ℕ) (owner holder : ℕ → ℕ)
      (i : ℕ) (v : View B E W) : Type 0 where
    pub dead : v.live ≡ false → (v.ticket ≡ None) × (v.turn ≡ None)
    pub numbered : v.live ≡ true → (v.number < given) × (owner v.number ≡ i)
    pub root : v.live ≡ true → v.number ≡ 0 → v.next ≡ given
    pub lags : v.live ≡ true → Lags seat_of v.number v.seen log
    -- this is said of views that are not live, too
    pub told : Begins v.heard log
    pub row_is : v.live ≡ true → v.row ≡ rows value v.number
    pub ticketed : (t : ℕ) → v.ticket ≡ Some t → (served ≤ t) × (t < drawn) × (holder t ≡ i)
    pub turned :
        (b : B) → v.turn ≡ Some b → (b ≡ value) × (taken ≡ true) × (v.ticket ≡ Some served) × (v.seen ≡ log)
    pub turn_is : v.ticket ≡ Some served → taken ≡ true → v.turn ≡ Some value

  -- the whole rule
  pub record Turning (s : State (Option B) (View B E W)) : Type 0 where
    pub log : List E
    -- the value at home, or as the turn found it
    pub value : B
    pub taken : Bool
    -- how many turns have ended, and how many tickets were drawn
    pub served : ℕ
    pub drawn : ℕ
    -- how many numbers were given
    pub given : ℕ
    -- the seat that has a number, and the seat that has a ticket
    pub owner : ℕ → ℕ
    pub holder : ℕ → ℕ
    pub words : s.words ≡ drawn % 2 ^ 64 ∷ served % 2 ^ 64 ∷ length log % 2 ^ 64 ∷ []
    pub homes : s.homes ≡ slot_home taken value ∷ []
    pub kept : taken ≡ false → history value ≡ log
    -- as many tickets are in views as are out
    pub out : drawn ≡ served + total ticket_count s.views
    pub busy : taken ≡ true → served < drawn
    pub few : (total live_count s.views ≤ given) × (given ≤ 64)
    pub unused_rows : (k : ℕ) → given ≤ k → k < 64 → rows value k ≡ rest
    pub unused_numbers : NoneFrom seat_of given log
    pub each :
        (i : ℕ) (v : View B E W) → get_elem? s.views i ≡ some v →
        Fits log value taken served drawn given owner holder i v

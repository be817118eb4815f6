-- What a connection takes as known: which heads bytes begin with, how responses are written, what is promised of one
-- head. P: what is read of a head. I: items. E: entries. R: receipts. H: what the hooks keep. F: limits that are met.
use Rattle.std.specs.Prelude.{◌≡◌, ◌||◌, ℕ, ◌≤◌, ◌<◌, Bool, List, [], ◌∷◌, ◌++◌, Option, length, ⊤}
use Rattle.outside.specs.Told.{appended}
use Rattle.connection_items.specs.declared.heads.Reading.{Reading}
use Rattle.connection_items.specs.declared.heads.Reading.TheVariants.{Whole, More, Bad, Long, Many, Memory}
use Rattle.connection_items.specs.declared.heads.Manner.{Manner}
use Rattle.connection_items.specs.declared.heads.Unreadable.{Unreadable}
use Rattle.connection_items.specs.Exchanges.{Added, Exchange, Attempt, Standing, Grows}

pub record Rules (P I E R H F : Type 0) : Type 1 where
  -- the first bytes of an input are this
  pub reads : List ℕ → Reading P → Type 0
  -- what a head says of its connection
  pub manner : P → Manner
  -- the bytes of an item's response, that closes or not, without its body or with it
  pub response : I → (closes head_only : Bool) → List ℕ
  -- the bytes that say that no head came
  pub refusal : Unreadable → List ℕ
  -- the bytes that say that a limit was met, with the number of a generation, without their body or with it
  pub limit_response : F → (generation : ℕ) → (head_only : Bool) → List ℕ
  -- what the hooks keep after a head that reloaded or didn't
  pub around : (reloaded : Bool) → H → H
  -- what is promised of a head that was served, beside what it added
  pub Promise : Standing I E H → Exchange P I E R → Standing I E H → Type 0
  -- what is promised of a head that got no item, since a limit was met or, without one, memory ran out
  pub Shortfall : Standing I E H → Attempt P E → Option F → Standing I E H → Type 0

-- no head can come of this, however the bytes go on
abbrev pub IsHopeless : {P : Type 0} → Reading P → Type 0
IsHopeless (Whole n p) = ⊥
IsHopeless More = ⊥
IsHopeless Bad = ⊤
IsHopeless Long = ⊤
IsHopeless Many = ⊤
IsHopeless Memory = ⊥

-- The connection closes after a head of this manner.
abbrev pub closing : Manner → Bool
closing manner = manner.body || manner.close

module _ {P I E R H F : Type 0} (rules : Rules P I E R H F) where
  -- What was answered is what the bytes are, or memory ran out.
  abbrev pub Reads : Reading P → List ℕ → Type 0
  Reads (Whole n p) bytes = rules.reads bytes (Whole n p)
  Reads More bytes = rules.reads bytes More
  Reads Bad bytes = rules.reads bytes Bad
  Reads Long bytes = rules.reads bytes Long
  Reads Many bytes = rules.reads bytes Many
  Reads Memory bytes = ⊤

  -- the connection closes after this head
  abbrev pub closes : P → Bool
  closes head = closing (rules.manner head)

  -- no whole head stands at the beginning
  abbrev pub HasNoHead : List ℕ → Type 0
  HasNoHead bytes = (n : ℕ) (p : P) → rules.reads bytes (Whole n p) → ⊥

  -- What is true of the heads and responses of any such language.
  pub record IsLawful : Type 0 where
    -- bytes are one thing
    pub unique : (b : List ℕ) (r s : Reading P) → rules.reads b r → rules.reads b s → r ≡ s
    -- a whole head has at least one byte, and is there
    pub within : (b : List ℕ) (n : ℕ) (p : P) → rules.reads b (Whole n p) → (1 ≤ n) × (n ≤ length b)
    -- it stays a whole head, whatever follows
    pub grows : (b c : List ℕ) (n : ℕ) (p : P) → rules.reads b (Whole n p) → rules.reads (b ++ c) (Whole n p)
    -- where more is asked for, fewer bytes are there than a head may have
    pub short : (b : List ℕ) → rules.reads b More → length b < 16384
    -- what is hopeless stays no head
    pub hopeless : (b c : List ℕ) (r : Reading P) → IsHopeless r → rules.reads b r → HasNoHead (b ++ c)
    -- no bytes may become a head
    pub empty : rules.reads [] More
    -- a response has at least one byte
    pub speaks : (item : I) (close head_only : Bool) → 1 ≤ length (rules.response item close head_only)
    pub refuses : (why : Unreadable) → 1 ≤ length (rules.refusal why)
    pub declines : (limit : F) (generation : ℕ) (head_only : Bool) →
        1 ≤ length (rules.limit_response limit generation head_only)

  -- Between two moments these items were gained, and this was added. What the pass has seen only grows.
  pub record Adds (gained : List I) (added : Added E) (old new : Standing I E H) : Type 0 where
    pub items : new.items ≡ old.items ++ gained
    pub entries : new.entries ≡ old.entries ++ added.entries
    pub given : new.given ≡ appended old.given added.given
    pub hooks : new.hooks ≡ rules.around added.reloaded old.hooks
    pub seen : Grows old.seen new.seen

  -- a head was served
  pub record IsServed (old : Standing I E H) (x : Exchange P I E R) (new : Standing I E H) : Type 0 where
    pub adds : Adds (x.item ∷ []) x.added old new
    pub promise : rules.Promise old x new

  -- a head was taken and got no item, since this limit was met, or memory ran out
  pub record IsTried (old : Standing I E H) (a : Attempt P E) (limit : Option F) (new : Standing I E H) : Type 0 where
    pub adds : Adds [] a.added old new
    pub shortfall : rules.Shortfall old a limit new

  -- these heads were served, one after another
  abbrev pub AreServed : Standing I E H → List (Exchange P I E R) → Standing I E H → Type 0
  AreServed old [] new = old ≡ new
  AreServed old (x ∷ xs) new = (between : Standing I E H) × (IsServed old x between × AreServed between xs new)

-- Connections in which all was answered.
use Rattle.std.specs.Prelude.{◌≡◌, ◌⊎◌, ℕ, ◌+◌, ◌≤◌, true, List, [], ◌++◌, Option, Some, length}
use Rattle.connection_items.specs.declared.ends.End.{End}
use Rattle.connection_items.specs.declared.ends.End.TheVariants.{Closed, Unread, Memory}
use Rattle.connection_items.specs.Exchanges.{Exchange, Standing, heads_in, items_in}
use Rattle.connection_items.specs.Rules.{Rules, AreServed, HasNoHead, closes}
use Rattle.connection_items.specs.Ends.{Last, responses}
use Rattle.outside.specs.Told.{appended}

module _ {P I E R H F : Type 0} (rules : Rules P I E R H F) where
  -- The input is whole heads: nothing is behind the last one, or the last one closes.
  abbrev pub IsWholeHeads : List P → (rest : List ℕ) → Type 0
  IsWholeHeads heads rest = (rest ≡ []) ⊎ Last (λ p. closes rules p ≡ true) heads

  -- These heads, all of them, were served one after another, and their responses were sent.
  pub record HasServed (heads : List P) (old new : Standing I E H) (before now : Option (List ℕ)) : Type 0 where
    pub talk : List (Exchange P I E R)
    pub all : heads_in talk ≡ heads
    pub served : AreServed rules old talk new
    pub items : new.items ≡ old.items ++ items_in talk
    pub bytes : now ≡ appended before (responses rules talk)

  -- all of these heads were served, and the connection ended by itself; or memory ran out
  abbrev pub AllServed : End F → (heads : List P) → (old new : Standing I E H) → (before now : Option (List ℕ)) → Type 0
  AllServed end heads old new before now =
      (end ≡ Memory) ⊎ (((end ≡ Closed) ⊎ (end ≡ Unread)) × HasServed heads old new before now)

  -- A link is answered, where it tells its bytes: a call of it failed, something was written to it, or no whole head
  -- stands at the beginning of what was read from it and what is left.
  abbrev pub LinkIsAnswered : (read_faults write_faults : ℕ) → (read left written : Option (List ℕ)) → Type 0
  LinkIsAnswered read_faults write_faults read left written = (r l w : List ℕ) → read ≡ Some r → left ≡ Some l →
      written ≡ Some w →
      (1 ≤ read_faults + write_faults) ⊎ ((1 ≤ length w) ⊎ HasNoHead rules (r ++ l))

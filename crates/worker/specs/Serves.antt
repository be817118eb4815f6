-- What the calls of one who serves heads say.
use Rattle.std.specs.Prelude.{ℕ, List, Option, Some, None, ⊤}
use Rattle.connection_items.specs.Exchanges.{Added, Standing}
use Rattle.connection_items.specs.Rules.{Rules, IsServed, IsTried}
use Rattle.connection_items.specs.Ends.{Sight}
use Rattle.worker.specs.declared.serves_heads.Taken.{Taken}
use Rattle.worker.specs.declared.serves_heads.Taken.TheVariants as taken
use Rattle.worker.specs.declared.serves_heads.Entered.{Entered}
use Rattle.worker.specs.declared.serves_heads.Entered.TheVariants as entered

-- what contracts see at one moment
abbrev pub sight : {I E R H : Type 0} → Standing I E H → List R → (read left written : Option (List ℕ)) →
    (read_faults write_faults : ℕ) → Sight I E R H
sight standing receipts read left written read_faults write_faults = record {
  standing = standing;
  receipts = receipts;
  read = read;
  left = left;
  written = written;
  read_faults = read_faults;
  write_faults = write_faults;
}

-- this is true where a head is ready
abbrev pub IfReady : {Y F : Type 0} → Taken Y F → (Y → Type 0) → Type 0
IfReady (taken.Ready ready) Holds = Holds ready
IfReady (taken.Full limit) Holds = ⊤
IfReady taken.Memory Holds = ⊤

-- this is true where no head is ready
abbrev pub IfNotReady : {Y F : Type 0} → Taken Y F → Type 0 → Type 0
IfNotReady (taken.Ready ready) fact = ⊤
IfNotReady (taken.Full limit) fact = fact
IfNotReady taken.Memory fact = fact

module _ {P I E R H F : Type 0} (rules : Rules P I E R H F) where
  -- the head got no item, since this limit was met, or memory ran out
  abbrev pub IsLeftOutHead : P → Option F → (old new : Standing I E H) → Type 0
  IsLeftOutHead head limit old new =
      (added : Added E) × IsTried rules old (record { head = head; added = added }) limit new

  -- the head got no item, since memory ran out
  abbrev pub IsDroppedHead : P → (old new : Standing I E H) → Type 0
  IsDroppedHead head old new = IsLeftOutHead head None old new

  -- how a head was taken
  abbrev pub Takes : {Y : Type 0} → Taken Y F → P → (old new : Standing I E H) → Type 0
  Takes (taken.Ready ready) head old new = ⊤
  Takes (taken.Full limit) head old new = IsLeftOutHead head (Some limit) old new
  Takes taken.Memory head old new = IsDroppedHead head old new

  -- how the item of a head was entered, which was taken where the pass stood so
  abbrev pub Enters : Entered R F → P → I → (old new : Standing I E H) → Type 0
  Enters (entered.Done receipt) head item old new = (added : Added E)
      × IsServed rules old (record { head = head; item = item; receipt = receipt; added = added }) new
  Enters (entered.Full limit) head item old new = IsLeftOutHead head (Some limit) old new
  Enters entered.Memory head item old new = IsDroppedHead head old new

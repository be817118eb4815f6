-- What one head's serving does, and what holds between two heads.
use Rattle.std.specs.Prelude.{◌≡◌, ◌⊎◌, ℕ, zero, suc, Bool, true, false, List, ◌++◌, Option, Some}
use Rattle.outside.specs.Faults.{Rose}
use Rattle.outside.specs.Told.{appended, prefixed}
use Rattle.outside.specs.Delivery.{Sends}
use Rattle.outside.specs.declared.writing.Delivery.{Delivery}
use Rattle.outside.specs.declared.writing.Delivery.TheVariants as delivery
use Rattle.connection_items.specs.declared.heads.Manner.{Manner}
use Rattle.connection_items.specs.declared.ends.End.{End}
use Rattle.connection_items.specs.declared.ends.End.TheVariants.{Closed, TornHead, BadHead, LongHead, ManyHeaders}
use Rattle.connection_items.specs.declared.ends.End.TheVariants.{Unread, ReadFault, WriteFault, Full, Memory}
use Rattle.connection_items.specs.declared.ends.Step.{Step}
use Rattle.connection_items.specs.declared.ends.Step.TheVariants.{On, Over}
use Rattle.connection_items.specs.Exchanges.{Added, Exchange, heads_in, receipt_in, receipts_in}
use Rattle.connection_items.specs.Rules.{Rules, AreServed, IsServed, IsTried, closes}
use Rattle.connection_items.specs.Heads.{Passed}
use Rattle.connection_items.specs.Ends.{Sight, Conversation, responses}

-- the step where the input ended with so many bytes left
abbrev pub ended_step : {F : Type 0} → ℕ → Step F
ended_step zero = Over Closed
ended_step (suc n) = Over (TornHead (suc n))

-- the step after a head of this manner that was answered
abbrev pub step_after : {F : Type 0} → Manner → Step F
step_after manner = step_by manner.body manner.close where
  step_by : {F : Type 0} → (body close : Bool) → Step F
  step_by true close = Over Unread
  step_by false true = Over Closed
  step_by false false = On

-- The response of an end was sent: whole, up to a write that failed, or not at all for want of memory.
abbrev pub Parts : {F : Type 0} → (bytes : List ℕ) → End F → Step F → (before now : Option (List ℕ)) →
    (faults_before faults_now : ℕ) → Type 0
Parts bytes end step before now faults_before faults_now =
    ((step ≡ Over end) × (Sends delivery.Whole bytes before now × (faults_now ≡ faults_before)))
    ⊎ (((step ≡ Over WriteFault) × (Sends delivery.Failed bytes before now × Rose faults_before faults_now))
    ⊎ ((step ≡ Over Memory) × ((now ≡ before) × (faults_now ≡ faults_before))))

module _ {P I E R H F : Type 0} (rules : Rules P I E R H F) where
  -- The head got an item, and its response was sent as far as this says.
  pub record IsAnswered (head : P) (sent : Delivery) (old new : Sight I E R H) : Type 0 where
    pub item : I
    pub receipt : Option R
    pub added : Added E
    pub served : IsServed rules old.standing (record { head = head; item = item; receipt = receipt; added = added })
        new.standing
    pub receipts : new.receipts ≡ old.receipts ++ receipt_in receipt
    pub bytes : Sends sent (rules.response item (closes rules head) (rules.manner head).head_only)
        old.written new.written

  -- The head got no item, since a limit was met, and the response that says so was sent as far as this says.
  pub record IsDeclined (head : P) (limit : F) (sent : Delivery) (old new : Sight I E R H) : Type 0 where
    pub added : Added E
    pub tried : IsTried rules old.standing (record { head = head; added = added }) (Some limit) new.standing
    pub receipts : new.receipts ≡ old.receipts
    pub bytes : Sends sent (rules.limit_response limit new.standing.generation (rules.manner head).head_only)
        old.written new.written

  -- The head got no item and no response, since memory ran out.
  pub record IsDropped (head : P) (old new : Sight I E R H) : Type 0 where
    pub added : Added E
    pub limit : Option F
    pub tried : IsTried rules old.standing (record { head = head; added = added }) limit new.standing
    pub receipts : new.receipts ≡ old.receipts
    pub bytes : new.written ≡ old.written

  -- how one head was served
  abbrev pub Serving : P → Step F → (old new : Sight I E R H) → Type 0
  Serving head On old new = IsAnswered head delivery.Whole old new
      × ((closes rules head ≡ false) × (new.write_faults ≡ old.write_faults))
  Serving head (Over Closed) old new = IsAnswered head delivery.Whole old new
      × (((rules.manner head).body ≡ false) × (((rules.manner head).close ≡ true)
      × (new.write_faults ≡ old.write_faults)))
  Serving head (Over (TornHead n)) old new = ⊥
  Serving head (Over BadHead) old new = ⊥
  Serving head (Over LongHead) old new = ⊥
  Serving head (Over ManyHeaders) old new = ⊥
  Serving head (Over Unread) old new = IsAnswered head delivery.Whole old new
      × (((rules.manner head).body ≡ true) × (new.write_faults ≡ old.write_faults))
  Serving head (Over ReadFault) old new = ⊥
  Serving head (Over WriteFault) old new = (IsAnswered head delivery.Failed old new
      ⊎ ((limit : F) × IsDeclined head limit delivery.Failed old new)) × Rose old.write_faults new.write_faults
  Serving head (Over (Full limit)) old new = IsDeclined head limit delivery.Whole old new
      × (new.write_faults ≡ old.write_faults)
  Serving head (Over Memory) old new = IsDropped head old new × (new.write_faults ≡ old.write_faults)

  -- Between two heads: what was served and sent so far; what was read so far, which begins with the heads served and
  -- goes on with what is in the window.
  pub record Going (start now : Sight I E R H) (window : List ℕ) : Type 0 where
    pub talk : List (Exchange P I E R)
    pub got : List ℕ
    pub read : now.read ≡ appended start.read got
    pub left : start.left ≡ prefixed got now.left
    pub passed : Passed rules got (heads_in talk) window
    pub serves : AreServed rules start.standing talk now.standing
    pub receipts : now.receipts ≡ start.receipts ++ receipts_in talk
    pub bytes : Sends delivery.Whole (responses rules talk) start.written now.written
    pub reads : now.read_faults ≡ start.read_faults
    pub writes : now.write_faults ≡ start.write_faults

  -- one turn of the loop: it goes on, or the conversation has ended
  abbrev pub Turned : Step F → (start now : Sight I E R H) → (window : List ℕ) → Type 0
  Turned On start now window = Going start now window
  Turned (Over end) start now window = Conversation rules start now end

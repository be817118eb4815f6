-- A conversation over one link, from the first moment to the last, and the cause of its end.
use Rattle.std.specs.Prelude.{◌≡◌, ◌⊎◌, ℕ, ◌≤◌, Bool, true, false, List, [], ◌∷◌, ◌++◌, length, Option, Some, None}
use Rattle.std.specs.Prelude.{IfSome, ⊤}
use Rattle.std.specs.List.{flat_map}
use Rattle.outside.specs.Faults.{Counts}
use Rattle.outside.specs.Told.{appended, prefixed}
use Rattle.outside.specs.Delivery.{Sends}
use Rattle.outside.specs.declared.writing.Delivery.{Delivery}
use Rattle.outside.specs.declared.writing.Delivery.TheVariants as delivery
use Rattle.connection_items.specs.declared.heads.Reading.TheVariants as reading
use Rattle.connection_items.specs.declared.heads.Unreadable.TheVariants as unreadable
use Rattle.connection_items.specs.declared.ends.End.{End}
use Rattle.connection_items.specs.declared.ends.End.TheVariants.{Closed, TornHead, BadHead, LongHead, ManyHeaders}
use Rattle.connection_items.specs.declared.ends.End.TheVariants.{Unread, ReadFault, WriteFault, Full, Memory}
use Rattle.connection_items.specs.Exchanges.{Exchange, Attempt, Standing, heads_in, items_in, receipts_in, added_in}
use Rattle.connection_items.specs.Exchanges.{entries_of, given_of, hooks_after, Grows}
use Rattle.connection_items.specs.Rules.{Rules, AreServed, IsTried, closes}
use Rattle.connection_items.specs.Heads.{Heads, BeginWith, Passed}

-- What contracts see at one moment: the pass with its tree and its hooks, the receipts so far, and of the link what was
-- read, what is left, what was written, how many reads and how many writes failed.
pub record Sight (I E R H : Type 0) : Type 0 where
  pub standing : Standing I E H
  pub receipts : List R
  pub read : Option (List ℕ)
  pub left : Option (List ℕ)
  pub written : Option (List ℕ)
  pub read_faults : ℕ
  pub write_faults : ℕ

-- what was read, what is left and the count of failed reads stay
pub record SameReads {I E R H : Type 0} (old new : Sight I E R H) : Type 0 where
  pub read : new.read ≡ old.read
  pub left : new.left ≡ old.left
  pub read_faults : new.read_faults ≡ old.read_faults

-- where the link tells it, nothing is left
abbrev pub IsAtEnd : {I E R H : Type 0} → Sight I E R H → Type 0
IsAtEnd now = IfSome now.left (λ left. left ≡ [])

-- there is a last head, and this is true of it
abbrev pub Last : {P : Type 0} → (P → Type 0) → List P → Type 0
Last Holds [] = ⊥
Last Holds (p ∷ []) = Holds p
Last Holds (p ∷ (q ∷ ps)) = Last Holds (q ∷ ps)

module _ {F : Type 0} where
  -- Where a write failed, it was that of an item's response, or that of the response of another end, which had its
  -- cause. Else an end is meant as it is told.
  abbrev pub IsMeant : (ended meant : End F) → Type 0
  IsMeant WriteFault Closed = ⊥
  IsMeant WriteFault (TornHead n) = ⊥
  IsMeant WriteFault BadHead = ⊤
  IsMeant WriteFault LongHead = ⊤
  IsMeant WriteFault ManyHeaders = ⊤
  IsMeant WriteFault Unread = ⊥
  IsMeant WriteFault ReadFault = ⊥
  IsMeant WriteFault WriteFault = ⊤
  IsMeant WriteFault (Full limit) = ⊤
  IsMeant WriteFault Memory = ⊥
  IsMeant Closed meant = meant ≡ Closed
  IsMeant (TornHead n) meant = meant ≡ TornHead n
  IsMeant BadHead meant = meant ≡ BadHead
  IsMeant LongHead meant = meant ≡ LongHead
  IsMeant ManyHeaders meant = meant ≡ ManyHeaders
  IsMeant Unread meant = meant ≡ Unread
  IsMeant ReadFault meant = meant ≡ ReadFault
  IsMeant (Full limit) meant = meant ≡ Full limit
  IsMeant Memory meant = meant ≡ Memory

  -- a write failed
  abbrev pub is_write_fault : End F → Bool
  is_write_fault Closed = false
  is_write_fault (TornHead n) = false
  is_write_fault BadHead = false
  is_write_fault LongHead = false
  is_write_fault ManyHeaders = false
  is_write_fault Unread = false
  is_write_fault ReadFault = false
  is_write_fault WriteFault = true
  is_write_fault (Full limit) = false
  is_write_fault Memory = false

  -- a read failed
  abbrev pub is_read_fault : End F → Bool
  is_read_fault Closed = false
  is_read_fault (TornHead n) = false
  is_read_fault BadHead = false
  is_read_fault LongHead = false
  is_read_fault ManyHeaders = false
  is_read_fault Unread = false
  is_read_fault ReadFault = true
  is_read_fault WriteFault = false
  is_read_fault (Full limit) = false
  is_read_fault Memory = false

  -- how far the bytes were sent
  abbrev pub delivery_of : End F → Delivery
  delivery_of Closed = delivery.Whole
  delivery_of (TornHead n) = delivery.Whole
  delivery_of BadHead = delivery.Whole
  delivery_of LongHead = delivery.Whole
  delivery_of ManyHeaders = delivery.Whole
  delivery_of Unread = delivery.Whole
  delivery_of ReadFault = delivery.Whole
  delivery_of WriteFault = delivery.Failed
  delivery_of (Full limit) = delivery.Whole
  delivery_of Memory = delivery.Whole

module _ {P I E R H F : Type 0} (rules : Rules P I E R H F) where
  -- the bytes of an exchange's response
  abbrev pub response : Exchange P I E R → List ℕ
  response x = rules.response x.item (closes rules x.head) (rules.manner x.head).head_only

  -- the responses, one behind another
  abbrev pub responses : List (Exchange P I E R) → List ℕ
  responses talk = flat_map response talk

  -- the further head is to be answered without a body
  abbrev pub asks_head_only : Option (Attempt P E) → Bool
  asks_head_only None = false
  asks_head_only (Some a) = (rules.manner a.head).head_only

  -- the response that says why the connection ends, where there is one
  abbrev pub closing_response : End F → (generation : ℕ) → (head_only : Bool) → List ℕ
  closing_response Closed g h = []
  closing_response (TornHead n) g h = []
  closing_response BadHead g h = rules.refusal unreadable.Bad
  closing_response LongHead g h = rules.refusal unreadable.Long
  closing_response ManyHeaders g h = rules.refusal unreadable.Many
  closing_response Unread g h = []
  closing_response ReadFault g h = []
  closing_response WriteFault g h = []
  closing_response (Full limit) g h = rules.limit_response limit g h
  closing_response Memory g h = []

  -- a head that announces a body
  abbrev pub AnnouncesBody : P → Type 0
  AnnouncesBody p = (rules.manner p).body ≡ true

  -- a head that asks to close, and announces no body
  abbrev pub AsksToClose : P → Type 0
  AsksToClose p = ((rules.manner p).body ≡ false) × ((rules.manner p).close ≡ true)

  -- where an end tells a limit, it is this one
  abbrev pub TellsLimit : End F → Option F → Type 0
  TellsLimit Closed limit = ⊤
  TellsLimit (TornHead n) limit = ⊤
  TellsLimit BadHead limit = ⊤
  TellsLimit LongHead limit = ⊤
  TellsLimit ManyHeaders limit = ⊤
  TellsLimit Unread limit = ⊤
  TellsLimit ReadFault limit = ⊤
  TellsLimit WriteFault limit = ⊤
  TellsLimit (Full met) limit = limit ≡ Some met
  TellsLimit Memory limit = ⊤

  -- there is a further head, with which the rest begins
  abbrev pub IsFurther : (rest : List ℕ) → Option (Attempt P E) → Type 0
  IsFurther rest None = ⊥
  IsFurther rest (Some a) = (n : ℕ) × rules.reads rest (reading.Whole n a.head)

  -- a further head, where there is one, is the next one
  abbrev pub IsNext : (rest : List ℕ) → Option (Attempt P E) → Type 0
  IsNext rest None = ⊤
  IsNext rest (Some a) = (n : ℕ) × rules.reads rest (reading.Whole n a.head)

  -- there is no further head
  abbrev pub NoFurther : Option (Attempt P E) → Type 0
  NoFurther None = ⊤
  NoFurther (Some a) = ⊥

  -- The cause of an end, from the bytes that were read: the heads that got items, the rest behind them, and a further
  -- head that was taken. Where it says `Passed`, none of the heads asked to close or announced a body.
  abbrev pub Cause : Sight I E R H → (got : List ℕ) → List P → (rest : List ℕ) → Option (Attempt P E) → End F → Type 0
  Cause now got ps rest further Closed = NoFurther further
      × ((Heads rules got ps rest × Last AsksToClose ps) ⊎ (Passed rules got ps rest × ((rest ≡ []) × IsAtEnd now)))
  Cause now got ps rest further (TornHead n) = NoFurther further × (Passed rules got ps rest
      × (rules.reads rest reading.More × ((n ≡ length rest) × ((1 ≤ n) × IsAtEnd now))))
  Cause now got ps rest further BadHead = NoFurther further
      × (Passed rules got ps rest × rules.reads rest reading.Bad)
  Cause now got ps rest further LongHead = NoFurther further
      × (Passed rules got ps rest × rules.reads rest reading.Long)
  Cause now got ps rest further ManyHeaders = NoFurther further
      × (Passed rules got ps rest × rules.reads rest reading.Many)
  Cause now got ps rest further Unread = NoFurther further × (Heads rules got ps rest × Last AnnouncesBody ps)
  Cause now got ps rest further ReadFault = NoFurther further
      × (Passed rules got ps rest × rules.reads rest reading.More)
  Cause now got ps rest further WriteFault = NoFurther further
  Cause now got ps rest further (Full limit) = Passed rules got ps rest × IsFurther rest further
  Cause now got ps rest further Memory = Passed rules got ps rest × IsNext rest further

  -- All heads that the bytes begin with got items, unless a write failed, a limit was met or memory ran out.
  abbrev pub AllHeads : End F → (got : List ℕ) → List P → (rest : List ℕ) → Type 0
  AllHeads Closed got ps rest = Heads rules got ps rest
  AllHeads (TornHead n) got ps rest = Heads rules got ps rest
  AllHeads BadHead got ps rest = Heads rules got ps rest
  AllHeads LongHead got ps rest = Heads rules got ps rest
  AllHeads ManyHeaders got ps rest = Heads rules got ps rest
  AllHeads Unread got ps rest = Heads rules got ps rest
  AllHeads ReadFault got ps rest = Heads rules got ps rest
  AllHeads WriteFault got ps rest = ⊤
  AllHeads (Full limit) got ps rest = ⊤
  AllHeads Memory got ps rest = ⊤

  -- the further head was taken and got no item
  abbrev pub IsLeftOut : Standing I E H → Option (Attempt P E) → Option F → Standing I E H → Type 0
  IsLeftOut old None limit new = old ≡ new
  IsLeftOut old (Some a) limit new = IsTried rules old a limit new

  -- Between two moments exactly these exchanges took place, in order, and then a further head was taken, if there is
  -- one. Everything that was gained is a map over this one list.
  pub record Gains (talk : List (Exchange P I E R)) (further : Option (Attempt P E)) (old new : Standing I E H) : Type 0
    where
      pub items : new.items ≡ old.items ++ items_in talk
      pub entries : new.entries ≡ old.entries ++ entries_of (added_in talk further)
      pub given : new.given ≡ appended old.given (given_of (added_in talk further))
      pub hooks : new.hooks ≡ hooks_after rules.around (added_in talk further) old.hooks
      pub seen : Grows old.seen new.seen

  -- A whole conversation. The bytes that were read in it are `got`; `rest` is what stands in them behind the heads that
  -- got items; `further` is the one head more that was taken and got none, if there is one, and `limit` is the limit
  -- that was met then, if it was one; `meant` is the end whose response was being sent.
  pub record Conversation (start now : Sight I E R H) (end : End F) : Type 0 where
    pub talk : List (Exchange P I E R)
    pub further : Option (Attempt P E)
    pub got : List ℕ
    pub rest : List ℕ
    pub limit : Option F
    pub meant : End F
    pub served : Standing I E H
    -- what was read in this call, and that it was what was left
    pub read : now.read ≡ appended start.read got
    pub left : start.left ≡ prefixed got now.left
    -- the heads that got items are the first ones, however the input goes on behind what was read
    pub first : (behind : List ℕ) → BeginWith rules (got ++ behind) (heads_in talk)
    -- each head was served as is promised, one after another, and then the further one was left out
    pub serves : AreServed rules start.standing talk served
    pub leaves_out : IsLeftOut served further limit now.standing
    pub tells : TellsLimit meant limit
    pub gains : Gains talk further start.standing now.standing
    pub receipts : now.receipts ≡ start.receipts ++ receipts_in talk
    -- the bytes that were sent: the responses in order, and that of the end
    pub means : IsMeant end meant
    pub bytes : Sends (delivery_of end)
        (responses talk ++ closing_response meant now.standing.generation (asks_head_only further))
        start.written now.written
    -- the cause of the end, and the two counts of faults
    pub cause : Cause now got (heads_in talk) rest further meant
    pub all : AllHeads end got (heads_in talk) rest
    pub reads : Counts (is_read_fault end) start.read_faults now.read_faults
    pub writes : Counts (is_write_fault end) start.write_faults now.write_faults

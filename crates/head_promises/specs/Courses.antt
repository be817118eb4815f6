-- What a pass does for one head, from its Share to its Unshare.
use Rattle.std.specs.Prelude.{◌≡◌, ◌⊎◌, ◌||◌, ◌≤◌, ℕ, Bool, true, false, List, [], ◌∷◌, ◌++◌, length}
use Rattle.std.specs.Prelude.{Option, Some, None}
use Rattle.outside.specs.Tree.{Given}
use Rattle.outside.specs.declared.files.Stamp.{Stamp}
use Rattle.system_events.specs.declared.event.Cause.{Cause}
use Rattle.system_events.specs.declared.event.Cause.TheVariants as cause
use Rattle.system_events.specs.declared.event.Entry.{Entry}
use Rattle.system_events.specs.declared.event.Kept.{Kept}
use Rattle.system_events.specs.declared.event.Kept.TheVariants.{Share, Unshare, Reload, Begin, End, Refuse}
use Rattle.system_events.specs.Facts.{Facts}
use Rattle.system_events.specs.Legal.{after, IsLegal}
use Rattle.request_laws.specs.Conduct.{IsUnload, AreLoads}
use Rattle.shop_base.specs.Passes.{seat_limit, entry, Made, Gains}
use Rattle.shop_base.specs.Mine.{Item, Ended, Refused as Refused-Item}
use Rattle.pass_history.specs.Freshness.{NoneReloads, in_force, IsFresh}

-- What a head comes to before any check: a request, or the cause for which it is refused at once, by its method, its
-- body or its target.
pub data Wanted (Q C : Type 0) : Type 0 where
  Asks : Q → Wanted Q C
  Unfit : C → Wanted Q C

-- What comes of a head: its request ended with a reply; it was refused, for another cause than want of memory; its
-- request had begun and was abandoned for want of memory; or it wasn't begun, since a limit was met or memory ran out.
pub data Outcome (Q R C : Type 0) : Type 0 where
  Replied : Q → R → Outcome Q R C
  Refused : C → Outcome Q R C
  Abandoned : Q → Outcome Q R C
  Unbegun : Outcome Q R C

module _ {M T V P Q R F : Type 0} where
  -- the items that a head is given, with this generation in force at its Begin or its Refuse
  abbrev pub items_of : Outcome Q R (Cause M T V P Q R F) → ℕ → List (Item M T V P Q R F)
  items_of (Replied q reply) generation = Ended q reply generation ∷ []
  items_of (Refused why) generation = Refused-Item why generation ∷ []
  items_of (Abandoned q) generation = []
  items_of Unbegun generation = []

  -- the act is a Reload
  abbrev pub is_reload : Kept M T V P Q R F → Bool
  is_reload (Reload program) = true
  is_reload _ = false

  -- one of the acts is a Reload
  abbrev pub reloads : List (Kept M T V P Q R F) → Bool
  reloads [] = false
  reloads (kept ∷ more) = is_reload kept || reloads more

  -- what a check may refuse a request for
  abbrev pub IsOfCheck : Cause M T V P Q R F → Type 0
  IsOfCheck cause.Tree = Unit {0}
  IsOfCheck (cause.Program fault) = Unit {0}
  IsOfCheck (cause.GenerationsFull most) = Unit {0}
  IsOfCheck (cause.KeptFull bytes) = Unit {0}
  IsOfCheck _ = ⊥

  -- What comes of a head fits what it asked for. What is refused for its method, its body or its target has no check
  -- before it, and nothing was read for it.
  abbrev pub Fits : Wanted Q (Cause M T V P Q R F) → Outcome Q R (Cause M T V P Q R F) → List (Kept M T V P Q R F) →
      List Given → Type 0
  Fits (Asks q) (Replied request reply) check given = request ≡ q
  Fits (Asks q) (Refused why) check given = IsOfCheck why
  Fits (Asks q) (Abandoned request) check given = request ≡ q
  Fits (Asks q) Unbegun check given = Unit {0}
  Fits (Unfit why) (Refused other) check given = (other ≡ why) × ((check ≡ []) × (given ≡ []))
  Fits (Unfit why) Unbegun check given = (check ≡ []) × (given ≡ [])
  Fits (Unfit why) _ check given = ⊥

  -- where there are acts, the first of them is the entry that stands behind this history
  abbrev pub StartsBehind : ℕ → List (Kept M T V P Q R F) → (begun now : List (Entry M T V P Q R F)) → Type 0
  StartsBehind k [] begun now = Unit {0}
  StartsBehind k (kept ∷ more) begun now =
      (rest : List (Entry M T V P Q R F)) × (now ≡ begun ++ entry k kept ∷ rest)

-- the stamps that a tree gave last
abbrev pub last_stamps : List Given → Option (List (List ℕ × Stamp))
last_stamps [] = None
last_stamps (item ∷ []) = Some item.stamps
last_stamps (item ∷ more) = last_stamps more

module _ {M T V P Q R F : Type 0} (f : Facts T V P Q R F) (p : P) where
  -- The acts of a head between its check and its Unshare, on this program. A request: Begin, load sections, each of a
  -- task that it asks for, and End with its reply; or Refuse, where memory ran out. A refusal: Refuse alone.
  pub data IsRun : Outcome Q R (Cause M T V P Q R F) → List (Kept M T V P Q R F) → Type 0 where
    replied : (q : Q) (reply : R) (sections : List (Kept M T V P Q R F)) → reply ≡ f.reply p q →
        AreLoads (f.request_asked p q) sections →
        IsRun (Replied q reply) (Begin q ∷ (sections ++ End reply ∷ []))
    refused : (why : Cause M T V P Q R F) → IsRun (Refused why) (Refuse why ∷ [])
    abandoned : (q : Q) (sections : List (Kept M T V P Q R F)) → AreLoads (f.request_asked p q) sections →
        IsRun (Abandoned q) (Begin q ∷ (sections ++ Refuse cause.Memory ∷ []))
    unbegun : IsRun Unbegun []

-- What a check leaves that lets its request begin: at one of its turns the stamps that the tree gave last were in
-- force, and its seat made no Reload after it.
pub record Checked {M T V P Q R F : Type 0} (f : Facts T V P Q R F) (has_stamps : P → List (List ℕ × Stamp) → Bool)
    (k : ℕ) (given : List Given) (count : ℕ) (now : List (Entry M T V P Q R F)) : Type 0 where
  pub stamps : List (List ℕ × Stamp)
  pub last : last_stamps given ≡ Some stamps
  pub at : List (Entry M T V P Q R F)
  pub legal : IsLegal f seat_limit at
  pub since : count ≤ length at
  pub compared : in_force f has_stamps at stamps ≡ true
  pub acts : List (Kept M T V P Q R F)
  pub later : Gains k acts at now
  pub none : NoneReloads acts

module _ {M T V P Q R F : Type 0} (f : Facts T V P Q R F) (has_stamps : P → List (List ℕ × Stamp) → Bool) where
  -- the generation is fresh by the stamps that the tree gave last
  abbrev pub IsFreshBy : ℕ → List Given → ℕ → List (Entry M T V P Q R F) → Type 0
  IsFreshBy k given count begun =
      (stamps : List (List ℕ × Stamp))
      × ((last_stamps given ≡ Some stamps) × IsFresh f has_stamps k stamps count begun)

  -- a request that begins behind this history does so on a fresh generation
  abbrev pub BeginsFresh : ℕ → Outcome Q R (Cause M T V P Q R F) → List Given → ℕ → List (Entry M T V P Q R F) →
      Type 0
  BeginsFresh k (Replied q reply) given count begun = IsFreshBy k given count begun
  BeginsFresh k (Refused why) given count begun = Unit {0}
  BeginsFresh k (Abandoned q) given count begun = IsFreshBy k given count begun
  BeginsFresh k Unbegun given count begun = Unit {0}

  -- What seat k did for a head, from the history that it had seen before to the one that it has seen now: Share; an
  -- unload section where the check differed; what its outcome asks for; Unshare. `shared` is the history behind its
  -- Share, where its check began, and `begun` the one behind which its Begin or its Refuse stands.
  pub record HeadCourse (k : ℕ) (wanted : Wanted Q (Cause M T V P Q R F)) (outcome : Outcome Q R (Cause M T V P Q R F))
      (given : List Given) (reloaded : Bool) (acts : List (Kept M T V P Q R F))
      (before now : List (Entry M T V P Q R F)) : Type 0 where
    pub shared : List (Entry M T V P Q R F)
    pub begun : List (Entry M T V P Q R F)
    pub check : List (Kept M T V P Q R F)
    pub run : List (Kept M T V P Q R F)
    pub shares : Made k Share before shared
    pub checks : Gains k check shared begun
    pub is_check : (check ≡ []) ⊎ IsUnload check
    pub tells_reload : reloaded ≡ reloads check
    pub runs : Gains k (run ++ Unshare ∷ []) begun now
    pub is_run : IsRun f (after f seat_limit begun).counts.program outcome run
    pub starts : StartsBehind k run begun now
    pub fresh : BeginsFresh k outcome given (length shared) begun
    pub fits : Fits wanted outcome check given
    pub acts_are : acts ≡ Share ∷ (check ++ (run ++ Unshare ∷ []))

-- A pass's own requests.
use Rattle.std.specs.Prelude.{ℕ, ◌+◌, ◌==◌, Bool, true, false, List, [], ◌∷◌, ◌++◌, Option, Some, None, if◌then◌else◌}
use Rattle.system_events.specs.declared.event.Cause.{Cause}
use Rattle.system_events.specs.declared.event.Cause.TheVariants.{Memory}
use Rattle.system_events.specs.declared.event.Entry.{Entry}
use Rattle.system_events.specs.declared.event.Kept.{Kept}
use Rattle.system_events.specs.declared.event.Kept.TheVariants.{Reload, Begin, End, Refuse}

-- a request with its reply, or the cause of a refusal that isn't want of memory; and the generation in force
pub data Item (M T V P Q R F : Type 0) : Type 0 where
  Ended : Q → R → ℕ → Item M T V P Q R F
  Refused : Cause M T V P Q R F → ℕ → Item M T V P Q R F

module _ {M T V P Q R F : Type 0} where
  -- the generation in force after an act
  abbrev pub generation_after : ℕ → Kept M T V P Q R F → ℕ
  generation_after generation (Reload program) = generation + 1
  generation_after generation _ = generation

  -- the request that the seat runs after an act of its own
  abbrev pub request_after : Option Q → Kept M T V P Q R F → Option Q
  request_after running (Begin request) = Some request
  request_after running (End reply) = None
  request_after running (Refuse cause) = None
  request_after running _ = running

  -- a request that ended, if one ran
  abbrev pub ended_item : Option Q → R → ℕ → List (Item M T V P Q R F)
  ended_item None reply generation = []
  ended_item (Some request) reply generation = Ended request reply generation ∷ []

  -- a refusal for want of memory is no item
  abbrev pub refused_item : Cause M T V P Q R F → ℕ → List (Item M T V P Q R F)
  refused_item Memory generation = []
  refused_item cause generation = Refused cause generation ∷ []

  -- the item that an act of the seat makes, if any
  abbrev pub item_of : Option Q → ℕ → Kept M T V P Q R F → List (Item M T V P Q R F)
  item_of running generation (End reply) = ended_item running reply generation
  item_of running generation (Refuse cause) = refused_item cause generation
  item_of running generation _ = []

  -- The items of seat k in a list of entries, where this generation is in force before them and the seat runs this
  -- request.
  abbrev pub items_from : ℕ → ℕ → Option Q → List (Entry M T V P Q R F) → List (Item M T V P Q R F)
  items_from k generation running [] = []
  items_from k generation running (e ∷ es) =
      if e.seat == k
      then (item_of running generation e.kept ++
      items_from k (generation_after generation e.kept) (request_after running e.kept) es)
      else items_from k (generation_after generation e.kept) running es

  -- The items of seat k in a history, in order. The opening Reload is generation 0, and is no entry of a pass.
  -- After Reload 1, Begin r of 2, End a of 2 the items of 2 are r with a on generation 1.
  abbrev pub mine : ℕ → List (Entry M T V P Q R F) → List (Item M T V P Q R F)
  mine k [] = []
  mine k (opening ∷ es) = items_from k 0 None es

-- Heads with all that their serving added, and what a list of them adds: each thing is a map over the list.
-- P: what is read of a head. I: items. E: entries of the history. R: receipts. H: what the hooks keep.
use Rattle.std.specs.Prelude.{◌≡◌, ℕ, Bool, List, [], ◌∷◌, ◌++◌, map, Option, Some, None}
use Rattle.std.specs.List.{flat_map}
use Rattle.outside.specs.Tree.{Given}

-- What serving a head added beside its item: the entries that the pass made for it, in order; what the tree gave to its
-- check; whether the check reloaded.
pub record Added (E : Type 0) : Type 0 where
  pub entries : List E
  pub given : List Given
  pub reloaded : Bool

-- A head that was served, with its item. A reply has a receipt, a refusal has none.
pub record Exchange (P I E R : Type 0) : Type 0 where
  pub head : P
  pub item : I
  pub receipt : Option R
  pub added : Added E

-- A head that was taken and got no item, since a limit was met or memory ran out.
pub record Attempt (P E : Type 0) : Type 0 where
  pub head : P
  pub added : Added E

-- What contracts see of a pass, its tree and its hooks at one moment: the pass's items; the history that it has seen;
-- the entries that it made; what the tree gave, where it tells; what the hooks keep; the number of the generation in
-- force after what the pass has seen.
pub record Standing (I E H : Type 0) : Type 0 where
  pub items : List I
  pub seen : List E
  pub entries : List E
  pub given : Option (List Given)
  pub hooks : H
  pub generation : ℕ

-- a receipt, if there is one
abbrev pub receipt_in : {R : Type 0} → Option R → List R
receipt_in None = []
receipt_in (Some receipt) = receipt ∷ []

-- what a further head added, if there was one
abbrev pub added_by : {P E : Type 0} → Option (Attempt P E) → List (Added E)
added_by None = []
added_by (Some attempt) = attempt.added ∷ []

module _ {P I E R : Type 0} where
  -- the heads, in order
  abbrev pub heads_in : List (Exchange P I E R) → List P
  heads_in talk = map (λ x. x.head) talk

  -- their items
  abbrev pub items_in : List (Exchange P I E R) → List I
  items_in talk = map (λ x. x.item) talk

  -- the receipts of those that have one
  abbrev pub receipts_in : List (Exchange P I E R) → List R
  receipts_in talk = flat_map (λ x. receipt_in x.receipt) talk

  -- what was added for these heads and then for a further one
  abbrev pub added_in : List (Exchange P I E R) → Option (Attempt P E) → List (Added E)
  added_in talk further = map (λ x. x.added) talk ++ added_by further

module _ {E : Type 0} where
  -- the entries that were made
  abbrev pub entries_of : List (Added E) → List E
  entries_of all = flat_map (λ a. a.entries) all

  -- what the tree gave
  abbrev pub given_of : List (Added E) → List Given
  given_of all = flat_map (λ a. a.given) all

  -- what the hooks keep after these heads, where this is what they keep after one that reloaded or didn't
  abbrev pub hooks_after : {H : Type 0} → (Bool → H → H) → List (Added E) → H → H
  hooks_after around [] hooks = hooks
  hooks_after around (a ∷ all) hooks = hooks_after around all (around a.reloaded hooks)

-- a list that goes on as another
abbrev pub Grows : {A : Type 0} → List A → List A → Type 0
Grows {A} old new = (more : List A) × (new ≡ old ++ more)

-- What is left after calls of each hook in order, where each call leaves the hook and the notes that these functions
-- say.
use Rattle.std.specs.Prelude.{ℕ, ◌+◌, ◌-◌, List, [], ◌∷◌}
use Rattle.std.proofs.Common.{zero, suc}

-- the notes after a call of each
abbrev pub notes_after : {H : Type 0} → (H → List ℕ → List ℕ) → List H → List ℕ → List ℕ
notes_after tell [] notes = notes
notes_after tell (h ∷ hs) notes = notes_after tell hs (tell h notes)

-- The hooks after a call of each. Each finds the notes that those before it left.
abbrev pub hooks_after : {H : Type 0} → (H → List ℕ → H) → (H → List ℕ → List ℕ) → List H → List ℕ → List H
hooks_after change tell [] notes = []
hooks_after change tell (h ∷ hs) notes = change h notes ∷ hooks_after change tell hs (tell h notes)

-- what contracts see of wraps
pub record WrapsView (H : Type 0) : Type 0 where
  -- how many wraps are open
  pub depth : ℕ
  pub hooks : List H
  -- what the hooks noted
  pub notes : List ℕ

-- these hooks, and no wrap is open
abbrev pub no_wraps : {H : Type 0} → List H → List ℕ → WrapsView H
no_wraps hooks notes = record { depth = 0; hooks = hooks; notes = notes }

-- the wraps after a call of each hook in order
abbrev pub called : {H : Type 0} → (H → List ℕ → H) → (H → List ℕ → List ℕ) → WrapsView H → WrapsView H
called change tell e = record {
  depth = e.depth;
  hooks = hooks_after change tell e.hooks e.notes;
  notes = notes_after tell e.hooks e.notes;
}

-- the wraps after a call of each hook where so many open wraps are none, else as it is
abbrev pub called_outside : {H : Type 0} → (H → List ℕ → H) → (H → List ℕ → List ℕ) → ℕ → WrapsView H → WrapsView H
called_outside change tell zero e = called change tell e
called_outside change tell (suc n) e = e

-- one wrap more is open
abbrev pub opened : {H : Type 0} → WrapsView H → WrapsView H
opened e = record { depth = e.depth + 1; hooks = e.hooks; notes = e.notes }

-- one wrap fewer is open
abbrev pub closed : {H : Type 0} → WrapsView H → WrapsView H
closed e = record { depth = e.depth - 1; hooks = e.hooks; notes = e.notes }

-- a wrap begins: each hook is called where it is the outermost
abbrev pub begun : {H : Type 0} → (H → List ℕ → H) → (H → List ℕ → List ℕ) → WrapsView H → WrapsView H
begun change tell e = opened (called_outside change tell e.depth e)

-- a wrap ends: each hook is called where it was the outermost
abbrev pub ended : {H : Type 0} → (H → List ℕ → H) → (H → List ℕ → List ℕ) → WrapsView H → WrapsView H
ended change tell e = called_outside change tell (closed e).depth (closed e)

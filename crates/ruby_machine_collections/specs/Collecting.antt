-- What a machine does that collects the members of an array, a hash or a text.
use Rattle.std.specs.Prelude.{◌≡◌, ◌<◌, ℕ, Bool, List, [], ◌∷◌}
use Rattle.ruby_types.specs.declared.tree.Part.TheVariants as part
use Rattle.ruby_types.specs.declared.value.Value.{Value}
use Rattle.program_places.specs.Places.{Index}
use Rattle.ruby_nodes.specs.Entries.{Entry, entry_at}
use Rattle.ruby_runs.specs.Doing.{Meaning}
use Rattle.ruby_runs.specs.Bodies.{text_end}
use Rattle.ruby_machine_names.specs.Steps.{here_of}
use Rattle.ruby_machine_state.specs.States.{state_of}
use Rattle.ruby_machine_frames.specs.declared.stack.Core.{Core}
use Rattle.ruby_machine_frames.specs.Rest.{gives_of, items_from, pairs_from, parts_from}
use Rattle.ruby_machine_collections.specs.declared.parts.FirstPart.{FirstPart}
use Rattle.ruby_machine_collections.specs.declared.parts.FirstPart.TheVariants as first

module _ (index : Index) (known : List Entry) where
  -- the items of an array from a node on, behind those that are done
  abbrev pub items_left : ℕ → List Value → Core → Meaning
  items_left more done m =
      items_from index known m.left (here_of m.here) more done (state_of m.state) m.turns (gives_of index known m)

  -- the pairs of a hash from a node on
  abbrev pub pairs_left : ℕ → List (Value × Value) → Core → Meaning
  pairs_left more done m =
      pairs_from index known m.left (here_of m.here) more done (state_of m.state) m.turns (gives_of index known m)

  -- the parts of a text from a node on
  abbrev pub parts_left : ℕ → Bool → List ℕ → Core → Meaning
  parts_left more inside bytes m =
      parts_from index known m.left (here_of m.here) more inside bytes (state_of m.state) m.turns (gives_of index
      known m)

  -- the end of a text
  abbrev pub text_left : Bool → List ℕ → Core → Meaning
  text_left inside bytes m = text_end (here_of m.here) inside bytes m.turns (gives_of index known m)

-- the first part of a text from a node on, with the node of the others, which has a lower number
abbrev pub PartIs : List Entry → ℕ → FirstPart → Type 0
PartIs known at (first.Plain bytes others) =
    ((entry_at known at).parts ≡ part.Plain bytes.now ∷ (entry_at known others).parts) × (others < at)
PartIs known at (first.Inside x others) =
    ((entry_at known at).parts ≡ part.Inside (entry_at known x).expr ∷ (entry_at known others).parts) × (others < at)
PartIs known at first.End = (entry_at known at).parts ≡ []

-- What the first part of a text does, and what comes after.
use Rattle.std.proofs.Common.{◌≡◌, ℕ, Bool, true, false, List, [], ◌∷◌, ◌++◌, map, refl, ap, ◌∙◌}
use Rattle.std.specs.Prelude.{◌||◌}
use Rattle.std.specs.declared.vec.Vec.{Vec}
use Rattle.std.specs.declared.alloc.Global.{Global}
use Rattle.program_places.specs.Places.{Index}
use Rattle.ruby_nodes.specs.Entries.{Entry, entry_at}
use Rattle.ruby_types.specs.declared.tree.Part.{Part}
use Rattle.ruby_types.specs.declared.tree.Part.TheVariants as part
use Rattle.ruby_types.specs.declared.value.Value.{Value}
use Rattle.ruby_types.specs.declared.value.Value.TheVariants.{Str}
use Rattle.ruby_runs.specs.Doing.{Meaning, turn}
use Rattle.ruby_runs.specs.Bodies.{PartEval, whole_text}
use Rattle.ruby_builtin_base.specs.Printed.{to_s}
use Rattle.ruby_machine_names.specs.Steps.{here_of}
use Rattle.ruby_machine_state.specs.States.{state_of}
use Rattle.ruby_machine_frames.specs.declared.frames.Frame.TheVariants as frame
use Rattle.ruby_machine_frames.specs.declared.stack.Core.{Core}
use Rattle.ruby_machine_frames.specs.Rest.{evals, gives_of, part_of, pushes}
use Rattle.ruby_machine_frames.proofs.Levels.{plain_part, inside_part}
use Rattle.ruby_machine_values.specs.Beginning.{begins}
use Rattle.ruby_machine_collections.specs.Collecting.{parts_left, text_left}

or_false : (b : Bool) → (b || false) ≡ b
or_false true = refl
or_false false = refl

or_true : (b : Bool) → (b || true) ≡ true
or_true true = refl
or_true false = refl

module _ (index : Index) (known : List Entry) (m : Core) where
  abbrev parts : List Part → List PartEval
  parts l = map (part_of index known m.left (here_of m.here)) l

  abbrev whole : List PartEval → Bool → List ℕ → Meaning
  whole l inside bytes =
      whole_text (here_of m.here) l (state_of m.state) inside bytes m.turns (gives_of index known m)

  -- a plain part is put behind the bytes
  pub plain_goes : (at others : ℕ) (inside : Bool) (bytes plain : List ℕ) →
      (entry_at known at).parts ≡ part.Plain plain ∷ (entry_at known others).parts →
      parts_left index known at inside bytes m ≡ parts_left index known others inside (bytes ++ plain) m
  plain_goes at others inside bytes plain is =
      ap (λ l. whole (parts l) inside bytes) is
      ∙ (ap (λ p. whole (p ∷ parts (entry_at known others).parts) inside bytes)
      (plain_part index known m.left (here_of m.here) plain)
      ∙ ap (λ b. whole (parts (entry_at known others).parts) b (bytes ++ plain)) (or_false inside))

  -- an inside part is evaluated, with a frame on top
  pub inside_goes : (at x others : ℕ) (inside : Bool) (bytes : Vec ℕ Global) →
      (entry_at known at).parts ≡ part.Inside (entry_at known x).expr ∷ (entry_at known others).parts →
      parts_left index known at inside bytes.items m ≡ pushes index known m (frame.Inside others bytes) x
  inside_goes at x others inside bytes is =
      ap (λ l. whole (parts l) inside bytes.items) is
      ∙ (ap (λ p. whole (p ∷ parts (entry_at known others).parts) inside bytes.items)
      (inside_part index known m.left (here_of m.here) (entry_at known x).expr)
      ∙ ap (λ b. evals index known m.left (here_of m.here) x (state_of m.state) m.turns (λ (v : Value) n.
      whole_text (here_of m.here) (parts (entry_at known others).parts) (state_of m.state) b (bytes.items ++ to_s v) n
      (gives_of index known m))) (or_true inside))

  -- behind the last part the text ends
  pub parts_end : (at : ℕ) (inside : Bool) (bytes : List ℕ) → (entry_at known at).parts ≡ [] →
      parts_left index known at inside bytes m ≡ text_left index known inside bytes m
  parts_end at inside bytes is = ap (λ l. whole (parts l) inside bytes) is

  -- a text that is one plain part gives its bytes
  pub plain_alone : (at : ℕ) (plain : List ℕ) → (entry_at known at).parts ≡ part.Plain plain ∷ [] →
      begins (parts_left index known at false []) m
      ≡ turn (here_of m.here) m.turns (λ u n. gives_of index known m (Str plain) n)
  plain_alone at plain is =
      ap (λ l. turn (here_of m.here) m.turns (λ u n.
      whole_text (here_of m.here) (parts l) (state_of m.state) false [] n (gives_of index known m))) is
      ∙ ap (λ p. turn (here_of m.here) m.turns (λ u n.
      whole_text (here_of m.here) (p ∷ []) (state_of m.state) false [] n (gives_of index known m)))
      (plain_part index known m.left (here_of m.here) plain)

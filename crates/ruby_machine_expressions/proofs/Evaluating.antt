-- The node that is evaluated, by what the table says of it.
use Rattle.std.proofs.Common.{◌≡◌, ℕ, Bool, true, List, [], ◌∷◌, refl, ap, subst}
use Rattle.std.specs.Prelude.{Result}
use Rattle.program_places.specs.Places.{Index}
use Rattle.ruby_nodes.specs.Entries.{Entry, entry_at, entry_of}
use Rattle.ruby_nodes.specs.declared.table.Node.{Node}
use Rattle.ruby_nodes.specs.declared.table.Node.TheVariants as nd
use Rattle.ruby_types.specs.declared.value.Value.{Value}
use Rattle.ruby_types.specs.declared.tree.ConstRef.{ConstRef}
use Rattle.program_places.specs.Paths.{Name}
use Rattle.ruby_runs.specs.Doing.{Doing, Here, ◌>>=◌, pure, turn}
use Rattle.ruby_runs.specs.Names.{Found, whole_name}
use Rattle.ruby_machine_names.specs.Names.{begun}
use Rattle.ruby_machine_names.specs.Profile.{profile}
use Rattle.ruby_machine_names.specs.Steps.{here_of}
use Rattle.ruby_machine_state.specs.States.{state_of}
use Rattle.ruby_machine_frames.specs.declared.frames.Control.{Control}
use Rattle.ruby_machine_frames.specs.declared.frames.Control.TheVariants as control
use Rattle.ruby_machine_frames.specs.declared.frames.Stop.{Stop}
use Rattle.ruby_machine_frames.specs.declared.stack.Core.{Core}
use Rattle.ruby_machine_frames.specs.Rest.{Kept, KeptFrom, gives_of, load}
use Rattle.ruby_machine_frames.proofs.Levels.{layer_of}
use Rattle.ruby_machine_frames.proofs.Steps.{kept_node, kept_value}
use Rattle.ruby_machine_values.specs.Beginning.{begins}
use Rattle.ruby_machine_operators.specs.Constants.{name_left}

-- a constant begins with the turn of its first name
whole_begins : (index : Index) (here : Here) (top : Bool) (path : List Name) →
    whole_name index profile here true top path ≡ (turn here >>= (λ u. begun index here true top path))
whole_begins index here top [] = refl
whole_begins index here top (name ∷ rest) = refl

-- the same in a machine
pub const_begins : (index : Index) (known : List Entry) (m : Core) (constant : ConstRef) →
    layer_of index known m.left (here_of m.here) (nd.Const constant) (state_of m.state) m.turns (gives_of index known m)
    ≡ begins (name_left index known constant) m
const_begins index known m constant =
    ap (λ (d : Doing Found). (d >>= (λ found. pure found.value)) m.turns (gives_of index known m))
    (whole_begins index (here_of m.here) constant.top constant.path)

module _ (index : Index) (known nodes : List Entry) (m : Core) (at : ℕ) (n : Node) (same : nodes ≡ known)
    (stands : entry_at nodes at ≡ entry_of nodes n) where
  here_too : entry_at known at ≡ entry_of known n
  here_too = subst (λ k. entry_at k at ≡ entry_of k n) same stands

  -- a node does what its level does
  pub level_kept : (r : Result Control Stop) (new : Core) (l : Node) → n ≡ l →
      KeptFrom index known (layer_of index known m.left (here_of m.here) l (state_of m.state) m.turns
      (gives_of index known m)) (load m) r new → Kept index known m (control.Eval at) r new
  level_kept r new l is k = kept_node index known m at n l r new here_too is k

  -- one that gives a value behind its turn
  pub value_kept : (r : Result Control Stop) (new : Core) (l : Node) (v' v : Value) → n ≡ l →
      layer_of index known m.left (here_of m.here) l (state_of m.state) m.turns (gives_of index known m)
      ≡ turn (here_of m.here) m.turns (λ u t. gives_of index known m v t) → v' ≡ v →
      KeptFrom index known (turn (here_of m.here) m.turns (λ u t. gives_of index known m v' t)) (load m) r new →
      Kept index known m (control.Eval at) r new
  value_kept r new l v' v is gives eq k = kept_value index known m r new at n l v' v here_too is gives eq k

-- How calls go on in the machine, by the methods that are found.
use Rattle.std.proofs.Common.{◌≡◌, ℕ, ◌+◌, Bool, true, false, List, [], map, drop, None}
use Rattle.std.proofs.Common.{refl, sym, ap, subst, arith}
use Rattle.std.specs.Prelude.{Result, if◌then◌else◌, ◌&&◌, bytes_eq, codes}
use Rattle.ruby_types.specs.declared.value.Value.{Value, Value-F, out-Value, roll-Value, roll-out-Value}
use Rattle.ruby_types.specs.declared.value.Value.TheOpen as layer
use Rattle.ruby_types.specs.declared.value.Value.TheVariants as value
use Rattle.ruby_types.specs.declared.request.Task.TheVariants as task
use Rattle.program_places.specs.Paths.{Name, Path}
use Rattle.program_places.specs.Places.{Index}
use Rattle.ruby_nodes.specs.Entries.{Entry}
use Rattle.ruby_runs.specs.Doing.{Doing, Here, Meaning, pure, ◌>>=◌, turn}
use Rattle.ruby_runs.specs.Names.{asked_ancestors}
use Rattle.ruby_runs.specs.BuiltIns.{built_in_call, made}
use Rattle.ruby_runs.specs.Bodies.{call_layer, first_found, frames_of, instance, instance_of, is_class_at, makes_new}
use Rattle.ruby_runs.specs.Bodies.{singleton, singleton_of_class}
use Rattle.ruby_runs.specs.Bodies as bodies
use Rattle.ruby_machine_names.specs.Profile.{profile}
use Rattle.ruby_machine_names.specs.Steps.{here_of}
use Rattle.ruby_machine_frames.specs.declared.frames.Control.{Control}
use Rattle.ruby_machine_frames.specs.declared.frames.Frame.{Frame}
use Rattle.ruby_machine_frames.specs.declared.frames.Frame.TheVariants as frame
use Rattle.ruby_machine_frames.specs.declared.frames.Stop.{Stop}
use Rattle.ruby_machine_frames.specs.declared.stack.Core.{Core}
use Rattle.ruby_machine_frames.specs.Rest.{KeptFrom, calls, gives_of, instance_or, load, needs, new_by, singleton_or}
use Rattle.ruby_machine_frames.specs.Rest.{with_turns}
use Rattle.ruby_machine_frames.proofs.Steps.{kept_along}

module _ (index : Index) (known : List Entry) (m : Core) (r : Result Control Stop) (new : Core) where
  abbrev here : Here
  here = here_of m.here

  -- a call on a module or class
  pub module_kept : (path : Path) (name : Name) (args : List Value) →
      KeptFrom index known ((singleton index profile here path name >>= singleton_or index known m.left here path
      name args) m.turns (gives_of index known m)) (load m + 9) r new →
      KeptFrom index known (calls index known m.left here (value.Module path) name args m.turns (gives_of index known
      m)) (load m + 9) r new
  module_kept path name args k =
      kept_along index known ((singleton index profile here path name >>= singleton_or index known m.left here path
      name args) m.turns (gives_of index known m))
      (calls index known m.left here (value.Module path) name args m.turns (gives_of index known m))
      (load m + 9) (load m + 9) r new
      (ap (λ l. call_layer index profile (frames_of index profile m.left) here (value.Module path) name args l m.turns
      (gives_of index known m)) (value.outs-Module path)) (omega arith) k

  -- a call on an object
  pub object_kept : (class : Path) (variables : List (Value × Value)) (name : Name) (args : List Value) →
      KeptFrom index known ((instance index profile here class name >>= instance_or index known m.left here
      (value.Object class variables) name args) m.turns (gives_of index known m)) (load m + 9) r new →
      KeptFrom index known (calls index known m.left here (value.Object class variables) name args m.turns
      (gives_of index known m)) (load m + 9) r new
  object_kept class variables name args k =
      kept_along index known ((instance index profile here class name >>= instance_or index known m.left here
      (value.Object class variables) name args) m.turns (gives_of index known m))
      (calls index known m.left here (value.Object class variables) name args m.turns (gives_of index known m))
      (load m + 9) (load m + 9) r new
      (ap (λ l. call_layer index profile (frames_of index profile m.left) here (value.Object class variables) name
      args l m.turns (gives_of index known m)) (value.outs-Object class variables)) (omega arith) k

  -- what was found at once
  pub found_kept : {A : Type 0} (d : Doing A) (a : A) (f : A → Doing Value) (bound : ℕ) → d ≡ pure a →
      KeptFrom index known (f a m.turns (gives_of index known m)) bound r new →
      KeptFrom index known ((d >>= f) m.turns (gives_of index known m)) bound r new
  found_kept {A} d a f bound is k =
      kept_along index known (f a m.turns (gives_of index known m)) ((d >>= f) m.turns (gives_of index known m))
      bound bound r new (ap (λ (x : Doing A). (x >>= f) m.turns (gives_of index known m)) is) (omega arith) k

  abbrev needed : Frame → Path → Meaning
  needed f path = turn here m.turns (λ u n. needs index known (with_turns m n) f (task.Ancestors path))

  -- the task has a copy of the path
  pub needed_kept : (f : Frame) (copied path : Path) (bound : ℕ) → copied ≡ path →
      KeptFrom index known (needed f copied) bound r new → KeptFrom index known (needed f path) bound r new
  needed_kept f copied path bound is k = subst (λ p. KeptFrom index known (needed f p) bound r new) is k

  -- a step that keeps what is less keeps what is more
  pub more_kept : (before : Meaning) → KeptFrom index known before (load m + 6) r new →
      KeptFrom index known before (load m + 9) r new
  more_kept before k = kept_along index known before before (load m + 6) (load m + 9) r new refl (omega arith) k

  -- without `initialize` an object is made at once
  pub made_alone : (path : Path) (args : List Value) → args ≡ [] →
      KeptFrom index known (made here (value.Object path []) m.turns (gives_of index known m)) (load m + 6) r new →
      KeptFrom index known (new_by index known m.left here path args None m.turns (gives_of index known m))
      (load m + 9) r new
  made_alone path args none k =
      subst (λ l. KeptFrom index known (new_by index known m.left here path l None m.turns (gives_of index known m))
      (load m + 9) r new) (sym none)
      (more_kept (made here (value.Object path []) m.turns (gives_of index known m)) k)

  -- a call on a class waits for its ancestors
  pub singleton_asks_kept : (path : Path) (name : Name) (args : List Value) →
      singleton index profile here path name ≡ (asked_ancestors index profile here path >>= (λ members.
      pure (first_found (map (λ p. singleton_of_class name (index.place p)) (drop 1 members))))) →
      KeptFrom index known (needed (frame.Singleton path name args) path) (load m + 1) r new →
      KeptFrom index known ((singleton index profile here path name >>= singleton_or index known m.left here path
      name args) m.turns (gives_of index known m)) (load m + 9) r new
  singleton_asks_kept path name args is k =
      kept_along index known (needed (frame.Singleton path name args) path)
      ((singleton index profile here path name >>= singleton_or index known m.left here path name args) m.turns
      (gives_of index known m)) (load m + 1) (load m + 9) r new
      (ap (λ d. (d >>= singleton_or index known m.left here path name args) m.turns (gives_of index known m)) is)
      (omega arith) k

  -- a call on an object waits for the ancestors of its class
  pub instance_asks_kept : (class : Path) (on : Value) (name : Name) (args : List Value) →
      instance index profile here class name ≡ (asked_ancestors index profile here class >>= (λ members.
      pure (first_found (map (λ p. instance_of name (index.place p)) members)))) →
      KeptFrom index known (needed (frame.Instance on name args) class) (load m + 1) r new →
      KeptFrom index known ((instance index profile here class name >>= instance_or index known m.left here on name
      args) m.turns (gives_of index known m)) (load m + 9) r new
  instance_asks_kept class on name args is k =
      kept_along index known (needed (frame.Instance on name args) class)
      ((instance index profile here class name >>= instance_or index known m.left here on name args) m.turns
      (gives_of index known m)) (load m + 1) (load m + 9) r new
      (ap (λ d. (d >>= instance_or index known m.left here on name args) m.turns (gives_of index known m)) is)
      (omega arith) k

  -- `new` waits for the ancestors of the class
  pub new_asks_kept : (path : Path) (args : List Value) →
      instance index profile here path (codes "initialize")
      ≡ (asked_ancestors index profile here path >>= (λ members.
      pure (first_found (map (λ p. instance_of (codes "initialize") (index.place p)) members)))) →
      KeptFrom index known (needed (frame.Initialize path args) path) (load m + 1) r new →
      KeptFrom index known (makes_new index profile (frames_of index profile m.left) here path args m.turns
      (gives_of index known m)) (load m + 9) r new
  new_asks_kept path args is k =
      kept_along index known (needed (frame.Initialize path args) path)
      (makes_new index profile (frames_of index profile m.left) here path args m.turns (gives_of index known m))
      (load m + 1) (load m + 9) r new
      (ap (λ d. (d >>= new_by index known m.left here path args) m.turns (gives_of index known m)) is)
      (omega arith) k

  -- `new` or a built-in method
  abbrev by_test : Path → Name → List Value → Bool → Meaning
  by_test path name args is_new = (if is_new
      then makes_new index profile (frames_of index profile m.left) here path args
      else built_in_call profile here (value.Module path) name args) m.turns (gives_of index known m)

  -- `new` of a class
  pub new_kept : (path : Path) (name : Name) (args : List Value) →
      (bytes_eq name (codes "new") && is_class_at (index.place path)) ≡ true →
      KeptFrom index known (makes_new index profile (frames_of index profile m.left) here path args m.turns
      (gives_of index known m)) (load m + 9) r new →
      KeptFrom index known (bodies.new_or_built_in index profile (frames_of index profile m.left) here
      (value.Module path) path name args m.turns (gives_of index known m)) (load m + 9) r new
  new_kept path name args is k =
      kept_along index known (by_test path name args true)
      (bodies.new_or_built_in index profile (frames_of index profile m.left) here (value.Module path) path name args
      m.turns (gives_of index known m)) (load m + 9) (load m + 9) r new (ap (by_test path name args) is)
      (omega arith) k

  -- a built-in method of a class or module
  pub not_new_kept : (path : Path) (name : Name) (args : List Value) →
      (bytes_eq name (codes "new") && is_class_at (index.place path)) ≡ false →
      KeptFrom index known (built_in_call profile here (value.Module path) name args m.turns (gives_of index known m))
      (load m + 6) r new →
      KeptFrom index known (bodies.new_or_built_in index profile (frames_of index profile m.left) here
      (value.Module path) path name args m.turns (gives_of index known m)) (load m + 9) r new
  not_new_kept path name args is k =
      kept_along index known (by_test path name args false)
      (bodies.new_or_built_in index profile (frames_of index profile m.left) here (value.Module path) path name args
      m.turns (gives_of index known m)) (load m + 6) (load m + 9) r new (ap (by_test path name args) is)
      (omega arith) k

-- a call on what is neither a module nor an object, by its level
other_layer : (index : Index) (left : ℕ) (here : Here) (on : Value) (name : Name) (args : List Value)
    (l : Value-F Value) → roll-Value l ≡ on → ((path : Path) → on ≡ value.Module path → ⊥) →
    ((class : Path) (variables : List (Value × Value)) → on ≡ value.Object class variables → ⊥) →
    call_layer index profile (frames_of index profile left) here on name args l
    ≡ built_in_call profile here on name args
unfolding roll-Value denote.Hole.Carrier.roll
other_layer index left here on name args layer.Nil is module' object = refl
other_layer index left here on name args layer.True is module' object = refl
other_layer index left here on name args layer.False is module' object = refl
other_layer index left here on name args (layer.Int n) is module' object = refl
other_layer index left here on name args (layer.Str text) is module' object = refl
other_layer index left here on name args (layer.Sym text) is module' object = refl
other_layer index left here on name args (layer.Array items) is module' object = refl
other_layer index left here on name args (layer.Hash pairs) is module' object = refl
other_layer index left here on name args (layer.Module path) is module' object = absurd (module' path (sym is))
other_layer index left here on name args (layer.Object class variables) is module' object =
    absurd (object class variables (sym is))

-- a call on another value is one of a built-in method
pub other_kept : (index : Index) (known : List Entry) (m : Core) (r : Result Control Stop) (new : Core) (on : Value)
    (name : Name) (args : List Value) → ((path : Path) → on ≡ value.Module path → ⊥) →
    ((class : Path) (variables : List (Value × Value)) → on ≡ value.Object class variables → ⊥) →
    KeptFrom index known (built_in_call profile (here_of m.here) on name args m.turns (gives_of index known m))
    (load m + 6) r new →
    KeptFrom index known (calls index known m.left (here_of m.here) on name args m.turns (gives_of index known m))
    (load m + 9) r new
other_kept index known m r new on name args module' object k =
    kept_along index known (built_in_call profile (here_of m.here) on name args m.turns (gives_of index known m))
    (calls index known m.left (here_of m.here) on name args m.turns (gives_of index known m)) (load m + 6)
    (load m + 9) r new
    (ap (λ (d : Doing Value). d m.turns (gives_of index known m))
    (other_layer index m.left (here_of m.here) on name args (out-Value on) (roll-out-Value on) module' object))
    (omega arith) k

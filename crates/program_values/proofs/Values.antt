-- When a value stands, by its level; and what variables, hashes and lists of ancestors have in them.
use Rattle.std.proofs.Common.{◌≡◌, ℕ, Bool, true, false, ◌&&◌, List, [], ◌∷◌, ◌++◌, map, refl}
use Rattle.std.proofs.Common.{sym, ap}
use Rattle.std.proofs.Common.{◌∙◌, bytes_eq}
use Rattle.std.specs.Prelude.{if◌then◌else◌, filter_map}
use Rattle.std.specs.List.{cons_option}
use Rattle.std.proofs.lemmas.Bool.{and_from, and_parts}
use Rattle.ruby_types.specs.Same.{same}
use Rattle.ruby_types.specs.declared.value.Value.{Value, Value-F, out-Value, fold_out-Value, map-Value}
use Rattle.ruby_types.specs.declared.value.Value.TheOpen as layer
use Rattle.ruby_types.specs.declared.value.Value.TheVariants as value
use Rattle.ruby_builtin_keys.specs.Merging.{put}
use Rattle.program_places.specs.Paths.{Name, Path}
use Rattle.program_places.specs.Places.{Index}
use Rattle.program_places.specs.Tasks.{EachIs}
use Rattle.ruby_runs.specs.Names.{module_of, module_layer, members_of, members_layer}
use Rattle.ruby_runs.specs.Bodies.{Variables, local_of, with_local, boolean, symbol_layer, ivar_in, ivar_layer, ivar_of}
use Rattle.ruby_runs.specs.Bodies.{set_pair, with_layer, with_ivar, bound, is_class_at}
use Rattle.program_values.specs.Standing.{is_module_at, all_true, both_true, stands_layer, stands, Stands, PairStands}

-- what holds of each of two lists holds of each of both together
pub each_of_both : {A : Type 0} (P : A → Type 0) (xs ys : List A) → EachIs P xs → EachIs P ys → EachIs P (xs ++ ys)
each_of_both P [] ys each more = more
each_of_both P (x ∷ xs) ys each more = (each.0, each_of_both P xs ys each.1 more)

-- what holds of either holds of the one that is chosen
pub either_has : {A : Type 0} (P : A → Type 0) (b : Bool) (x y : A) → P x → P y → P (if b then x else y)
either_has P true x y h k = h
either_has P false x y h k = k

module _ (index : Index) where
  stands_by_level : (v : Value) (x : Value-F Value) → out-Value v ≡ x →
      stands index v ≡ stands_layer index (map-Value Value Bool (stands index) x)
  stands_by_level v x is = fold_out-Value Bool (stands_layer index) v
      ∙ ap (λ y. stands_layer index (map-Value Value Bool (stands index) y)) is

  -- a list of values that stand, as a truth value
  pub each_is_true : (xs : List Value) → EachIs (Stands index) xs → all_true (map (stands index) xs) ≡ true
  each_is_true [] each = refl
  each_is_true (x ∷ xs) each = and_from (stands index x) (all_true (map (stands index) xs)) each.0
      (each_is_true xs each.1)

  true_of_each : (xs : List Value) → all_true (map (stands index) xs) ≡ true → EachIs (Stands index) xs
  true_of_each [] h = tt
  true_of_each (x ∷ xs) h = let p = and_parts (stands index x) (all_true (map (stands index) xs)) h in
      (p.0, true_of_each xs p.1)

  abbrev pair_test : Value × Value → Bool × Bool
  pair_test p = (stands index p.0, stands index p.1)

  both_of_each : (ps : List (Value × Value)) → EachIs (PairStands index) ps → both_true (map pair_test ps) ≡ true
  both_of_each [] each = refl
  both_of_each (p ∷ ps) each = and_from (stands index p.0 && stands index p.1) (both_true (map pair_test ps))
      (and_from (stands index p.0) (stands index p.1) each.0.0 each.0.1) (both_of_each ps each.1)

  each_of_true : (ps : List (Value × Value)) → both_true (map pair_test ps) ≡ true → EachIs (PairStands index) ps
  each_of_true [] h = tt
  each_of_true (p ∷ ps) h =
      let q = and_parts (stands index p.0 && stands index p.1) (both_true (map pair_test ps)) h in
      let r = and_parts (stands index p.0) (stands index p.1) q.0 in
      ((r.0, r.1), each_of_true ps q.1)

  -- nil stands
  pub nil_stands : Stands index value.Nil
  nil_stands = stands_by_level value.Nil layer.Nil value.outs-Nil

  -- a truth value stands
  pub boolean_stands : (b : Bool) → Stands index (boolean b)
  boolean_stands true = stands_by_level value.True layer.True value.outs-True
  boolean_stands false = stands_by_level value.False layer.False value.outs-False

  -- a number stands
  pub int_stands : (n : _) → Stands index (value.Int n)
  int_stands n = stands_by_level (value.Int n) (layer.Int n) (value.outs-Int n)

  -- a text stands
  pub str_stands : (text : List ℕ) → Stands index (value.Str text)
  str_stands text = stands_by_level (value.Str text) (layer.Str text) (value.outs-Str text)

  -- a symbol stands
  pub sym_stands : (name : List ℕ) → Stands index (value.Sym name)
  sym_stands name = stands_by_level (value.Sym name) (layer.Sym name) (value.outs-Sym name)

  -- an array of values that stand stands
  pub array_stands : (xs : List Value) → EachIs (Stands index) xs → Stands index (value.Array xs)
  array_stands xs each = stands_by_level (value.Array xs) (layer.Array xs) (value.outs-Array xs) ∙ each_is_true xs each

  -- a hash of keys and values that stand stands
  pub hash_stands : (ps : List (Value × Value)) → EachIs (PairStands index) ps → Stands index (value.Hash ps)
  hash_stands ps each = stands_by_level (value.Hash ps) (layer.Hash ps) (value.outs-Hash ps) ∙ both_of_each ps each

  -- a class or module stands as a value
  pub module_stands : (path : Path) → is_module_at (index.place path) ≡ true → Stands index (value.Module path)
  module_stands path h = stands_by_level (value.Module path) (layer.Module path) (value.outs-Module path) ∙ h

  -- an object of a class whose variables stand stands
  pub object_stands : (class : Path) (ps : List (Value × Value)) → is_class_at (index.place class) ≡ true →
      EachIs (PairStands index) ps → Stands index (value.Object class ps)
  object_stands class ps h each =
      stands_by_level (value.Object class ps) (layer.Object class ps) (value.outs-Object class ps)
      ∙ and_from (is_class_at (index.place class)) (both_true (map pair_test ps)) h (both_of_each ps each)

  -- the members of an array that stands
  pub items_stand : (v : Value) (xs : List Value) → out-Value v ≡ layer.Array xs → Stands index v →
      EachIs (Stands index) xs
  items_stand v xs is h = true_of_each xs (sym (stands_by_level v (layer.Array xs) is) ∙ h)

  -- the pairs of a hash that stands
  pub pairs_stand : (v : Value) (ps : List (Value × Value)) → out-Value v ≡ layer.Hash ps → Stands index v →
      EachIs (PairStands index) ps
  pairs_stand v ps is h = each_of_true ps (sym (stands_by_level v (layer.Hash ps) is) ∙ h)

  -- a class or module that stands is one
  pub module_is_there : (v : Value) (path : Path) → out-Value v ≡ layer.Module path → Stands index v →
      is_module_at (index.place path) ≡ true
  module_is_there v path is h = sym (stands_by_level v (layer.Module path) is) ∙ h

  object_is_there : (v : Value) (class : Path) (ps : List (Value × Value)) → out-Value v ≡ layer.Object class ps →
      Stands index v → (is_class_at (index.place class) ≡ true) × EachIs (PairStands index) ps
  object_is_there v class ps is h =
      let p = and_parts (is_class_at (index.place class)) (both_true (map pair_test ps))
      (sym (stands_by_level v (layer.Object class ps) is) ∙ h) in
      (p.0, each_of_true ps p.1)

  -- a path of a class or module that stands
  abbrev pub IsModule : Path → Type 0
  IsModule path = is_module_at (index.place path) ≡ true

  module_at : (v : Value) (x : Value-F Value) → out-Value v ≡ x → Stands index v → (paths : List Path) →
      EachIs IsModule paths → EachIs IsModule (cons_option (module_layer x) paths)
  module_at v (layer.Module path) is h paths each = (module_is_there v path is h, each)
  module_at v x is h paths each = each

  modules_of : (xs : List Value) → EachIs (Stands index) xs → EachIs IsModule (filter_map module_of xs)
  modules_of [] each = tt
  modules_of (x ∷ xs) each =
      module_at x (out-Value x) refl each.0 (filter_map module_of xs) (modules_of xs each.1)

  members_at : (v : Value) (x : Value-F Value) → out-Value v ≡ x → Stands index v →
      EachIs IsModule (members_layer x)
  members_at v (layer.Array xs) is h = modules_of xs (items_stand v xs is h)
  members_at v x is h = tt

  -- the members of a list of ancestors that stands are classes and modules
  pub members_stand : (v : Value) → Stands index v → EachIs IsModule (members_of v)
  members_stand v h = members_at v (out-Value v) refl h

  -- classes and modules as values
  pub modules_stand : (paths : List Path) → EachIs IsModule paths → EachIs (Stands index) (map value.Module paths)
  modules_stand [] each = tt
  modules_stand (path ∷ paths) each = (module_stands path each.0, modules_stand paths each.1)

  -- ---- variables

  -- the value of a local variable
  abbrev pub LocalStands : Name × Value → Type 0
  LocalStands p = Stands index p.1

  -- a local variable that is read
  pub local_stands : (locals : Variables) (name : Name) → EachIs LocalStands locals →
      Stands index (local_of locals name)
  local_stands [] name each = nil_stands
  local_stands (p ∷ locals) name each = either_has (Stands index) (bytes_eq p.0 name) p.1 (local_of locals name)
      each.0 (local_stands locals name each.1)

  -- local variables after an assignment
  pub locals_stand : (locals : Variables) (name : Name) (v : Value) → EachIs LocalStands locals → Stands index v →
      EachIs LocalStands (with_local locals name v)
  locals_stand [] name v each h = (h, tt)
  locals_stand (p ∷ locals) name v each h =
      either_has (EachIs LocalStands) (bytes_eq p.0 name) ((name, v) ∷ locals) (p ∷ with_local locals name v)
      (h, each.1) (each.0, locals_stand locals name v each.1 h)

  -- parameters with their arguments
  pub bound_stand : (names : List Name) (args : List Value) → EachIs (Stands index) args →
      EachIs LocalStands (bound names args)
  bound_stand [] args each = tt
  bound_stand (name ∷ names) [] each = (nil_stands, bound_stand names [] tt)
  bound_stand (name ∷ names) (arg ∷ args) each = (each.0, bound_stand names args each.1)

  ivar_in_stands : (ps : List (Value × Value)) (name : Name) → EachIs (PairStands index) ps →
      Stands index (ivar_in ps name)
  ivar_in_stands [] name each = nil_stands
  ivar_in_stands (p ∷ ps) name each =
      either_has (Stands index) (bytes_eq (symbol_layer (out-Value p.0)) name) p.1 (ivar_in ps name)
      each.0.1 (ivar_in_stands ps name each.1)

  ivar_at : (self : Value) (x : Value-F Value) → out-Value self ≡ x → (name : Name) → Stands index self →
      Stands index (ivar_layer x name)
  ivar_at self (layer.Object class ps) is name h = ivar_in_stands ps name (object_is_there self class ps is h).1
  ivar_at self x is name h = nil_stands

  -- an instance variable that is read
  pub ivar_stands : (self : Value) (name : Name) → Stands index self → Stands index (ivar_of self name)
  ivar_stands self name h = ivar_at self (out-Value self) refl name h

  pairs_set : (ps : List (Value × Value)) (name : Name) (v : Value) → EachIs (PairStands index) ps →
      Stands index v → EachIs (PairStands index) (set_pair ps name v)
  pairs_set [] name v each h = ((sym_stands name, h), tt)
  pairs_set (p ∷ ps) name v each h =
      either_has (EachIs (PairStands index)) (bytes_eq (symbol_layer (out-Value p.0)) name)
      ((p.0, v) ∷ ps) (p ∷ set_pair ps name v) ((each.0.0, h), each.1) (each.0, pairs_set ps name v each.1 h)

  with_ivar_at : (self : Value) (x : Value-F Value) → out-Value self ≡ x → (name : Name) (v : Value) →
      Stands index self → Stands index v → Stands index (with_layer x self name v)
  with_ivar_at self (layer.Object class ps) is name v h k =
      let parts = object_is_there self class ps is h in
      object_stands class (set_pair ps name v) parts.0 (pairs_set ps name v parts.1 k)
  with_ivar_at self x is name v h k = h

  -- self after an assignment
  pub with_ivar_stands : (self : Value) (name : Name) (v : Value) → Stands index self → Stands index v →
      Stands index (with_ivar self name v)
  with_ivar_stands self name v h k = with_ivar_at self (out-Value self) refl name v h k

  -- a pair that comes into a hash
  pub put_stand : (ps : List (Value × Value)) (p : Value × Value) → EachIs (PairStands index) ps →
      PairStands index p → EachIs (PairStands index) (put ps p)
  put_stand [] p each h = (h, tt)
  put_stand (q ∷ ps) p each h =
      either_has (EachIs (PairStands index)) (same q.0 p.0) ((q.0, p.1) ∷ ps) (q ∷ put ps p)
      ((each.0.0, h.1), each.1) (each.0, put_stand ps p each.1 h)

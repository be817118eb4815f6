-- How the modules of a list of ancestors are gathered.
use Rattle.std.proofs.Common.{◌≡◌, Bool, true, false, List, [], ◌∷◌, ◌++◌, map}
use Rattle.std.proofs.Common.{refl, sym, ap, ◌∙◌}
use Rattle.std.specs.Prelude.{if◌then◌else◌, ◌||◌, not}
use Rattle.std.specs.List.{list_any}
use Rattle.std.proofs.lemmas.List.{map-append}
use Rattle.std.proofs.lemmas.Bool.{true≢false, false≢true}
use Rattle.indexmap.specs.IndexSet.{insert_key}
use Rattle.ruby_types.specs.declared.value.Value.TheVariants.{Module}
use Rattle.program_places.specs.Paths.{Path, same_path}
use Rattle.task_keys.specs.declared.key.TaskKey.{TaskKey}
use Rattle.ruby_runs.specs.Runs.{with_path, with_paths}
use Rattle.ruby_machine_ancestors.specs.Gathers.{Gathers, key_of, same}
use Rattle.ruby_machine_ancestors.specs.declared.joining.Gathering.{Gathering}

-- a key is there where its path is
key_is_there : (path : Path) (paths : List Path) →
    list_any (same (key_of path)) (map key_of paths) ≡ list_any (same_path path) paths
key_is_there path [] = refl
key_is_there path (first ∷ paths) = ap (λ there. same_path path first || there) (key_is_there path paths)

keys_by : (path : Path) (paths : List Path) (there : Bool) →
    (if there then map key_of paths else map key_of paths ++ key_of path ∷ [])
    ≡ map key_of (if there then paths else paths ++ path ∷ [])
keys_by path paths true = refl
keys_by path paths false = sym (map-append key_of paths (path ∷ []))

-- the keys with one path more
pub keys_with : (path : Path) (paths : List Path) (old new : List TaskKey) → old ≡ map key_of paths →
    new ≡ insert_key same old (key_of path) → new ≡ map key_of (with_path paths path)
keys_with path paths old new is more = more ∙ (ap (λ keys. insert_key same keys (key_of path)) is
    ∙ (ap (λ there. if there then map key_of paths else map key_of paths ++ key_of path ∷ []) (key_is_there path paths)
    ∙ keys_by path paths (list_any (same_path path) paths)))

old_is_there : (is_new there : Bool) → is_new ≡ not there → is_new ≡ false → there ≡ true
old_is_there is_new true is old = refl
old_is_there is_new false is old = absurd (true≢false (sym is ∙ old))

new_is_not : (is_new there : Bool) → is_new ≡ not there → is_new ≡ true → there ≡ false
new_is_not is_new false is new = refl
new_is_not is_new true is new = absurd (false≢true (sym is ∙ new))

module _ (path : Path) (paths : List Path) (old new : Gathering) (is_new : Bool) (gathered : Gathers old paths)
    (keys : new.keys.keys ≡ insert_key same old.keys.keys (key_of path))
    (flag : is_new ≡ not (list_any (same (key_of path)) old.keys.keys)) where
  there : list_any (same (key_of path)) old.keys.keys ≡ list_any (same_path path) paths
  there = ap (list_any (same (key_of path))) gathered.0 ∙ key_is_there path paths

  -- a module that is there stays
  pub old_gathers : is_new ≡ false → new.modules.items ≡ old.modules.items → Gathers new (with_path paths path)
  old_gathers old_one same_items = (
    keys_with path paths old.keys.keys new.keys.keys gathered.0 keys,
    same_items ∙ (gathered.1 ∙ ap (λ b. map Module (if b then paths else paths ++ path ∷ []))
        (sym (sym there ∙ old_is_there is_new _ flag old_one))),
  )

  -- a module that is new comes behind the others
  pub new_gathers : (module' : Path) → module' ≡ path → is_new ≡ true →
      new.modules.items ≡ old.modules.items ++ Module module' ∷ [] → Gathers new (with_path paths path)
  new_gathers module' is new_one more = (
    keys_with path paths old.keys.keys new.keys.keys gathered.0 keys,
    more ∙ (ap (λ p. old.modules.items ++ Module p ∷ []) is ∙ (ap (λ l. l ++ Module path ∷ []) gathered.1
        ∙ (sym (map-append Module paths (path ∷ []))
        ∙ ap (λ b. map Module (if b then paths else paths ++ path ∷ []))
        (sym (sym there ∙ new_is_not is_new _ flag new_one))))),
  )

-- one path more behind several
pub with_paths-push : (before paths : List Path) (path : Path) →
    with_paths before (paths ++ path ∷ []) ≡ with_path (with_paths before paths) path
with_paths-push before [] path = refl
with_paths-push before (first ∷ paths) path = with_paths-push (with_path before first) paths path

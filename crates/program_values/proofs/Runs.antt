-- Runs of tasks and requests over values that stand come to a value that stands, and their calls may be guarded.
use Rattle.std.proofs.Common.{◌≡◌, ℕ, zero, suc, Bool, true, false, ◌||◌, List, [], ◌∷◌, ◌++◌, map, Option, Some}
use Rattle.std.proofs.Common.{None, refl, sym, ap}
use Rattle.std.specs.List.{list_any}
use Rattle.std.proofs.lemmas.Bool.{and_from, false≢true}
use Rattle.ruby_types.specs.declared.value.Value as value
use Rattle.ruby_types.specs.declared.value.Value.{Value-F, out-Value}
use Rattle.ruby_types.specs.declared.value.Value.TheOpen as layer
use Rattle.ruby_types.specs.declared.value.Value.TheVariants.{Nil, Hash, Module}
use Rattle.ruby_types.specs.declared.request.ErrorClass.TheVariants as class
use Rattle.ruby_types.specs.declared.request.Request.{Request}
use Rattle.ruby_types.specs.declared.request.Task.{Task}
use Rattle.ruby_types.specs.declared.request.Task.TheVariants as task
use Rattle.program_places.specs.Paths.{Name, Path, same_path}
use Rattle.program_places.specs.Places.{Index, Place, Missing, Implicit, Owned, Faulty, Assigned, Opened, Opening}
use Rattle.program_places.specs.Places.{Mention, Method, Loading, Absent, Fails, AsksFor}
use Rattle.program_places.specs.Tasks.{EachIs}
use Rattle.ruby_runs.specs.declared.NoReply.TheVariants.{NoController, NoAction}
use Rattle.ruby_runs.specs.Doing.{Here}
use Rattle.ruby_runs.specs.BuiltIns.{BuiltIns}
use Rattle.ruby_runs.specs.Bodies.{Call, frames_of, is_class_at}
use Rattle.ruby_runs.specs.Runs.{Limits, with_path, with_paths, from_last, file_here, request_here, self_around}
use Rattle.ruby_runs.specs.Runs.{ask_all, file_run, const_run, looked_up, parent_members, is_no_module}
use Rattle.ruby_runs.specs.Runs.{include_members, all_members, ancestors_of, ancestors_run, action_call, action_of}
use Rattle.ruby_runs.specs.Runs.{controlled, routed, doing, turns_of, meaning}
use Rattle.program_values.specs.Standing.{is_module_at, all_true, stands, Stands, PairStands, AllStand}
use Rattle.program_values.specs.Standing.{NamesNothingNew, ScopeStands, IsNamed, IsWritten, ParamsStand}
use Rattle.program_values.specs.Guarded.{guarded, guarded_frames, guarded_const, guarded_action, guarded_action_of}
use Rattle.program_values.specs.Guarded.{guarded_controlled, guarded_routed, guarded_doing, guarded_meaning}
use Rattle.program_values.proofs.Values.{each_of_both, either_has, each_is_true, nil_stands, array_stands, hash_stands}
use Rattle.program_values.proofs.Values.{module_stands, modules_stand, IsModule}
use Rattle.program_values.proofs.Keeps.{Keeps, Agree, Any, pure_keeps, bind_keeps, raise_keeps, fail_keeps, end_keeps}
use Rattle.program_values.proofs.Keeps.{turn_keeps, ask_keeps, either_keeps}
use Rattle.program_values.proofs.Names.{FoundStands, refer_keeps, resolved_keeps, module_ancestors_keep}
use Rattle.program_values.proofs.Bodies.{CallKeeps, FramesKeep, no_frame, a_frame, eval_keeps, invoke_keeps}
use Rattle.program_values.proofs.Bodies.{singleton_keeps, call_in_keeps}

-- a class or module stands where a class does
class_is_module : (place : Place) → is_class_at place ≡ true → is_module_at place ≡ true
class_is_module Missing h = absurd (false≢true h)
class_is_module Implicit h = absurd (false≢true h)
class_is_module (Owned file (Faulty error)) h = absurd (false≢true h)
class_is_module (Owned file (Assigned x scopes)) h = absurd (false≢true h)
class_is_module (Owned file (Opened opening)) h = refl

or_false : (a b : Bool) → (a || b) ≡ false → a ≡ false
or_false true b h = absurd (false≢true (sym h))
or_false false b h = refl

module _ (index : Index) where
  -- lists of paths of classes and modules
  path_added : (paths : List Path) (path : Path) → EachIs (IsModule index) paths → IsModule index path →
      EachIs (IsModule index) (with_path paths path)
  path_added paths path each h = either_has (EachIs (IsModule index)) (list_any (same_path path) paths)
      paths (paths ++ path ∷ []) each (each_of_both (IsModule index) paths (path ∷ []) each (h, tt))

  paths_added : (paths more : List Path) → EachIs (IsModule index) paths → EachIs (IsModule index) more →
      EachIs (IsModule index) (with_paths paths more)
  paths_added paths [] each h = each
  paths_added paths (path ∷ more) each h = paths_added (with_path paths path) more (path_added paths path each h.0) h.1

  lists_added : (paths : List Path) (lists : List (List Path)) → EachIs (IsModule index) paths →
      EachIs (EachIs (IsModule index)) lists → EachIs (IsModule index) (from_last paths lists)
  lists_added paths [] each h = each
  lists_added paths (more ∷ lists) each h =
      paths_added (from_last paths lists) more (lists_added paths lists each h.1) h.0

module _ (index : Index) (rows : BuiltIns) (limits : Limits) (other : Call) (K : Task → Option value.Value)
    (all : AllStand index K) (nothing_new : NamesNothingNew index rows) (written : IsWritten index) where
  -- ---- guarded calls go together with others

  guarded_at : (c d : Call) → CallKeeps index rows K all nothing_new c d →
      CallKeeps index rows K all nothing_new c (guarded index rows limits other d)
  guarded_at c d k here on name args h each =
      let passes = and_from (stands index on) (all_true (map (stands index) args)) h (each_is_true index args each) in
      rw passes (k here on name args h each)

  frames_keep : (left : ℕ) → FramesKeep index rows K all nothing_new (frames_of index rows left)
      (guarded_frames index rows limits other left)
  frames_keep zero = no_frame
  frames_keep (suc left) = a_frame (guarded_at _ _ (call_in_keeps index rows K all nothing_new (frames_keep left)))

  -- ---- files, constants and ancestors

  ask_all_keeps : (here : Here) (ts : List Task) →
      Keeps index K all Any (ask_all index rows limits here ts) (ask_all index rows limits here ts)
  ask_all_keeps here [] = pure_keeps index K all tt tt
  ask_all_keeps here (t ∷ ts) = bind_keeps index K all (ask_keeps index K all here t) (λ v h. ask_all_keeps here ts)

  file_run_keeps : (file : List ℕ) (loading : Loading) →
      Keeps index K all (Stands index) (file_run index rows limits file loading)
      (file_run index rows limits file loading)
  file_run_keeps file Absent = pure_keeps index K all Nil (nil_stands index)
  file_run_keeps file (Fails error) = raise_keeps index K all error
  file_run_keeps file (AsksFor tasks) = bind_keeps index K all (ask_all_keeps (file_here limits file []) tasks)
      (λ u t. pure_keeps index K all Nil (nil_stands index))

  self_stands : (scopes : List Path) → ScopeStands index scopes → Stands index (self_around scopes)
  self_stands [] h = nil_stands index
  self_stands (scope ∷ scopes) h = module_stands index scope h

  const_run_keeps : (path : Path) (place : Place) → index.place path ≡ place →
      Keeps index K all (Stands index) (const_run index rows limits path place)
      (guarded_const index rows limits other path place)
  const_run_keeps path Missing is = pure_keeps index K all Nil (nil_stands index)
  const_run_keeps path Implicit is = pure_keeps index K all Nil (nil_stands index)
  const_run_keeps path (Owned file (Faulty error)) is = raise_keeps index K all error
  const_run_keeps path (Owned file (Assigned x scopes)) is =
      eval_keeps index rows K all nothing_new _ _
      (guarded_at _ _ (call_in_keeps index rows K all nothing_new (frames_keep limits.frames)))
      (file_here limits file scopes) x _ (self_stands scopes (written.scopes path file x scopes is), tt)
  const_run_keeps path (Owned file (Opened opening)) is =
      pure_keeps index K all (Module path) (module_stands index path (ap is_module_at is))

  looked_up_keeps : (file : List ℕ) (mention : Mention) → IsNamed mention.constant.path →
      Keeps index K all (FoundStands index rows K all) (looked_up index rows limits file mention)
      (looked_up index rows limits file mention)
  looked_up_keeps file mention h =
      resolved_keeps index rows K all (file_here limits file mention.scopes) false mention.constant h

  parent_members_keeps : (file : List ℕ) (parent : Option Mention) →
      ((mention : Mention) → parent ≡ Some mention → IsNamed mention.constant.path) →
      Keeps index K all (EachIs (IsModule index)) (parent_members index rows limits file parent)
      (parent_members index rows limits file parent)
  parent_members_keeps file None named = pure_keeps index K all [] tt
  parent_members_keeps file (Some mention) named =
      bind_keeps index K all (looked_up_keeps file mention (named mention refl))
      (λ found h. either_keeps index K all (is_class_at (index.place found.path))
      (λ is. module_ancestors_keep index rows K all (file_here limits file []) found.path
      (class_is_module (index.place found.path) is))
      (λ is. fail_keeps index K all (file_here limits file []) class.Kind _))

  include_members_keeps : (file : List ℕ) (mention : Mention) → IsNamed mention.constant.path →
      Keeps index K all (EachIs (IsModule index)) (include_members index rows limits file mention)
      (include_members index rows limits file mention)
  include_members_keeps file mention named =
      bind_keeps index K all (looked_up_keeps file mention named)
      (λ found h. either_keeps index K all (is_no_module index rows limits found)
      (λ is. fail_keeps index K all (file_here limits file []) class.Kind _)
      (λ is. module_ancestors_keep index rows K all (file_here limits file []) found.path
      (h.path (or_false found.assigned (is_class_at (index.place found.path)) is))))

  all_members_keeps : (file : List ℕ) (mentions : List Mention) → EachIs (λ m. IsNamed m.constant.path) mentions →
      Keeps index K all (EachIs (EachIs (IsModule index))) (all_members index rows limits file mentions)
      (all_members index rows limits file mentions)
  all_members_keeps file [] named = pure_keeps index K all [] tt
  all_members_keeps file (mention ∷ more) named =
      bind_keeps index K all (include_members_keeps file mention named.0) (λ members h.
      bind_keeps index K all (all_members_keeps file more named.1) (λ lists g.
      pure_keeps index K all (members ∷ lists) (h, g)))

  ancestors_of_keeps : (file : List ℕ) (path : Path) (opening : Opening) →
      index.place path ≡ Owned file (Opened opening) →
      Keeps index K all (Stands index) (ancestors_of index rows limits file path opening)
      (ancestors_of index rows limits file path opening)
  ancestors_of_keeps file path opening is =
      bind_keeps index K all
      (parent_members_keeps file opening.parent (λ mention e. written.parent path file opening mention is e))
      (λ parent p. bind_keeps index K all
      (all_members_keeps file opening.includes (written.includes path file opening is))
      (λ includes i. pure_keeps index K all _ (array_stands index _ (modules_stand index _
      (paths_added index _ parent (lists_added index (path ∷ []) includes (ap is_module_at is, tt) i) p)))))

  ancestors_run_keeps : (path : Path) (place : Place) → index.place path ≡ place →
      Keeps index K all (Stands index) (ancestors_run index rows limits path place)
      (ancestors_run index rows limits path place)
  ancestors_run_keeps path Missing is = pure_keeps index K all Nil (nil_stands index)
  ancestors_run_keeps path Implicit is = pure_keeps index K all Nil (nil_stands index)
  ancestors_run_keeps path (Owned file (Faulty error)) is = raise_keeps index K all error
  ancestors_run_keeps path (Owned file (Assigned x scopes)) is = pure_keeps index K all Nil (nil_stands index)
  ancestors_run_keeps path (Owned file (Opened opening)) is = ancestors_of_keeps file path opening is

  -- ---- requests

  module _ (request : Request) (params : EachIs (PairStands index) request.params) where
    action_call_keeps : (path : Path) (on : value.Value) → Stands index on → (found : Option Method) →
        Keeps index K all (Stands index) (action_call index rows limits request path on found)
        (guarded_action index rows limits other request path on found)
    action_call_keeps path on h None = end_keeps index K all (NoAction path)
    action_call_keeps path on h (Some m) =
        bind_keeps index K all (turn_keeps index K all (request_here limits)) (λ u t.
        bind_keeps index K all (invoke_keeps index rows K all nothing_new (frames_keep limits.frames)
        (request_here limits) m on (Hash request.params ∷ []) h (hash_stands index request.params params, tt))
        (λ left r. pure_keeps index K all left.value r.0))

    action_of_keeps : (path : Path) (on : value.Value) → Stands index on → (x : Value-F value.Value) →
        Keeps index K all (Stands index) (action_of index rows limits request path on x)
        (guarded_action_of index rows limits other request path on x)
    action_of_keeps path on h layer.Nil = end_keeps index K all (NoAction path)
    action_of_keeps path on h layer.True = end_keeps index K all (NoAction path)
    action_of_keeps path on h layer.False = end_keeps index K all (NoAction path)
    action_of_keeps path on h (layer.Int n) = end_keeps index K all (NoAction path)
    action_of_keeps path on h (layer.Str text) = end_keeps index K all (NoAction path)
    action_of_keeps path on h (layer.Sym name) = end_keeps index K all (NoAction path)
    action_of_keeps path on h (layer.Array items) = end_keeps index K all (NoAction path)
    action_of_keeps path on h (layer.Hash pairs) = end_keeps index K all (NoAction path)
    action_of_keeps path on h (layer.Object class variables) = end_keeps index K all (NoAction path)
    action_of_keeps path on h (layer.Module called) = bind_keeps index K all
        (singleton_keeps index rows K all nothing_new (request_here limits) called request.action)
        (λ m u. action_call_keeps path on h m)

    controlled_keeps : (path : Path) →
        Keeps index K all (Stands index) (controlled index rows limits request path)
        (guarded_controlled index rows limits other request path)
    controlled_keeps path = either_keeps index K all (index.has_file path)
        (λ is. bind_keeps index K all (refer_keeps index rows K all (request_here limits) path
        (written.spelled path is))
        (λ found h. action_of_keeps path found.value h.value (out-Value found.value)))
        (λ is. end_keeps index K all (NoController path))

    routed_keeps : (segments : List Name) →
        Keeps index K all (Stands index) (routed index rows limits request segments)
        (guarded_routed index rows limits other request segments)
    routed_keeps [] = end_keeps index K all (NoController [])
    routed_keeps (segment ∷ segments) = controlled_keeps (index.controller (segment ∷ segments))

  doing_keeps : (t : Task) → ParamsStand index t →
      Keeps index K all (Stands index) (doing index rows limits t) (guarded_doing index rows limits other t)
  doing_keeps (task.File file) params = file_run_keeps file (index.loading file)
  doing_keeps (task.Const path) params = const_run_keeps path (index.place path) refl
  doing_keeps (task.Ancestors path) params = ancestors_run_keeps path (index.place path) refl
  doing_keeps (task.Request request) params = routed_keeps request params request.controller

  -- the run of a task or a request, and the same with guarded calls
  pub meaning_agrees : (t : Task) → ParamsStand index t →
      Agree index K all (meaning index rows limits t) (guarded_meaning index rows limits other t)
  meaning_agrees t params =
      (doing_keeps t params).run (turns_of index rows limits t) _ _ (λ value left h. (refl, h))

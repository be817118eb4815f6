-- Each task that the run of a task or a request asks for, whatever values come, is one of the tasks of an index.
use Rattle.std.proofs.Common.{◌≡◌, ℕ, false, List, [], ◌∷◌, map, Option, Some, None, refl, codes}
use Rattle.by_need.specs.Asking.{Other}
use Rattle.ruby_types.specs.declared.value.Value as value
use Rattle.ruby_types.specs.declared.value.Value.{Value-F, out-Value}
use Rattle.ruby_types.specs.declared.value.Value.TheOpen as layer
use Rattle.ruby_types.specs.declared.value.Value.TheVariants.{Nil, Hash, Array, Module}
use Rattle.ruby_types.specs.declared.request.ErrorClass.TheVariants as class
use Rattle.ruby_types.specs.declared.request.Request.{Request}
use Rattle.ruby_types.specs.declared.request.Task.{Task}
use Rattle.ruby_types.specs.declared.request.Task.TheVariants as task
use Rattle.program_places.specs.Paths.{Name, Path}
use Rattle.program_places.specs.Places.{Index, Place, Missing, Implicit, Owned, Faulty, Assigned, Opened, Opening}
use Rattle.program_places.specs.Places.{Mention, Method, Loading, Absent, Fails, AsksFor}
use Rattle.ruby_runs.specs.declared.NoReply.TheVariants.{NoController, NoAction}
use Rattle.ruby_runs.specs.Doing.{Here, turn, ask}
use Rattle.ruby_runs.specs.BuiltIns.{BuiltIns}
use Rattle.ruby_runs.specs.Names.{refer}
use Rattle.ruby_runs.specs.Bodies.{invoke, singleton, is_class_at, frames_of, call_at}
use Rattle.ruby_runs.specs.Runs.{Limits, with_paths, from_last, file_here, request_here, self_around, ask_all}
use Rattle.ruby_runs.specs.Runs.{file_run, const_run, looked_up, parent_members, is_no_module, include_members}
use Rattle.ruby_runs.specs.Runs.{all_members, ancestors_of, ancestors_run, action_call, action_of, controlled}
use Rattle.ruby_runs.specs.Runs.{routed, doing, turns_of, meaning}
use Rattle.program_places.specs.Tasks.{HasTasks, EachIs}
use Rattle.ruby_runs.specs.Asked.{Bounds, IsWithin, MayLack}
use Rattle.ruby_runs.proofs.Within.{StaysWithin, pure_stays_within, bind_stays_within, then_stays_within}
use Rattle.ruby_runs.proofs.Within.{ends_stays_within, raise_stays_within, fail_stays_within, turn_stays_within}
use Rattle.ruby_runs.proofs.Within.{ask_stays_within, either_stays_within}
use Rattle.ruby_runs.proofs.Names.{ancestors_stays_within, resolved_stays_within, refer_stays_within}
use Rattle.ruby_runs.proofs.Bodies.{eval_stays_within, invoke_stays_within, singleton_stays_within}
use Rattle.ruby_runs.proofs.Bodies.{call_at_stays_within, frames_stays_within}

module _ (index : Index) (rows : BuiltIns) (limits : Limits) (may : Bounds) (has : HasTasks index may.task) where
  ask_all_stays_within : (here : Here) (ts : List Task) → EachIs may.task ts →
      StaysWithin may (ask_all index rows limits here ts)
  ask_all_stays_within here [] k = pure_stays_within may tt
  ask_all_stays_within here (t ∷ ts) k =
      bind_stays_within may (ask here t) _ (ask_stays_within may here t k.0) (λ x. ask_all_stays_within here ts k.1)

  file_run_stays_within : (file : List ℕ) (loading : Loading) → index.loading file ≡ loading →
      StaysWithin may (file_run index rows limits file loading)
  file_run_stays_within file Absent is = pure_stays_within may Nil
  file_run_stays_within file (Fails error) is = raise_stays_within may error
  file_run_stays_within file (AsksFor tasks) is =
      then_stays_within may (ask_all index rows limits (file_here limits file []) tasks) _
      (ask_all_stays_within (file_here limits file []) tasks (has.asks file tasks is)) (pure_stays_within may Nil)

  const_run_stays_within : (path : Path) (place : Place) → StaysWithin may (const_run index rows limits path place)
  const_run_stays_within path Missing = pure_stays_within may Nil
  const_run_stays_within path Implicit = pure_stays_within may Nil
  const_run_stays_within path (Owned file (Faulty error)) = raise_stays_within may error
  const_run_stays_within path (Owned file (Assigned x scopes)) =
      eval_stays_within index rows may has (call_at index rows limits.frames)
      (call_at_stays_within index rows may has limits.frames) (file_here limits file scopes) x
      (record { self = self_around scopes; locals = [] })
  const_run_stays_within path (Owned file (Opened opening)) = pure_stays_within may (Module path)

  looked_up_stays_within : (file : List ℕ) (mention : Mention) →
      StaysWithin may (looked_up index rows limits file mention)
  looked_up_stays_within file mention =
      resolved_stays_within index rows may has (file_here limits file mention.scopes) false mention.constant

  parent_members_stays_within : (file : List ℕ) (parent : Option Mention) →
      StaysWithin may (parent_members index rows limits file parent)
  parent_members_stays_within file None = pure_stays_within may []
  parent_members_stays_within file (Some mention) =
      bind_stays_within may (looked_up index rows limits file mention) _ (looked_up_stays_within file mention)
      (λ found. either_stays_within may (is_class_at (index.place found.path)) _ _
      (ancestors_stays_within index rows may has (file_here limits file []) found.path)
      (fail_stays_within may (file_here limits file []) class.Kind (codes "superclass must be a Class")))

  include_members_stays_within : (file : List ℕ) (mention : Mention) →
      StaysWithin may (include_members index rows limits file mention)
  include_members_stays_within file mention =
      bind_stays_within may (looked_up index rows limits file mention) _ (looked_up_stays_within file mention)
      (λ found. either_stays_within may (is_no_module index rows limits found) _ _
      (fail_stays_within may (file_here limits file []) class.Kind
      (codes "wrong argument type Class (expected module)"))
      (ancestors_stays_within index rows may has (file_here limits file []) found.path))

  all_members_stays_within : (file : List ℕ) (mentions : List Mention) →
      StaysWithin may (all_members index rows limits file mentions)
  all_members_stays_within file [] = pure_stays_within may []
  all_members_stays_within file (mention ∷ more) =
      bind_stays_within may (include_members index rows limits file mention) _
      (include_members_stays_within file mention)
      (λ members. bind_stays_within may (all_members index rows limits file more) _
      (all_members_stays_within file more) (λ lists. pure_stays_within may (members ∷ lists)))

  ancestors_of_stays_within : (file : List ℕ) (path : Path) (opening : Opening) →
      StaysWithin may (ancestors_of index rows limits file path opening)
  ancestors_of_stays_within file path opening =
      bind_stays_within may (parent_members index rows limits file opening.parent) _
      (parent_members_stays_within file opening.parent)
      (λ parent. bind_stays_within may (all_members index rows limits file opening.includes) _
      (all_members_stays_within file opening.includes)
      (λ includes. pure_stays_within may (Array (map Module (with_paths (from_last (path ∷ []) includes) parent)))))

  ancestors_run_stays_within : (path : Path) (place : Place) →
      StaysWithin may (ancestors_run index rows limits path place)
  ancestors_run_stays_within path Missing = pure_stays_within may Nil
  ancestors_run_stays_within path Implicit = pure_stays_within may Nil
  ancestors_run_stays_within path (Owned file (Faulty error)) = raise_stays_within may error
  ancestors_run_stays_within path (Owned file (Assigned x scopes)) = pure_stays_within may Nil
  ancestors_run_stays_within path (Owned file (Opened opening)) = ancestors_of_stays_within file path opening

  module _ (allowed : may.other) where
    action_call_stays_within : (request : Request) (path : Path) (on : value.Value) (found : Option Method) →
        StaysWithin may (action_call index rows limits request path on found)
    action_call_stays_within request path on None = ends_stays_within may (Other (NoAction path)) allowed
    action_call_stays_within request path on (Some m) =
        then_stays_within may (turn (request_here limits)) _ (turn_stays_within may (request_here limits))
        (bind_stays_within may (invoke index rows (frames_of index rows limits.frames) (request_here limits) m on
        (Hash request.params ∷ [])) _
        (invoke_stays_within index rows may has (frames_stays_within index rows may has limits.frames)
        (request_here limits) m on (Hash request.params ∷ []))
        (λ left. pure_stays_within may left.value))

    action_of_stays_within : (request : Request) (path : Path) (on : value.Value) (x : Value-F value.Value) →
        StaysWithin may (action_of index rows limits request path on x)
    action_of_stays_within request path on layer.Nil = ends_stays_within may (Other (NoAction path)) allowed
    action_of_stays_within request path on layer.True = ends_stays_within may (Other (NoAction path)) allowed
    action_of_stays_within request path on layer.False = ends_stays_within may (Other (NoAction path)) allowed
    action_of_stays_within request path on (layer.Int n) = ends_stays_within may (Other (NoAction path)) allowed
    action_of_stays_within request path on (layer.Str text) = ends_stays_within may (Other (NoAction path)) allowed
    action_of_stays_within request path on (layer.Sym name) = ends_stays_within may (Other (NoAction path)) allowed
    action_of_stays_within request path on (layer.Array items) =
        ends_stays_within may (Other (NoAction path)) allowed
    action_of_stays_within request path on (layer.Hash pairs) =
        ends_stays_within may (Other (NoAction path)) allowed
    action_of_stays_within request path on (layer.Module called) =
        bind_stays_within may (singleton index rows (request_here limits) called request.action) _
        (singleton_stays_within index rows may has (request_here limits) called request.action)
        (action_call_stays_within request path on)
    action_of_stays_within request path on (layer.Object class variables) =
        ends_stays_within may (Other (NoAction path)) allowed

    controlled_stays_within : (request : Request) (path : Path) →
        StaysWithin may (controlled index rows limits request path)
    controlled_stays_within request path =
        either_stays_within may (index.has_file path) _ _
        (bind_stays_within may (refer index rows (request_here limits) path) _
        (refer_stays_within index rows may has (request_here limits) path)
        (λ found. action_of_stays_within request path found.value (out-Value found.value)))
        (ends_stays_within may (Other (NoController path)) allowed)

    routed_stays_within : (request : Request) (segments : List Name) →
        StaysWithin may (routed index rows limits request segments)
    routed_stays_within request [] = ends_stays_within may (Other (NoController [])) allowed
    routed_stays_within request (segment ∷ segments) =
        controlled_stays_within request (index.controller (segment ∷ segments))

  doing_stays_within : (t : Task) → MayLack may t → StaysWithin may (doing index rows limits t)
  doing_stays_within (task.File file) allowed = file_run_stays_within file (index.loading file) refl
  doing_stays_within (task.Const path) allowed = const_run_stays_within path (index.place path)
  doing_stays_within (task.Ancestors path) allowed = ancestors_run_stays_within path (index.place path)
  doing_stays_within (task.Request request) allowed = routed_stays_within allowed request request.controller

  -- what the run of a task or a request asks for
  pub meaning_is_within : (t : Task) → MayLack may t → IsWithin may (meaning index rows limits t)
  meaning_is_within t allowed = doing_stays_within t allowed (turns_of index rows limits t) _ (λ x left. tt)

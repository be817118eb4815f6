-- What the run of a task or a request does. A file's task loads the file, a constant's gives its value, the ancestors'
-- the modules in which a class or module looks methods up, and a request's the answer of its action (the Ruby
-- documentation of Module#ancestors; the README of Zeitwerk on autoloading; the Rails guide on controllers).
use Rattle.std.specs.Prelude.{ℕ, Bool, false, ◌||◌, if◌then◌else◌, List, [], ◌∷◌, ◌++◌, map}
use Rattle.std.specs.Prelude.{Option, Some, None, codes}
use Rattle.std.specs.List.{list_any}
use Rattle.by_need.specs.Asking.{Gives, Value, Other}
use Rattle.ruby_types.specs.declared.value.Value as value
use Rattle.ruby_types.specs.declared.value.Value.{Value-F, out-Value}
use Rattle.ruby_types.specs.declared.value.Value.TheOpen as layer
use Rattle.ruby_types.specs.declared.value.Value.TheVariants.{Nil, Hash, Array, Module}
use Rattle.ruby_types.specs.declared.request.ErrorClass.TheVariants as class
use Rattle.ruby_types.specs.declared.request.Request.{Request}
use Rattle.ruby_types.specs.declared.request.Task.{Task}
use Rattle.ruby_types.specs.declared.request.Task.TheVariants as task
use Rattle.program_places.specs.Paths.{Name, Path, same_path}
use Rattle.program_places.specs.Places.{Index, Place, Missing, Implicit, Owned, Faulty, Assigned, Opened, Opening}
use Rattle.program_places.specs.Places.{Mention, Method, Loading, Absent, Fails, AsksFor}
use Rattle.ruby_runs.specs.declared.NoReply.TheVariants.{NoController, NoAction}
use Rattle.ruby_runs.specs.Doing.{Doing, Meaning, Here, pure, ◌>>=◌, ◌>>◌, ends, raise, fail, turn, ask}
use Rattle.ruby_runs.specs.BuiltIns.{BuiltIns}
use Rattle.ruby_runs.specs.Names.{Found, resolved, ancestors, refer}
use Rattle.ruby_runs.specs.Bodies.{eval, invoke, singleton, is_class_at, frames_of, call_at}

-- How many turns and frames a run has.
pub record Limits : Type 0 where
  pub task_turns : ℕ
  pub request_turns : ℕ
  pub frames : ℕ

-- Those of an application: 100,000 turns for a task, 200,000 for a request, and 1,000 frames of methods.
abbrev pub run_limits : Limits
run_limits = record { task_turns = 100000; request_turns = 200000; frames = 1000 }

-- one path more, unless it is there
abbrev pub with_path : List Path → Path → List Path
with_path paths path = if list_any (same_path path) paths then paths else paths ++ path ∷ []

-- a list's paths more, each unless it is there
abbrev pub with_paths : List Path → List Path → List Path
with_paths paths [] = paths
with_paths paths (path ∷ more) = with_paths (with_path paths path) more

-- several lists, from the last to the first, without what is already there
abbrev pub from_last : List Path → List (List Path) → List Path
from_last paths [] = paths
from_last paths (more ∷ lists) = with_paths (from_last paths lists) more

-- code of a file, in these scopes
abbrev pub file_here : Limits → (file : List ℕ) → List Path → Here
file_here limits file scopes = record { file = Some file; scopes = scopes; limit = limits.task_turns }

-- A request has no file and no scope.
abbrev pub request_here : Limits → Here
request_here limits = record { file = None; scopes = []; limit = limits.request_turns }

-- the module around an assignment, which is its self; nil at a file's top
abbrev pub self_around : List Path → value.Value
self_around [] = Nil
self_around (scope ∷ scopes) = Module scope

module _ (index : Index) (rows : BuiltIns) (limits : Limits) where
  -- what asks for several tasks, in order
  abbrev pub ask_all : Here → List Task → Doing (Unit {0})
  ask_all here [] = pure tt
  ask_all here (t ∷ ts) = ask here t >>= (λ value. ask_all here ts)

  -- A file's task: it asks for the constants of the enclosing namespaces that have files, and for the file's other
  -- tasks, and comes to nil. (What is no task comes to nil and asks for nothing, here and below.)
  abbrev pub file_run : (file : List ℕ) → Loading → Doing value.Value
  file_run file Absent = pure Nil
  file_run file (Fails error) = raise error
  file_run file (AsksFor tasks) = ask_all (file_here limits file []) tasks >> pure Nil

  -- A constant's task: a class or module is itself, without turns; an assigned constant is its expression's value.
  abbrev pub const_run : Path → Place → Doing value.Value
  const_run path Missing = pure Nil
  const_run path Implicit = pure Nil
  const_run path (Owned file (Faulty error)) = raise error
  const_run path (Owned file (Assigned x scopes)) =
      eval index rows (call_at index rows limits.frames) (file_here limits file scopes) x
      (record { self = self_around scopes; locals = [] })
  const_run path (Owned file (Opened opening)) = pure (Module path)

  -- a constant behind `class X <` or `include`, as it is referred to
  abbrev pub looked_up : (file : List ℕ) → Mention → Doing Found
  looked_up file mention = resolved index rows (file_here limits file mention.scopes) false mention.constant

  -- the ancestors of the parent, which is a class
  abbrev pub parent_members : (file : List ℕ) → Option Mention → Doing (List Path)
  parent_members file None = pure []
  parent_members file (Some mention) = looked_up file mention >>= (λ found.
      if is_class_at (index.place found.path)
      then ancestors index rows (file_here limits file []) found.path
      else fail (file_here limits file []) class.Kind (codes "superclass must be a Class"))

  -- A name that is an assigned constant counts as neither a class nor a module.
  abbrev pub is_no_module : Found → Bool
  is_no_module found = found.assigned || is_class_at (index.place found.path)

  -- the ancestors of an included module
  abbrev pub include_members : (file : List ℕ) → Mention → Doing (List Path)
  include_members file mention = looked_up file mention >>= (λ found.
      if is_no_module found
      then fail (file_here limits file []) class.Kind (codes "wrong argument type Class (expected module)")
      else ancestors index rows (file_here limits file []) found.path)

  -- the ancestors of each included module, in text order
  abbrev pub all_members : (file : List ℕ) → List Mention → Doing (List (List Path))
  all_members file [] = pure []
  all_members file (mention ∷ more) =
      include_members file mention >>= (λ members. all_members file more >>= (λ lists. pure (members ∷ lists)))

  -- The parent first, then the includes in text order, are each looked up, judged and asked for. The list is the class
  -- or module itself, then the members of the includes from the last to the first, then those of the parent, each
  -- without what is already there.
  abbrev pub ancestors_of : (file : List ℕ) → Path → Opening → Doing value.Value
  ancestors_of file path opening = do
    parent ← parent_members file opening.parent
    includes ← all_members file opening.includes
    pure (Array (map Module (with_paths (from_last (path ∷ []) includes) parent)))

  -- the ancestors' task of a class or module
  abbrev pub ancestors_run : Path → Place → Doing value.Value
  ancestors_run path Missing = pure Nil
  ancestors_run path Implicit = pure Nil
  ancestors_run path (Owned file (Faulty error)) = raise error
  ancestors_run path (Owned file (Assigned x scopes)) = pure Nil
  ancestors_run path (Owned file (Opened opening)) = ancestors_of file path opening

  -- The action is called with the parameters, in the first frame.
  abbrev pub action_call : Request → Path → value.Value → Option Method → Doing value.Value
  action_call request path on None = ends (Other (NoAction path))
  action_call request path on (Some m) = do
    turn (request_here limits)
    left ← invoke index rows (frames_of index rows limits.frames) (request_here limits) m on (Hash request.params ∷ [])
    pure left.value

  -- An action is a singleton method of the module that the controller's constant is.
  abbrev pub action_of : Request → Path → value.Value → Value-F value.Value → Doing value.Value
  action_of request path on (layer.Module called) =
      singleton index rows (request_here limits) called request.action >>= action_call request path on
  action_of request path on _ = ends (Other (NoAction path))

  -- A controller is a constant that has a file.
  abbrev pub controlled : Request → Path → Doing value.Value
  controlled request path =
      if index.has_file path
      then refer index rows (request_here limits) path >>= (λ found.
      action_of request path found.value (out-Value found.value))
      else ends (Other (NoController path))

  -- A request without a route has no controller.
  abbrev pub routed : Request → List Name → Doing value.Value
  routed request [] = ends (Other (NoController []))
  routed request (segment ∷ segments) = controlled request (index.controller (segment ∷ segments))

  -- what a task's run does
  abbrev pub doing : Task → Doing value.Value
  doing (task.File file) = file_run file (index.loading file)
  doing (task.Const path) = const_run path (index.place path)
  doing (task.Ancestors path) = ancestors_run path (index.place path)
  doing (task.Request request) = routed request request.controller

  -- the turns that it has
  abbrev pub turns_of : Task → ℕ
  turns_of (task.File file) = limits.task_turns
  turns_of (task.Const path) = limits.task_turns
  turns_of (task.Ancestors path) = limits.task_turns
  turns_of (task.Request request) = limits.request_turns

  -- The run of a task or a request, as a tree of questions.
  abbrev pub meaning : Task → Meaning
  meaning t = doing t (turns_of t) (λ value left. Gives (Value value))

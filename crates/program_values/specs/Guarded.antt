-- Runs whose calls are guarded: where a receiver or an argument names what doesn't stand in the application, something
-- else is done.
use Rattle.std.specs.Prelude.{ℕ, zero, suc, ◌&&◌, if◌then◌else◌, List, [], ◌∷◌, map, Option, Some, None}
use Rattle.by_need.specs.Asking.{Gives, Value, Other}
use Rattle.ruby_types.specs.declared.value.Value as value
use Rattle.ruby_types.specs.declared.value.Value.{Value-F, out-Value}
use Rattle.ruby_types.specs.declared.value.Value.TheOpen as layer
use Rattle.ruby_types.specs.declared.value.Value.TheVariants.{Hash}
use Rattle.ruby_types.specs.declared.request.Request.{Request}
use Rattle.ruby_types.specs.declared.request.Task.{Task}
use Rattle.ruby_types.specs.declared.request.Task.TheVariants as task
use Rattle.program_places.specs.Paths.{Name, Path}
use Rattle.program_places.specs.Places.{Index, Place, Owned, Assigned, Method}
use Rattle.ruby_runs.specs.declared.NoReply.TheVariants.{NoController, NoAction}
use Rattle.ruby_runs.specs.Doing.{Doing, Meaning, ◌>>=◌, ◌>>◌, pure, ends, turn}
use Rattle.ruby_runs.specs.BuiltIns.{BuiltIns}
use Rattle.ruby_runs.specs.Names.{refer}
use Rattle.ruby_runs.specs.Bodies.{Call, call_in, eval, invoke, singleton}
use Rattle.ruby_runs.specs.Runs.{Limits, file_here, request_here, self_around, file_run, const_run, ancestors_run}
use Rattle.ruby_runs.specs.Runs.{turns_of}
use Rattle.program_values.specs.Standing.{stands, all_true}

module _ (index : Index) (rows : BuiltIns) (limits : Limits) (other : Call) where
  -- a call, where its receiver and its arguments stand
  abbrev pub guarded : Call → Call
  guarded call here on name args =
      if stands index on && all_true (map (stands index) args)
      then call here on name args
      else other here on name args

  -- what opens a frame, with guarded calls in it
  abbrev pub guarded_frames : ℕ → Option Call
  guarded_frames zero = None
  guarded_frames (suc left) = Some (guarded (call_in index rows (guarded_frames left)))

  -- a constant's task
  abbrev pub guarded_const : Path → Place → Doing value.Value
  guarded_const path (Owned file (Assigned x scopes)) =
      eval index rows (guarded (call_in index rows (guarded_frames limits.frames))) (file_here limits file scopes) x
      (record { self = self_around scopes; locals = [] })
  guarded_const path place = const_run index rows limits path place

  -- the call of an action
  abbrev pub guarded_action : Request → Path → value.Value → Option Method → Doing value.Value
  guarded_action request path on None = ends (Other (NoAction path))
  guarded_action request path on (Some m) = do
    turn (request_here limits)
    left ← invoke index rows (guarded_frames limits.frames) (request_here limits) m on (Hash request.params ∷ [])
    pure left.value

  -- the action of a controller
  abbrev pub guarded_action_of : Request → Path → value.Value → Value-F value.Value → Doing value.Value
  guarded_action_of request path on (layer.Module called) =
      singleton index rows (request_here limits) called request.action >>= guarded_action request path on
  guarded_action_of request path on _ = ends (Other (NoAction path))

  -- a request, by its controller's constant
  abbrev pub guarded_controlled : Request → Path → Doing value.Value
  guarded_controlled request path =
      if index.has_file path
      then refer index rows (request_here limits) path >>= (λ found.
      guarded_action_of request path found.value (out-Value found.value))
      else ends (Other (NoController path))

  -- a request, by its route
  abbrev pub guarded_routed : Request → List Name → Doing value.Value
  guarded_routed request [] = ends (Other (NoController []))
  guarded_routed request (segment ∷ segments) = guarded_controlled request (index.controller (segment ∷ segments))

  -- what a task's run does
  abbrev pub guarded_doing : Task → Doing value.Value
  guarded_doing (task.File file) = file_run index rows limits file (index.loading file)
  guarded_doing (task.Const path) = guarded_const path (index.place path)
  guarded_doing (task.Ancestors path) = ancestors_run index rows limits path (index.place path)
  guarded_doing (task.Request request) = guarded_routed request request.controller

  -- The run of a task or a request with guarded calls.
  abbrev pub guarded_meaning : Task → Meaning
  guarded_meaning t = guarded_doing t (turns_of index rows limits t) (λ value left. Gives (Value value))

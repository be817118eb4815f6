-- What runs ask for and how they end over whatever is known, by what their trees may.
use Rattle.std.proofs.Common.{◌≡◌, Bool, true, List, [], ◌∷◌, Option, Some, None, refl}
use Rattle.by_need.specs.Asking as asking
use Rattle.by_need.specs.Asking.{Gives, Ask, Outcome, Otherwise, over, with_value}
use Rattle.ruby_types.specs.declared.value.Value.{Value}
use Rattle.ruby_types.specs.declared.request.RubyError.{RubyError}
use Rattle.ruby_types.specs.declared.request.Task.{Task}
use Rattle.ruby_types.specs.declared.request.Task.TheVariants as task
use Rattle.program_places.specs.Places.{Index}
use Rattle.program_places.specs.Tasks.{EachIs, HasTasks}
use Rattle.ruby_runs.specs.declared.NoReply.{NoReply}
use Rattle.ruby_runs.specs.Asked.{Bounds, IsWithin, MayLack, IsRequest}
use Rattle.ruby_runs.specs.BuiltIns.{BuiltIns}
use Rattle.ruby_runs.specs.Doing.{Meaning}
use Rattle.ruby_runs.specs.Runs.{Limits, meaning}
use Rattle.ruby_runs.proofs.Runs.{meaning_is_within}

module _ (may : Bounds) where
  asked_at : (t : Task) (go : Value → Outcome Task Value RubyError NoReply) → may.task t →
      ((value : Value) → EachIs may.task (go value).asked) → (o : Option Value) →
      EachIs may.task (with_value t go o).asked
  asked_at t go is each None = (is, tt)
  asked_at t go is each (Some value) = (is, each value)

  -- what a tree asks for over whatever is known is what it may ask for
  pub asked_is_within : (known : Task → Option Value) (c : Meaning) → IsWithin may c →
      EachIs may.task (over known c).asked
  asked_is_within known (Gives end) within = tt
  asked_is_within known (Ask t branch) within = asked_at t (λ value. over known (branch value)) within.0
      (λ value. asked_is_within known (branch value) (within.1 value)) (known t)

  end_at : (t : Task) (go : Value → Outcome Task Value RubyError NoReply) (end : NoReply) →
      ((value : Value) → (go value).answer ≡ Otherwise end → may.other) → (o : Option Value) →
      (with_value t go o).answer ≡ Otherwise end → may.other
  end_at t go end each None e = absurd cc
  end_at t go end each (Some value) e = each value e

  -- a tree ends without a value and an error only where it may
  pub other_end_is_within : (known : Task → Option Value) (c : Meaning) → IsWithin may c → (end : NoReply) →
      (over known c).answer ≡ Otherwise end → may.other
  other_end_is_within known (Gives (asking.Value value)) within end e = absurd cc
  other_end_is_within known (Gives (asking.Error error)) within end e = absurd cc
  other_end_is_within known (Gives (asking.Other other)) within end e = within
  other_end_is_within known (Ask t branch) within end e = end_at t (λ value. over known (branch value)) end
      (λ value f. other_end_is_within known (branch value) (within.1 value) end f) (known t) e

-- the bounds by a test of tasks
abbrev pub bounds : (Task → Bool) → Type 0 → Bounds
bounds is_task other = record { task = λ t. is_task t ≡ true; other = other }

any_may : (is_task : Task → Bool) (t : Task) → MayLack (bounds is_task (Unit {0})) t
any_may is_task (task.File file) = tt
any_may is_task (task.Const path) = tt
any_may is_task (task.Ancestors path) = tt
any_may is_task (task.Request request) = tt

requests_may : (is_task : Task → Bool) (t : Task) → MayLack (bounds is_task (IsRequest t)) t
requests_may is_task (task.File file) = tt
requests_may is_task (task.Const path) = tt
requests_may is_task (task.Ancestors path) = tt
requests_may is_task (task.Request request) = tt

each_is_any : (ts : List Task) → EachIs (λ u. true ≡ true) ts
each_is_any [] = tt
each_is_any (t ∷ ts) = (refl, each_is_any ts)

any_index_has : (index : Index) → HasTasks index (λ u. true ≡ true)
any_index_has index = record {
  file = λ path file content is. refl;
  const = λ path file content is. refl;
  faulty = λ path file error is. refl;
  opened = λ path file opening is. refl;
  asks = λ file tasks is. each_is_any tasks;
}

module _ (index : Index) (rows : BuiltIns) (limits : Limits) where
  -- each task that a run asks for is a task, by the test that the index's tasks pass
  pub asked_are_tasks : (is_task : Task → Bool) → HasTasks index (λ u. is_task u ≡ true) → (t : Task)
      (known : Task → Option Value) → EachIs (λ u. is_task u ≡ true) (over known (meaning index rows limits t)).asked
  asked_are_tasks is_task has t known =
      let may = bounds is_task (Unit {0}) in
      asked_is_within may known (meaning index rows limits t)
      (meaning_is_within index rows limits may has t (any_may is_task t))

  -- only requests end without a value, an error or a question
  pub other_ends_are_requests : (t : Task) (known : Task → Option Value) (end : NoReply) →
      (over known (meaning index rows limits t)).answer ≡ Otherwise end → IsRequest t
  other_ends_are_requests t known end e =
      let may = bounds (λ u. true) (IsRequest t) in
      other_end_is_within may known (meaning index rows limits t)
      (meaning_is_within index rows limits may (any_index_has index) t (requests_may (λ u. true) t)) end e

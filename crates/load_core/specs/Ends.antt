-- How loads of an application's tasks end.
use Rattle.std.specs.Prelude.{◌≡◌, ◌<◌, ℕ, List, Option, Some, None, Bool, true, false, ⊤}
use Rattle.by_need.specs.Blame.{blame}
use Rattle.by_need.specs.Order.{Load}
use Rattle.by_need.specs.Rounds.{Rules, known}
use Rattle.ruby_types.specs.declared.request.RubyError.{RubyError}
use Rattle.ruby_types.specs.declared.request.Task.{Task}
use Rattle.ruby_types.specs.declared.value.Value.{Value}
use Rattle.ruby_runs.specs.declared.NoReply.{NoReply}
use Rattle.program_theory.specs.Replies.{blame_error}
use Rattle.load_core.specs.declared.whole.Loaded.{Loaded}
use Rattle.load_core.specs.declared.whole.Loaded.TheVariants as loaded

-- Done: the task is known, and in the table. Failed: it stays unknown, and this is what its blame is told as. Memory
-- may want at any time.
abbrev pub EndsAs : Rules Task Value RubyError NoReply → Task → (Task → Option Value) → Loaded → Type 0
EndsAs r task K loaded.Done = (v : Value) × (known r task ≡ Some v) × (K task ≡ Some v)
EndsAs r task K (loaded.Failed error) = (known r task ≡ None) × (error ≡ blame_error (blame r task))
EndsAs r task K loaded.Memory = ⊤

-- the values were defined in a load's order, which came to this end
abbrev pub IsOrderTo : Rules Task Value RubyError NoReply → Task → (J K : Task → Option Value) → Bool → Type 0
IsOrderTo r task J K done = (made : List (Task × Value)) × Load r J task made K done

-- the same by how the load ended; nothing is said of the order where memory wanted
abbrev pub IsOrder : Rules Task Value RubyError NoReply → Task → (J K : Task → Option Value) → Loaded → Type 0
IsOrder r task J K loaded.Done = IsOrderTo r task J K true
IsOrder r task J K (loaded.Failed error) = IsOrderTo r task J K false
IsOrder r task J K loaded.Memory = ⊤

-- What the loads of the first tasks define.
use Rattle.std.specs.Prelude.{List, Option, None}
use Rattle.by_need.specs.Rounds.{Rules}
use Rattle.load_many.specs.Unknown.{AreDefined}
use Rattle.ruby_runs.specs.declared.NoReply.{NoReply}
use Rattle.ruby_types.specs.declared.request.RubyError.{RubyError}
use Rattle.ruby_types.specs.declared.request.Task.{Task}
use Rattle.ruby_types.specs.declared.value.Value.{Value}

-- The tasks are loaded one after another, whatever each comes to, over a table without values; and these tasks are
-- defined, in this order.
pub record AreDefinedFirst (r : Rules Task Value RubyError NoReply) (tasks defined : List Task) : Type 0 where
  pub table : Task → Option Value
  pub order : AreDefined r (λ task. None) tasks table defined

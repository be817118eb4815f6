-- Loads over a table without values.
use Rattle.std.proofs.Common.{◌≡◌, List, Option, None, subst}
use Rattle.by_need.specs.Rounds.{Rules}
use Rattle.load_many.specs.Unknown.{AreDefined}
use Rattle.ruby_runs.specs.declared.NoReply.{NoReply}
use Rattle.ruby_types.specs.declared.request.RubyError.{RubyError}
use Rattle.ruby_types.specs.declared.request.Task.{Task}
use Rattle.ruby_types.specs.declared.value.Value.{Value}
use Rattle.eager_loads.specs.Loads.{AreDefinedFirst}

-- what is defined over a table without values is defined first
pub defined_first : (r : Rules Task Value RubyError NoReply) (empty table : Task → Option Value)
    (tasks defined : List Task) → empty ≡ (λ task. None) → AreDefined r empty tasks table defined →
    AreDefinedFirst r tasks defined
defined_first r empty table tasks defined nothing order = record {
  table = table;
  order = subst (λ (K : Task → Option Value). AreDefined r K tasks table defined) nothing order;
}

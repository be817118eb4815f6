-- The rules of a program's application, and what its machines mean.
use Rattle.std.specs.Prelude.{List}
use Rattle.by_need.specs.Rounds.{Rules}
use Rattle.by_need_loader.specs.Runs.{Runs}
use Rattle.ruby_types.specs.declared.value.Value.{Value}
use Rattle.ruby_types.specs.declared.request.RubyError.{RubyError}
use Rattle.ruby_types.specs.declared.request.Task.{Task}
use Rattle.task_keys.specs.declared.key.TaskKey.{TaskKey}
use Rattle.program_places.specs.Places.{Index}
use Rattle.ruby_nodes.specs.Entries.{Entry}
use Rattle.ruby_runs.specs.declared.NoReply.{NoReply}
use Rattle.ruby_runs.specs.Doing.{Meaning}
use Rattle.ruby_machine.specs.Machines.{branch, still}
use Rattle.ruby_machine.specs.declared.machine.Machine.{Machine}
use Rattle.program_index.specs.Content.{Content}
use Rattle.program_index.specs.Program.{index_in, nodes_in}
use Rattle.program_theory.specs.Applications.{meaning_in, rules_of}
use Rattle.program_application.specs.Applications.{application_of}

-- The tasks of a program, their order and their runs.
abbrev pub rules_in : Content → Rules Task Value RubyError NoReply
rules_in p = rules_of (application_of p)

-- what a machine that waits still does behind each value
abbrev pub branch_of : Index → List Entry → Machine → Value → Meaning
branch_of index known machine = branch index known machine.stage

-- The whole run of a task, what a machine still does, what it does behind each value that it may be given, and the key
-- of a task.
abbrev pub runs_of : Content → Runs Task Value RubyError NoReply Machine Machine TaskKey
runs_of p = record {
  whole = meaning_in (application_of p);
  rest = λ machine. still (index_in p) (nodes_in p) machine.stage;
  branch = branch_of (index_in p) (nodes_in p);
  key = λ task. record { task = task };
}

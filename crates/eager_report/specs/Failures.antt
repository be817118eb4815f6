-- The lines of tasks that stay unknown.
use Rattle.std.specs.Prelude.{ℕ, List, ◌++◌, codes}
use Rattle.ruby_types.specs.declared.request.RubyError.{RubyError}
use Rattle.ruby_types.specs.declared.request.Task.{Task}
use Rattle.ruby_builtin_base.specs.Printed.{error_text}
use Rattle.task_keys.specs.Names.{task_name}

-- The line of a task that stays unknown for this reason: its name, and the error as it is reported.
-- `A::X: NameError: uninitialized constant A::Y (app/lib/a.rb)`
abbrev pub failure_line : Task × RubyError → List ℕ
failure_line failed = task_name failed.0 ++ (codes ": " ++ error_text failed.1)

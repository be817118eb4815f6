-- The built-in methods of the Ruby profile, as runs take them.
use Rattle.ruby_builtin.specs.Rows.{built_in_called}
use Rattle.ruby_builtin_base.specs.Printed as printed
use Rattle.ruby_runs.specs.BuiltIns.{BuiltIns}

-- the table of built-in methods, and how values are printed
abbrev pub profile : BuiltIns
profile = record { called = built_in_called; to_s = printed.to_s; inspect = printed.inspect }

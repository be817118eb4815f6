-- When two tasks are the same, as a truth value: equality of all that they are made of.
use Rattle.std.specs.Prelude.{Bool, true, false, ◌&&◌, nat_eq}
use base.Stored.{Gv, gnil, gnum, gcons}
use Rattle.ruby_types.specs.declared.request.Task.{Task}
use Rattle.ruby_types.specs.contracts.request.Task as task

-- Equality of the codes that the toolchain has for each value of a type; two values with one code are equal.
abbrev pub same_code : Gv → Gv → Bool
same_code gnil gnil = true
same_code gnil (gnum n) = false
same_code gnil (gcons a b) = false
same_code (gnum m) gnil = false
same_code (gnum m) (gnum n) = nat_eq m n
same_code (gnum m) (gcons a b) = false
same_code (gcons a b) gnil = false
same_code (gcons a b) (gnum n) = false
same_code (gcons a b) (gcons c d) = same_code a c && same_code b d

-- Two tasks are the same.
abbrev pub same_task : Task → Task → Bool
same_task a b = same_code (task.the_row.coded.code a) (task.the_row.coded.code b)

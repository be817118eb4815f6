-- Numbers by which tasks are looked up.
use Rattle.std.specs.Prelude.{ℕ, List, fold}
use Rattle.std.specs.Hash.DefaultHasher as sip
use Rattle.ruby_types.specs.declared.request.Task.{Task}
use Rattle.task_keys.specs.Keys.{key_writes}

-- The hash of a task's kind and path (SipHash-1-3 with the key 0).
abbrev pub task_hash : Task → ℕ
task_hash task = sip.finish (fold sip.write sip.initial (key_writes task))

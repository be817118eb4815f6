use Rattle.std.proofs.Common.{take}
use Rattle.top_calls.specs.Target.{IsSegment}
use Rattle.top_calls.proofs.target.split_at_slash.Given as goal

abbrev pub invariant-bytes : goal.invariant-bytes
invariant-bytes l = IsSegment (take l.place l.bytes)

use Rattle.std.proofs.Common.{◌≡◌, drop}
use Rattle.http_front_head.specs.Lines.{last_stage}
use Rattle.http_front_head.specs.declared.scan.Stage.TheVariants.{Blank}
use Rattle.http_front_head.proofs.scan.ends_in_target.Given as goal

abbrev pub invariant-loop-byte : goal.invariant-loop-byte
invariant-loop-byte l = last_stage Blank l.bytes ≡ last_stage l.stage (drop l.byte-index l.bytes)

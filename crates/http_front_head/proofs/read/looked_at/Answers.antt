use Rattle.std.proofs.Common.{arith, sym, length-take}
use Rattle.std.proofs.lemmas.List.{take_all}
use Rattle.http_front_head.proofs.read.looked_at.Goals as goal

pub slice_bounds-result-end : goal.slice_bounds-result-end
slice_bounds-result-end c = omega (arith, length-take 16384 c.args.bytes.now, c.if-bytes-le-LONGEST_HEAD.false)

pub returns-then-bytes-le-LONGEST_HEAD : goal.returns-then-bytes-le-LONGEST_HEAD
returns-then-bytes-le-LONGEST_HEAD c = sym (take_all 16384 c.args.bytes.now c.if-bytes-le-LONGEST_HEAD.true)

use Rattle.std.proofs.Common.{◌≡◌, ◌+◌, ◌<◌, ◌≤◌, ℕ, slice_index, cond, not}
use Rattle.share_lock.specs.Rows.{has_bit}
use Rattle.share_lock.proofs.counts.take_lacking.Given as goal

abbrev pub invariant-bits : goal.invariant-bits
invariant-bits l = record {
  done : (k : ℕ) → k < l.bit → slice_index l.lacking k + cond (not (has_bit l.list k)) 1 0 ≡ slice_index l.fn.lacking k;
  left : (k : ℕ) → l.bit ≤ k → slice_index l.lacking k ≡ slice_index l.fn.lacking k;
}

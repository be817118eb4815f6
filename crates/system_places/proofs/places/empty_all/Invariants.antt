use Rattle.std.proofs.Common.{◌≡◌, ◌<◌, ℕ, None, length, slice_index_or}
use Rattle.system_places.proofs.places.empty_all.Given as goal

abbrev pub invariant-heads : goal.invariant-heads
invariant-heads l = record {
  buckets : length l.heads.items ≡ length l.initial.heads.items;
  empty : (b : ℕ) → b < l.bucket → slice_index_or l.heads.items b None ≡ None;
}

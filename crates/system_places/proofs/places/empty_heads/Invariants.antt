use Rattle.std.proofs.Common.{◌≡◌, ◌≤◌, None, replicate, vec_capacity}
use Rattle.system_places.proofs.places.empty_heads.Given as goal

abbrev pub invariant-buckets : goal.invariant-buckets
invariant-buckets l = record {
  items : l.heads.items ≡ replicate l.counter None;
  room : l.buckets ≤ vec_capacity l.heads;
}

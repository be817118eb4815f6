use Rattle.std.proofs.Common.{◌≡◌, length, vec_len, vec_capacity}
use Rattle.system_places.specs.Chains.{hashes, IsChainedTo}
use Rattle.system_places.proofs.places.chain_all.Given as goal

abbrev pub invariant-links : goal.invariant-links
invariant-links l = record {
  same_hashes : hashes l.links.items ≡ hashes l.initial.links.items;
  len : vec_len l.links ≡ vec_len l.initial.links;
  capacity : vec_capacity l.links ≡ vec_capacity l.initial.links;
  buckets : length l.heads.items ≡ length l.initial.heads.items;
  chained : IsChainedTo (hashes l.links.items) l.heads.items l.links.items l.place;
}

use Rattle.std.proofs.Common.{rules, ◌≡◌, ◌%◌, ◌<◌, length, ap, ◌∙◌, arith}
use Rattle.system_places.proofs.Fields.{chained_again, hashes_kept}
use Rattle.system_places.proofs.places.chain_all.Goals as goal

pub links-preserved : goal.links-preserved
links-preserved c =
    let below : c.links.place < length c.links.links.items = search rules in
    let buckets : c.len.result ≡ length c.links.heads.items = omega (arith, c.len.ensures, c.links.heads.ok.0) in
    record {
      same_hashes = hashes_kept c.links.links.items c.links.place c.index_mut.result.now _ below
          c.index_mut.ensures.value
          ∙ c.links.invariant.same_hashes;
      len = search rules;
      capacity = search rules;
      buckets = search rules;
      chained = chained_again c.links.heads.items c.links.links.items c.links.place c.bucket_of-bucket.result
          c.index.result.now c.index_mut.result.now c.index-in-links.result.now c.links.invariant.chained below
          (c.bucket_of-bucket.ensures.is ∙ ap (λ n. c.index.result.now.hash % n) buckets) c.index.ensures
          c.index_mut.ensures.value c.index-in-links.ensures;
    }

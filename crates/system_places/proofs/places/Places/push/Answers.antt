use Rattle.std.proofs.Common.{◌≡◌, ◌%◌, length, refl, ap, ◌∙◌, arith}
use Rattle.system_places.proofs.Fields.{chained_push}
use Rattle.system_places.proofs.places.Places.push.Goals as goal

pub invariant_of-self : goal.invariant_of-self
invariant_of-self c =
    let at : c.len-place.result ≡ length c.self.inside.links.items =
    omega (arith, c.len-place.ensures, c.self.inside.links.ok.0) in
    let buckets : c.len.result ≡ length c.self.inside.heads.items =
    omega (arith, c.len.ensures, c.self.inside.heads.ok.0) in
    chained_push c.self.inside.heads.items _ c.self.inside.links.items _ c.args.hash c.len-place.result
    c.bucket_of-bucket.result c.index-before.result.now c.self.invariant at
    (c.bucket_of-bucket.ensures.is ∙ ap (λ n. c.args.hash % n) buckets) c.index-before.ensures
    c.push_reserved.ensures.items refl

-- The fields after one place more is put into its bucket.
use Rattle.std.proofs.Common.{◌≡◌, ℕ, ◌+◌, ◌%◌, ◌<◌, List, [], ◌∷◌, ◌++◌, length, length-append, set, Option, Some}
use Rattle.std.proofs.Common.{None}
use Rattle.std.proofs.Common.{slice_index, slice_index_or, sym, ap, ◌∙◌, subst, arith}
use Rattle.std.proofs.Common.{get_or-set_same, get_or-set_other}
use Rattle.std.proofs.lemmas.List.{map-append, length-map, get_or_append_left, get_or_default, get_or-map}
use Rattle.std.proofs.lemmas.Nat.{mod_below}
use Rattle.std.proofs.Math.Seq.{get_or-append_seam, map-set_same}
use Rattle.system_places.specs.declared.places.Link.{Link}
use Rattle.system_places.specs.Chains.{Buckets, hash_of, hashes, bucket, IsLast, no_link, before_at, IsChainedTo}
use Rattle.system_places.specs.Chains.{IsChained}
use Rattle.system_places.proofs.Chaining.{chained_one}

-- a read in bounds doesn't look at its default
head_at : (heads : List (Option ℕ)) (b : ℕ) (o : Option ℕ) → b < length heads → o ≡ slice_index_or heads b o →
    o ≡ slice_index_or heads b None
head_at heads b o below is = is ∙ get_or_default heads b o None below

-- a place is put at the end
pub chained_push : (heads heads' : List (Option ℕ)) (links links' : List Link) (hash place b : ℕ) (before : Option ℕ) →
    IsChained (hashes links) heads links → place ≡ length links → b ≡ hash % length heads →
    before ≡ slice_index_or heads b before → links' ≡ links ++ (record { hash = hash; before = before }) ∷ [] →
    heads' ≡ set heads b (Some place) → IsChained (hashes links') heads' links'
chained_push heads heads' links links' hash place b before is at own found pushed put =
    let new : Link = record { hash = hash; before = before } in
    let within : hash % length heads < length heads = mod_below hash (length heads) is.some in
    let grown : hashes links' ≡ hashes links ++ hash ∷ [] =
    ap hashes pushed ∙ map-append hash_of links (new ∷ []) in
    let even : length (hashes links) ≡ length links = length-map links hash_of in
    let longer : length links' ≡ length links + 1 = ap length pushed ∙ length-append links (new ∷ []) in
    subst (λ n. IsChainedTo (hashes links') heads' links' n) (sym longer)
    (chained_one (hashes links) (hashes links') heads heads' links links' (length links) hash is
    (λ k under. sym (ap (λ hs. slice_index hs k) grown
    ∙ get_or_append_left (hashes links) (hash ∷ []) 0 k (omega (arith, under, even))))
    (ap (λ hs. slice_index hs (length links)) grown
    ∙ (ap (λ n. slice_index (hashes links ++ hash ∷ []) n) (sym even)
    ∙ get_or-append_seam (hashes links) hash [] 0))
    (λ k under. ap (λ ls. before_at ls k) pushed
    ∙ ap (λ (l : Link). l.before) (get_or_append_left links (new ∷ []) no_link k under))
    (ap (λ ls. before_at ls (length links)) pushed
    ∙ (ap (λ (l : Link). l.before) (get_or-append_seam links new [] no_link)
    ∙ (head_at heads b before (subst (λ i. i < length heads) (sym own) within) found
    ∙ ap (λ i. slice_index_or heads i None) own)))
    (put ∙ (λ i. set heads (own i) (Some (at i)))))

-- the hash of a place stays when the place is put into a bucket anew
pub hashes_kept : (links : List Link) (place : ℕ) (old : Link) (before : Option ℕ) → place < length links →
    old ≡ slice_index_or links place old →
    hashes (set links place (record { hash = old.hash; before = before })) ≡ hashes links
hashes_kept links place old before below is =
    map-set_same hash_of links place (record { hash = old.hash; before = before }) old (ap hash_of is)

-- a place is put into its bucket anew
pub chained_again : (heads : List (Option ℕ)) (links : List Link) (place b : ℕ) (seen old : Link) (before : Option ℕ) →
    IsChainedTo (hashes links) heads links place → place < length links → b ≡ seen.hash % length heads →
    seen ≡ slice_index_or links place seen → old ≡ slice_index_or links place old →
    before ≡ slice_index_or heads b before →
    IsChainedTo (hashes (set links place (record { hash = old.hash; before = before }))) (set heads b (Some place))
    (set links place (record { hash = old.hash; before = before })) (place + 1)
chained_again heads links place b seen old before is below own read is_old found =
    let new : Link = record { hash = old.hash; before = before } in
    let links' : List Link = set links place new in
    let same : hashes links' ≡ hashes links = hashes_kept links place old before below is_old in
    let within : seen.hash % length heads < length heads = mod_below seen.hash (length heads) is.some in
    chained_one (hashes links) (hashes links') heads (set heads b (Some place)) links links' place seen.hash is
    (λ k under. ap (λ hs. slice_index hs k) (sym same))
    (ap (λ hs. slice_index hs place) same
    ∙ (get_or-map hash_of links place seen 0 below ∙ ap hash_of (sym read)))
    (λ k under. ap (λ (l : Link). l.before)
    (get_or-set_other links place k new no_link (λ e. absurd (omega (arith, under, e)))))
    (ap (λ (l : Link). l.before) (get_or-set_same links place new no_link below)
    ∙ (head_at heads b before (subst (λ i. i < length heads) (sym own) within) found
    ∙ ap (λ i. slice_index_or heads i None) own))
    (ap (λ i. set heads i (Some place)) own)

-- what a place is told of the one before it
pub link_told : (heads : List (Option ℕ)) (links : List Link) (room place : ℕ) (link : Link) (v : Buckets) →
    record { hashes = hashes links; buckets = length heads; room = room } ≡ v → IsChained (hashes links) heads links →
    place < length v.hashes → link ≡ slice_index_or links place link →
    IsLast v.hashes v.buckets (bucket v.hashes v.buckets place) place link.before
link_told heads links room place link v view is below read =
    subst (λ (x : Buckets). IsLast x.hashes x.buckets (bucket x.hashes x.buckets place) place link.before) view
    (let even : length (hashes links) ≡ length links = length-map links hash_of in
    let under : place < length links =
    omega (arith, subst (λ (x : Buckets). place < length x.hashes) (sym view) below, even) in
    subst (λ o. IsLast (hashes links) (length heads) (bucket (hashes links) (length heads) place) place o)
    (sym (ap (λ (l : Link). l.before) (read ∙ get_or_default links place link no_link under)))
    (is.link place under))

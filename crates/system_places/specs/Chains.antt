-- Places in buckets, by their hashes.
use Rattle.std.specs.Prelude.{◌≡◌, ◌≢◌, ℕ, ◌%◌, ◌<◌, List, length, map, Option, Some, None, slice_index, slice_index_or}
use Rattle.system_places.specs.declared.places.Link.{Link}

-- what contracts see: the hash of each place, how many buckets there are, and how many places more there is room for
pub record Buckets : Type 0 where
  pub hashes : List ℕ
  pub buckets : ℕ
  pub room : ℕ

-- the hash of a place
abbrev pub hash_of : Link → ℕ
hash_of link = link.hash

-- the hashes of all places
abbrev pub hashes : List Link → List ℕ
hashes links = map hash_of links

-- the bucket of a place
abbrev pub bucket : List ℕ → ℕ → ℕ → ℕ
bucket hs buckets place = slice_index hs place % buckets

-- The last place in a bucket among those below a place, or None where no place below is in the bucket.
-- Of the hashes 5, 8, 5 and three buckets, the last one below 3 in bucket 2 is Some 2, and below 2 it is Some 1.
abbrev pub IsLast : List ℕ → ℕ → ℕ → ℕ → Option ℕ → Type 0
IsLast hs buckets b below None = (k : ℕ) → k < below → bucket hs buckets k ≢ b
IsLast hs buckets b below (Some place) =
    (place < below) × (bucket hs buckets place ≡ b) × ((k : ℕ) → place < k → k < below → bucket hs buckets k ≢ b)

-- beyond the end
abbrev pub no_link : Link
no_link = record { hash = 0; before = None }

-- the last place before a place in its bucket, as it is kept
abbrev pub before_at : List Link → ℕ → Option ℕ
before_at links place = (slice_index_or links place no_link).before

-- the places below one are in their buckets
pub record IsChainedTo (hs : List ℕ) (heads : List (Option ℕ)) (links : List Link) (below : ℕ) : Type 0 where
  pub some : 0 < length heads
  pub last : (b : ℕ) → b < length heads → IsLast hs (length heads) b below (slice_index_or heads b None)
  pub link : (k : ℕ) → k < below → IsLast hs (length heads) (bucket hs (length heads) k) k (before_at links k)

-- all places are
abbrev pub IsChained : List ℕ → List (Option ℕ) → List Link → Type 0
IsChained hs heads links = IsChainedTo hs heads links (length links)

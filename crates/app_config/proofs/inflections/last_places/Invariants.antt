use Rattle.std.proofs.Common.{ℕ, List}
use Rattle.app_config.specs.Indexes.Places.{IsLastPlace, place_of}
use Rattle.app_config.proofs.inflections.last_places.Given as goal

abbrev pub invariant-pairs : goal.invariant-pairs
invariant-pairs l = (base : List ℕ) → IsLastPlace l.place l.pairs base (place_of l.places base)

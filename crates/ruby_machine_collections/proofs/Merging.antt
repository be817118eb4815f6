-- Pairs that are put into a hash one after another.
use Rattle.std.proofs.Common.{◌≡◌, List, [], ◌∷◌, ◌++◌, refl}
use Rattle.ruby_types.specs.declared.value.Value.{Value}
use Rattle.ruby_builtin_keys.specs.Merging.{merged, put}

-- one pair more is put behind the others
pub merged_more : (pairs done : List (Value × Value)) (p : Value × Value) →
    merged pairs (done ++ p ∷ []) ≡ put (merged pairs done) p
merged_more pairs [] p = refl
merged_more pairs (d ∷ ds) p = merged_more (put pairs d) ds p

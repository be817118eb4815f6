-- The pieces that a path is cut into are its segments, and no other list is.
use Rattle.std.proofs.Common.{◌≡◌, ◌≢◌, ◌≤◌, ◌==◌, ℕ, true, false, cond, List, [], ◌∷◌, length, map, take, take_all}
use Rattle.std.proofs.Common.{Bor, refl, sym, ap, ◌∙◌}
use Rattle.std.specs.List.{All, onto_first, join_with_byte}
use Rattle.std.proofs.lemmas.Bool.{eqb-false, ne_eqb}
use Rattle.std.proofs.lemmas.List.Elements.{All-nil, All-cons, All-head, All-tail}
use Rattle.std.proofs.lemmas.List.Splits.{slice_split_none, slice_split_at, join_with_byte-slice_split}
use Rattle.plain_text.specs.Segments.{slash, IsPiece, AreSegments, segments}

-- what is cut is a list of segments

onto_first-some : (byte : ℕ) (pieces : List (List ℕ)) → onto_first byte pieces ≢ []
onto_first-some byte [] e = cc
onto_first-some byte (piece ∷ pieces) e = cc

segments-some : (path : List ℕ) → segments path ≢ []
segments-some [] e = cc
segments-some (byte ∷ rest) e =
    elim (byte == slash) as (λ v. cond v ([] ∷ segments rest) (onto_first byte (segments rest)) ≡ [] → ⊥)
    [ true ↦ λ none. cc | false ↦ λ none. onto_first-some byte (segments rest) none ] e

no_slash-nil : IsPiece []
no_slash-nil = All-nil (λ byte. byte ≢ slash)

no_slash-cons : (byte : ℕ) (piece : List ℕ) → byte ≢ slash → IsPiece piece → IsPiece (byte ∷ piece)
no_slash-cons byte piece other rest = All-cons (λ b. b ≢ slash) byte piece other rest

onto_first-pieces : (byte : ℕ) (pieces : List (List ℕ)) → byte ≢ slash → All IsPiece pieces →
    All IsPiece (onto_first byte pieces)
onto_first-pieces byte [] other all = All-cons IsPiece (byte ∷ []) [] (no_slash-cons byte [] other no_slash-nil)
    (All-nil IsPiece)
onto_first-pieces byte (piece ∷ pieces) other all =
    All-cons IsPiece (byte ∷ piece) pieces (no_slash-cons byte piece other (All-head IsPiece piece pieces all))
    (All-tail IsPiece piece pieces all)

segments-pieces : (path : List ℕ) → All IsPiece (segments path)
segments-pieces [] = All-cons IsPiece [] [] no_slash-nil (All-nil IsPiece)
segments-pieces (byte ∷ rest) =
    elim (byte == slash) as (λ v. (byte == slash) ≡ v →
    All IsPiece (cond v ([] ∷ segments rest) (onto_first byte (segments rest)))) [
      | true ↦ λ is. All-cons IsPiece [] (segments rest) no_slash-nil (segments-pieces rest)
      | false ↦ λ other. onto_first-pieces byte (segments rest) (eqb-false byte slash other) (segments-pieces rest)
    ] refl

-- the pieces that are cut are segments
pub are_segments : (path : List ℕ) → AreSegments path (segments path)
are_segments path = (segments-some path, segments-pieces path, join_with_byte-slice_split slash path)

-- a list of segments is what is cut

no_slash-passes : (piece : List ℕ) → IsPiece piece → All (λ byte. (byte == slash) ≡ false) piece
no_slash-passes piece none = λ k d within. ne_eqb _ slash (none k d within)

joined-segments : (pieces : List (List ℕ)) → pieces ≢ [] → All IsPiece pieces →
    pieces ≡ segments (join_with_byte slash pieces)
joined-segments [] some all = absurd (some refl)
joined-segments (piece ∷ []) some all =
    sym (slice_split_none (λ byte. byte == slash) piece (no_slash-passes piece (All-head IsPiece piece [] all)))
joined-segments (piece ∷ next ∷ pieces) some all =
    ap (λ rest. piece ∷ rest) (joined-segments (next ∷ pieces) (λ e. cc) (All-tail IsPiece piece (next ∷ pieces) all))
    ∙ sym (slice_split_at (λ byte. byte == slash) piece slash (join_with_byte slash (next ∷ pieces))
    (no_slash-passes piece (All-head IsPiece piece (next ∷ pieces) all)) refl)

-- no other list has the path's segments
pub only_segments : (path : List ℕ) (pieces : List (List ℕ)) → AreSegments path pieces → pieces ≡ segments path
only_segments path pieces are = joined-segments pieces are.0 are.1 ∙ ap segments are.2

-- as many texts as there are slices, each the same
pub all-copied : (texts : List (List ℕ)) (slices items : List (Bor (List ℕ))) (count : ℕ) (cut : List (List ℕ)) →
    texts ≡ map (λ slice. slice.now) (take count slices) → length slices ≤ count → slices ≡ items →
    map (λ slice. slice.now) items ≡ cut → texts ≡ cut
all-copied texts slices items count cut copied past same is = copied
    ∙ ap (map (λ slice. slice.now)) (take_all count slices past ∙ same) ∙ is

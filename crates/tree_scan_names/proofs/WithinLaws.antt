-- Paths cut at a slash.
use Rattle.std.proofs.Common.{◌≡◌, ◌≢◌, ℕ, List, [], ◌∷◌, ◌++◌, drop, get_or, refl, sym, ap, ◌∙◌, inl, inr, ◌⊎◌}
use Rattle.std.proofs.lemmas.Bool.{eqb-false}
use Rattle.std.proofs.lemmas.List.{append_assoc}
use Rattle.std.proofs.lemmas.List.Elements.{All-nil, All-cons, All-head, All-tail, All-append}
use Rattle.plain_text.specs.Segments.{slash, IsPiece}
use Rattle.tree_scan_names.specs.Below.{within, ruby_ending, EndsInRb}

-- a path in a directory in another one, grouped otherwise
pub within_within : (a b c : List ℕ) → within (within a b) c ≡ within a (within b c)
within_within a b c = append_assoc a (47 ∷ b) (47 ∷ c)

piece_head : (byte : ℕ) (piece : List ℕ) → IsPiece (byte ∷ piece) → byte ≡ 47 → ⊥
piece_head byte piece all e = All-head (λ b. b ≢ slash) byte piece all e

piece_tail : (byte : ℕ) (piece : List ℕ) → IsPiece (byte ∷ piece) → IsPiece piece
piece_tail byte piece all = All-tail (λ b. b ≢ slash) byte piece all

-- a piece has no slash
pub no_slash : (piece front rest : List ℕ) → IsPiece piece → piece ≡ within front rest → ⊥
no_slash [] [] rest all e = cc
no_slash [] (byte ∷ front) rest all e = cc
no_slash (first ∷ piece) [] rest all e = piece_head first piece all (cc)
no_slash (first ∷ piece) (byte ∷ front) rest all e = no_slash piece front rest (piece_tail first piece all) (cc)

-- what stands before a slash is the first piece, or goes on behind the first slash
pub front_cases : (front more here rest : List ℕ) → IsPiece here → within front more ≡ within here rest →
    ((front ≡ here) × (more ≡ rest)) ⊎ ((deeper : List ℕ) × (front ≡ within here deeper) × (within deeper more ≡ rest))
front_cases [] more [] rest all e = inl (refl, cc)
front_cases [] more (first ∷ here) rest all e = absurd (piece_head first here all (cc))
front_cases (byte ∷ front) more [] rest all e = inr (front, cc, cc)
front_cases (byte ∷ front) more (first ∷ here) rest all e =
    let same : byte ≡ first = cc in
    let tails : within front more ≡ within here rest = cc in
    elim (front_cases front more here rest (piece_tail first here all) tails) [
      | inl h ↦ inl (let f = h.0 in cc, h.1)
      | inr h ↦ inr (h.0, (let f = h.1 in cc), h.2)
    ]

-- a path is cut at its first slash in one way
pub cut_one : (here below other rest : List ℕ) → IsPiece here → IsPiece other →
    within here below ≡ within other rest → (here ≡ other) × (below ≡ rest)
cut_one here below other rest h k e =
    elim (front_cases here below other rest k e) [
      | inl same ↦ same
      | inr deeper ↦ absurd (no_slash here other deeper.0 h deeper.1)
    ]

-- What ends in `.rb`.

-- the front of a piece is a piece
pub piece_front : (front rest : List ℕ) → IsPiece (front ++ rest) → IsPiece front
piece_front [] rest all = All-nil (λ b. b ≢ slash)
piece_front (byte ∷ front) rest all =
    All-cons (λ b. b ≢ slash) byte front (piece_head byte (front ++ rest) all)
    (piece_front front rest (piece_tail byte (front ++ rest) all))

ending_piece : IsPiece ruby_ending
ending_piece =
    All-cons (λ b. b ≢ slash) 46 (114 ∷ 98 ∷ []) (λ e. cc)
    (All-cons (λ b. b ≢ slash) 114 (98 ∷ []) (λ e. cc)
    (All-cons (λ b. b ≢ slash) 98 [] (λ e. cc) (All-nil (λ b. b ≢ slash))))

-- a piece that `.rb` is added to is a piece
pub file_piece : (base : List ℕ) → IsPiece base → IsPiece (base ++ ruby_ending)
file_piece base all = All-append (λ b. b ≢ slash) base ruby_ending all ending_piece

ends_behind : (here below front : List ℕ) → front ++ ruby_ending ≡ within here below → EndsInRb below
ends_behind [] below [] e = absurd (eqb-false 46 47 refl (ap (λ l. get_or l 0 0) e))
ends_behind [] below (byte ∷ front) e = (front, cc)
ends_behind (a ∷ []) below [] e = absurd (eqb-false 114 47 refl (ap (λ l. get_or l 1 0) e))
ends_behind (a ∷ b ∷ []) below [] e = absurd (eqb-false 98 47 refl (ap (λ l. get_or l 2 0) e))
ends_behind (a ∷ b ∷ c ∷ here) below [] e = absurd (no_slash [] here below (All-nil (λ x. x ≢ slash)) (ap (drop 3) e))
ends_behind (a ∷ here) below (byte ∷ front) e = ends_behind here below front (cc)

-- what ends in `.rb` does so behind each of its slashes
pub EndsInRb-behind : (path here below : List ℕ) → path ≡ within here below → EndsInRb path → EndsInRb below
EndsInRb-behind path here below e ends = ends_behind here below ends.0 (ends.1 ∙ e)

-- a path ends in `.rb` where its part below a directory does
pub EndsInRb-within : (here below : List ℕ) → EndsInRb below → EndsInRb (within here below)
EndsInRb-within here below ends = (
  within here ends.0,
  append_assoc here (47 ∷ ends.0) ruby_ending
      ∙ ap (within here) ends.1,
)

-- a step further on a path's way
pub way_step : (path directory left name place rest : List ℕ) → path ≡ within directory left →
    left ≡ within name rest → place ≡ within directory name → path ≡ within place rest
way_step path directory left name place rest way cut is =
    way ∙ (ap (within directory) cut ∙ (sym (within_within directory name rest) ∙ ap (λ x. within x rest) (sym is)))

-- Hidden and ignored files, step by step below the root.
use Rattle.std.proofs.Common.{◌≡◌, ◌==◌, ◌<◌, ℕ, zero, suc, false, List, [], ◌∷◌, length, refl, sym, ap, subst, ◌∙◌}
use Rattle.std.proofs.Common.{inl, inr, ◌⊎◌, arith}
use Rattle.std.specs.Prelude.{Option, Some, None, MatchOption}
use Rattle.std.specs.List.{All, Any}
use denote.Ref.{Bor}
use Rattle.std.proofs.lemmas.Bool.{ne_eqb}
use Rattle.std.proofs.lemmas.List.Splits.{slice_split_none, slice_split_at}
use Rattle.plain_text.specs.Segments.{slash, IsPiece, segments}
use Rattle.app_config.specs.declared.config.Config.{Config}
use Rattle.app_config.specs.Patterns.{IsNamed}
use Rattle.tree_scan_names.specs.Below.{within}
use Rattle.tree_scan_names.specs.Counts.{BeginsWithDot, IsHidden, IsIgnored, IsPassed, IsPassedOver}
use Rattle.tree_scan_names.proofs.WithinLaws.{within_within, no_slash, front_cases}

-- Hidden.

piece_passes : (piece : List ℕ) → IsPiece piece → All (λ byte. (byte == slash) ≡ false) piece
piece_passes piece none = λ k d within. ne_eqb _ slash (none k d within)

segments-within : (name rest : List ℕ) → IsPiece name → segments (within name rest) ≡ name ∷ segments rest
segments-within name rest piece = slice_split_at (λ byte. byte == slash) name slash rest (piece_passes name piece) refl

segments-piece : (name : List ℕ) → IsPiece name → segments name ≡ name ∷ []
segments-piece name piece = slice_split_none (λ byte. byte == slash) name (piece_passes name piece)

Any-here : (P : List ℕ → Type 0) (x : List ℕ) (xs : List (List ℕ)) → P x → Any P (x ∷ xs)
Any-here P x xs p = (0, x, omega arith, refl, p)

Any-there : (P : List ℕ → Type 0) (x : List ℕ) (xs : List (List ℕ)) → Any P xs → Any P (x ∷ xs)
Any-there P x xs h = (suc h.0, h.1, (let more : h.0 < length xs = h.2 in omega arith), h.3, h.4)

Any-cases : (P : List ℕ → Type 0) (x : List ℕ) (xs : List (List ℕ)) → Any P (x ∷ xs) → P x ⊎ Any P xs
Any-cases P x xs (zero, y, lt, e, p) = inl (subst P (sym e) p)
Any-cases P x xs (suc k, y, lt, e, p) = inr (k, y, omega arith, e, p)

hidden-step : (name rest : List ℕ) → IsPiece name → BeginsWithDot name ⊎ IsHidden rest → IsHidden (within name rest)
hidden-step name rest piece h =
    let P : List (List ℕ) → Type 0 = λ x. Any BeginsWithDot x in
    subst P (sym (segments-within name rest piece))
    (elim h [
      | inl dot ↦ Any-here BeginsWithDot name (segments rest) dot
      | inr more ↦ Any-there BeginsWithDot name (segments rest) more
    ])

step-hidden : (name rest : List ℕ) → IsPiece name → IsHidden (within name rest) → BeginsWithDot name ⊎ IsHidden rest
step-hidden name rest piece h =
    let P : List (List ℕ) → Type 0 = λ x. Any BeginsWithDot x in
    Any-cases BeginsWithDot name (segments rest) (subst P (segments-within name rest piece) h)

hidden-last : (name : List ℕ) → IsPiece name → BeginsWithDot name → IsHidden name
hidden-last name piece h =
    let P : List (List ℕ) → Type 0 = λ x. Any BeginsWithDot x in
    subst P (sym (segments-piece name piece)) (Any-here BeginsWithDot name [] h)

last-hidden : (name : List ℕ) → IsPiece name → IsHidden name → BeginsWithDot name
last-hidden name piece h =
    let P : List (List ℕ) → Type 0 = λ x. Any BeginsWithDot x in
    elim (Any-cases BeginsWithDot name [] (subst P (segments-piece name piece) h)) [
      | inl dot ↦ dot
      | inr none ↦ absurd (let lt : none.0 < 0 = none.2 in omega arith)
    ]

-- Ignored.

ignored-here : (config : Config) (directory name rest : List ℕ) → IsNamed config.ignore (within directory name) →
    IsIgnored config directory (within name rest)
ignored-here config directory name rest h = (name, inr (rest, refl), h)

ignored-inside : (config : Config) (directory name rest : List ℕ) → IsIgnored config (within directory name) rest →
    IsIgnored config directory (within name rest)
ignored-inside config directory name rest (front, is, h) =
    let P : List ℕ → Type 0 = λ x. IsNamed config.ignore x in (
      within name front,
      (elim is [
        | inl e ↦ inl (ap (within name) e)
        | inr m ↦ inr (m.0, within_within name front m.0 ∙ ap (within name) m.1)
      ]),
      subst P (within_within directory name front) h,
    )

ignored-next : (config : Config) (directory name rest : List ℕ) → IsPiece name →
    IsIgnored config directory (within name rest) →
    IsNamed config.ignore (within directory name) ⊎ IsIgnored config (within directory name) rest
ignored-next config directory name rest piece (front, is, h) =
    let P : List ℕ → Type 0 = λ x. IsNamed config.ignore x in
    elim is [
      | inl e ↦ inr (rest, inl refl, subst P (ap (within directory) e ∙ sym (within_within directory name rest)) h)
      | inr m ↦ elim (front_cases front m.0 name rest piece m.1) [
        | inl same ↦ inl (subst P (ap (within directory) same.0) h)
        | inr deeper ↦ inr (
          deeper.0,
          inr (m.0, deeper.2),
          subst P (ap (within directory) deeper.1 ∙ sym (within_within directory name deeper.0)) h,
        )
      ]
    ]

ignored-end : (config : Config) (directory name : List ℕ) → IsPiece name → IsIgnored config directory name →
    IsNamed config.ignore (within directory name)
ignored-end config directory name piece (front, is, h) =
    let P : List ℕ → Type 0 = λ x. IsNamed config.ignore x in
    elim is [
      | inl e ↦ subst P (ap (within directory) e) h
      | inr m ↦ absurd (no_slash name front m.0 piece (sym m.1))
    ]

-- Both, by a step from a directory.

passed-here : (config : Config) (directory name rest : List ℕ) → IsPiece name →
    IsPassed config name (within directory name) → IsPassedOver config directory (within name rest)
passed-here config directory name rest piece h =
    elim h [
      | inl dot ↦ inl (hidden-step name rest piece (inl dot))
      | inr named ↦ inr (ignored-here config directory name rest named)
    ]

passed-last : (config : Config) (directory name : List ℕ) → IsPiece name →
    IsPassed config name (within directory name) → IsPassedOver config directory name
passed-last config directory name piece h =
    elim h [ inl dot ↦ inl (hidden-last name piece dot) | inr named ↦ inr (name, inl refl, named) ]

-- what is passed over below a directory is so below the one above it
pub passed-inside : (config : Config) (directory name rest left place : List ℕ) → IsPiece name →
    left ≡ within name rest → place ≡ within directory name →
    IsPassedOver config place rest → IsPassedOver config directory left
passed-inside config directory name rest left place piece e f h =
    let P : List ℕ → Type 0 = λ x. IsPassedOver config directory x in
    let Q : List ℕ → Type 0 = λ x. IsPassedOver config x rest in
    subst P (sym e) (elim (subst Q f h) [
      | inl hidden ↦ inl (hidden-step name rest piece (inr hidden))
      | inr ignored ↦ inr (ignored-inside config directory name rest ignored)
    ])

-- what is passed over below a directory, though its next name is not, is so below that name
pub passed-next : (config : Config) (directory name rest left place : List ℕ) → IsPiece name →
    left ≡ within name rest → place ≡ within directory name →
    ¬ IsPassed config name place → IsPassedOver config directory left → IsPassedOver config place rest
passed-next config directory name rest left place piece e f none h =
    let P : List ℕ → Type 0 = λ x. IsPassedOver config directory x in
    let N : List ℕ → Type 0 = λ x. IsNamed config.ignore x in
    let I : List ℕ → Type 0 = λ x. IsIgnored config x rest in
    elim (subst P e h) [
      | inl hidden ↦ elim (step-hidden name rest piece hidden) [
        | inl dot ↦ absurd (none (inl dot))
        | inr more ↦ inl more
      ]
      | inr ignored ↦ elim (ignored-next config directory name rest piece ignored) [
        | inl named ↦ absurd (none (inr (subst N (sym f) named)))
        | inr more ↦ inr (subst I (sym f) more)
      ]
    ]

-- a file that is not passed by itself is not passed over below its directory
pub passed-end : (config : Config) (directory name left place : List ℕ) → IsPiece name → left ≡ name →
    place ≡ within directory name →
    ¬ IsPassed config name place → ¬ IsPassedOver config directory left
passed-end config directory name left place piece e f none = λ h.
    let P : List ℕ → Type 0 = λ x. IsPassedOver config directory x in
    let N : List ℕ → Type 0 = λ x. IsNamed config.ignore x in
    elim (subst P e h) [
      | inl hidden ↦ none (inl (last-hidden name piece hidden))
      | inr ignored ↦ none (inr (subst N (sym f) (ignored-end config directory name piece ignored)))
    ]

-- a step that is passed, the last or not
pub passed-found : (config : Config) (directory name left place : List ℕ) (below : Option (Bor (List ℕ))) →
    IsPiece name →
    MatchOption below (left ≡ name) (λ rest. left ≡ within name rest.now) → place ≡ within directory name →
    IsPassed config name place → IsPassedOver config directory left
passed-found config directory name left place None piece e f h =
    let P : List ℕ → Type 0 = λ x. IsPassedOver config directory x in
    let Q : List ℕ → Type 0 = λ x. IsPassed config name x in
    subst P (sym e) (passed-last config directory name piece (subst Q f h))
passed-found config directory name left place (Some rest) piece e f h =
    let P : List ℕ → Type 0 = λ x. IsPassedOver config directory x in
    let Q : List ℕ → Type 0 = λ x. IsPassed config name x in
    subst P (sym e) (passed-here config directory name rest.now piece (subst Q f h))

-- Camelizing byte by byte, and that a base has one name.
use Rattle.std.proofs.Common.{◌≡◌, ◌≢◌, ◌==◌, ℕ, Bool, true, false, cond, List, [], ◌∷◌, ◌++◌, map, refl, sym, ap}
use Rattle.std.proofs.Common.{subst, ◌∙◌}
use Rattle.std.specs.Prelude.{if◌then◌else◌, Result, Ok, Err, IfOk}
use Rattle.std.specs.declared.alloc.AllocError.{AllocError}
use Rattle.std.specs.Char.{to_ascii_uppercase, to_ascii_lowercase}
use Rattle.std.specs.List.{flat_map, onto_first}
use Rattle.std.proofs.lemmas.List.Elements.{All-head, All-tail}
use Rattle.app_config.specs.Text.{split}
use Rattle.app_config.specs.Inflections.{LacksBase, IsLastFor}
use Rattle.app_config.specs.declared.config.Config.{Config}
use Rattle.tree_scan_names.specs.Camel.{capitalized, camelized, IsCamelized}
use Rattle.tree_scan_names.specs.Camel.IsCamelized.{overridden, plain}

-- Byte by byte.

-- what is written for the rest of a base, at the beginning of a piece or inside one
abbrev pub cased_from : Bool → List ℕ → List ℕ
cased_from begins [] = []
cased_from begins (byte ∷ rest) =
    if byte == 95 then cased_from true rest
    else ((if begins then to_ascii_uppercase byte else to_ascii_lowercase byte) ∷ cased_from false rest)

-- the pieces where the first has begun
abbrev begun : List (List ℕ) → List ℕ
begun [] = []
begun (piece ∷ pieces) = map to_ascii_lowercase piece ++ flat_map capitalized pieces

capitals-onto : (byte : ℕ) (pieces : List (List ℕ)) → flat_map capitalized (onto_first byte pieces)
    ≡ to_ascii_uppercase byte ∷ begun pieces
capitals-onto byte [] = refl
capitals-onto byte (piece ∷ pieces) = refl

begun-onto : (byte : ℕ) (pieces : List (List ℕ)) →
    begun (onto_first byte pieces) ≡ to_ascii_lowercase byte ∷ begun pieces
begun-onto byte [] = refl
begun-onto byte (piece ∷ pieces) = refl

cased_pieces : (base : List ℕ) → (cased_from true base ≡ flat_map capitalized (split 95 base))
    × (cased_from false base ≡ begun (split 95 base))
cased_pieces [] = (refl, refl)
cased_pieces (byte ∷ rest) =
    let below = cased_pieces rest in
    elim (byte == 95) as (λ v. (cond v (cased_from true rest) (to_ascii_uppercase byte ∷ cased_from false rest)
    ≡ flat_map capitalized (cond v ([] ∷ split 95 rest) (onto_first byte (split 95 rest))))
    × (cond v (cased_from true rest) (to_ascii_lowercase byte ∷ cased_from false rest)
    ≡ begun (cond v ([] ∷ split 95 rest) (onto_first byte (split 95 rest))))) [
      | true ↦ (below.0, below.0)
      | false ↦ (
        ap (λ x. to_ascii_uppercase byte ∷ x) below.1 ∙ sym (capitals-onto byte (split 95 rest)),
        ap (λ x. to_ascii_lowercase byte ∷ x) below.1 ∙ sym (begun-onto byte (split 95 rest)),
      )
    ]

-- casing byte by byte gives the pieces capitalized and joined
pub cased_from-camelized : (base : List ℕ) → cased_from true base ≡ camelized base
cased_from-camelized base = (cased_pieces base).0

-- One name.

lacks_middle : (front back : List (List ℕ × List ℕ)) (base name : List ℕ) →
    LacksBase (front ++ (base, name) ∷ back) base → ⊥
lacks_middle [] back base name lacks = All-head (λ pair. pair.0 ≢ base) (base, name) back lacks refl
lacks_middle (pair ∷ front) back base name lacks = lacks_middle front back base name
    (All-tail (λ p. p.0 ≢ base) pair (front ++ (base, name) ∷ back) lacks)

lacks_last : (pairs : List (List ℕ × List ℕ)) (base name : List ℕ) → LacksBase pairs base →
    IsLastFor pairs base name → ⊥
lacks_last pairs base name lacks last =
    let P : List (List ℕ × List ℕ) → Type 0 = λ x. LacksBase x base in
    lacks_middle last.earlier last.later base name (subst P last.stands lacks)

last_same : (front back other rest : List (List ℕ × List ℕ)) (base name second : List ℕ) →
    front ++ (base, name) ∷ back ≡ other ++ (base, second) ∷ rest →
    LacksBase back base → LacksBase rest base → name ≡ second
last_same [] back [] rest base name second e h k =
    let heads : (let P : List ℕ × List ℕ = (base, name) in P) ≡ (base, second) = cc in ap (λ p. p.1) heads
last_same [] back (pair ∷ other) rest base name second e h k =
    let tails : back ≡ other ++ (base, second) ∷ rest = cc in
    let P : List (List ℕ × List ℕ) → Type 0 = λ x. LacksBase x base in
    absurd (lacks_middle other rest base second (subst P tails h))
last_same (pair ∷ front) back [] rest base name second e h k =
    let tails : rest ≡ front ++ (base, name) ∷ back = cc in
    let P : List (List ℕ × List ℕ) → Type 0 = λ x. LacksBase x base in
    absurd (lacks_middle front back base name (subst P tails k))
last_same (pair ∷ front) back (next ∷ other) rest base name second e h k =
    let tails : front ++ (base, name) ∷ back ≡ other ++ (base, second) ∷ rest = cc in
    last_same front back other rest base name second tails h k

IsLastFor-one : (pairs : List (List ℕ × List ℕ)) (base name second : List ℕ) → IsLastFor pairs base name →
    IsLastFor pairs base second → name ≡ second
IsLastFor-one pairs base name second l m = last_same l.earlier l.later m.earlier m.later base name second
    (sym l.stands ∙ m.stands) l.last m.last

-- two names of one base are the same
pub IsCamelized-same : {config : Config} {base other name second : List ℕ} → IsCamelized config base name →
    IsCamelized config other second → base ≡ other → name ≡ second
IsCamelized-same {config} (overridden {base = base} {name = name} l) (overridden {base = other} {name = second} m) e =
    let P : List ℕ → Type 0 = λ x. IsLastFor config.inflect x second in
    IsLastFor-one config.inflect base name second l (subst P (sym e) m)
IsCamelized-same {config} (overridden {base = base} {name = name} l) (plain other k) e =
    let P : List ℕ → Type 0 = λ x. LacksBase config.inflect x in
    absurd (lacks_last config.inflect base name (subst P (sym e) k) l)
IsCamelized-same {config} (plain base h) (overridden {base = other} {name = second} m) e =
    let P : List ℕ → Type 0 = λ x. LacksBase config.inflect x in
    absurd (lacks_last config.inflect other second (subst P e h) m)
IsCamelized-same {config} (plain base h) (plain other k) e = ap camelized e

-- a base has one name
pub IsCamelized-one : (config : Config) (base name other : List ℕ) → IsCamelized config base name →
    IsCamelized config base other → other ≡ name
IsCamelized-one config base name other h k = IsCamelized-same k h refl

-- The answers of `camelize`.

abbrev Named : Config → List ℕ → Result (List ℕ) AllocError → Type 0
Named config base answer = IfOk answer (λ name. IsCamelized config base name)

abbrev OnlyNamed : Config → List ℕ → Result (List ℕ) AllocError → Type 0
OnlyNamed config base answer = IfOk answer (λ name. (other : List ℕ) → IsCamelized config base other → other ≡ name)

named_only : (config : Config) (base : List ℕ) (answer : Result (List ℕ) AllocError) → Named config base answer →
    OnlyNamed config base answer
named_only config base (Ok name) h = λ other k. IsCamelized-one config base name other h k
named_only config base (Err e) h = tt

-- a copy of the last constant of a base is its name
pub overridden_copy : (config : Config) (base constant : List ℕ) (answer : Result (List ℕ) AllocError) →
    IsLastFor config.inflect base constant → IfOk answer (λ copied. copied ≡ constant) → Named config base answer
overridden_copy config base constant (Ok name) last same =
    let P : List ℕ → Type 0 = λ x. IsCamelized config base x in subst P (sym same) (overridden last)
overridden_copy config base constant (Err e) last same = tt

-- a copy of the last constant of a base is its only name
pub overridden_only : (config : Config) (base constant : List ℕ) (answer : Result (List ℕ) AllocError) →
    IsLastFor config.inflect base constant → IfOk answer (λ copied. copied ≡ constant) → OnlyNamed config base answer
overridden_only config base constant answer last same =
    named_only config base answer (overridden_copy config base constant answer last same)

-- a base without an inflection has its pieces, capitalized and joined, as its name
pub plain_made : (config : Config) (base : List ℕ) (answer : Result (List ℕ) AllocError) →
    LacksBase config.inflect base → IfOk answer (λ name. name ≡ camelized base) → Named config base answer
plain_made config base (Ok name) lacks same =
    let P : List ℕ → Type 0 = λ x. IsCamelized config base x in subst P (sym same) (plain base lacks)
plain_made config base (Err e) lacks same = tt

-- a base without an inflection has no other name
pub plain_only : (config : Config) (base : List ℕ) (answer : Result (List ℕ) AllocError) →
    LacksBase config.inflect base → IfOk answer (λ name. name ≡ camelized base) → OnlyNamed config base answer
plain_only config base answer lacks same = named_only config base answer (plain_made config base answer lacks same)

-- How a byte stands in quotes, by the first row of the escapes that has it.
use Rattle.std.proofs.Common.{◌≡◌, ℕ, ◌+◌, ◌<◌, ◌≤◌, cond, eqb, List, [], ◌∷◌, length, drop, get_or, drop-cons}
use Rattle.std.proofs.Common.{add-one, refl, ap, sym, ◌∙◌}
use Rattle.std.proofs.lemmas.Bool.{eq-eqb}
use Rattle.std.proofs.lemmas.List.{drop_all}
use Rattle.plain_text.specs.Quoting.{escaped_by}

-- the row at a place decides, or a later one
escaped_from : (escapes : List (ℕ × ℕ)) (i byte : ℕ) → i < length escapes →
    escaped_by (drop i escapes) byte
    ≡ cond (eqb byte (get_or escapes i (0, 0)).0) (92 ∷ (get_or escapes i (0, 0)).1 ∷ [])
    (escaped_by (drop (i + 1) escapes) byte)
escaped_from escapes i byte within = rw (drop-cons escapes i (0, 0), add-one) refl

-- the first row that has the byte
pub escaped_here : (escapes : List (ℕ × ℕ)) (i byte : ℕ) → i < length escapes → byte ≡ (get_or escapes i (0, 0)).0 →
    escaped_by (drop i escapes) byte ≡ escaped_by escapes byte →
    92 ∷ (get_or escapes i (0, 0)).1 ∷ [] ≡ escaped_by escapes byte
escaped_here escapes i byte within here before =
    sym (escaped_from escapes i byte within
    ∙ ap (λ b. cond b (92 ∷ (get_or escapes i (0, 0)).1 ∷ []) (escaped_by (drop (i + 1) escapes) byte))
    (eq-eqb byte _ here))
    ∙ before

-- no row has it
pub escaped_nowhere : (escapes : List (ℕ × ℕ)) (i byte : ℕ) → length escapes ≤ i →
    escaped_by (drop i escapes) byte ≡ escaped_by escapes byte → byte ∷ [] ≡ escaped_by escapes byte
escaped_nowhere escapes i byte past before = sym (ap (λ rest. escaped_by rest byte) (drop_all i escapes past)) ∙ before

-- Alternatives in lists, and terminals of words.
use Rattle.std.proofs.Common.{◌≡◌, ◌⊎◌, inl, inr, ℕ, zero, suc, Bool, true, false, ◌||◌, ◌&&◌, not, List, [], ◌∷◌, ◌++◌}
use Rattle.std.proofs.Common.{refl, if◌then◌else◌}
use Rattle.std.proofs.lemmas.Bool.{eqb-true}
use Rattle.descent.specs.Grammar.{Prod, Among, first, later}
use Rattle.descent.specs.Reading.{Choice, take, too_deep, barred, nothing}
use Rattle.ruby_grammar.specs.Words.{Word}
use Rattle.ruby_grammar.specs.Terminals.{terminal, is}
use Rattle.ruby_grammar.specs.Rules.{ruby, Sort}
use Rattle.ruby_grammar.specs.Expressions.{opening}
use Rattle.ruby_grammar.specs.Choices.{deepen}

-- each of the list
abbrev pub Each : {A : Type 0} → (A → Type 0) → List A → Type 0
Each P [] = Unit {0}
Each P (p ∷ ps) = P p × Each P ps

-- what holds of each alternative of a list holds of one that stands in it
pub each_among : {A : Type 0} (P : A → Type 0) {p : A} {ps : List A} → Each P ps → Among p ps → P p
each_among P h first = h.0
each_among P h (later am) = each_among P h.1 am

-- what holds of the alternatives of both lists holds of those of the joined list
pub each_append : {A : Type 0} (P : A → Type 0) (ps qs : List A) → Each P ps → Each P qs → Each P (ps ++ qs)
each_append P [] qs h k = k
each_append P (p ∷ ps) qs h k = (h.0, each_append P ps qs h.1 k)

-- what holds at any number of levels holds of the alternative that opens a level, if there is one
pub each_opening : {s : Sort} (P : Prod ruby s → Type 0) (levels : ℕ) (f : ℕ → Prod ruby s) → ((n : ℕ) → P (f n)) →
    Each P (opening levels f)
each_opening P zero f h = tt
each_opening P (suc n) f h = (h n, tt)

-- what stands in a list stands in it behind others
pub among_behind : {A : Type 0} {p : A} (qs : List A) {ps : List A} → Among p ps → Among p (qs ++ ps)
among_behind [] am = am
among_behind (q ∷ qs) am = later (among_behind qs am)

-- what stands in a list stands in it before others
pub among_before : {A : Type 0} {p : A} {ps : List A} (qs : List A) → Among p ps → Among p (ps ++ qs)
among_before qs first = first
among_before qs (later am) = later (among_before qs am)

-- what is chosen is one of the list; and what it says that the choice is barred
abbrev pub Fine : {s : Sort} → Type 0 → List (Prod ruby s) → Choice ruby s → Type 0
Fine bar ps (take p) = Among p ps
Fine bar ps too_deep = Unit {0}
Fine bar ps barred = bar
Fine bar ps nothing = Unit {0}

-- a choice by a test is fine where both its branches are
pub fine_if : {s : Sort} (bar : Type 0) (ps : List (Prod ruby s)) (b : Bool) (c d : Choice ruby s) → Fine bar ps c →
    Fine bar ps d → Fine bar ps (if b then c else d)
fine_if bar ps true c d h k = h
fine_if bar ps false c d h k = k

-- a choice that opens a level is fine where its production, at a level left, is among the alternatives
pub fine_deepen : {s : Sort} (bar : Type 0) (ps : List (Prod ruby s)) (levels : ℕ) (f : ℕ → Prod ruby s) →
    ((p : Prod ruby s) → Among p (opening levels f) → Among p ps) → Fine bar ps (deepen levels f)
fine_deepen bar ps zero f h = tt
fine_deepen bar ps (suc n) f h = h (f n) first

-- a word that passes the test of a number has that number
pub terminal_is : (n : ℕ) (w : Word) → is n w ≡ true → terminal w ≡ n
terminal_is n w t = eqb-true (terminal w) n t

-- where neither of two tests passes each fails
pub or_false : (a b : Bool) → (a || b) ≡ false → (a ≡ false) × (b ≡ false)
or_false true b h = cc
or_false false b h = (refl, h)

-- where one of two tests passes it is the first or the second
pub or_true : (a b : Bool) → (a || b) ≡ true → (a ≡ true) ⊎ (b ≡ true)
or_true true b h = inl refl
or_true false b h = inr h

-- where two tests pass together each does
pub and_true : (a b : Bool) → (a && b) ≡ true → (a ≡ true) × (b ≡ true)
and_true true b h = (refl, h)
and_true false b h = cc

-- a test whose negation passes fails
pub not_true : (a : Bool) → not a ≡ true → a ≡ false
not_true true h = cc
not_true false h = refl

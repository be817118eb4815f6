-- The parameters of a form have distinct names.
use Rattle.std.proofs.Common.{◌≡◌, ◌≢◌, ℕ, Bool, true, false, not, cond, List, [], ◌∷◌, refl, sym, ap, ◌∙◌, subst}
use Rattle.std.proofs.Common.{arith}
use Rattle.std.specs.Prelude.{All, AllPairs, filter, bytes_eq, if◌then◌else◌}
use Rattle.std.specs.Cmp.Lexicographic.{bytes_decides}
use Rattle.std.proofs.lemmas.Bool.{false≢true}
use Rattle.std.proofs.lemmas.List.Elements.{All-nil, All-cons}
use Rattle.std.proofs.lemmas.List.Kept.{AllPairs-cons, AllPairs-filter}
use Rattle.http_front_request.specs.Form.{last_value, without, each_once, form_pairs}
use Rattle.http_front_request.specs.Request.{question_mark, request_of}
use Rattle.form_urlencoded.specs.Form.{split_once}
use Rattle.program_facts.specs.Generations.{IsWellFormed}

-- a name and its value
abbrev Pair : Type 0
Pair = List ℕ × List ℕ

abbrev HasAnother : List ℕ → Pair → Type 0
HasAnother name q = name ≢ q.0

abbrev NamesDiffer : Pair → Pair → Type 0
NamesDiffer p q = p.0 ≢ q.0

others_at : (name : List ℕ) (p : Pair) (rest : List Pair) (b : Bool) → bytes_eq p.0 name ≡ b →
    All (HasAnother name) rest → All (HasAnother name) (if b then rest else p ∷ rest)
others_at name p rest true is all = all
others_at name p rest false is all = All-cons (HasAnother name) p rest
    (λ e. false≢true (sym is ∙ (bytes_decides p.0 name).1 (sym e))) all

-- the pairs with another name have another name
others_differ : (name : List ℕ) (pairs : List Pair) → All (HasAnother name) (without name pairs)
others_differ name [] = All-nil (HasAnother name)
others_differ name (p ∷ pairs) =
    others_at name p (without name pairs) (bytes_eq p.0 name) refl (others_differ name pairs)

chosen_at : (p : Pair) (b : Bool) (xs ys : List Pair) → xs ≡ ys →
    (if b then xs else p ∷ xs) ≡ cond (not b) (p ∷ ys) ys
chosen_at p true xs ys e = e
chosen_at p false xs ys e = ap (λ l. p ∷ l) e

without_is_filter : (name : List ℕ) (pairs : List Pair) →
    without name pairs ≡ filter (λ p. not (bytes_eq p.0 name)) pairs
without_is_filter name [] = refl
without_is_filter name (p ∷ pairs) = chosen_at p (bytes_eq p.0 name) (without name pairs)
    (filter (λ q. not (bytes_eq q.0 name)) pairs) (without_is_filter name pairs)

-- each name is there once
pub names_differ : (pairs : List Pair) → AllPairs NamesDiffer (each_once pairs)
names_differ [] = λ i j d before within. absurd (omega (arith, within))
names_differ (p ∷ pairs) = AllPairs-cons NamesDiffer (p.0, last_value p.0 p.1 pairs) (without p.0 (each_once pairs))
    (others_differ p.0 (each_once pairs))
    (subst (AllPairs NamesDiffer) (sym (without_is_filter p.0 (each_once pairs)))
    (AllPairs-filter NamesDiffer (λ q. not (bytes_eq q.0 p.0)) (each_once pairs) (names_differ pairs)))

-- the request of a target may begin
pub request_may_begin : (target : List ℕ) → IsWellFormed (request_of target)
request_may_begin target = record {
  pairs = each_once (form_pairs (split_once question_mark target).1);
  params = refl;
  distinct = names_differ (form_pairs (split_once question_mark target).1);
}

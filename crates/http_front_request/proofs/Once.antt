-- A form's pairs, read one after another, are each name once.
use Rattle.std.proofs.Common.{◌≡◌, ℕ, Bool, true, false, List, [], ◌∷◌, ◌++◌, map, refl, sym, ap, ◌∙◌, subst}
use Rattle.std.proofs.Common.{append_assoc}
use Rattle.std.proofs.lemmas.Bool.{false≢true}
use Rattle.std.specs.Prelude.{bytes_eq, String, string_bytes, if◌then◌else◌, Result, Ok, IfOk}
use Rattle.std.specs.String.{string_eq}
use Rattle.std.proofs.lemmas.Slice.Eq.{bytes_eq-Decides}
use Rattle.indexmap.specs.IndexMap.{insert_entry}
use Rattle.form_urlencoded.specs.Form.{DecodesTo}
use Rattle.http_front_request.specs.Form.{decoded, decoded_pair, last_value, without, each_once}
use Rattle.http_front_request.specs.Request.{param}
use Rattle.ruby_types.specs.declared.value.Value.{Value}
use Rattle.http_front_request.specs.Pairs.{given, given_all, entry_bytes}

one_entry : {A : Type 0} (e : String A × String A) (es : List (String A × String A)) (name value : String A)
    → (same : Bool) → map entry_bytes (insert_entry string_eq es name value)
    ≡ given (map entry_bytes es) (string_bytes name) (string_bytes value)
    → map entry_bytes (if same then (e.0, value) ∷ es else e ∷ insert_entry string_eq es name value)
    ≡ (if same then (string_bytes e.0, string_bytes value) ∷ map entry_bytes es
    else entry_bytes e ∷ given (map entry_bytes es) (string_bytes name) (string_bytes value))
one_entry e es name value true others = refl
one_entry e es name value false others = ap (λ (ps : List (List ℕ × List ℕ)). entry_bytes e ∷ ps) others

-- What a map of texts does when a pair is put into it.
pub entries_given : {A : Type 0} (es : List (String A × String A)) (name value : String A)
    → map entry_bytes (insert_entry string_eq es name value)
    ≡ given (map entry_bytes es) (string_bytes name) (string_bytes value)
entries_given [] name value = refl
entries_given (e ∷ es) name value = one_entry e es name value (string_eq name e.0) (entries_given es name value)

-- The next pair of a form is put in, decoded.
pub next_given : {A E : Type 0} (wanted done left rest : List (List ℕ × List ℕ)) (raw_name raw_value : List ℕ)
    → (item : Result (String A × String A) E) (pair : String A × String A) → left ≡ (raw_name, raw_value) ∷ rest
    → item ≡ Ok pair
    → IfOk item (λ p. DecodesTo raw_name (string_bytes p.0) × DecodesTo raw_value (string_bytes p.1))
    → given_all done (map decoded_pair left) ≡ wanted
    → given_all (given done (string_bytes pair.0) (string_bytes pair.1)) (map decoded_pair rest) ≡ wanted
next_given wanted done left rest raw_name raw_value item pair split is_ok is_decoded all =
    let told = subst (λ r. IfOk r (λ p. DecodesTo raw_name (string_bytes p.0) × DecodesTo raw_value (string_bytes p.1)))
    is_ok is_decoded in
    ap (λ (n : List ℕ). given_all (given done n (string_bytes pair.1)) (map decoded_pair rest)) told.0.2
    ∙ ap (λ (v : List ℕ). given_all (given done (decoded raw_name) v) (map decoded_pair rest)) told.1.2
    ∙ sym (ap (λ (ps : List (List ℕ × List ℕ)). given_all done (map decoded_pair ps)) split)
    ∙ all

-- The next entry of a map becomes a parameter.
pub params_more : {A : Type 0} (done : List (Value × Value)) (left rest : List (String A × String A))
    → (e : String A × String A) → left ≡ e ∷ rest
    → (done ++ param (entry_bytes e) ∷ []) ++ map param (map entry_bytes rest)
    ≡ done ++ map param (map entry_bytes left)
params_more done left rest e split =
    append_assoc done (param (entry_bytes e) ∷ []) (map param (map entry_bytes rest))
    ∙ sym (ap (λ l. done ++ map param (map entry_bytes l)) split)

-- ---- each name once

one_first : (n v : List ℕ) (p : List ℕ × List ℕ) (done rest : List (List ℕ × List ℕ)) (same : Bool)
    → ((u : List ℕ) → given_all ((n, u) ∷ done) rest ≡ (n, last_value n u rest) ∷ given_all done (without n rest))
    → (given_all ((n, v) ∷ given done p.0 p.1) rest
    ≡ (n, last_value n v rest) ∷ given_all (given done p.0 p.1) (without n rest))
    → given_all (if same then (n, p.1) ∷ done else (n, v) ∷ given done p.0 p.1) rest
    ≡ (n, last_value n (if same then p.1 else v) rest)
    ∷ given_all done (if same then without n rest else p ∷ without n rest)
one_first n v p done rest true here there = here p.1
one_first n v p done rest false here there = there

-- The first pair keeps its place; later pairs of its name give it their value, and the others go on without it.
pub first_stays : (n v : List ℕ) (done pairs : List (List ℕ × List ℕ))
    → given_all ((n, v) ∷ done) pairs ≡ (n, last_value n v pairs) ∷ given_all done (without n pairs)
first_stays n v done [] = refl
first_stays n v done (p ∷ rest) =
    one_first n v p done rest (bytes_eq p.0 n) (λ u. first_stays n u done rest)
    (first_stays n v (given done p.0 p.1) rest)

without_cons : (n : List ℕ) (p : List ℕ × List ℕ) (ps : List (List ℕ × List ℕ)) (b : Bool) → bytes_eq p.0 n ≡ b
    → without n (p ∷ ps) ≡ (if b then without n ps else p ∷ without n ps)
without_cons n p ps b e = ap (λ (x : Bool). if x then without n ps else p ∷ without n ps) e

given_cons : (p : List ℕ × List ℕ) (ps : List (List ℕ × List ℕ)) (m w : List ℕ) (a : Bool) → bytes_eq m p.0 ≡ a
    → given (p ∷ ps) m w ≡ (if a then (p.0, w) ∷ ps else p ∷ given ps m w)
given_cons p ps m w a e = ap (λ (x : Bool). if x then (p.0, w) ∷ ps else p ∷ given ps m w) e

one_without : (n m w : List ℕ) (p : List ℕ × List ℕ) (ps : List (List ℕ × List ℕ)) (a b c : Bool)
    → bytes_eq m p.0 ≡ a → bytes_eq p.0 n ≡ b → (a ≡ true → c ≡ b)
    → without n (given ps m w) ≡ (if c then without n ps else given (without n ps) m w)
    → without n (if a then (p.0, w) ∷ ps else p ∷ given ps m w)
    ≡ (if c then (if b then without n ps else p ∷ without n ps)
    else given (if b then without n ps else p ∷ without n ps) m w)
one_without n m w p ps true true true ea eb same others = without_cons n (p.0, w) ps true eb
one_without n m w p ps true true false ea eb same others = absurd (false≢true (same refl))
one_without n m w p ps true false true ea eb same others = absurd (false≢true (sym (same refl)))
one_without n m w p ps true false false ea eb same others =
    without_cons n (p.0, w) ps false eb ∙ sym (given_cons p (without n ps) m w true ea)
one_without n m w p ps false true true ea eb same others = without_cons n p (given ps m w) true eb ∙ others
one_without n m w p ps false true false ea eb same others = without_cons n p (given ps m w) true eb ∙ others
one_without n m w p ps false false true ea eb same others =
    without_cons n p (given ps m w) false eb ∙ ap (λ (x : List (List ℕ × List ℕ)). p ∷ x) others
one_without n m w p ps false false false ea eb same others =
    without_cons n p (given ps m w) false eb ∙ ap (λ (x : List (List ℕ × List ℕ)). p ∷ x) others
    ∙ sym (given_cons p (without n ps) m w false ea)

-- A pair of the name is left out wherever it was put in.
pub without_given : (n m w : List ℕ) (done : List (List ℕ × List ℕ))
    → without n (given done m w) ≡ (if bytes_eq m n then without n done else given (without n done) m w)
without_given n m w [] = refl
without_given n m w (p ∷ ps) =
    one_without n m w p ps (bytes_eq m p.0) (bytes_eq p.0 n) (bytes_eq m n) refl refl
    (λ e. ap (λ (x : List ℕ). bytes_eq x n) ((bytes_eq-Decides m p.0).0 e)) (without_given n m w ps)

one_left : (n : List ℕ) (p : List ℕ × List ℕ) (done rest : List (List ℕ × List ℕ)) (b : Bool)
    → given_all (if b then without n done else given (without n done) p.0 p.1) (without n rest)
    ≡ given_all (without n done) (if b then without n rest else p ∷ without n rest)
one_left n p done rest true = refl
one_left n p done rest false = refl

-- Pairs of a name can be left out before or after all are put in.
pub without_given_all : (n : List ℕ) (done pairs : List (List ℕ × List ℕ))
    → without n (given_all done pairs) ≡ given_all (without n done) (without n pairs)
without_given_all n done [] = refl
without_given_all n done (p ∷ rest) =
    without_given_all n (given done p.0 p.1) rest
    ∙ ap (λ (x : List (List ℕ × List ℕ)). given_all x (without n rest)) (without_given n p.0 p.1 done)
    ∙ one_left n p done rest (bytes_eq p.0 n)

-- All pairs of a form, put in one after another, are each name once.
pub given_is_each_once : (pairs : List (List ℕ × List ℕ)) → given_all [] pairs ≡ each_once pairs
given_is_each_once [] = refl
given_is_each_once (p ∷ rest) =
    first_stays p.0 p.1 [] rest
    ∙ ap (λ (x : List (List ℕ × List ℕ)). (p.0, last_value p.0 p.1 rest) ∷ x)
    (sym (without_given_all p.0 [] rest) ∙ ap (without p.0) (given_is_each_once rest))

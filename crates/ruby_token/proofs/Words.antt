-- Fronts of lists.
use Rattle.std.proofs.Common.{◌≡◌, ℕ, ◌≤◌, List, [], ◌∷◌, ◌++◌, length, refl, ap, sym, drop, arith, true, false, Bool}
use Rattle.std.proofs.Common.{if◌then◌else◌}
use Rattle.std.specs.List.{prefix_len}
use Rattle.ruby_token.specs.Bytes.{Every}

-- what holds of both branches, each under its test, holds of the whole choice
pub split_if : {A : Type 0} (P : A → Type 0) (b : Bool) (x y : A) → (b ≡ true → P x) → (b ≡ false → P y) →
    P (if b then x else y)
split_if P true x y h g = h refl
split_if P false x y h g = g refl

-- where the longest front that passes ends
pub record Front (p : ℕ → Bool) (bs : List ℕ) : Type 0 where
  pub text : List ℕ
  pub rest : List ℕ
  pub whole : bs ≡ text ++ rest
  pub size : prefix_len p bs ≡ length text
  pub every : Every p text

front_more : (p : ℕ → Bool) (b : ℕ) (bs : List ℕ) (v : Bool) → v ≡ p b → Front p bs → Front p (b ∷ bs)
front_more p b bs true e f = record {
  text = b ∷ f.text;
  rest = f.rest;
  whole = ap (λ x. b ∷ x) f.whole;
  size = (let h : p b ≡ true = sym e in let g : prefix_len p bs ≡ length f.text = f.size in rw h (omega (arith, g)));
  every = (sym e, f.every);
}
front_more p b bs false e f = record {
  text = [];
  rest = b ∷ bs;
  whole = refl;
  size = (let h : p b ≡ false = sym e in rw h refl);
  every = tt;
}

-- splits bytes into the longest front of which each byte passes, and the rest
pub front : (p : ℕ → Bool) (bs : List ℕ) → Front p bs
front p [] = record { text = []; rest = []; whole = refl; size = refl; every = tt }
front p (b ∷ bs) = front_more p b bs (p b) refl (front p bs)

-- a front that passes is no longer than the longest
pub at_most : (p : ℕ → Bool) (t r : List ℕ) → Every p t → length t ≤ prefix_len p (t ++ r)
at_most p [] r h = omega arith
at_most p (b ∷ t) r h =
    let g : p b ≡ true = h.0 in
    let i : length t ≤ prefix_len p (t ++ r) = at_most p t r h.1 in
    rw g (omega arith)

-- where what follows doesn't pass, it's the longest
pub exactly : (p : ℕ → Bool) (t : List ℕ) (q : ℕ) (r : List ℕ) → Every p t → p q ≡ false →
    prefix_len p (t ++ q ∷ r) ≡ length t
exactly p [] q r h n = rw n refl
exactly p (b ∷ t) q r h n =
    let g : p b ≡ true = h.0 in
    let i : prefix_len p (t ++ q ∷ r) ≡ length t = exactly p t q r h.1 n in
    rw g (omega (arith, i))

-- what is left behind the front is the rest
pub drop_front : (t r : List ℕ) → drop (length t) (t ++ r) ≡ r
drop_front [] r = refl
drop_front (b ∷ t) r = drop_front t r

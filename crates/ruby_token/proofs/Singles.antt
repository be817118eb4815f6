-- Text in single quotes: how far the scan goes is how far plain text may go.
use Rattle.std.proofs.Common.{◌≡◌, ℕ, suc, ◌≤◌, List, [], ◌∷◌, ◌++◌, length, refl, ap, sym, ◌∙◌, arith, true, false}
use Rattle.std.proofs.Common.{Bool, subst, inl, inr, ◌⊎◌, ◌==◌}
use Rattle.std.proofs.lemmas.Bool.Decides.{nat_tests}
use Rattle.ruby_token.specs.Bytes.{is_single_escape, next_passes}
use Rattle.ruby_token.specs.Lexemes.{Single, nothing_single, byte_single, escape_single, backslash}
use Rattle.ruby_token.specs.Lengths.{single_from}

cases : {P : Type 0} (b : Bool) → (b ≡ true → P) → (b ≡ false → P) → P
cases true h g = h refl
cases false h g = g refl

no_quote : (b : ℕ) → is_single_escape b ≡ false → ((b == 39) ≡ false) × ((b == 92) ≡ false)
no_quote b h = (
  let e : (b == 39) ≡ false = grind (arith, nat_tests) in e,
  let e : (b == 92) ≡ false =
      grind (arith, nat_tests) in e,
)

len_byte : (b : ℕ) (x : List ℕ) → is_single_escape b ≡ false → single_from false (b ∷ x) ≡ suc (single_from false x)
len_byte b x h = let n = no_quote b h in let n0 : (b == 39) ≡ false = n.0 in let n1 : (b == 92) ≡ false = n.1 in
    rw (n0, n1) refl

-- a backslash escapes nothing before a byte that it doesn't escape
len_lone : (x : List ℕ) → next_passes is_single_escape x ≡ false → single_from true x ≡ single_from false x
len_lone [] h = refl
len_lone (b ∷ x) h = sym (len_byte b x h)

-- plain text in single quotes is no longer than the scan goes
pub single_longest : (t r : List ℕ) → Single t r → length t ≤ single_from false (t ++ r)
single_longest t r nothing_single = omega arith
single_longest t r (byte_single {b = b} {t = u} h p) =
    let i : length u ≤ single_from false (u ++ r) = single_longest u r p in
    rw (len_byte b (u ++ r) h) (omega arith)
single_longest t r (escape_single {e = e} {t = u} h p) =
    let i : length u ≤ single_from false (u ++ r) = single_longest u r p in
    omega (arith, i)
single_longest t r (backslash {t = u} h p) =
    let i : length u ≤ single_from false (u ++ r) = single_longest u r p in
    let e : single_from true (u ++ r) ≡ single_from false (u ++ r) = len_lone (u ++ r) h in
    rw e (omega arith)

pub record SingleAt (bs : List ℕ) : Type 0 where
  pub text : List ℕ
  pub rest : List ℕ
  pub whole : bs ≡ text ++ rest
  pub size : single_from false bs ≡ length text
  pub plain : Single text rest

none_at : (b : ℕ) (bs : List ℕ) → b ≡ 39 → SingleAt (b ∷ bs)
none_at b bs e = record { text = []; rest = b ∷ bs; whole = refl; size = rw e refl; plain = nothing_single }

byte_at : (b : ℕ) (bs : List ℕ) → is_single_escape b ≡ false → SingleAt bs → SingleAt (b ∷ bs)
byte_at b bs h f = record {
  text = b ∷ f.text;
  rest = f.rest;
  whole = ap (λ x. b ∷ x) f.whole;
  size = len_byte b bs h
      ∙ ap suc f.size;
  plain = byte_single h f.plain;
}

lone_at : (bs : List ℕ) → next_passes is_single_escape bs ≡ false → SingleAt bs → SingleAt (92 ∷ bs)
lone_at bs h f =
    let h' : next_passes is_single_escape (f.text ++ f.rest) ≡ false = ap (next_passes is_single_escape)
    (sym f.whole) ∙ h in
    let z : single_from false (92 ∷ bs) ≡ suc (single_from true bs) = refl in
    record {
      text = 92 ∷ f.text;
      rest = f.rest;
      whole = ap (λ x. 92 ∷ x) f.whole;
      size = z
          ∙ ap suc (len_lone bs h ∙ f.size);
      plain = backslash h' f.plain;
    }

escaped_at : (e : ℕ) (bs : List ℕ) → is_single_escape e ≡ true → SingleAt bs → SingleAt (92 ∷ e ∷ bs)
escaped_at e bs h f =
    let z : single_from false (92 ∷ e ∷ bs) ≡ suc (suc (single_from false bs)) = refl in
    record {
      text = 92 ∷ e ∷ f.text;
      rest = f.rest;
      whole = ap (λ x. 92 ∷ e ∷ x) f.whole;
      size = z
          ∙ ap (λ x. suc (suc x)) f.size;
      plain = escape_single h f.plain;
    }

escape_is : (b : ℕ) → is_single_escape b ≡ true → (b ≡ 39) ⊎ (b ≡ 92)
escape_is b h = grind (arith, nat_tests)

one_at : (b : ℕ) → SingleAt (b ∷ [])
one_at b =
    let f : SingleAt [] = record { text = []; rest = []; whole = refl; size = refl; plain = nothing_single } in
    cases (is_single_escape b)
    (λ h. elim (escape_is b h) [
      | inl e ↦ none_at b [] e
      | inr e ↦ subst (λ x. SingleAt (x ∷ [])) (sym e) (lone_at [] refl f)
    ])
    (λ h. byte_at b [] h f)

two_at : (b e : ℕ) (bs : List ℕ) → SingleAt (e ∷ bs) → SingleAt bs → SingleAt (b ∷ e ∷ bs)
two_at b e bs f g =
    cases (is_single_escape b)
    (λ h. elim (escape_is b h) [
      | inl q ↦ none_at b (e ∷ bs) q
      | inr q ↦ subst (λ x. SingleAt (x ∷ e ∷ bs)) (sym q)
          (cases (is_single_escape e) (λ k. escaped_at e bs k g) (λ k. lone_at (e ∷ bs) k f))
    ])
    (λ h. byte_at b (e ∷ bs) h f)

-- what the scan goes over is plain text in single quotes
pub single_at : (bs : List ℕ) → SingleAt bs
single_at [] = record { text = []; rest = []; whole = refl; size = refl; plain = nothing_single }
single_at (b ∷ []) = one_at b
single_at (b ∷ e ∷ bs) = two_at b e bs (single_at (e ∷ bs)) (single_at bs)

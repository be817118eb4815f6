-- Runs of line ends: how far the scan goes is how far a run may go.
use Rattle.std.proofs.Common.{◌≡◌, ℕ, zero, suc, ◌+◌, ◌<◌, ◌≤◌, List, [], ◌∷◌, ◌++◌, length, refl, ap, sym, ◌∙◌, arith}
use Rattle.std.proofs.Common.{true, false, Bool, subst, append_assoc, inl, inr, ◌⊎◌, ◌==◌, length-append}
use Rattle.std.proofs.lemmas.Bool.{eqb-true}
use Rattle.std.proofs.lemmas.Bool.Decides.{nat_tests}
use Rattle.ruby_token.specs.Bytes.{Every, is_white, not_lf}
use Rattle.ruby_token.specs.Lexemes.{ends_line, is_between, Ends, last_end, more_ends, white_before, comment_before}
use Rattle.ruby_token.specs.Lengths.{one_more, lines_len, reach}

-- ---- what the scan keeps

-- where a line end is passed the run's length counts from behind it; keeps the invariant of the scan
pub reach_end : (n last k : ℕ) → reach (n + 1) (n + 1) k ≡ reach n last (suc k)
reach_end n last zero = omega arith
reach_end n last (suc k) = omega arith

-- where white or a comment is passed the run's length stays that up to the last line end, unless one follows
pub reach_more : (n last k : ℕ) → reach (n + 1) last k ≡ reach n last (one_more k)
reach_more n last zero = refl
reach_more n last (suc k) = omega arith

-- ---- one byte of the scan

-- white is a space, TAB or CR: splits the class into its bytes
pub white_is : (b : ℕ) → is_white b ≡ true → ((b ≡ 32) ⊎ (b ≡ 9)) ⊎ (b ≡ 13)
white_is b h = grind (arith, nat_tests)

ends_bracket : (b : ℕ) → ends_line true b ≡ true → b ≡ 59
ends_bracket b h = grind (arith, nat_tests)

ends_plain : (b : ℕ) → ends_line false b ≡ true → (b ≡ 59) ⊎ (b ≡ 10)
ends_plain b h = grind (arith, nat_tests)

between_bracket : (b : ℕ) → is_between true b ≡ true → (is_white b ≡ true) ⊎ (b ≡ 10)
between_bracket b h = grind (arith, nat_tests)

between_plain : (b : ℕ) → is_between false b ≡ true → is_white b ≡ true
between_plain b h = grind (arith, nat_tests)

len_end : (v : Bool) (b : ℕ) (x : List ℕ) → ends_line v b ≡ true → lines_len v false (b ∷ x) ≡ suc (lines_len v false x)
len_end true b x h = rw (ends_bracket b h) refl
len_end false b x h = elim (ends_plain b h) [ inl e ↦ rw e refl | inr e ↦ rw e refl ]

len_white : (v : Bool) (b : ℕ) (x : List ℕ) → is_white b ≡ true →
    lines_len v false (b ∷ x) ≡ one_more (lines_len v false x)
len_white v b x h = elim (white_is b h) [
  | inl e ↦ elim e [ inl e' ↦ rw e' refl | inr e' ↦ rw e' refl ]
  | inr e' ↦ rw e' refl
]

len_between : (v : Bool) (b : ℕ) (x : List ℕ) → is_between v b ≡ true →
    lines_len v false (b ∷ x) ≡ one_more (lines_len v false x)
len_between true b x h = elim (between_bracket b h) [ inl e ↦ len_white true b x e | inr e ↦ rw e refl ]
len_between false b x h = len_white false b x (between_plain b h)

len_hash : (v : Bool) (x : List ℕ) → lines_len v false (35 ∷ x) ≡ one_more (lines_len v true x)
len_hash v x = refl

len_inside : (v : Bool) (b : ℕ) (x : List ℕ) → not_lf b ≡ true →
    lines_len v true (b ∷ x) ≡ one_more (lines_len v true x)
len_inside v b x h = rw h refl

len_lf : (v : Bool) (x : List ℕ) → lines_len v true (10 ∷ x) ≡ lines_len v false (10 ∷ x)
len_lf v x = refl

-- ---- a run is no longer than the scan goes

ends_some : (v : Bool) (t : List ℕ) → Ends v t → 0 < length t
ends_some v t (last_end h) = omega arith
ends_some v t (more_ends h e) = omega arith
ends_some v t (white_before h e) = omega arith
ends_some v t (comment_before c h e) = omega arith

more_than : (k n : ℕ) → 0 < n → n ≤ k → suc n ≤ one_more k
more_than zero n h g = absurd (omega arith)
more_than (suc k) n h g = omega arith

comment_len : (v : Bool) (c x : List ℕ) (n : ℕ) → Every not_lf c → 0 < n → n ≤ lines_len v false (10 ∷ x) →
    length c + n ≤ lines_len v true (c ++ 10 ∷ x)
comment_len v [] x n h p g = rw (len_lf v x) (omega arith)
comment_len v (b ∷ c) x n h p g =
    let i : length c + n ≤ lines_len v true (c ++ 10 ∷ x) = comment_len v c x n h.1 p g in
    let j : suc (length c + n) ≤ one_more (lines_len v true (c ++ 10 ∷ x)) = more_than _ _ (omega arith) i in
    rw (len_inside v b (c ++ 10 ∷ x) h.0) (omega arith)

-- a run of line ends is no longer than the scan goes
pub run_len : (v : Bool) (t r : List ℕ) → Ends v t → length t ≤ lines_len v false (t ++ r)
run_len v t r (last_end {b = b} h) = rw (len_end v b r h) (omega arith)
run_len v t r (more_ends {b = b} {t = u} h e) =
    let i : length u ≤ lines_len v false (u ++ r) = run_len v u r e in
    rw (len_end v b (u ++ r) h) (omega arith)
run_len v t r (white_before {b = b} {t = u} h e) =
    let i : length u ≤ lines_len v false (u ++ r) = run_len v u r e in
    rw (len_between v b (u ++ r) h) (more_than _ _ (ends_some v u e) i)
run_len v t r (comment_before {t = u} c h e) =
    let i : suc (length u) ≤ lines_len v false (10 ∷ (u ++ r)) = run_len v (10 ∷ u) r e in
    let a : (c ++ 10 ∷ u) ++ r ≡ c ++ 10 ∷ (u ++ r) = append_assoc c (10 ∷ u) r in
    let j : length c + suc (length u) ≤ lines_len v true (c ++ 10 ∷ (u ++ r)) =
    comment_len v c (u ++ r) (suc (length u)) h (omega arith) i in
    let l : length (c ++ 10 ∷ u) ≡ length c + suc (length u) = length-append c (10 ∷ u) in
    rw (a, len_hash v (c ++ 10 ∷ (u ++ r)), l) (more_than _ _ (omega arith) j)

-- ---- what the scan goes over is a run

record Commented (v : Bool) (t : List ℕ) : Type 0 where
  pub comment : List ℕ
  pub back : List ℕ
  pub joined : t ≡ comment ++ 10 ∷ back
  pub every : Every not_lf comment
  pub ends : Ends v (10 ∷ back)

abbrev Tail : Bool → Bool → List ℕ → Type 0
Tail v c [] = Unit {0}
Tail v false (b ∷ t) = Ends v (b ∷ t)
Tail v true (b ∷ t) = Commented v (b ∷ t)

record RunIn (v c : Bool) (bs : List ℕ) : Type 0 where
  pub text : List ℕ
  pub rest : List ℕ
  pub whole : bs ≡ text ++ rest
  pub size : lines_len v c bs ≡ length text
  pub tail : Tail v c text

cases : {P : Type 0} (b : Bool) → (b ≡ true → P) → (b ≡ false → P) → P
cases true h g = h refl
cases false h g = g refl

no_run : (v c : Bool) (bs : List ℕ) → lines_len v c bs ≡ 0 → RunIn v c bs
no_run v c bs e = record { text = []; rest = bs; whole = refl; size = e; tail = tt }

-- a byte that counts where a line end follows
grown : (v c c' : Bool) (b : ℕ) (bs t r : List ℕ) → lines_len v c (b ∷ bs) ≡ one_more (lines_len v c' bs) →
    bs ≡ t ++ r → lines_len v c' bs ≡ length t → Tail v c' t →
    ((u : List ℕ) → 0 < length u → Tail v c' u → Tail v c (b ∷ u)) → RunIn v c (b ∷ bs)
grown v c c' b bs [] r e w z h f = no_run v c (b ∷ bs) (e ∙ ap one_more z)
grown v c c' b bs (d ∷ t) r e w z h f = record {
  text = b ∷ d ∷ t;
  rest = r;
  whole = ap (λ x. b ∷ x) w;
  size = e
      ∙ ap one_more z;
  tail = f (d ∷ t) (omega arith) h;
}

white_on : (v : Bool) (b : ℕ) → is_between v b ≡ true → (u : List ℕ) → 0 < length u → Tail v false u →
    Tail v false (b ∷ u)
white_on v b h [] p e = absurd (omega arith)
white_on v b h (d ∷ u) p e = white_before h e

comment_on : (v : Bool) (u : List ℕ) → 0 < length u → Tail v true u → Tail v false (35 ∷ u)
comment_on v [] p e = absurd (omega arith)
comment_on v (d ∷ u) p e = subst (λ x. Ends v (35 ∷ x)) (sym e.joined) (comment_before e.comment e.every e.ends)

inside_on : (v : Bool) (b : ℕ) → not_lf b ≡ true → (u : List ℕ) → 0 < length u → Tail v true u → Tail v true (b ∷ u)
inside_on v b h [] p e = absurd (omega arith)
inside_on v b h (d ∷ u) p e = record {
  comment = b ∷ e.comment;
  back = e.back;
  joined = ap (λ x. b ∷ x) e.joined;
  every = (h, e.every);
  ends = e.ends;
}

end_tail : (v : Bool) (b : ℕ) (t : List ℕ) → ends_line v b ≡ true → Tail v false t → Tail v false (b ∷ t)
end_tail v b [] h e = last_end h
end_tail v b (d ∷ t) h e = more_ends h e

none_on : (v : Bool) (b : ℕ) (bs : List ℕ) → ends_line v b ≡ false → is_between v b ≡ false → (b == 35) ≡ false →
    lines_len v false (b ∷ bs) ≡ 0
none_on v b bs h g i = rw (h, g, i) refl

run_outside : (v : Bool) (b : ℕ) (bs : List ℕ) → RunIn v false bs → RunIn v true bs → RunIn v false (b ∷ bs)
run_outside v b bs f g =
    cases (ends_line v b)
    (λ h. record {
      text = b ∷ f.text;
      rest = f.rest;
      whole = ap (λ x. b ∷ x) f.whole;
      size = len_end v b bs h
          ∙ ap suc f.size;
      tail = end_tail v b f.text h f.tail;
    })
    (λ h1. cases (is_between v b)
    (λ h. grown v false false b bs f.text f.rest (len_between v b bs h) f.whole f.size f.tail (white_on v b h))
    (λ h2. cases (b == 35)
    (λ h. let e : b ≡ 35 = eqb-true b 35 h in
    subst (λ x. RunIn v false (x ∷ bs)) (sym e)
    (grown v false true 35 bs g.text g.rest (len_hash v bs) g.whole g.size g.tail (comment_on v)))
    (λ h3. no_run v false (b ∷ bs) (none_on v b bs h1 h2 h3))))

lf_tail : (v : Bool) (bs t r : List ℕ) → 10 ∷ bs ≡ t ++ r → Tail v false t → Tail v true t
lf_tail v bs [] r w e = tt
lf_tail v bs (d ∷ t) r w e =
    let z : d ≡ 10 = (cc) in
    record { comment = []; back = t; joined = ap (λ x. x ∷ t) z; every = tt; ends = subst (λ x. Ends v (x ∷ t)) z e }

run_comment : (v : Bool) (b : ℕ) (bs : List ℕ) → RunIn v false bs → RunIn v true bs → RunIn v true (b ∷ bs)
run_comment v b bs f g =
    cases (b == 10)
    (λ h. let e : b ≡ 10 = eqb-true b 10 h in
    let k = run_outside v 10 bs f g in
    subst (λ x. RunIn v true (x ∷ bs)) (sym e)
    (record {
      text = k.text;
      rest = k.rest;
      whole = k.whole;
      size = len_lf v bs
          ∙ k.size;
      tail = lf_tail v bs k.text k.rest k.whole k.tail;
    }))
    (λ h. let n : not_lf b ≡ true = rw h refl in
    grown v true true b bs g.text g.rest (len_inside v b bs n) g.whole g.size g.tail (inside_on v b n))

run_in : (v c : Bool) (bs : List ℕ) → RunIn v c bs
run_in v true [] = no_run v true [] refl
run_in v false [] = no_run v false [] refl
run_in v true (b ∷ bs) = run_comment v b bs (run_in v false bs) (run_in v true bs)
run_in v false (b ∷ bs) = run_outside v b bs (run_in v false bs) (run_in v true bs)

-- no line end follows, or this run of them
pub record RunAt (v : Bool) (bs : List ℕ) : Type 0 where
  pub text : List ℕ
  pub rest : List ℕ
  pub whole : bs ≡ text ++ rest
  pub size : lines_len v false bs ≡ length text
  pub run : (text ≡ []) ⊎ (Ends v text)

run_of : (v : Bool) (t : List ℕ) → Tail v false t → (t ≡ []) ⊎ (Ends v t)
run_of v [] e = inl refl
run_of v (b ∷ t) e = inr e

-- what the scan goes over is a run of line ends, or nothing
pub run_at : (v : Bool) (bs : List ℕ) → RunAt v bs
run_at v bs = let f = run_in v false bs in
    record { text = f.text; rest = f.rest; whole = f.whole; size = f.size; run = run_of v f.text f.tail }

-- Lists of items and their words and marks.
use Rattle.std.proofs.Common.{◌≡◌, ◌⊎◌, inl, inr, List, [], ◌∷◌, ◌++◌, refl, ap, ◌∙◌, append_assoc}
use Rattle.descent.specs.Grammar.{Signs, Grammar, Item, word, marked, words, marks_after, Clear}

-- the next word is the same, or both end
pub data SameHead {A : Type 0} : List A → List A → Type 0 where
  same_end : SameHead [] []
  same_word : {w : A} {xs ys : List A} → SameHead (w ∷ xs) (w ∷ ys)

-- lists that begin with the same word, or are both empty, still do behind a common front
pub heads : {A : Type 0} (l : List A) {r r' : List A} → SameHead r r' → SameHead (l ++ r) (l ++ r')
heads [] h = h
heads (t ∷ l) h = same_word

-- equal lists begin with the same element
pub same_first : {A : Type 0} (t u : A) (ts us : List A) → t ∷ ts ≡ u ∷ us → t ≡ u
same_first t u ts us e = cc

-- equal lists go on alike behind their first elements
pub same_others : {A : Type 0} (t u : A) (ts us : List A) → t ∷ ts ≡ u ∷ us → ts ≡ us
same_others t u ts us e = cc

-- an item of two lists is one of the first or of the second
pub split : {A : Type 0} (us vs b c : List A) (t : A) → us ++ vs ≡ b ++ t ∷ c → ((d : List A) × (us ≡ b ++ t ∷ d))
    ⊎ ((d : List A) × (b ≡ us ++ d) × (vs ≡ d ++ t ∷ c))
split [] vs b c t e = inr (b, refl, e)
split (u ∷ us) vs [] c t e = inl (us, ap (λ z. z ∷ us) (same_first u t _ _ e))
split (u ∷ us) vs (x ∷ b) c t e =
    let h = same_first u x _ _ e in
    elim (split us vs b c t (same_others u x _ _ e)) [
      | inl p ↦ inl (p.0, rw (h, p.1) refl)
      | inr p ↦ inr (p.0, rw (h, p.1) refl, p.2)
    ]

module _ {g : Signs} where
  -- the words of two parts are those of the first and then those of the second
  pub words_append : (us vs : List (Item g)) → words (us ++ vs) ≡ words us ++ words vs
  words_append [] vs = refl
  words_append (word w ∷ us) vs = ap (λ l. w ∷ l) (words_append us vs)
  words_append (marked m ∷ us) vs = words_append us vs

  -- the marks met behind two parts are those met in the second part behind those met in the first
  pub marks_append : (ms : List g.Mark) (us vs : List (Item g)) →
      marks_after ms (us ++ vs) ≡ marks_after (marks_after ms us) vs
  marks_append ms [] vs = refl
  marks_append ms (word w ∷ us) vs = marks_append ms us vs
  marks_append ms (marked m ∷ us) vs = marks_append (m ∷ ms) us vs

  -- the words of two parts, and what stands behind them
  pub words_before : (us vs : List (Item g)) (rest : List g.Word) →
      words (us ++ vs) ++ rest ≡ words us ++ (words vs ++ rest)
  words_before us vs rest = ap (λ l. l ++ rest) (words_append us vs) ∙ append_assoc (words us) (words vs) rest

  -- where no mark of the whole clashes, none of its first part does
  pub clear_first : (grammar : Grammar g) (ms : List g.Mark) (us vs : List (Item g)) → Clear grammar ms (us ++ vs) →
      Clear grammar ms us
  clear_first grammar ms [] vs c = tt
  clear_first grammar ms (word w ∷ us) vs c = clear_first grammar ms us vs c
  clear_first grammar ms (marked m ∷ us) vs c = (c.0, clear_first grammar (m ∷ ms) us vs c.1)

  -- where no mark of the whole clashes, none of its second part does, behind the marks of the first
  pub clear_second : (grammar : Grammar g) (ms : List g.Mark) (us vs : List (Item g)) → Clear grammar ms (us ++ vs) →
      Clear grammar (marks_after ms us) vs
  clear_second grammar ms [] vs c = c
  clear_second grammar ms (word w ∷ us) vs c = clear_second grammar ms us vs c
  clear_second grammar ms (marked m ∷ us) vs c = clear_second grammar (m ∷ ms) us vs c.1

  -- parts without a clash, the second behind the marks of the first, make a whole without one
  pub clear_both : (grammar : Grammar g) (ms : List g.Mark) (us vs : List (Item g)) → Clear grammar ms us →
      Clear grammar (marks_after ms us) vs → Clear grammar ms (us ++ vs)
  clear_both grammar ms [] vs c d = d
  clear_both grammar ms (word w ∷ us) vs c d = clear_both grammar ms us vs c d
  clear_both grammar ms (marked m ∷ us) vs c d = (c.0, clear_both grammar (m ∷ ms) us vs c.1 d)

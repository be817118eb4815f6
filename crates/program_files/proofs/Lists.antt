-- Members of lists that are made of others.
use Rattle.std.proofs.Common.{◌≡◌, ◌⊎◌, Bool, true, false, cond, List, [], ◌∷◌, ◌++◌, map, filter, flat_map, Some}
use Rattle.std.proofs.Common.{find, inl, inr, refl, sym, ap, ◌∙◌, subst}
use Rattle.std.proofs.lemmas.Bool.{false≢true}
use Rattle.program_files.specs.Members.{Among}

module _ {A : Type 0} where
  -- a member of the first list is one of the joined list
  pub among_left : (a : A) (xs ys : List A) → Among a xs → Among a (xs ++ ys)
  among_left a [] ys h = absurd h
  among_left a (x ∷ xs) ys (inl e) = inl e
  among_left a (x ∷ xs) ys (inr h) = inr (among_left a xs ys h)

  -- a member of the second list is one of the joined list
  pub among_right : (a : A) (xs ys : List A) → Among a ys → Among a (xs ++ ys)
  among_right a [] ys h = h
  among_right a (x ∷ xs) ys h = inr (among_right a xs ys h)

  -- a member of a joined list is one of either
  pub among_cases : (a : A) (xs ys : List A) → Among a (xs ++ ys) → Among a xs ⊎ Among a ys
  among_cases a [] ys h = inr h
  among_cases a (x ∷ xs) ys (inl e) = inl (inl e)
  among_cases a (x ∷ xs) ys (inr h) = elim (among_cases a xs ys h) [ inl k ↦ inl (inr k) | inr k ↦ inr k ]

  filtered_at : (test : A → Bool) (a x : A) (xs : List A) (b : Bool) → test x ≡ b → test a ≡ true
      → (a ≡ x) ⊎ Among a (filter test xs) → Among a (cond b (x ∷ filter test xs) (filter test xs))
  filtered_at test a x xs true e k h = h
  filtered_at test a x xs false e k (inl q) = let z : false ≡ true = sym e ∙ ap test (sym q) ∙ k in
      absurd (false≢true z)
  filtered_at test a x xs false e k (inr h) = h

  -- a member that passes a test is kept by it
  pub among_filter : (test : A → Bool) (a : A) (xs : List A) → Among a xs → test a ≡ true → Among a (filter test xs)
  among_filter test a [] h k = absurd h
  among_filter test a (x ∷ xs) (inl e) k = filtered_at test a x xs (test x) refl k (inl e)
  among_filter test a (x ∷ xs) (inr h) k = filtered_at test a x xs (test x) refl k (inr (among_filter test a xs h k))

  found_at : (test : A → Bool) (a x : A) (xs : List A) (b : Bool) → test x ≡ b
      → (find test xs ≡ Some a → Among a xs × (test a ≡ true)) → cond b (Some x) (find test xs) ≡ Some a
      → ((a ≡ x) ⊎ Among a xs) × (test a ≡ true)
  found_at test a x xs true e ih h = let same : x ≡ a = cc in (inl (sym same), subst (λ y. test y ≡ true) same e)
  found_at test a x xs false e ih h = let i = ih h in (inr i.0, i.1)

  -- what is found is one of the list, and passes
  pub found : (test : A → Bool) (a : A) (xs : List A) → find test xs ≡ Some a → Among a xs × (test a ≡ true)
  found test a [] h = absurd cc
  found test a (x ∷ xs) h = found_at test a x xs (test x) refl (found test a xs) h

module _ {A B : Type 0} where
  -- what one member gives is among what all give
  pub among_flat : (f : A → List B) (x : A) (y : B) (xs : List A) → Among x xs → Among y (f x) → Among y (flat_map f xs)
  among_flat f x y [] h k = absurd h
  among_flat f x y (z ∷ xs) (inl e) k = among_left y (f z) (flat_map f xs) (subst (λ w. Among y (f w)) e k)
  among_flat f x y (z ∷ xs) (inr h) k = among_right y (f z) (flat_map f xs) (among_flat f x y xs h k)

  -- a member of a mapped list comes from a member of the list
  pub among_map : (f : A → B) (y : B) (xs : List A) → Among y (map f xs) → (x : A) × Among x xs × (y ≡ f x)
  among_map f y [] h = absurd h
  among_map f y (x ∷ xs) (inl e) = (x, inl refl, e)
  among_map f y (x ∷ xs) (inr h) = let i = among_map f y xs h in (i.0, inr i.1, i.2)

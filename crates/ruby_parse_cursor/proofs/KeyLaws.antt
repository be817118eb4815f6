-- A set of names with one more.
use Rattle.std.proofs.Common.{◌≡◌, ℕ, Bool, true, false, cond, ◌||◌, List, [], ◌∷◌, ◌++◌, ⊎_elim, refl, sym, ◌∙◌, ap}
use Rattle.std.proofs.Common.{subst}
use Rattle.std.specs.Prelude.{bytes_eq}
use Rattle.std.specs.List.{list_any}
use Rattle.std.specs.Global.{Vec}
use Rattle.std.specs.BTreeSet as sorted
use Rattle.std.specs.Map.{IsKeyTest, AreApart}
use Rattle.std.specs.Set.{KeepsOthers}
use Rattle.std.specs.Ordering.{is_eq, nat_cmp}
use Rattle.std.specs.Cmp.{eq_by_cmp_equiv}
use Rattle.std.specs.Cmp.Lexicographic.{nat_list_eq_equiv, slice_cmp}
use Rattle.std.proofs.lemmas.Cmp.{nat_list_cmp_total}
use Rattle.std.proofs.lemmas.Bool.{cases_Bool, cond-true, cond-false}
use Rattle.std.proofs.lemmas.Slice.Eq.{bytes_eq-Decides}
use Rattle.std.proofs.lemmas.Map.Text.{is_eq-slice_cmp}
use Rattle.ruby_parse_cursor.specs.Names.{latest_first, key_order, has_key, IsKnown}

apart : (bs cs ks : List ℕ) → bytes_eq bs cs ≡ false → is_eq (slice_cmp nat_cmp bs ks) ≡ true →
    is_eq (slice_cmp nat_cmp cs ks) ≡ false
apart bs cs ks n y =
    let e : bytes_eq bs ks ≡ true = sym (is_eq-slice_cmp bs ks) ∙ y in
    is_eq-slice_cmp cs ks ∙ nat_list_eq_equiv.symm cs ks ∙ sym (nat_list_eq_equiv.congr bs ks cs e) ∙ n

other_keys : {K : Type 0} (eq : K → K → Bool) (test : K → Bool) (old new : List K) → KeepsOthers eq test old new →
    (other : K → Bool) → IsKeyTest eq other → AreApart test other → list_any other new ≡ list_any other old
unfolding KeepsOthers
other_keys eq test old new h = h

or_cond : (b x : Bool) → cond b true x ≡ (b || x)
or_cond true x = refl
or_cond false x = refl

module _ (s n : sorted.BTreeSet (Vec ℕ)) (bs : List ℕ)
    (h : sorted.UpdatesBy key_order (λ k. slice_cmp nat_cmp bs k.items) s n true) where
  here : (cs : List ℕ) → bytes_eq bs cs ≡ true → has_key n cs ≡ true
  here cs y = subst (λ l. has_key n l ≡ true) ((bytes_eq-Decides bs cs).0 y) h.1

  other : (cs : List ℕ) → bytes_eq bs cs ≡ false → has_key n cs ≡ has_key s cs
  other cs e = other_keys _ _ _ _ h.3 _ (λ x y. (eq_by_cmp_equiv nat_list_cmp_total).congr cs x.items y.items)
      (λ k. apart bs cs k.items e)

  more : (cs : List ℕ) → has_key n cs ≡ (bytes_eq bs cs || has_key s cs)
  more cs =
      ⊎_elim
      (λ y. here cs y ∙ sym (cond-true (bytes_eq bs cs) true (has_key s cs) y)
      ∙ or_cond (bytes_eq bs cs) (has_key s cs))
      (λ e. other cs e ∙ sym (cond-false (bytes_eq bs cs) true (has_key s cs) e)
      ∙ or_cond (bytes_eq bs cs) (has_key s cs))
      (cases_Bool (bytes_eq bs cs))

  -- A set with a name more knows that name and those before.
  pub known_more : (names : List (List ℕ)) → IsKnown s names → IsKnown n (bs ∷ names)
  known_more names are cs = more cs ∙ ap (λ b. bytes_eq bs cs || b) (are cs)

-- A name pushed last comes first.
pub latest_more : {A : Type 0} (f : A → List ℕ) (xs : List A) (x : A) →
    latest_first f (xs ++ x ∷ []) ≡ f x ∷ latest_first f xs
latest_more f [] x = refl
latest_more f (y ∷ ys) x = ap (λ l. l ++ f y ∷ []) (latest_more f ys x)

-- a name more, in the list and in the set
pub insert_known : {A : Type 0} (f : A → List ℕ) (xs ys : List A) (x : A) (key : Vec ℕ)
    (s n : sorted.BTreeSet (Vec ℕ)) →
    ys ≡ xs ++ x ∷ [] → key.items ≡ f x →
    sorted.UpdatesBy key_order (λ k. slice_cmp nat_cmp key.items k.items) s n true →
    IsKnown s (latest_first f xs) → IsKnown n (latest_first f ys)
insert_known f xs ys x key s n e k u are =
    subst (λ l. IsKnown n (latest_first f l)) (sym e)
    (subst (λ l. IsKnown n l) (sym (latest_more f xs x))
    (subst (λ b. IsKnown n (b ∷ latest_first f xs)) k (known_more s n key.items u (latest_first f xs) are)))

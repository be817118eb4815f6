-- Paths as keys: what an insertion changes, and the numbers of paths.
use Rattle.std.proofs.Common.{◌≡◌, ◌≢◌, ℕ, suc, zero, Bool, true, false, cond, List, [], ◌∷◌, ◌++◌, length, get_or, map}
use Rattle.std.proofs.Common.{Contains, AllPairs, ◌⊎◌, inl, inr, ⊎_elim, ◌↔◌, Option, Some, None, refl, sym, ◌∙◌, ap}
use Rattle.std.proofs.Common.{subst, arith}
use Rattle.std.specs.Prelude.{bytes_eq, slice_get, is_some}
use Rattle.std.specs.List.{list_any}
use Rattle.std.specs.List.Sorted.{IsStrictlySortedBy}
use Rattle.std.specs.Global.{Vec}
use Rattle.std.specs.BTreeSet as sorted
use Rattle.std.specs.BTreeMap as tree
use Rattle.std.specs.Map.{lookup, IsKeyTest, AreApart, KeepsOthers}
use Rattle.std.specs.Set.{KeepsOthers as KeepsOtherKeys}
use Rattle.std.specs.Ordering.{is_eq}
use Rattle.std.specs.Cmp.{eq_by_cmp_equiv}
use Rattle.std.specs.Cmp.Lexicographic.{nat_list_eq_equiv}
use Rattle.std.proofs.lemmas.Cmp.{nat_list_cmp_total}
use Rattle.std.proofs.lemmas.Bool.{cases_Bool, cond-true, cond-false}
use Rattle.std.proofs.lemmas.Slice.Eq.{bytes_eq-Decides}
use Rattle.std.proofs.lemmas.Map.Text.{is_eq-slice_cmp}
use Rattle.std.proofs.lemmas.Map.Keys.{sorted_head, sorted_tail}
use Rattle.std.proofs.lemmas.List.Elements.{All-from_recursion, All-map}
use Rattle.std.proofs.lemmas.List.Kept.{AllPairs-cons}
use Rattle.std.proofs.lemmas.Option.{slice_get_within, slice_get-get_or, get_or_from_slice_get}
use Rattle.std.specs.declared.cmp.Ordering.TheVariants.{Less}
use Rattle.outside.specs.Order.{order, IsBefore, Rising}
use Rattle.tree_scan_roots.specs.Keys.{key_order, Has, number_of, IsNumbering}

-- ---- one key more
apart : (bs cs ks : List ℕ) → bytes_eq bs cs ≡ false → is_eq (order bs ks) ≡ true → is_eq (order cs ks) ≡ false
apart bs cs ks n y =
    let e : bytes_eq bs ks ≡ true = sym (is_eq-slice_cmp bs ks) ∙ y in
    is_eq-slice_cmp cs ks ∙ nat_list_eq_equiv.symm cs ks ∙ sym (nat_list_eq_equiv.congr bs ks cs e) ∙ n

module _ {K : Type 0} (eq : K → K → Bool) (test : K → Bool) where
  other_entries : {X : Type 0} (old new : List (K × X)) → KeepsOthers eq test old new → (other : K → Bool) →
      IsKeyTest eq other → AreApart test other → lookup other new ≡ lookup other old
  unfolding KeepsOthers
  other_entries old new h = h

  other_keys : (old new : List K) → KeepsOtherKeys eq test old new → (other : K → Bool) → IsKeyTest eq other →
      AreApart test other → list_any other new ≡ list_any other old
  unfolding KeepsOtherKeys
  other_keys old new h = h

-- g is w at bs, and f at other bytes
by_bytes : {W : Type 0} (f g : List ℕ → W) (bs : List ℕ) (w : W) → g bs ≡ w →
    ((cs : List ℕ) → bytes_eq bs cs ≡ false → g cs ≡ f cs) → (cs : List ℕ) → g cs ≡ cond (bytes_eq bs cs) w (f cs)
by_bytes f g bs w here other cs =
    ⊎_elim
    (λ y. subst (λ l. g l ≡ w) ((bytes_eq-Decides bs cs).0 y) here ∙ sym (cond-true (bytes_eq bs cs) w (f cs) y))
    (λ n. other cs n ∙ sym (cond-false (bytes_eq bs cs) w (f cs) n))
    (cases_Bool (bytes_eq bs cs))

module _ (bs : List ℕ) where
  -- an update at one path changes the number of that path alone
  pub number_update : (m n : tree.BTreeMap (Vec ℕ) ℕ) (w : Option ℕ) →
      tree.UpdatesBy key_order (λ k. order bs k.items) m n w → (cs : List ℕ) →
      number_of n cs ≡ cond (bytes_eq bs cs) w (number_of m cs)
  number_update m n w h = by_bytes (number_of m) (number_of n) bs w h.1
      (λ cs e. other_entries _ _ _ _ h.3 _ (λ x y. (eq_by_cmp_equiv nat_list_cmp_total).congr cs x.items y.items)
      (λ k. apart bs cs k.items e))

  set_update : (s n : sorted.BTreeSet (Vec ℕ)) (b : Bool) →
      sorted.UpdatesBy key_order (λ k. order bs k.items) s n b → (cs : List ℕ)
      → sorted.contains_by (λ k. order cs k.items) n
      ≡ cond (bytes_eq bs cs) b (sorted.contains_by (λ k. order cs k.items) s)
  set_update s n b h = by_bytes (λ cs. sorted.contains_by (λ k. order cs k.items) s)
      (λ cs. sorted.contains_by (λ k. order cs k.items) n) bs b h.1
      (λ cs e. other_keys _ _ _ _ h.3 _ (λ x y. (eq_by_cmp_equiv nat_list_cmp_total).congr cs x.items y.items)
      (λ k. apart bs cs k.items e))

  -- a set with one path more
  pub set_more : (s n : sorted.BTreeSet (Vec ℕ)) → sorted.UpdatesBy key_order (λ k. order bs k.items) s n true →
      (cs : List ℕ) → Has n cs ↔ (Has s cs ⊎ (bs ≡ cs))
  set_more s n h cs =
      let e = set_update s n true h cs in (
        (λ now. ⊎_elim
            (λ y. inr ((bytes_eq-Decides bs cs).0 y))
            (λ differ. inl (sym (e ∙ cond-false (bytes_eq bs cs) true _ differ) ∙ now))
            (cases_Bool (bytes_eq bs cs))),
        (λ cases. ⊎_elim
            (λ y. e ∙ cond-true (bytes_eq bs cs) true _ y)
            (λ differ. elim cases [
              | inl was ↦ e ∙ cond-false (bytes_eq bs cs) true _ differ ∙ was
              | inr is ↦ let y : bytes_eq bs cs ≡ true = (bytes_eq-Decides bs cs).1 is in
                  absurd (let z : true ≡ false = sym y ∙ differ in cc)
            ])
            (cases_Bool (bytes_eq bs cs))),
      )

-- ---- keys in order
-- the paths of keys in order rise
pub keys_rise : (keys : List (Vec ℕ)) → IsStrictlySortedBy key_order keys → Rising (map (λ k. k.items) keys)
keys_rise [] h = λ i j d lt within. absurd (omega arith)
keys_rise (key ∷ keys) h =
    AllPairs-cons IsBefore key.items (map (λ k. k.items) keys)
    (All-map (IsBefore key.items) (λ k. k.items) keys
    (All-from_recursion (λ y. key_order key y ≡ Less) keys (sorted_head key_order key keys h)))
    (keys_rise keys (sorted_tail key_order key keys h))

-- ---- places in a list with one item more
-- what stands at a place still does with more members behind it
pub get_left : {X : Type 0} (xs ys : List X) (n : ℕ) (x : X) → slice_get xs n ≡ Some x → slice_get (xs ++ ys) n ≡ Some x
get_left [] ys n x e = cc
get_left (y ∷ xs) ys zero x e = e
get_left (y ∷ xs) ys (suc n) x e = get_left xs ys n x e

-- the member that was pushed last is at the old length
pub get_last : {X : Type 0} (xs : List X) (x : X) → slice_get (xs ++ x ∷ []) (length xs) ≡ Some x
get_last [] x = refl
get_last (y ∷ xs) x = get_last xs x

-- a member of a list with one more is an old one or the new one
pub get_cases : {X : Type 0} (xs : List X) (x y : X) (n : ℕ) → slice_get (xs ++ x ∷ []) n ≡ Some y →
    (slice_get xs n ≡ Some y) ⊎ ((n ≡ length xs) × (x ≡ y))
get_cases [] x y zero e = inr (refl, cc)
get_cases [] x y (suc n) e = let z : None ≡ Some y = e in cc
get_cases (z ∷ xs) x y zero e = inl e
get_cases (z ∷ xs) x y (suc n) e = elim (get_cases xs x y n e) [ inl h ↦ inl h | inr h ↦ inr (ap suc h.0, h.1) ]

-- what stands at a place is contained
pub contains_got : {X : Type 0} (xs : List X) (n : ℕ) (x : X) → slice_get xs n ≡ Some x → Contains xs x
contains_got xs n x e = (n, slice_get_within xs n x e, get_or_from_slice_get xs n x x e)

-- what is contained stands at its place
pub got_contains : {X : Type 0} (xs : List X) (x : X) → (has : Contains xs x) → slice_get xs has.0 ≡ Some x
got_contains xs x has = slice_get-get_or xs has.0 x has.1 ∙ ap (λ y. Some y) has.2

-- an option that is some has a value
pub some_is : {X : Type 0} (o : Option X) → is_some o ≡ true → (x : X) × (o ≡ Some x)
some_is None e = let z : false ≡ true = e in cc
some_is (Some x) e = (x, refl)

-- an option that is not some is none
pub none_is : {X : Type 0} (o : Option X) → is_some o ≡ false → o ≡ None
none_is None e = refl
none_is (Some x) e = let z : true ≡ false = e in cc

-- an option without a value is none
pub lacks : {X : Type 0} (o : Option X) → ((x : X) → o ≡ Some x → ⊥) → o ≡ None
lacks None h = refl
lacks (Some x) h = absurd (h x refl)

-- ---- numbers
module _ (paths : List (List ℕ)) (numbers : tree.BTreeMap (Vec ℕ) ℕ) (are : IsNumbering paths numbers) where
  -- a path without a number is not among the numbered paths
  pub no_number : (path : List ℕ) → number_of numbers path ≡ None → Contains paths path → ⊥
  no_number path none has =
      let some : number_of numbers path ≡ Some has.0 = (are path has.0).1 (got_contains paths path has) in
      let z : None ≡ Some has.0 = sym none ∙ some in cc

  -- a path with a number is among the numbered paths
  pub numbered : (path : List ℕ) (number : ℕ) → number_of numbers path ≡ Some number → Contains paths path
  numbered path number e = contains_got paths number path ((are path number).0 e)

  -- a path of which a look-up finds some number is among the numbered paths
  pub has_number : (path : List ℕ) → is_some (number_of numbers path) ≡ true → Contains paths path
  has_number path is = let some = some_is (number_of numbers path) is in numbered path some.0 some.1

  -- a path that isn't among the numbered paths has no number
  pub lacks_number : (path : List ℕ) → (Contains paths path → ⊥) → number_of numbers path ≡ None
  lacks_number path none = lacks (number_of numbers path) (λ n e. none (numbered path n e))

  -- no two numbered paths are the same
  pub distinct : AllPairs (λ a b. a ≢ b) paths
  distinct i j d lt within e =
      let first : number_of numbers (get_or paths i d) ≡ Some i =
      (are (get_or paths i d) i).1 (slice_get-get_or paths i d (omega arith)) in
      let second : number_of numbers (get_or paths j d) ≡ Some j =
      (are (get_or paths j d) j).1 (slice_get-get_or paths j d within) in
      let same : Some i ≡ Some j = sym first ∙ ap (number_of numbers) e ∙ second in
      let z : i ≡ j = cc in
      omega arith

  module _ (path : List ℕ) (new : tree.BTreeMap (Vec ℕ) ℕ) (number : ℕ) (last : number ≡ length paths)
      (none : number_of numbers path ≡ None)
      (updates : (other : List ℕ) →
      number_of new other ≡ cond (bytes_eq path other) (Some number) (number_of numbers other)) where
    at_path : (other : List ℕ) → path ≡ other → number_of new other ≡ Some number
    at_path other same = updates other ∙ cond-true (bytes_eq path other) (Some number) (number_of numbers other)
        ((bytes_eq-Decides path other).1 same)

    elsewhere : (other : List ℕ) → bytes_eq path other ≡ false → number_of new other ≡ number_of numbers other
    elsewhere other differ = updates other
        ∙ cond-false (bytes_eq path other) (Some number) (number_of numbers other) differ

    there : (other : List ℕ) (n : ℕ) → number_of new other ≡ Some n → slice_get (paths ++ path ∷ []) n ≡ Some other
    there other n e =
        ⊎_elim
        (λ y. let same : path ≡ other = (bytes_eq-Decides path other).0 y in
        let at : Some n ≡ Some number = sym e ∙ at_path other same in
        let is : n ≡ length paths = (let z : n ≡ number = cc in z) ∙ last in
        rw is (get_last paths path ∙ ap (λ p. Some p) same))
        (λ differ. get_left paths (path ∷ []) n other ((are other n).0 (sym (elsewhere other differ) ∙ e)))
        (cases_Bool (bytes_eq path other))

    back : (other : List ℕ) (n : ℕ) → slice_get (paths ++ path ∷ []) n ≡ Some other → number_of new other ≡ Some n
    back other n e = elim (get_cases paths path other n e) [
      | inl h ↦
          let was : number_of numbers other ≡ Some n = (are other n).1 h in
          ⊎_elim
          (λ y. let z : None ≡ Some n = sym none ∙ ap (number_of numbers) ((bytes_eq-Decides path other).0 y)
          ∙ was in cc)
          (λ differ. elsewhere other differ ∙ was)
          (cases_Bool (bytes_eq path other))
      | inr h ↦ at_path other h.1 ∙ ap (λ m. Some m) (last ∙ sym h.0)
    ]

    -- a path without a number that gets the next one is numbered behind the others
    pub numbered_more : IsNumbering (paths ++ path ∷ []) new
    numbered_more other n = (there other n, back other n)

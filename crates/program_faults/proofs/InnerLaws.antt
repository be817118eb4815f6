-- The levels of a path inside one that it goes on from, and which of them has a site first.
use Rattle.std.proofs.Common.{◌≡◌, ℕ, suc, ◌+◌, ◌≤◌, Bool, true, false, not, cond, List, [], ◌∷◌, ◌++◌, map}
use Rattle.std.proofs.Common.{filter}
use Rattle.std.proofs.Common.{Option, Some, None, find, length, take, refl, sym, ap, ◌∙◌, subst, arith, bytes_eq}
use Rattle.std.proofs.Common.{append_assoc, inl, inr, zero, slice_get}
use Rattle.std.specs.List.{list_any, flat_map}
use Rattle.std.specs.Cmp.Lexicographic.{bytes_decides}
use Rattle.std.proofs.lemmas.Bool.{false≢true, and_from, and_parts}
use Rattle.std.proofs.lemmas.Option.{none-some, same_Some}
use Rattle.program_places.specs.Paths.{Name, Path, begins, levels}
use Rattle.program_files.specs.Files.{UsedFile, is_above, has_site}
use Rattle.program_files.specs.Entries.{Entry}
use Rattle.program_files.specs.Faults.{is_definition, levels_inside}
use Rattle.program_files.specs.Members.{Among}
use Rattle.program_files.proofs.Paths.{name_itself, begins_itself}
use Rattle.program_files.proofs.Lists.{among_map}
use Rattle.program_constants.proofs.ListLaws.{begins_rest, any_at, any_there}

-- ---- levels

above_same_front : (n : Name) (a q : Path) → is_above (n ∷ a) (n ∷ q) ≡ is_above a q
above_same_front n a q = rw (name_itself n) refl

above_top_never : (a : Path) → is_above a [] ≡ false
above_top_never [] = refl
above_top_never (n ∷ ns) = refl

kept_front_at : (n : Name) (q : Path) (F G : List Path) (b : Bool) → F ≡ map (λ r. n ∷ r) G →
    cond b ((n ∷ q) ∷ F) F ≡ map (λ r. n ∷ r) (cond b (q ∷ G) G)
kept_front_at n q F G true e = ap (λ x. (n ∷ q) ∷ x) e
kept_front_at n q F G false e = e

filter_front : (n : Name) (a : Path) (ls : List Path) →
    filter (is_above (n ∷ a)) (map (λ q. n ∷ q) ls) ≡ map (λ q. n ∷ q) (filter (is_above a) ls)
filter_front n a [] = refl
filter_front n a (q ∷ ls) = rw (above_same_front n a q)
    (kept_front_at n q (filter (is_above (n ∷ a)) (map (λ r. n ∷ r) ls)) (filter (is_above a) ls) (is_above a q)
    (filter_front n a ls))

all_below_top : (m : Name) (ls : List Path) →
    filter (is_above []) (map (λ q. m ∷ q) ls) ≡ map (λ q. q) (map (λ q. m ∷ q) ls)
all_below_top m [] = refl
all_below_top m (q ∷ ls) = ap (λ x. (m ∷ q) ∷ x) (all_below_top m ls)

map_twice : (n : Name) (ns : Path) (ls : List Path) →
    map (λ q. n ∷ q) (map (λ q. ns ++ q) ls) ≡ map (λ q. n ∷ (ns ++ q)) ls
map_twice n ns [] = refl
map_twice n ns (q ∷ ls) = ap (λ x. (n ∷ (ns ++ q)) ∷ x) (map_twice n ns ls)

-- the levels inside a path go on from it
levels_behind : (a rest : Path) → filter (is_above a) (levels (a ++ rest)) ≡ map (λ q. a ++ q) (levels rest)
levels_behind [] [] = refl
levels_behind [] (m ∷ ms) = ap (λ x. (m ∷ []) ∷ x) (all_below_top m (levels ms))
levels_behind (n ∷ ns) rest = rw (above_same_front n ns [], above_top_never ns)
    (filter_front n ns (levels (ns ++ rest)) ∙ ap (map (λ q. n ∷ q)) (levels_behind ns rest)
    ∙ map_twice n ns (levels rest))

other_front : (n m : Name) (ns : Path) (ls : List Path) → bytes_eq n m ≡ false →
    filter (is_above (n ∷ ns)) (map (λ q. m ∷ q) ls) ≡ []
other_front n m ns [] e = refl
other_front n m ns (q ∷ ls) e = rw e (other_front n m ns ls e)

no_level_same : (n : Name) (ns ms : Path) → is_above (n ∷ ns) (n ∷ ms) ≡ false →
    (is_above ns ms ≡ false → filter (is_above ns) (levels ms) ≡ []) →
    filter (is_above (n ∷ ns)) (levels (n ∷ ms)) ≡ []
no_level_same n ns ms h ih =
    let inside : is_above ns ms ≡ false = sym (above_same_front n ns ms) ∙ h in
    rw (above_same_front n ns [], above_top_never ns)
    (filter_front n ns (levels ms) ∙ ap (map (λ q. n ∷ q)) (ih inside))

no_level_by : (n : Name) (ns : Path) (m : Name) (ms : Path) → is_above (n ∷ ns) (m ∷ ms) ≡ false →
    (b : Bool) → bytes_eq n m ≡ b → (is_above ns ms ≡ false → filter (is_above ns) (levels ms) ≡ []) →
    filter (is_above (n ∷ ns)) (levels (m ∷ ms)) ≡ []
no_level_by n ns m ms h true e ih =
    let same : n ≡ m = (bytes_decides n m).0 e in
    subst (λ x. filter (is_above (n ∷ ns)) (levels (x ∷ ms)) ≡ []) same
    (no_level_same n ns ms (subst (λ x. is_above (n ∷ ns) (x ∷ ms) ≡ false) (sym same) h) ih)
no_level_by n ns m ms h false e ih = rw e (other_front n m ns (levels ms) e)

-- a path that isn't inside another has no level there
no_level_inside : (a c : Path) → is_above a c ≡ false → filter (is_above a) (levels c) ≡ []
no_level_inside [] [] h = refl
no_level_inside [] (m ∷ ms) h = absurd (false≢true (sym h))
no_level_inside (n ∷ ns) [] h = refl
no_level_inside (n ∷ ns) (m ∷ ms) h = no_level_by n ns m ms h (bytes_eq n m) refl (no_level_inside ns ms)

-- ---- what is found first

module _ {A : Type 0} where
  find_none_at : (p : A → Bool) (x : A) (xs : List A) (b : Bool) → p x ≡ b → b ≡ false → find p xs ≡ None →
      cond b (Some x) (find p xs) ≡ None
  find_none_at p x xs true e f ih = absurd (false≢true (sym f))
  find_none_at p x xs false e f ih = ih

  find_none : (p : A → Bool) (xs : List A) → ((x : A) → Among x xs → p x ≡ false) → find p xs ≡ None
  find_none p [] h = refl
  find_none p (x ∷ xs) h =
      find_none_at p x xs (p x) refl (h x (inl refl)) (find_none p xs (λ y k. h y (inr k)))

  find_behind_at : (p : A → Bool) (x : A) (xs ys : List A) (b : Bool) → cond b (Some x) (find p xs) ≡ None →
      (find p xs ≡ None → find p (xs ++ ys) ≡ find p ys) → cond b (Some x) (find p (xs ++ ys)) ≡ find p ys
  find_behind_at p x xs ys true e ih = cc
  find_behind_at p x xs ys false e ih = ih e

  -- where nothing is found in front, what is found is found behind
  pub find_behind : (p : A → Bool) (xs ys : List A) → find p xs ≡ None → find p (xs ++ ys) ≡ find p ys
  find_behind p [] ys e = refl
  find_behind p (x ∷ xs) ys e = find_behind_at p x xs ys (p x) e (find_behind p xs ys)

  find_front_at : (p : A → Bool) (x y : A) (xs ys : List A) (b : Bool) → cond b (Some x) (find p xs) ≡ Some y →
      (find p xs ≡ Some y → find p (xs ++ ys) ≡ Some y) → cond b (Some x) (find p (xs ++ ys)) ≡ Some y
  find_front_at p x y xs ys true e ih = e
  find_front_at p x y xs ys false e ih = ih e

  -- what is found in front is found
  pub find_front : (p : A → Bool) (y : A) (xs ys : List A) → find p xs ≡ Some y → find p (xs ++ ys) ≡ Some y
  find_front p y [] ys e = cc
  find_front p y (x ∷ xs) ys e = find_front_at p x y xs ys (p x) e (find_front p y xs ys)

module _ {A B : Type 0} (g : A → List B) (p : B → Bool) where
  none_in_front : (xs ys : List B) (o : Option B) → find p xs ≡ o → find p (xs ++ ys) ≡ None → find p xs ≡ None
  none_in_front xs ys None e h = e
  none_in_front xs ys (Some z) e h = let q = find_front p z xs ys e in cc

  none_in_back : (xs ys : List B) → find p (xs ++ ys) ≡ None → find p ys ≡ None
  none_in_back xs ys h = sym (find_behind p xs ys (none_in_front xs ys (find p xs) refl h)) ∙ h

  -- where the members up to a place give nothing, and the next one doesn't, one more give nothing
  pub none_more : (xs : List A) (i : ℕ) (x : A) → slice_get xs i ≡ Some x → find p (flat_map g (take i xs)) ≡ None →
      find p (g x) ≡ None → find p (flat_map g (take (suc i) xs)) ≡ None
  none_more [] i x at h k = absurd (none-some x at)
  none_more (y ∷ ys) zero x at h k =
      find_behind p (g y) [] (subst (λ z. find p (g z) ≡ None) (sym (same_Some y x at)) k)
  none_more (y ∷ ys) (suc i) x at h k =
      let front = none_in_front (g y) (flat_map g (take i ys)) (find p (g y)) refl h in
      let back = none_in_back (g y) (flat_map g (take i ys)) h in
      find_behind p (g y) (flat_map g (take (suc i) ys)) front ∙ none_more ys i x at back k

  -- where the members up to a place give nothing, what the next one gives is found
  pub found_there : (xs : List A) (i : ℕ) (x : A) (z : B) → slice_get xs i ≡ Some x →
      find p (flat_map g (take i xs)) ≡ None → find p (g x) ≡ Some z → find p (flat_map g xs) ≡ Some z
  found_there [] i x z at h k = absurd (none-some x at)
  found_there (y ∷ ys) zero x z at h k =
      find_front p z (g y) (flat_map g ys) (subst (λ w. find p (g w) ≡ Some z) (sym (same_Some y x at)) k)
  found_there (y ∷ ys) (suc i) x z at h k =
      let front = none_in_front (g y) (flat_map g (take i ys)) (find p (g y)) refl h in
      let back = none_in_back (g y) (flat_map g (take i ys)) h in
      find_behind p (g y) (flat_map g ys) front ∙ found_there ys i x z at back k

  -- where the members up to a place past the last give nothing, all give nothing
  pub none_at_all : (xs : List A) (i : ℕ) → length xs ≤ i → find p (flat_map g (take i xs)) ≡ None →
      find p (flat_map g xs) ≡ None
  none_at_all [] i le h = refl
  none_at_all (y ∷ ys) zero le h = absurd (omega arith)
  none_at_all (y ∷ ys) (suc i) le h =
      let front = none_in_front (g y) (flat_map g (take i ys)) (find p (g y)) refl h in
      let back = none_in_back (g y) (flat_map g (take i ys)) h in
      find_behind p (g y) (flat_map g ys) front ∙ none_at_all ys i (omega arith) back

-- ---- sites

begins_front : (q r c : Path) → begins (q ++ r) c ≡ true → begins q c ≡ true
begins_front [] r c h = refl
begins_front (n ∷ ns) r [] h = absurd (false≢true h)
begins_front (n ∷ ns) r (m ∷ ms) h =
    let p = and_parts (bytes_eq n m) (begins (ns ++ r) ms) h in
    and_from (bytes_eq n m) (begins ns ms) p.0 (begins_front ns r ms p.1)

shorter_any : (fs : List UsedFile) (q r : Path) → list_any (λ f. begins (q ++ r) f.constant) fs ≡ true →
    list_any (λ f. begins q f.constant) fs ≡ true
shorter_any fs q r h =
    let i = any_there (λ (f : UsedFile). begins (q ++ r) f.constant) fs h in
    any_at (λ (f : UsedFile). begins q f.constant) fs i.0 i.1 i.2 (begins_front q r i.1.constant i.3)

-- where a longer path has a site, so has the one with the first name alone
shorter_site : (fs : List UsedFile) (a : Path) (m : Name) (ms : Path) → has_site fs (a ++ m ∷ ms) ≡ true →
    has_site fs (a ++ m ∷ []) ≡ true
shorter_site fs [] m ms h = shorter_any fs (m ∷ []) ms h
shorter_site fs (n ∷ ns) m ms h = shorter_any fs (n ∷ (ns ++ m ∷ [])) ms
    (subst (λ q. list_any (λ (f : UsedFile). begins (n ∷ q) f.constant) fs ≡ true) (sym (append_assoc ns (m ∷ []) ms))
    h)

module _ (fs : List UsedFile) (a : Path) (m : Name) where
  none_longer : (ms : Path) (x : Path) → has_site fs (a ++ m ∷ []) ≡ false →
      Among x (map (λ q. a ++ q) (map (λ q. m ∷ q) (levels ms))) → has_site fs x ≡ false
  none_longer ms x e h =
      let outer = among_map (λ q. a ++ q) x (map (λ q. m ∷ q) (levels ms)) h in
      let inner = among_map (λ q. m ∷ q) outer.0 (levels ms) outer.1 in
      let is : x ≡ a ++ m ∷ inner.0 = outer.2 ∙ ap (λ q. a ++ q) inner.2 in
      subst (λ y. has_site fs y ≡ false) (sym is) (unsited inner.0 (has_site fs (a ++ m ∷ inner.0)) refl) where
        unsited : (r : Path) (b : Bool) → has_site fs (a ++ m ∷ r) ≡ b → has_site fs (a ++ m ∷ r) ≡ false
        unsited r true k = absurd (false≢true (sym e ∙ shorter_site fs a m r k))
        unsited r false k = k

  first_level_at : (ms : Path) (b : Bool) → has_site fs (a ++ m ∷ []) ≡ b →
      cond b (Some (a ++ m ∷ [])) (find (has_site fs) (map (λ q. a ++ q) (map (λ q. m ∷ q) (levels ms))))
      ≡ cond b (Some (a ++ m ∷ [])) None
  first_level_at ms true e = refl
  first_level_at ms false e =
      find_none (has_site fs) (map (λ q. a ++ q) (map (λ q. m ∷ q) (levels ms))) (λ x h. none_longer ms x e h)

  first_level : (ms : Path) → find (has_site fs) (map (λ q. a ++ q) (levels (m ∷ ms)))
      ≡ cond (has_site fs (a ++ m ∷ [])) (Some (a ++ m ∷ [])) None
  first_level ms = first_level_at ms (has_site fs (a ++ m ∷ [])) refl

take_one_more : (a : Path) (m : Name) (ms : Path) → take (length a + 1) (a ++ m ∷ ms) ≡ a ++ m ∷ []
take_one_more [] m ms = refl
take_one_more (n ∷ ns) m ms =
    let more : suc (length ns) + 1 ≡ suc (length ns + 1) = omega arith in
    subst (λ k. take k (n ∷ (ns ++ m ∷ ms)) ≡ n ∷ (ns ++ m ∷ [])) (sym more) (ap (λ x. n ∷ x) (take_one_more ns m ms))

longer_by_one : (a : Path) (m : Name) (ms : Path) → length a + 1 ≤ length (a ++ m ∷ ms)
longer_by_one [] m ms = omega arith
longer_by_one (n ∷ ns) m ms = let h = longer_by_one ns m ms in omega arith

append_nothing : (p : Path) → p ++ [] ≡ p
append_nothing [] = refl
append_nothing (n ∷ ns) = ap (λ q. n ∷ q) (append_nothing ns)

-- what stands strictly inside a path goes on from it by a name
pub record GoesOn (a c : Path) : Type 0 where
  pub name : Name
  pub names : Path
  pub is : c ≡ a ++ name ∷ names

-- a path strictly above another is gone on from
pub goes_on : (a c : Path) → is_above a c ≡ true → GoesOn a c
goes_on a c h =
    let p = and_parts (begins a c) (not (begins c a)) h in
    let r = begins_rest a c p.0 in
    on r.0 r.1 p.1 where
      on : (rest : Path) → c ≡ a ++ rest → not (begins c a) ≡ true → GoesOn a c
      on [] e outside = absurd (false≢true (ap not (sym whole) ∙ outside)) where
        whole : begins c a ≡ true
        whole = subst (λ x. begins x a ≡ true) (sym (e ∙ append_nothing a)) (begins_itself a)
      on (name ∷ names) e outside = record { name = name; names = names; is = e }

-- a path has a name more than one strictly above it
pub longer_inside : (a c : Path) → is_above a c ≡ true → length a + 1 ≤ length c
longer_inside a c h =
    let g = goes_on a c h in
    subst (λ x. length a + 1 ≤ length x) (sym g.is) (longer_by_one a g.name g.names)

-- of the levels inside a path the one with one name more has a site first, if any has
pub first_inside : (fs : List UsedFile) (a c : Path) → is_above a c ≡ true →
    find (has_site fs) (filter (is_above a) (levels c))
    ≡ cond (has_site fs (take (length a + 1) c)) (Some (take (length a + 1) c)) None
first_inside fs a c h =
    let g = goes_on a c h in
    let t : take (length a + 1) c ≡ a ++ g.name ∷ [] = ap (take (length a + 1)) g.is
    ∙ take_one_more a g.name g.names in
    let f : find (has_site fs) (filter (is_above a) (levels c))
    ≡ cond (has_site fs (a ++ g.name ∷ [])) (Some (a ++ g.name ∷ [])) None =
    ap (λ x. find (has_site fs) (filter (is_above a) (levels x))) g.is
    ∙ ap (find (has_site fs)) (levels_behind a (g.name ∷ g.names)) ∙ first_level fs a g.name g.names in
    f ∙ sym (ap (λ x. cond (has_site fs x) (Some x) None) t)

-- a path outside of another has no site inside it
pub none_outside : (fs : List UsedFile) (a c : Path) → is_above a c ≡ false →
    None ≡ find (has_site fs) (filter (is_above a) (levels c))
none_outside fs a c h = ap (find (has_site fs)) (sym (no_level_inside a c h))

-- an entry that defines nothing has no level inside
pub nothing_defined : (fs : List UsedFile) (a : Path) (e : Entry) → is_definition e ≡ false →
    None ≡ find (has_site fs) (levels_inside a e)
nothing_defined fs a e h = ap (λ b. find (has_site fs) (cond b (filter (is_above a) (levels e.constant)) [])) (sym h)

-- an entry that defines something has the levels of its path inside
pub defined_levels : (a : Path) (e : Entry) → is_definition e ≡ true →
    filter (is_above a) (levels e.constant) ≡ levels_inside a e
defined_levels a e h = ap (λ b. cond b (filter (is_above a) (levels e.constant)) []) (sym h)

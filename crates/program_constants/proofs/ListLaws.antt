-- First places in lists of constants, and the places of numbered ones.
use Rattle.std.proofs.Common.{◌≡◌, ℕ, zero, suc, ◌+◌, ◌≤◌, Bool, true, false, cond, List, [], ◌∷◌, ◌++◌, Option, Some}
use Rattle.std.proofs.Common.{None, slice_get, take, inl, inr, refl, sym, ap, ◌∙◌, subst, arith, bytes_eq}
use Rattle.std.specs.List.{list_any}
use Rattle.std.specs.Option.{option_map}
use Rattle.std.specs.Cmp.Lexicographic.{bytes_decides}
use Rattle.std.proofs.lemmas.Bool.{false≢true, and_from, and_parts, or_cases, or_left, or_right}
use Rattle.std.proofs.lemmas.Option.{none-some, same_Some}
use Rattle.program_places.specs.Paths.{Path, same_path, begins}
use Rattle.program_files.proofs.Paths.{path_decides, name_itself}
use Rattle.tree_scan_sites.proofs.MemberLaws.{In}
use Rattle.program_constants.specs.Constants.{first_place, numbered, numbered_from}

-- ---- first places

-- a path stands first at this place
pub record StandsFirst (path : Path) (cs : List Path) (k : ℕ) : Type 0 where
  pub here : slice_get cs k ≡ Some path
  pub first : (j : ℕ) → slice_get cs j ≡ Some path → k ≤ j

passed : (path c : Path) (cs : List Path) (m : ℕ) → same_path c path ≡ false → StandsFirst path cs m →
    StandsFirst path (c ∷ cs) (suc m)
passed path c cs m other s = record { here = s.here; first = later } where
  later : (j : ℕ) → slice_get (c ∷ cs) j ≡ Some path → suc m ≤ j
  later zero e = absurd (false≢true (sym other ∙ (path_decides c path).1 (same_Some c path e)))
  later (suc i) e = let h : m ≤ i = s.first i e in omega arith

first_at : (path c : Path) (cs : List Path) (b : Bool) (o : Option ℕ) (k : ℕ) → same_path c path ≡ b →
    ((m : ℕ) → o ≡ Some m → StandsFirst path cs m) → cond b (Some 0) (option_map suc o) ≡ Some k →
    StandsFirst path (c ∷ cs) k
first_at path c cs true o k same ih e =
    subst (StandsFirst path (c ∷ cs)) (same_Some 0 k e)
    (record { here = ap Some ((path_decides c path).0 same); first = λ j _. omega arith })
first_at path c cs false None k same ih e = absurd (none-some k e)
first_at path c cs false (Some m) k same ih e =
    subst (StandsFirst path (c ∷ cs)) (same_Some (suc m) k e) (passed path c cs m same (ih m refl))

-- where a first place is found, the path stands first there
pub first_there : (path : Path) (cs : List Path) (k : ℕ) → first_place path cs ≡ Some k → StandsFirst path cs k
first_there path [] k e = absurd (none-some k e)
first_there path (c ∷ cs) k e =
    first_at path c cs (same_path c path) (first_place path cs) k refl (first_there path cs) e

missing_at : (path c : Path) (cs : List Path) (b : Bool) (o : Option ℕ) → same_path c path ≡ b →
    (o ≡ None → (j : ℕ) → slice_get cs j ≡ Some path → ⊥) → cond b (Some 0) (option_map suc o) ≡ None →
    (j : ℕ) → slice_get (c ∷ cs) j ≡ Some path → ⊥
missing_at path c cs true o same ih e j h = cc
missing_at path c cs false (Some m) same ih e j h = cc
missing_at path c cs false None same ih e zero h =
    false≢true (sym same ∙ (path_decides c path).1 (same_Some c path h))
missing_at path c cs false None same ih e (suc j) h = ih refl j h

-- where no first place is found, the path stands nowhere
pub first_missing : (path : Path) (cs : List Path) → first_place path cs ≡ None → (j : ℕ) →
    slice_get cs j ≡ Some path → ⊥
first_missing path [] e j h = none-some path h
first_missing path (c ∷ cs) e j h =
    missing_at path c cs (same_path c path) (first_place path cs) refl (first_missing path cs) e j h

-- ---- numbered constants

-- a numbered constant stands at its number
pub numbered_in : (n : ℕ) (cs : List Path) (c : Path) (root file : ℕ) →
    In (record { constant = c; root = root; file = file }) (numbered_from n cs) →
    (k : ℕ) × (root ≡ 0) × (file ≡ n + k) × (slice_get cs k ≡ Some c)
numbered_in n [] c root file h = absurd h
numbered_in n (d ∷ ds) c root file (inl e) =
    let same : n ≡ file = ap (λ s. s.file) e in
    (0, sym (ap (λ s. s.root) e), omega arith, ap (λ s. Some s.constant) e)
numbered_in n (d ∷ ds) c root file (inr h) =
    let i = numbered_in (suc n) ds c root file h in
    let at : file ≡ suc n + i.0 = i.2 in
    (suc i.0, i.1, omega arith, i.3)

-- what stands at a place is numbered by it
pub in_numbered : (n : ℕ) (cs : List Path) (c : Path) (k : ℕ) → slice_get cs k ≡ Some c →
    In (numbered (n + k) c) (numbered_from n cs)
in_numbered n [] c k h = absurd (none-some c h)
in_numbered n (d ∷ ds) c zero h =
    let number : n ≡ n + 0 = omega arith in
    inl (ap (λ x. numbered n x) (same_Some d c h) ∙ ap (λ m. numbered m c) number)
in_numbered n (d ∷ ds) c (suc k) h =
    let number : suc n + k ≡ n + suc k = omega arith in
    inr (subst (λ m. In (numbered m c) (numbered_from (suc n) ds)) number (in_numbered (suc n) ds c k h))

-- one more constant has one more number
pub numbered_more : (n : ℕ) (cs : List Path) (i : ℕ) (c : Path) → slice_get cs i ≡ Some c →
    numbered_from n (take (suc i) cs) ≡ numbered_from n (take i cs) ++ numbered (n + i) c ∷ []
numbered_more n [] i c h = absurd (none-some c h)
numbered_more n (d ∷ ds) zero c h =
    let number : n ≡ n + 0 = omega arith in
    ap (λ x. x ∷ []) (ap (λ x. numbered n x) (same_Some d c h) ∙ ap (λ m. numbered m c) number)
numbered_more n (d ∷ ds) (suc i) c h =
    let number : suc n + i ≡ n + suc i = omega arith in
    ap (λ xs. numbered n d ∷ xs)
    (numbered_more (suc n) ds i c h ∙ ap (λ m. numbered_from (suc n) (take i ds) ++ numbered m c ∷ []) number)

-- ---- tests over lists

module _ {A : Type 0} where
  -- where a member passes, some member does
  pub any_at : (test : A → Bool) (xs : List A) (k : ℕ) (x : A) → slice_get xs k ≡ Some x → test x ≡ true →
      list_any test xs ≡ true
  any_at test [] k x h t = absurd (none-some x h)
  any_at test (y ∷ ys) zero x h t =
      or_left (test y) (list_any test ys) (subst (λ z. test z ≡ true) (sym (same_Some y x h)) t)
  any_at test (y ∷ ys) (suc k) x h t = or_right (test y) (list_any test ys) (any_at test ys k x h t)

  -- where some member passes, one at a place does
  pub any_there : (test : A → Bool) (xs : List A) → list_any test xs ≡ true →
      (k : ℕ) × (x : A) × (slice_get xs k ≡ Some x) × (test x ≡ true)
  any_there test [] h = absurd (false≢true h)
  any_there test (y ∷ ys) h = elim (or_cases (test y) (list_any test ys) h) [
    | inl t ↦ (zero, y, refl, t)
    | inr t ↦ let i = any_there test ys t in (suc i.0, i.1, i.2, i.3)
  ]

-- ---- paths

-- a path begins what goes on from it
pub begins_joined : (a rest : Path) → begins a (a ++ rest) ≡ true
begins_joined [] rest = refl
begins_joined (n ∷ ns) rest = and_from (bytes_eq n n) (begins ns (ns ++ rest)) (name_itself n) (begins_joined ns rest)

-- a longer path doesn't begin its front
pub longer_begins_not : (a : Path) (name : List ℕ) (names : Path) → begins (a ++ name ∷ names) a ≡ false
longer_begins_not [] name names = refl
longer_begins_not (n ∷ ns) name names = rw (name_itself n) (longer_begins_not ns name names)

-- what a path begins goes on from it
pub begins_rest : (a b : Path) → begins a b ≡ true → (rest : Path) × (b ≡ a ++ rest)
begins_rest [] b h = (b, refl)
begins_rest (n ∷ ns) [] h = absurd (false≢true h)
begins_rest (n ∷ ns) (m ∷ ms) h =
    let p = and_parts (bytes_eq n m) (begins ns ms) h in
    let first : n ≡ m = (bytes_decides n m).0 p.0 in
    let rest = begins_rest ns ms p.1 in
    (rest.0, ap (λ x. x ∷ ms) (sym first) ∙ ap (λ xs. n ∷ xs) rest.1)

-- The constants that rows of sites put at the numbers of files.
use Rattle.std.proofs.Common.{◌≡◌, ◌≢◌, ◌⊎◌, ℕ, zero, suc, List, [], ◌∷◌, set, replicate, length, Option, Some, None}
use Rattle.std.proofs.Common.{slice_get, Contains, All, map, inl, inr, refl, sym, ap, ◌∙◌, subst, arith}
use Rattle.std.proofs.Common.{length-set}
use Rattle.std.proofs.lemmas.Option.{none-some, same_Some}
use Rattle.program_places.specs.Paths.{Path}
use Rattle.tree_scan_sites.specs.declared.spelled.Site.{Site}
use Rattle.tree_scan_sites.specs.declared.spelled.Site.TheVariants.{File, Explicit, Namespace}
use Rattle.tree_scan_sites.specs.declared.spelled.SiteRow.{SiteRow}
use Rattle.tree_scan_sites.specs.declared.spelled.Spelled.{Spelled}
use Rattle.tree_scan_sites.specs.Listed.{Lists}
use Rattle.tree_scan_sites.specs.Rows.{paths_of_rows}
use Rattle.tree_scan_sites.specs.Sites.{IsFileOf, IsNamespace, IsSite}
use Rattle.tree_scan_sites.proofs.MemberLaws.{In, Contains-from_in, in_from_Contains, mapped_in}
use Rattle.tree_scan_sites.proofs.SiteLaws.{one_site}
use Rattle.program_used.specs.Constants.{IsConstantOf, AreConstants, file_in, put_at, put_rows}

-- ---- what stands at a number

abbrev OneSet : (os : List (Option Path)) (n k : ℕ) (v o : Option Path) → Type 0
OneSet os n k v o = ((n ≡ k) × (v ≡ o)) ⊎ ((n ≢ k) × (slice_get os k ≡ Some o))

one_set : (os : List (Option Path)) (n k : ℕ) (v o : Option Path) → slice_get (set os n v) k ≡ Some o →
    OneSet os n k v o
one_set [] n k v o e = absurd (none-some o e)
one_set (x ∷ xs) zero zero v o e = inl (refl, same_Some v o e)
one_set (x ∷ xs) zero (suc k) v o e = inr (λ h. absurd (omega (arith, h)), e)
one_set (x ∷ xs) (suc n) zero v o e = inr (λ h. absurd (omega (arith, h)), e)
one_set (x ∷ xs) (suc n) (suc k) v o e = elim (one_set xs n k v o e) [
  | inl h ↦ inl (ap suc h.0, h.1)
  | inr h ↦ inr (λ q. h.0 (omega (arith, q)), h.1)
]

abbrev OnePut : (os : List (Option Path)) (f : Option ℕ) (p : Path) (k : ℕ) (o : Option Path) → Type 0
OnePut os f p k o = ((f ≡ Some k) × (Some p ≡ o)) ⊎ ((f ≡ Some k → ⊥) × (slice_get os k ≡ Some o))

one_put : (os : List (Option Path)) (f : Option ℕ) (p : Path) (k : ℕ) (o : Option Path) →
    slice_get (put_at os f p) k ≡ Some o → OnePut os f p k o
one_put os None p k o e = inr (λ h. none-some k h, e)
one_put os (Some n) p k o e = elim (one_set os n k (Some p) o e) [
  | inl h ↦ inl (ap (λ m. Some m) h.0, h.1)
  | inr h ↦ inr (λ q. h.0 (same_Some n k q), h.1)
]

-- a row of this number's file
abbrev HasRow : List SiteRow → ℕ → Path → Type 0
HasRow rows k path = (row : SiteRow) × In row rows × (file_in row.site ≡ Some k) × (row.path ≡ path)

-- no row is of this number's file
abbrev HasNone : List SiteRow → ℕ → Type 0
HasNone rows k = (row : SiteRow) → In row rows → file_in row.site ≡ Some k → ⊥

abbrev AllPut : (rows : List SiteRow) (os : List (Option Path)) (k : ℕ) (o : Option Path) → Type 0
AllPut rows os k o =
    ((path : Path) × HasRow rows k path × (Some path ≡ o)) ⊎ (HasNone rows k × (slice_get os k ≡ Some o))

none_more : (row : SiteRow) (rows : List SiteRow) (k : ℕ) → (file_in row.site ≡ Some k → ⊥) → HasNone rows k →
    HasNone (row ∷ rows) k
none_more row rows k here there r (inl e) f = here (subst (λ (x : SiteRow). file_in x.site ≡ Some k) (sym e) f)
none_more row rows k here there r (inr h) f = there r h f

all_put : (rows : List SiteRow) (os : List (Option Path)) (k : ℕ) (o : Option Path) →
    slice_get (put_rows os rows) k ≡ Some o → AllPut rows os k o
all_put [] os k o e = inr (λ row h f. absurd h, e)
all_put (row ∷ rows) os k o e = elim (all_put rows (put_at os (file_in row.site) row.path) k o e) [
  | inl w ↦ inl (w.0, (w.1.0, inr w.1.1, w.1.2, w.1.3), w.2)
  | inr w ↦ elim (one_put os (file_in row.site) row.path k o w.1) [
    | inl h ↦ inl (row.path, (row, inl refl, h.0, refl), h.1)
    | inr h ↦ inr (none_more row rows k h.0 w.0, h.1)
  ]
]

replicated : (n : ℕ) (x y : Option Path) (k : ℕ) → slice_get (replicate n x) k ≡ Some y → x ≡ y
replicated zero x y k e = absurd (none-some y e)
replicated (suc n) x y zero e = same_Some x y e
replicated (suc n) x y (suc k) e = replicated n x y k e

length_put : (os : List (Option Path)) (f : Option ℕ) (p : Path) → length (put_at os f p) ≡ length os
length_put os None p = refl
length_put os (Some n) p = length-set os n (Some p)

length_put_rows : (rows : List SiteRow) (os : List (Option Path)) → length (put_rows os rows) ≡ length os
length_put_rows [] os = refl
length_put_rows (row ∷ rows) os =
    length_put_rows rows (put_at os (file_in row.site) row.path) ∙ length_put os (file_in row.site) row.path

length_replicated : (n : ℕ) (x : Option Path) → length (replicate n x) ≡ n
length_replicated zero x = refl
length_replicated (suc n) x = ap suc (length_replicated n x)

-- ---- sites

all_in : (P : SiteRow → Type 0) (rows : List SiteRow) (row : SiteRow) → All P rows → In row rows → P row
all_in P rows row all h = let c = Contains-from_in row rows h in subst P c.2 (all c.0 row c.1)

module _ (spelled : List Spelled) (rows : List SiteRow)
    (sites : All (λ (row : SiteRow). IsSite (Lists spelled) row.path row.site) rows)
    (complete : (path : Path) (site : Site) → IsSite (Lists spelled) path site → Contains (paths_of_rows rows) path)
  where
    site_file : (path : Path) (site : Site) (k : ℕ) → IsSite (Lists spelled) path site → file_in site ≡ Some k →
        (path ≢ []) × IsFileOf (Lists spelled) path k
    site_file [] site k h f = absurd h
    site_file (n ∷ ns) (File file) k h f =
        (λ e. cc, subst (IsFileOf (Lists spelled) (n ∷ ns)) (same_Some file k f) h.0)
    site_file (n ∷ ns) (Explicit file) k h f =
        (λ e. cc, subst (IsFileOf (Lists spelled) (n ∷ ns)) (same_Some file k f) h.0)
    site_file (n ∷ ns) Namespace k h f = absurd (none-some k f)

    sited : (site : Site) (k : ℕ) (path : Path) → IsSite (Lists spelled) path site → file_in site ≡ Some k →
        HasNone rows k → ⊥
    sited site k path is f none =
        let m = mapped_in (λ (row : SiteRow). row.path) path rows
        (in_from_Contains path (paths_of_rows rows) (complete path site is)) in
        let here = all_in (λ (row : SiteRow). IsSite (Lists spelled) row.path row.site) rows m.0 sites m.2 in
        let same = one_site (Lists spelled) path m.0.site site
        (subst (λ p. IsSite (Lists spelled) p m.0.site) m.1 here) is in
        none m.0 m.2 (ap file_in same ∙ f)

    no_file : (c : Path) (k : ℕ) → HasNone rows k → c ≢ [] → IsFileOf (Lists spelled) c k → ⊥
    no_file [] k none named file = named refl
    no_file (n ∷ ns) k none named file =
        let explicit : IsNamespace (Lists spelled) (n ∷ ns) → ⊥ =
        λ inner. sited (Explicit k) k (n ∷ ns) (file, inner) refl none in
        sited (File k) k (n ∷ ns) (file, explicit) refl none

    constant_at : (n k : ℕ) (o : Option Path) → AllPut rows (replicate n None) k o → IsConstantOf spelled k o
    constant_at n k None (inl w) = cc
    constant_at n k (Some c) (inl w) =
        let path : w.1.0.path ≡ c = w.1.3 ∙ same_Some w.0 c w.2 in
        subst (λ p. (p ≢ []) × IsFileOf (Lists spelled) p k) path
        (site_file w.1.0.path w.1.0.site k
        (all_in (λ (row : SiteRow). IsSite (Lists spelled) row.path row.site) rows w.1.0 sites w.1.1) w.1.2)
    constant_at n k None (inr w) = λ c named file. no_file c k w.0 named file
    constant_at n k (Some c) (inr w) = let e = replicated n None (Some c) k w.1 in cc

    -- what the rows of all sites put at the numbers of files are the constants of the files
    pub constants_put : (files : ℕ) → AreConstants spelled files (put_rows (replicate files None) rows)
    constants_put files = record {
      size = length_put_rows rows (replicate files None) ∙ length_replicated files None;
      each = λ number constant e.
          constant_at files number constant (all_put rows (replicate files None) number constant e);
    }

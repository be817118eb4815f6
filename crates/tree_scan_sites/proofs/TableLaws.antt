-- What a table's calls give: the row of a path, or that there is none; shadowed files.
use Rattle.std.proofs.Common.{◌≡◌, ◌↔◌, ℕ, zero, suc, ◌<◌, ◌≤◌, ◌+◌, Bool, true, false, cond, eqb, nat_eq, List, []}
use Rattle.std.proofs.Common.{◌∷◌, length, get_or, HoldsAt, Contains, All, AllPairs, Option, Some, None, refl, sym, ap}
use Rattle.std.proofs.Common.{◌∙◌, subst, inl, inr, ◌⊎◌, arith}
use Rattle.std.specs.Prelude.{IfSome, IfNone}
use Rattle.std.specs.List.{list_any, dedup}
use Rattle.std.specs.List.Sorted.{IsPermutation, IsNonDecreasingBy, IsPartitionPoint}
use Rattle.std.specs.Ordering.{ordering_index, is_lt}
use Rattle.std.specs.declared.cmp.Ordering.TheVariants.{Less, Equal, Greater}
use Rattle.std.proofs.lemmas.Bool.{false≢true, eqb-true, eq-eqb}
use Rattle.std.proofs.lemmas.Cmp.{nat_eq_equiv}
use Rattle.std.proofs.lemmas.List.Sorted.{searchable_from_sorted, Contains-permutation, IsPermutation-sym}
use Rattle.std.proofs.lemmas.List.Kept.{Contains-dedup_nat, Contains-from_dedup}
use Rattle.std.proofs.lemmas.Map.Views.{list_any-from_Contains, Contains-from_any}
use Rattle.tree_scan_sites.specs.declared.spelled.Spelled.{Spelled}
use Rattle.tree_scan_sites.specs.declared.spelled.SiteRow.{SiteRow}
use Rattle.tree_scan_sites.specs.declared.spelled.Site.{Site}
use Rattle.tree_scan_sites.specs.Paths.{path_order, IsBeforePath}
use Rattle.tree_scan_sites.specs.Sites.{IsFileOf, IsShadowed, IsSite, ListsChildren}
use Rattle.tree_scan_sites.specs.Listed.{Lists, first_file, is_file, hidden_file, hidden_files}
use Rattle.tree_scan_sites.specs.Reached.{paths_from}
use Rattle.tree_scan_sites.specs.Rows.{paths_of_rows}
use Rattle.tree_scan_sites.specs.Table.{IsTable}
use Rattle.tree_scan_sites.proofs.OrderLaws.{path_order_total, exact_paths, order_itself, later_is, same_tests}
use Rattle.tree_scan_sites.proofs.MemberLaws.{In, Contains-from_in, in_from_Contains, in_append, in_front, in_behind}
use Rattle.tree_scan_sites.proofs.MemberLaws.{mapped_in, Each, of_each, each_weaker, All-from_each, Rises}
use Rattle.tree_scan_sites.proofs.MemberLaws.{AllPairs-from_rises}
use Rattle.tree_scan_sites.proofs.FileLaws.{NotAfter, in_order_rise, spelling, file_from_first, none_from_first}
use Rattle.tree_scan_sites.proofs.FileLaws.{first_from_file}
use Rattle.tree_scan_sites.proofs.RowLaws.{IsRow, all_rise, rows_are, row_site, row_children, top_children, no_children}
use Rattle.tree_scan_sites.proofs.RowLaws.{site_reached, paths_of_rows-rows_of}

-- ---- files that are hidden
in_flat : (all : List Spelled) (file : ℕ) (spelled : List Spelled) → In file (hidden_files all spelled) →
    (s : Spelled) × In s spelled × In file (hidden_file all s)
in_flat all file [] h = absurd h
in_flat all file (s ∷ spelled) h = elim (in_append file (hidden_file all s) (hidden_files all spelled) h) [
  | inl a ↦ (s, inl refl, a)
  | inr b ↦ let r = in_flat all file spelled b in (r.0, inr r.1, r.2)
]

flat_in : (all : List Spelled) (file : ℕ) (spelled : List Spelled) (s : Spelled) → In s spelled →
    In file (hidden_file all s) → In file (hidden_files all spelled)
flat_in all file [] s h k = absurd h
flat_in all file (t ∷ spelled) s h k = elim h [
  | inl e ↦ in_front file (hidden_file all t) (hidden_files all spelled)
      (subst (λ (u : Spelled). In file (hidden_file all u)) (sym e) k)
  | inr m ↦ in_behind file (hidden_file all t) (hidden_files all spelled) (flat_in all file spelled s m k)
]

hidden_one : (all : List Spelled) (s : Spelled) (file : ℕ) → In file (hidden_file all s) →
    (is_file (first_file s.constant all) s.file ≡ false) × (s.file ≡ file)
hidden_one all s file h =
    elim (is_file (first_file s.constant all) s.file) as (λ v. is_file (first_file s.constant all) s.file ≡ v →
    In file (cond v [] (s.file ∷ [])) → (is_file (first_file s.constant all) s.file ≡ false) × (s.file ≡ file))
    [ true ↦ λ e k. absurd k | false ↦ λ e k. (e, elim k [ inl z ↦ z | inr z ↦ absurd z ]) ] refl h

one_hidden : (all : List Spelled) (s : Spelled) → is_file (first_file s.constant all) s.file ≡ false →
    In s.file (hidden_file all s)
one_hidden all s e = subst (λ (v : Bool). In s.file (cond v [] (s.file ∷ []))) (sym e) (inl refl)

file_is : (o : Option ℕ) (file : ℕ) → is_file o file ≡ true → o ≡ Some file
file_is None file h = absurd (false≢true h)
file_is (Some first) file h = ap Some (eqb-true first file h)

is_file-Some : (file : ℕ) → is_file (Some file) file ≡ true
is_file-Some file = eq-eqb file file refl

module _ (spelled : List Spelled) (rise : Rises NotAfter spelled) where
  shadowed_from_hidden : (file : ℕ) → In file (hidden_files spelled spelled) → IsShadowed (Lists spelled) file
  shadowed_from_hidden file h =
      let r = in_flat spelled file spelled h in
      let s = r.0 in
      let one = hidden_one spelled s file r.2 in
      let listed : Lists spelled s.constant s.root file = subst (λ (f : ℕ). Lists spelled s.constant s.root f) one.1
      (Contains-from_in s spelled r.1) in (
        s.constant,
        s.root,
        listed,
        λ is.
            false≢true (sym one.0 ∙ (ap (λ f. is_file (first_file s.constant spelled) f) one.1
            ∙ (ap (λ o. is_file o file) (first_from_file spelled rise s.constant file is) ∙ is_file-Some file))),
      )

  hidden_from_shadowed : (file : ℕ) → IsShadowed (Lists spelled) file → In file (hidden_files spelled spelled)
  hidden_from_shadowed file h =
      let s = spelling h.0 h.1 file in
      elim (is_file (first_file h.0 spelled) file) as (λ v. is_file (first_file h.0 spelled) file ≡ v →
      In file (hidden_files spelled spelled)) [
        | true ↦ λ e. absurd (h.3 (file_from_first spelled rise h.0 file (file_is (first_file h.0 spelled) file e)))
        | false ↦ λ e. flat_in spelled file spelled s (in_from_Contains s spelled h.2) (one_hidden spelled s e)
      ] refl

-- what a sort and `dedup` leave has the same files
pub same_files : (hidden sorted files : List ℕ) → IsPermutation hidden sorted → files ≡ dedup eqb sorted →
    (file : ℕ) → Contains files file ↔ Contains hidden file
same_files hidden sorted files moved e file = (
  λ h. Contains-permutation sorted hidden file (IsPermutation-sym hidden sorted moved)
      (Contains-from_dedup eqb sorted file (subst (λ (fs : List ℕ). Contains fs file) e h)),
  λ h. subst (λ (fs : List ℕ). Contains fs file) (sym e)
      (Contains-dedup_nat sorted file (Contains-permutation hidden sorted file moved h)),
)

any_listed : (file : ℕ) (files : List ℕ) → list_any (nat_eq file) files ≡ true → Contains files file
any_listed file files h = Contains-from_any {eq = nat_eq} (λ x y e. eqb-true x y e) file files h

listed_any : (file : ℕ) (files : List ℕ) → Contains files file → list_any (nat_eq file) files ≡ true
listed_any file files h = list_any-from_Contains nat_eq_equiv file files h

-- lists of the same files answer alike whether they have one
pub same_answers : (files hidden : List ℕ) → ((file : ℕ) → Contains files file ↔ Contains hidden file) → (file : ℕ) →
    list_any (nat_eq file) files ≡ list_any (nat_eq file) hidden
same_answers files hidden same file = same_tests (list_any (nat_eq file) files) (list_any (nat_eq file) hidden)
    (λ h. listed_any file hidden ((same file).0 (any_listed file files h)))
    (λ h. listed_any file files ((same file).1 (any_listed file hidden h)))

-- ---- a table
module _ {spelled : List Spelled} {rows : List SiteRow} {tops nothing : List (List ℕ)} {files : List ℕ}
    (t : IsTable spelled rows tops nothing files) where
  -- the spellings that a table keeps rise
  pub spelled_rise : Rises NotAfter spelled
  spelled_rise = in_order_rise spelled t.sorted

  -- the files that a table keeps as shadowed are the shadowed ones, and all of them
  pub shadowed_exact : (file : ℕ) → Contains files file ↔ IsShadowed (Lists spelled) file
  shadowed_exact file = (
    λ h. shadowed_from_hidden spelled spelled_rise file
        (in_from_Contains file (hidden_files spelled spelled)
        (any_listed file (hidden_files spelled spelled) (sym (t.hidden file) ∙ listed_any file files h))),
    λ h. any_listed file files
        (t.hidden file ∙ listed_any file (hidden_files spelled spelled)
        (Contains-from_in file (hidden_files spelled spelled) (hidden_from_shadowed spelled spelled_rise file h))),
  )

  -- each row that a table keeps says of its path what it is to say
  pub are_rows : Each (IsRow spelled (paths_from [] spelled)) rows
  are_rows = subst (Each (IsRow spelled (paths_from [] spelled))) (sym t.rows) (rows_are spelled spelled_rise)

  -- each row that a table keeps has the site of its path
  pub all_sites : All (λ row. IsSite (Lists spelled) row.path row.site) rows
  all_sites = All-from_each (λ row. IsSite (Lists spelled) row.path row.site) rows
      (each_weaker (IsRow spelled (paths_from [] spelled)) (λ row. IsSite (Lists spelled) row.path row.site)
      (λ row r. row_site spelled spelled_rise row r) rows are_rows)

  -- each row that a table keeps has the children of its path
  pub all_children : All (λ row. ListsChildren (Lists spelled) row.path row.children) rows
  all_children = All-from_each (λ row. ListsChildren (Lists spelled) row.path row.children) rows
      (each_weaker (IsRow spelled (paths_from [] spelled))
      (λ row. ListsChildren (Lists spelled) row.path row.children)
      (λ row r. row_children spelled spelled_rise row r) rows are_rows)

  paths_are : paths_of_rows rows ≡ paths_from [] spelled
  paths_are = ap paths_of_rows t.rows ∙ paths_of_rows-rows_of spelled (paths_from [] spelled)

  in_rows : (path : List (List ℕ)) (site : Site) → IsSite (Lists spelled) path site → In path (paths_of_rows rows)
  in_rows path site h = subst (In path) (sym paths_are) (site_reached spelled spelled_rise path site h)

  -- each constant that has a site has a row in the table
  pub all_listed : (path : List (List ℕ)) (site : Site) → IsSite (Lists spelled) path site →
      Contains (paths_of_rows rows) path
  all_listed path site h = Contains-from_in path (paths_of_rows rows) (in_rows path site h)

  -- the rows that a table keeps rise by their paths, so a path is found by halving
  pub rows_rise : AllPairs (λ row later. IsBeforePath row.path later.path) rows
  rows_rise = AllPairs-from_rises (λ row later. IsBeforePath row.path later.path) rows
      (rises_of rows (subst (Rises IsBeforePath) (sym paths_are) (all_rise spelled spelled_rise)))
    where
      each_of_paths : (p : List (List ℕ)) (rs : List SiteRow) → Each (IsBeforePath p) (paths_of_rows rs) →
          Each (λ later. IsBeforePath p later.path) rs
      each_of_paths p [] h = tt
      each_of_paths p (r ∷ rs) h = (h.0, each_of_paths p rs h.1)

      rises_of : (rs : List SiteRow) → Rises IsBeforePath (paths_of_rows rs) →
          Rises (λ row later. IsBeforePath row.path later.path) rs
      rises_of [] h = tt
      rises_of (r ∷ rs) h = (each_of_paths r.path rs h.0, rises_of rs h.1)

  -- the first file that is found in the table's spellings is the constant's file
  pub found_file : (path : List (List ℕ)) (first : Option ℕ) → first ≡ first_file path spelled →
      IfSome first (IsFileOf (Lists spelled) path)
  found_file path None e = tt
  found_file path (Some file) e = file_from_first spelled spelled_rise path file (sym e)

  -- where none is found in the table's spellings, the constant has no file
  pub no_file : (path : List (List ℕ)) (first : Option ℕ) → first ≡ first_file path spelled →
      IfNone first ((file : ℕ) → IsFileOf (Lists spelled) path file → ⊥)
  no_file path None e = λ file h. none_from_first spelled path (sym e) h.0 file h.1
  no_file path (Some first) e = tt

  -- ---- the row of a path
  module _ (path : List (List ℕ)) (place : ℕ) (row : SiteRow) (within : place < length rows)
      (at : row ≡ get_or rows place row) (is : HoldsAt (λ r. path_order r.path path ≡ Equal) rows place) where
    has_path : row.path ≡ path
    has_path = exact_paths row.path path (ap (λ r. path_order r.path path) at ∙ is row)

    the_row : IsRow spelled (paths_from [] spelled) row
    the_row = of_each (IsRow spelled (paths_from [] spelled)) rows row are_rows
        (in_from_Contains row rows (place, within, sym at))

    -- the row that a search finds has the site of the path
    pub found_site : IsSite (Lists spelled) path row.site
    found_site = subst (λ (p : List (List ℕ)). IsSite (Lists spelled) p row.site) has_path
        (row_site spelled spelled_rise row the_row)

    -- the row that a search finds has the children of the path
    pub found_children : ListsChildren (Lists spelled) path row.children
    found_children = subst (λ (p : List (List ℕ)). ListsChildren (Lists spelled) p row.children) has_path
        (row_children spelled spelled_rise row the_row)

  searchable : (path : List (List ℕ)) → IsNonDecreasingBy (λ r. ordering_index (path_order r.path path)) rows
  searchable path = searchable_from_sorted path_order_total (λ r. r.path) rows path
      (λ k d low high. ap is_lt
      (later_is (get_or rows k d).path (get_or rows (k + 1) d).path (rows_rise k (k + 1) d (omega arith) high)))

  -- ---- a path without a row
  module _ (path : List (List ℕ)) (place : ℕ)
      (parts : IsNonDecreasingBy (λ r. ordering_index (path_order r.path path)) rows →
      IsPartitionPoint (λ r. path_order r.path path ≡ Less) (λ r. path_order r.path path ≡ Greater) rows place) where
    no_row : In path (paths_of_rows rows) → ⊥
    no_row h =
        let found = mapped_in (λ row. row.path) path rows h in
        let row = found.0 in
        let at = Contains-from_in row rows found.2 in
        let equal : path_order (get_or rows at.0 row).path path ≡ Equal = ap (λ r. path_order r.path path) at.2
        ∙ (ap (λ p. path_order p path) found.1 ∙ order_itself path) in
        let both = parts (searchable path) in
        elim (lt_or at.0 place) [
          | inl a ↦ (let z : Less ≡ Equal = sym (both.0 at.0 row (omega arith) a) ∙ equal in cc)
          | inr b ↦ (let z : Greater ≡ Equal = sym (both.1 at.0 row b at.1) ∙ equal in cc)
        ]
      where
        lt_or : (k n : ℕ) → (k < n) ⊎ (n ≤ k)
        lt_or k zero = inr (omega arith)
        lt_or zero (suc n) = inl (omega arith)
        lt_or (suc k) (suc n) = elim (lt_or k n) [ inl a ↦ inl (omega (arith, a)) | inr a ↦ inr (omega (arith, a)) ]

    -- a path of which a search finds no row has no site
    pub missing_site : (site : Site) → IsSite (Lists spelled) path site → ⊥
    missing_site site h = no_row (in_rows path site h)

    -- a constant with a name, of whose path a search finds no row, has no children
    pub missing_children : (path ≡ [] → ⊥) → ListsChildren (Lists spelled) path nothing
    missing_children some = subst (ListsChildren (Lists spelled) path) (sym t.none)
        (no_children spelled spelled_rise path some (λ h. no_row (subst (In path) (sym paths_are) h)))

  -- the children that the table keeps for the empty path are those of Object
  pub tops_are : (path : List (List ℕ)) → path ≡ [] → ListsChildren (Lists spelled) path tops
  tops_are path e = subst (λ (p : List (List ℕ)). ListsChildren (Lists spelled) p tops) (sym e)
      (subst (ListsChildren (Lists spelled) []) (sym t.top) (top_children spelled spelled_rise))

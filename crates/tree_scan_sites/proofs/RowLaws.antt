-- The table's rows: each has the site and the children of its path.
use Rattle.std.proofs.Common.{◌≡◌, ◌==◌, ℕ, Bool, true, false, List, [], ◌∷◌, ◌++◌, length, Option, Some, None, refl}
use Rattle.std.proofs.Common.{sym, ap, ◌∙◌, subst, inl, inr, ◌⊎◌, arith, append_assoc}
use Rattle.std.specs.Ordering.{is_gt}
use Rattle.std.proofs.lemmas.Bool.{false≢true, eqb-true}
use Rattle.std.proofs.lemmas.List.{append-nil}
use Rattle.outside.specs.Order.{IsBefore}
use Rattle.tree_scan_sites.specs.declared.spelled.Spelled.{Spelled}
use Rattle.tree_scan_sites.specs.declared.spelled.SiteRow.{SiteRow}
use Rattle.tree_scan_sites.specs.declared.spelled.Site.{Site}
use Rattle.tree_scan_sites.specs.declared.spelled.Site.TheVariants.{File, Explicit, Namespace}
use Rattle.tree_scan_sites.specs.Paths.{path_order, IsBeforePath}
use Rattle.tree_scan_sites.specs.Sites.{IsFileOf, IsNamespace, IsNamedSite, IsSite, ListsChildren}
use Rattle.tree_scan_sites.specs.Listed.{Lists, first_file}
use Rattle.tree_scan_sites.specs.Reached.{paths_from}
use Rattle.tree_scan_sites.specs.Rows.{children_run, site_of, rows_of, paths_of_rows}
use Rattle.tree_scan_sites.proofs.OrderLaws.{front_before, not_before_itself, not_both}
use Rattle.tree_scan_sites.proofs.MemberLaws.{In, Contains-from_in, in_from_Contains, mapped_in, Each, each_of, of_each}
use Rattle.tree_scan_sites.proofs.MemberLaws.{Rises, AllPairs-from_rises}
use Rattle.tree_scan_sites.proofs.ReachLaws.{reached_by, reached, all_behind, paths_rise, Climbs, paths_climb}
use Rattle.tree_scan_sites.proofs.FileLaws.{NotAfter, spelling, constants_rise, file_from_first, none_from_first}
use Rattle.tree_scan_sites.proofs.FileLaws.{first_from_file}
use Rattle.tree_scan_sites.proofs.ChildLaws.{begun, child_in, in_child, begun_rise, begun_by_length, begins_itself}

-- rows have the paths that they are made of
pub paths_of_rows-rows_of : (spelled : List Spelled) (paths : List (List (List ℕ))) →
    paths_of_rows (rows_of spelled paths) ≡ paths
paths_of_rows-rows_of spelled [] = refl
paths_of_rows-rows_of spelled (p ∷ paths) = ap (λ ps. p ∷ ps) (paths_of_rows-rows_of spelled paths)

some_child : (names : List (List ℕ)) → (length names == 0) ≡ false → (n : List ℕ) × In n names
some_child [] h = absurd (false≢true (sym h))
some_child (n ∷ names) h = (n, inl refl)

no_child : (names : List (List ℕ)) → (length names == 0) ≡ true → (n : List ℕ) → In n names → ⊥
no_child [] h n k = k
no_child (m ∷ names) h n k = absurd (omega (arith, eqb-true (length (m ∷ names)) 0 h))

-- what a row says, in terms of all paths
pub record IsRow (spelled : List Spelled) (all : List (List (List ℕ))) (row : SiteRow) : Type 0 where
  pub reached : In row.path all
  pub told : row.site ≡ site_of (first_file row.path spelled) (length row.children == 0)
  pub child : (n : List ℕ) → In n row.children → In (row.path ++ n ∷ []) all
  pub whole : (n : List ℕ) → In (row.path ++ n ∷ []) all → In n row.children
  pub rising : Rises IsBefore row.children

-- each path is among these, or before all of them
abbrev Covers : (all paths : List (List (List ℕ))) → Type 0
Covers all paths = (q : List (List ℕ)) → In q all → In q paths ⊎ Each (IsBeforePath q) paths

are_rows : (spelled : List Spelled) (previous : List (List ℕ)) (all paths : List (List (List ℕ))) →
    Climbs previous paths → Rises IsBeforePath paths → ((q : List (List ℕ)) → In q paths → In q all) →
    Covers all paths → Each (IsRow spelled all) (rows_of spelled paths)
are_rows spelled previous all [] climbs rise sub covers = tt
are_rows spelled previous all (p ∷ paths) climbs rise sub covers =
    let names : children_run (length p) paths ≡ begun p paths =
    begun_by_length p p paths (begins_itself p) climbs.1 rise.0 in (
      record {
        reached = sub p (inl refl);
        told = refl;
        child = λ n h. sub (p ++ n ∷ []) (inr (child_in p n paths (subst (In n) names h)));
        whole = λ n h. elim (covers (p ++ n ∷ []) h) [
          | inl a ↦ elim a [
            | inl same ↦ absurd (not_before_itself p
                (subst (λ (u : List (List ℕ)). IsBeforePath p u) (sym same) (front_before p n [])))
            | inr k ↦ subst (In n) (sym names) (in_child p n paths rise.0 rise.1 k)
          ]
          | inr b ↦ absurd (not_both p (p ++ n ∷ []) (front_before p n []) b.0)
        ];
        rising = subst (Rises IsBefore) (sym names) (begun_rise p paths rise.1);
      },
      are_rows spelled p all paths climbs.1 rise.1 (λ q h. sub q (inr h)) (λ q h. elim (covers q h) [
        | inl a ↦ elim a [
          | inl same ↦ inr (subst (λ (u : List (List ℕ)). Each (IsBeforePath u) paths) same rise.0)
          | inr k ↦ inl k
        ]
        | inr b ↦ inr b.1
      ]),
    )

lists_at : (spelled : List Spelled) (s : Spelled) (c : List (List ℕ)) → In s spelled → s.constant ≡ c →
    Lists spelled c s.root s.file
lists_at spelled s c h e = subst (λ (p : List (List ℕ)). Lists spelled p s.root s.file) e (Contains-from_in s spelled h)

-- ---- of spellings in order
module _ (spelled : List Spelled) (rise : Rises NotAfter spelled) where
  abbrev all : List (List (List ℕ))
  all = paths_from [] spelled

  -- the table's paths rise
  pub all_rise : Rises IsBeforePath all
  all_rise = paths_rise [] spelled (constants_rise spelled rise)

  none_least : (ss : List Spelled) → Each (λ s. is_gt (path_order [] s.constant) ≡ false) ss
  none_least [] = tt
  none_least (s ∷ ss) = (least s.constant, none_least ss)
    where
      least : (c : List (List ℕ)) → is_gt (path_order [] c) ≡ false
      least [] = refl
      least (x ∷ c) = refl

  -- each of the table's paths is at most one level deeper than the one before it
  pub all_climb : Climbs [] all
  all_climb = paths_climb [] spelled (none_least spelled) (constants_rise spelled rise)

  -- Object's path comes before all of the table's paths
  pub above_all : Each (IsBeforePath []) all
  above_all = each_of (IsBeforePath []) all
      (λ q h. all_behind [] spelled (none_least spelled) (constants_rise spelled rise) q h)

  -- each row says of its path what it is to say, in terms of all paths
  pub rows_are : Each (IsRow spelled all) (rows_of spelled all)
  rows_are = are_rows spelled [] all all all_climb all_rise (λ q h. h) (λ q h. inl h)

  -- a listed constant that goes on behind a path has the path's child, and the path, among all
  child_reached : (p : List (List ℕ)) (m : List ℕ) (ms : List (List ℕ)) (s : Spelled) → In s spelled →
      s.constant ≡ p ++ m ∷ ms → In (p ++ m ∷ []) all
  child_reached [] m ms s h e = reached spelled s m [] ms h e
  child_reached (x ∷ p) m ms s h e = reached spelled s x (p ++ m ∷ []) ms h
      (e ∙ ap (λ q. x ∷ q) (sym (append_assoc p (m ∷ []) ms)))

  namespace_of : (p : List (List ℕ)) (m : List ℕ) → In (p ++ m ∷ []) all → IsNamespace (Lists spelled) p
  namespace_of p m h =
      let r = reached_by [] spelled (p ++ m ∷ []) h in (
        m,
        r.2.rest,
        r.0.root,
        r.0.file,
        lists_at spelled r.0 (p ++ m ∷ r.2.rest) r.1
            (r.2.whole ∙ append_assoc p (m ∷ []) r.2.rest),
      )

  child_of_namespace : (p : List (List ℕ)) → IsNamespace (Lists spelled) p → (m : List ℕ) × In (p ++ m ∷ []) all
  child_of_namespace p h =
      let s = spelling (p ++ h.0 ∷ h.1) h.2 h.3 in
      (h.0, child_reached p h.0 h.1 s (in_from_Contains s spelled h.4) refl)

  module _ (row : SiteRow) (r : IsRow spelled all row) where
    has_namespace : (length row.children == 0) ≡ false → IsNamespace (Lists spelled) row.path
    has_namespace z = let one = some_child row.children z in namespace_of row.path one.0 (r.child one.0 one.1)

    no_namespace : (length row.children == 0) ≡ true → IsNamespace (Lists spelled) row.path → ⊥
    no_namespace z h = let one = child_of_namespace row.path h in no_child row.children z one.0 (r.whole one.0 one.1)

    not_bare : first_file row.path spelled ≡ None → (length row.children == 0) ≡ true → ⊥
    not_bare e z =
        let b = reached_by [] spelled row.path r.reached in
        bare b.2.rest b.0 b.1 b.2.whole
      where
        bare : (rest : List (List ℕ)) (s : Spelled) → In s spelled → s.constant ≡ row.path ++ rest → ⊥
        bare [] s h w = none_from_first spelled row.path e s.root s.file
            (lists_at spelled s row.path h (w ∙ append-nil row.path))
        bare (m ∷ ms) s h w = no_child row.children z m (r.whole m (child_reached row.path m ms s h w))

    named : (o : Option ℕ) (v : Bool) → first_file row.path spelled ≡ o → (length row.children == 0) ≡ v →
        IsNamedSite (Lists spelled) row.path (site_of o v)
    named None true e z = absurd (not_bare e z)
    named None false e z = (
      has_namespace z,
      λ file h. let k : None ≡ Some file = sym e
          ∙ first_from_file spelled rise row.path file h in cc,
    )
    named (Some file) true e z = (file_from_first spelled rise row.path file e, no_namespace z)
    named (Some file) false e z = (file_from_first spelled rise row.path file e, has_namespace z)

    -- a row's site is the site of its path
    pub row_site : IsSite (Lists spelled) row.path row.site
    row_site =
        let b = (reached_by [] spelled row.path r.reached).2 in
        let told : IsNamedSite (Lists spelled) row.path row.site = subst (IsNamedSite (Lists spelled) row.path)
        (sym r.told) (named (first_file row.path spelled) (length row.children == 0) refl refl) in
        subst (λ (p : List (List ℕ)). IsSite (Lists spelled) p row.site) (sym b.is)
        (subst (λ (p : List (List ℕ)). IsNamedSite (Lists spelled) p row.site) b.is told)

  -- ---- sites and paths
  file_reached : (name : List ℕ) (names : List (List ℕ)) (file : ℕ) → IsFileOf (Lists spelled) (name ∷ names) file →
      In (name ∷ names) all
  file_reached name names file h =
      let s = spelling (name ∷ names) h.0 file in
      reached spelled s name names [] (in_from_Contains s spelled h.1) (sym (append-nil (name ∷ names)))

  -- each constant that has a site is among the table's paths
  pub site_reached : (c : List (List ℕ)) (site : Site) → IsSite (Lists spelled) c site → In c all
  site_reached [] site h = absurd h
  site_reached (name ∷ names) (File file) h = file_reached name names file h.0
  site_reached (name ∷ names) (Explicit file) h = file_reached name names file h.0
  site_reached (name ∷ names) Namespace h =
      let n = h.0 in
      let s = spelling ((name ∷ names) ++ n.0 ∷ n.1) n.2 n.3 in
      reached spelled s name names (n.0 ∷ n.1) (in_from_Contains s spelled n.4) refl

  -- each of the table's paths has a row
  pub row_for : (q : List (List ℕ)) → In q all → (row : SiteRow) × (row.path ≡ q) × In row (rows_of spelled all)
  row_for q h = mapped_in (λ row. row.path) q (rows_of spelled all)
      (subst (In q) (sym (paths_of_rows-rows_of spelled all)) h)

  -- each of the table's paths is that of a constant that has a site
  pub site_for : (q : List (List ℕ)) → In q all → (site : Site) × IsSite (Lists spelled) q site
  site_for q h =
      let found = row_for q h in (
        found.0.site,
        subst (λ (p : List (List ℕ)). IsSite (Lists spelled) p found.0.site) found.1
            (row_site found.0 (of_each (IsRow spelled all) (rows_of spelled all) found.0 rows_are found.2)),
      )

  -- names that are the last names of the paths behind a constant
  children_by : (c : List (List ℕ)) (names : List (List ℕ)) → ((n : List ℕ) → In n names → In (c ++ n ∷ []) all) →
      ((n : List ℕ) → In (c ++ n ∷ []) all → In n names) → Rises IsBefore names → ListsChildren (Lists spelled) c names
  children_by c names to from up = record {
    exact = λ n. (
      λ h. site_for (c ++ n ∷ []) (to n (in_from_Contains n names h)),
      λ h.
          Contains-from_in n names (from n (site_reached (c ++ n ∷ []) h.0 h.1)),
    );
    rising = AllPairs-from_rises IsBefore names up;
  }

  -- a row's children are those of its path
  pub row_children : (row : SiteRow) → IsRow spelled all row → ListsChildren (Lists spelled) row.path row.children
  row_children row r = children_by row.path row.children r.child r.whole r.rising

  -- the children of Object are the names of the paths with one name
  pub top_children : ListsChildren (Lists spelled) [] (children_run 0 all)
  top_children =
      let names : children_run 0 all ≡ begun [] all = begun_by_length [] [] all refl all_climb above_all in
      children_by [] (children_run 0 all) (λ n h. child_in [] n all (subst (In n) names h))
      (λ n h. subst (In n) (sym names) (in_child [] n all above_all all_rise h))
      (subst (Rises IsBefore) (sym names) (begun_rise [] all all_rise))

  -- a constant that isn't among the table's paths has no children
  pub no_children : (c : List (List ℕ)) → (c ≡ [] → ⊥) → (In c all → ⊥) → ListsChildren (Lists spelled) c []
  no_children [] some none = absurd (some refl)
  no_children (x ∷ c) some none = children_by (x ∷ c) [] (λ n h. absurd h)
      (λ n h. let r = reached_by [] spelled ((x ∷ c) ++ n ∷ []) h in
      none (reached spelled r.0 x c (n ∷ r.2.rest) r.1 (r.2.whole ∙ append_assoc (x ∷ c) (n ∷ []) r.2.rest))) tt

-- The sites of an application, from what its files spell.
use Rattle.std.proofs.Common.{◌≡◌, ◌↔◌, ℕ, ◌<◌, List, length, get_or, Contains, All, sym, subst}
use Rattle.std.specs.List.Sorted.{IsPermutation}
use Rattle.std.proofs.lemmas.List.Elements.{Contains-get_or}
use Rattle.std.proofs.lemmas.Option.{slice_get_within}
use Rattle.outside.specs.Tree.{paths_of}
use Rattle.outside.specs.declared.files.FileEntry.{FileEntry}
use Rattle.app_config.specs.declared.config.Config.{Config}
use Rattle.tree_scan_roots.specs.Roots.{AreRoots, NamesOnce}
use Rattle.tree_scan_roots.specs.declared.roots.Root.{Root}
use Rattle.tree_scan_sites.specs.declared.spelled.Spelled.{Spelled}
use Rattle.tree_scan_sites.specs.Listed.{Lists}
use Rattle.tree_scan_sites.specs.Sites.{IsShadowed}
use Rattle.tree_scan_sites.proofs.SiteLaws.{SameSpellings, same_back, same_shadowed, same_listed}
use Rattle.tree_scan.specs.Spells.{Spells, HasBadName}
use Rattle.tree_scan.specs.Scanned.{Scanned}
use Rattle.tree_scan.specs.Sites.{AreSites, ArePathsOf}

-- what a table lists is what the files spell
pub table_spells : (roots : List Root) (config : Config) (files : List FileEntry) (spelled table : List Spelled) →
    IsPermutation spelled table →
    SameSpellings (Lists spelled) (Spells roots config files) → SameSpellings (Lists table) (Spells roots config files)
table_spells roots config files spelled table p same c r f =
    let back : SameSpellings (Lists table) (Lists spelled) = same_back (Lists spelled) (Lists table)
    (same_listed spelled table p) in
    (λ h. (same c r f).0 ((back c r f).0 h), λ s. (back c r f).1 ((same c r f).1 s))

-- a shadowed file is one of the files
pub shadowed_within : (roots : List Root) (config : Config) (files : List FileEntry) (table : List Spelled)
    (shadowed : List ℕ) →
    SameSpellings (Lists table) (Spells roots config files) →
    ((file : ℕ) → Contains shadowed file ↔ IsShadowed (Lists table) file) →
    All (λ file. file < length files) shadowed
shadowed_within roots config files table shadowed same exact k d within =
    let h : IsShadowed (Lists table) (get_or shadowed k d) =
    (exact (get_or shadowed k d)).0 (Contains-get_or shadowed k d within) in
    let s : Spells roots config files h.0 h.1 (get_or shadowed k d) = (same h.0 h.1 (get_or shadowed k d)).0 h.2 in
    slice_get_within files (get_or shadowed k d) s.entry s.stands

-- numbers of which the same holds have the same paths
paths_by : (files : List FileEntry) (P Q : ℕ → Type 0) (paths : List (List ℕ)) → ((n : ℕ) → P n ↔ Q n) →
    ArePathsOf files P paths → ArePathsOf files Q paths
paths_by files P Q paths same h = record {
  exact = λ path. (
    λ k. let r = (h.exact path).0 k in (r.0, r.1, (same r.0).0 r.2),
    λ k.
        (h.exact path).1 (k.0, k.1, (same k.0).1 k.2),
  );
  rising = h.rising;
}

-- the table of what the files spell, and the paths of the shadowed files, are the sites
pub are_sites : (roots : List Root) (config : Config) (files : List FileEntry) (spelled table : List Spelled)
    (numbers : List ℕ) (paths : List (List ℕ)) (sites : Scanned) →
    NamesOnce config.roots → AreRoots (paths_of files) config.roots roots → IsPermutation spelled table →
    SameSpellings (Lists spelled) (Spells roots config files) →
    All (λ f. ¬ (HasBadName roots config f.path)) files →
    ((file : ℕ) → Contains numbers file ↔ IsShadowed (Lists table) file) →
    ArePathsOf files (Contains numbers) paths → sites.spelled ≡ table → sites.shadowed ≡ paths →
    AreSites files config sites
are_sites roots config files spelled table numbers paths sites once are p same named exact listed es ep =
    let all : SameSpellings (Lists table) (Spells roots config files) =
    table_spells roots config files spelled table p same in
    record {
      once = once;
      roots = roots;
      are_roots = are;
      spelled = subst (λ l. SameSpellings (Lists l) (Spells roots config files)) (sym es) all;
      named = named;
      shadowed = subst (λ l. ArePathsOf files (IsShadowed (Spells roots config files)) l) (sym ep)
          (paths_by files (Contains numbers) (IsShadowed (Spells roots config files)) paths
          (λ n. (
            λ h. same_shadowed (Lists table) (Spells roots config files) all n ((exact n).0 h),
            λ h. (exact n).1 (same_shadowed (Spells roots config files) (Lists table)
                (same_back (Lists table) (Spells roots config files) all) n h),
          ))
          listed);
    }

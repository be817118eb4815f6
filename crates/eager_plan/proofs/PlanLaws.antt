-- The files that are loaded, from the constants that files have.
use Rattle.std.proofs.Common.{◌≡◌, ◌≢◌, ℕ, ◌<◌, Bool, List, length, Option, Some, None, slice_get, Contains, All}
use Rattle.std.proofs.Common.{refl, sym, ap, ◌∙◌, subst, get_or, []}
use Rattle.std.proofs.lemmas.List.Elements.{Contains-get_or}
use Rattle.std.proofs.lemmas.List.Sorted.{Contains-permutation, IsPermutation-sym}
use Rattle.std.proofs.lemmas.Option.{same_Some, slice_get_within, slice_get-get_or}
use Rattle.outside.specs.Tree.{paths_of}
use Rattle.outside.specs.declared.files.FileEntry.{FileEntry}
use Rattle.app_config.specs.declared.config.Config.{Config}
use Rattle.program_places.specs.Paths.{Path}
use Rattle.program_used.specs.Constants.{AreConstants, IsConstantOf}
use Rattle.tree_command.proofs.OneLaws.{one_roots}
use Rattle.tree_scan_roots.specs.Roots.{AreRoots}
use Rattle.tree_scan_roots.specs.declared.roots.Root.{Root}
use Rattle.tree_scan_sites.specs.Listed.{Lists}
use Rattle.tree_scan_sites.specs.Sites.{IsFileOf}
use Rattle.tree_scan_sites.specs.declared.spelled.Spelled.{Spelled}
use Rattle.tree_scan.specs.Scanned.{Scanned}
use Rattle.tree_scan.specs.Sites.{AreSites, path_in, path_at}
use Rattle.tree_scan.specs.Spells.{Spells}
use Rattle.eager_order.specs.EagerOrder.{AreInEagerOrder, IsBelowRoot}
use Rattle.eager_plan.specs.Plan.{IsUsed, IsLoaded, AreEagerFiles}
use Rattle.eager_plan.specs.Chosen.{AreBelowRoots, IsChosen, IsChosenAs, AreChosen}

-- what the constant of a number says
said : (spelled : List Spelled) (constants : List (Option Path)) (files : ℕ) → AreConstants spelled files constants →
    (file : ℕ) (c : Path) → slice_get constants file ≡ Some (Some c) → (c ≢ []) × IsFileOf (Lists spelled) c file
said spelled constants files are file c e = are.each file (Some c) e

-- a file that has a constant is the constant's
pub used_by : (spelled : List Spelled) (constants : List (Option Path)) (files : ℕ) →
    AreConstants spelled files constants → (file : ℕ) → (c : Path) → slice_get constants file ≡ Some (Some c) →
    IsUsed spelled file
used_by spelled constants files are file c e = let h = said spelled constants files are file c e in (c, h.0, h.1)

-- the constant of a file that is used
constant_by : (spelled : List Spelled) (file : ℕ) (o : Option Path) → IsUsed spelled file →
    IsConstantOf spelled file o → (c : Path) × (o ≡ Some c)
constant_by spelled file None used none = absurd (none used.0 used.1 used.2)
constant_by spelled file (Some c) used is = (c, refl)

module _ (files : List FileEntry) (config : Config) (sites : Scanned) (are : AreSites files config sites)
    (constants : List (Option Path)) (have : AreConstants sites.spelled (length files) constants)
    (roots : List Root) (are_roots : AreRoots (paths_of files) config.roots roots) where
  -- a used file spells its constant below a root
  spells : (file : ℕ) (c : Path) → IsFileOf (Lists sites.spelled) c file →
      (root : ℕ) × Spells are.roots config files c root file
  spells file c is = (is.0, (are.spelled c is.0 file).0 is.1)

  -- a file that is used is one of the files
  pub used_within : (file : ℕ) → IsUsed sites.spelled file → file < length files
  used_within file used =
      let s = (spells file used.0 used.2).1 in
      slice_get_within files file s.entry s.stands

  -- the roots are those of the sites
  same_roots : are.roots ≡ roots
  same_roots = one_roots (paths_of files) config.roots are.roots roots are.are_roots are_roots

  -- a file that is used is below a root
  pub used_below : (file : ℕ) → IsUsed sites.spelled file → IsBelowRoot roots (path_at files file)
  used_below file used =
      let s = (spells file used.0 used.2).1 in
      let longest = s.spells.spells.longest in
      subst (λ rs. IsBelowRoot rs (path_at files file)) same_roots
      (subst (λ p. IsBelowRoot are.roots p) (sym (ap path_in s.stands)) ((spells file used.0 used.2).0, longest))

  -- each file that has a constant is below a root
  pub below_roots : AreBelowRoots roots files constants
  below_roots file c e = used_below file (used_by sites.spelled constants (length files) have file c e)

  -- a file that is used has a constant
  pub has_constant : (file : ℕ) → IsUsed sites.spelled file → (c : Path) × (slice_get constants file ≡ Some (Some c))
  has_constant file used =
      let within : file < length constants = rw have.size (used_within file used) in
      let at = slice_get-get_or constants file None within in
      let c = constant_by sites.spelled file (get_or constants file None) used
      (have.each file (get_or constants file None) at) in
      (c.0, at ∙ ap Some c.1)

  module _ (only_plan : Bool) (chosen : List ℕ) (are_chosen : AreChosen
      (IsChosen roots config.skip_eager files only_plan constants) (length files) chosen) where
    -- each chosen file is one of the files
    pub chosen_within : All (λ n. n < length files) chosen
    chosen_within k d within =
        ((are_chosen.exact (get_or chosen k d)).0 (Contains-get_or chosen k d within)).0

    -- each chosen file is below a root
    pub chosen_below : All (λ n. IsBelowRoot roots (path_at files n)) chosen
    chosen_below k d within =
        let is = ((are_chosen.exact (get_or chosen k d)).0 (Contains-get_or chosen k d within)).1 in
        below_roots (get_or chosen k d) is.0 is.1

    -- the chosen files in order are those that are loaded
    pub are_eager : (ordered : List ℕ) → AreInEagerOrder roots files chosen ordered →
        AreEagerFiles files config sites.spelled only_plan ordered
    are_eager ordered inorder = record {
      roots = roots;
      are_roots = are_roots;
      exact = λ file. (λ has. loaded file has, λ is. listed file is);
      rising = inorder.rising;
    }
      where
        loaded : (file : ℕ) → Contains ordered file →
            IsLoaded roots config files sites.spelled only_plan file
        loaded file has =
            let is = ((are_chosen.exact file).0 (Contains-permutation ordered chosen file
            (IsPermutation-sym chosen ordered inorder.same) has)).1 in
            record {
              used = used_by sites.spelled constants (length files) have file is.0 is.1;
              kept = is.2;
            }

        listed : (file : ℕ) → IsLoaded roots config files sites.spelled only_plan file → Contains ordered file
        listed file is =
            let c = has_constant file is.used in
            Contains-permutation chosen ordered file inorder.same
            ((are_chosen.exact file).1 (used_within file is.used, (c.0, c.1, is.kept)))

-- a file is chosen by its constant
pub chosen_as : (roots : List Root) (patterns : List (List ℕ)) (files : List FileEntry) (only_plan : Bool)
    (constants : List (Option Path)) (file : ℕ) (o : Option Path) → slice_get constants file ≡ Some o →
    IsChosenAs roots patterns files only_plan file o → IsChosen roots patterns files only_plan constants file
chosen_as roots patterns files only_plan constants file None at is = let none = is.0 in cc
chosen_as roots patterns files only_plan constants file (Some c) at is = (c, at, is.1)

-- a file that isn't chosen by its constant isn't chosen
pub not_chosen_as : (roots : List Root) (patterns : List (List ℕ)) (files : List FileEntry) (only_plan : Bool)
    (constants : List (Option Path)) (file : ℕ) (o : Option Path) → slice_get constants file ≡ Some o →
    (IsChosenAs roots patterns files only_plan file o → ⊥) → IsChosen roots patterns files only_plan constants file → ⊥
not_chosen_as roots patterns files only_plan constants file o at not is =
    let same : o ≡ Some is.0 = same_Some o (Some is.0) (sym at ∙ is.1) in
    not (subst (λ x. IsChosenAs roots patterns files only_plan file x) (sym same) (refl, is.2))

-- What a path spells, told by its part below the longest root.
use Rattle.std.proofs.Common.{◌≡◌, ◌≢◌, ◌↔◌, ℕ, List, ◌++◌, length, Some, slice_get, AllPairs, refl}
use Rattle.std.proofs.Common.{sym, ap, ◌∙◌, subst, inl, inr}
use Rattle.app_config.specs.declared.config.Config.{Config}
use Rattle.tree_scan_roots.specs.declared.roots.Root.{Root}
use Rattle.tree_scan_roots.specs.Roots.{root_paths}
use Rattle.tree_scan_roots.specs.Above.{IsLongestAbove}
use Rattle.tree_scan_names.specs.Counts.{Counts}
use Rattle.tree_scan_names.specs.Below.{SpellsBelow}
use Rattle.tree_scan_names.specs.Spellings.{above, behind, AreConstants, IsSpelling}
use Rattle.tree_scan_names.specs.declared.spelling.Spelling.{Spelling}
use Rattle.tree_scan_names.specs.declared.spelling.Spelling.TheVariants.{Names, Nothing, BadName}
use Rattle.tree_scan_names.proofs.SpellLaws.{SpellsBelow-one}
use Rattle.tree_scan.specs.Spells.{SpellsNames, SpellsConstant, HasBadName}
use Rattle.tree_scan.proofs.RootLaws.{at_root, below_root, same_path, same_below, one_number}

inside_some : (a b : Root) → Some a ≡ Some b → a ≡ b
inside_some a b e = cc

-- where the longest root ends in the path
abbrev pub end_of : {roots : List Root} {path : List ℕ} {number : ℕ} → IsLongestAbove roots path number → ℕ
end_of l = length l.root.path

module _ (roots : List Root) (config : Config) (path : List ℕ) (number : ℕ) (l : IsLongestAbove roots path number) where
  -- a longest root's path is what stands before the slash where one ends
  pub root_here : (r : ℕ) (m : IsLongestAbove roots path r) → m.root.path ≡ above path (end_of l)
  root_here r m = same_path roots path r number m l ∙ sym (at_root l.root.path path l.above.0 l.above.1)

  -- what stands below a longest root is what stands behind the slash where one ends
  pub below_here : (r : ℕ) (m : IsLongestAbove roots path r) → m.above.0 ≡ behind path (end_of l)
  below_here r m = same_below roots path r number m l ∙ sym (below_root l.root.path path l.above.0 l.above.1)

module _ (roots : List Root) (config : Config) (path : List ℕ) (number : ℕ) (l : IsLongestAbove roots path number) where
  -- a path that spells names counts, in terms of what stands around the root's slash
  pub counts_here : (r : ℕ) (names : List (List ℕ)) → SpellsNames roots config path r names →
      Counts config (above path (end_of l)) (behind path (end_of l))
  counts_here r names s =
      subst (λ a. Counts config a (behind path (end_of l))) (root_here roots config path number l r s.longest)
      (subst (λ b. Counts config s.longest.root.path b) (below_here roots config path number l r s.longest) s.counts)

  -- the names that a path spells are those of what stands behind the root's slash
  pub spelled_here : (r : ℕ) (names : List (List ℕ)) → SpellsNames roots config path r names →
      SpellsBelow config (above path (end_of l)) (behind path (end_of l)) names
  spelled_here r names s =
      subst (λ a. SpellsBelow config a (behind path (end_of l)) names)
      (root_here roots config path number l r s.longest)
      (subst (λ b. SpellsBelow config s.longest.root.path b names)
      (below_here roots config path number l r s.longest) s.spelled)

  -- a path that counts spells the names of what stands behind the root's slash
  abbrev pub spells_here : (names : List (List ℕ)) → Counts config (above path (end_of l)) (behind path (end_of l)) →
      SpellsBelow config (above path (end_of l)) (behind path (end_of l)) names →
      SpellsNames roots config path number names
  spells_here names counts spelled = record {
    longest = l;
    counts =
        subst (λ a. Counts config a l.above.0) (sym (root_here roots config path number l number l))
        (subst (λ b. Counts config (above path (end_of l)) b) (sym (below_here roots config path number l number l))
        counts);
    spelled =
        subst (λ a. SpellsBelow config a l.above.0 names) (sym (root_here roots config path number l number l))
        (subst (λ b. SpellsBelow config (above path (end_of l)) b names)
        (sym (below_here roots config path number l number l)) spelled);
  }

module _ (roots : List Root) (config : Config) (path : List ℕ) (number : ℕ) (l : IsLongestAbove roots path number) where
  -- a path that counts for nothing spells nothing
  pub nothing_told : IsSpelling config (above path (end_of l)) (behind path (end_of l)) Nothing →
      (r : ℕ) (names : List (List ℕ)) → SpellsNames roots config path r names → ⊥
  nothing_told is r names s =
      let c : Counts config (above path (end_of l)) (behind path (end_of l)) =
      counts_here roots config path number l r names s in
      elim is [
        | inl other ↦ other c.ruby
        | inr passed ↦ elim passed [
          | inl hidden ↦ c.shown hidden
          | inr ignored ↦ c.kept ignored
        ]
      ]

  -- a path whose spelling is found to be at fault has a bad name
  pub bad_told : IsSpelling config (above path (end_of l)) (behind path (end_of l)) BadName →
      HasBadName roots config path
  bad_told is = record {
    root = number;
    names = is.1.0;
    spells =
        spells_here roots config path number l is.1.0 is.0 is.1.1;
    bad = is.1.2;
  }

  -- what it spells otherwise is no other list
  pub names_told : (names : List (List ℕ)) → IsSpelling config (above path (end_of l)) (behind path (end_of l))
      (Names names) → (r : ℕ) (others : List (List ℕ)) → SpellsNames roots config path r others → others ≡ names
  names_told names is r others s = SpellsBelow-one config (above path (end_of l))
      (behind path (end_of l)) names others is.1 (spelled_here roots config path number l r others s)

module _ (roots : List Root) (config : Config) (path : List ℕ) (number : ℕ) (l : IsLongestAbove roots path number) where
  -- a path that is found to spell constant names has no bad name
  pub no_bad_name : (names : List (List ℕ)) → IsSpelling config (above path (end_of l)) (behind path (end_of l))
      (Names names) → ¬ (HasBadName roots config path)
  no_bad_name names is h =
      h.bad (subst (λ n. AreConstants n)
      (sym (names_told roots config path number l names is h.root h.names h.spells)) is.2)

  same_root : AllPairs (λ p q. p ≢ q) (root_paths roots) → (r : ℕ) (m : IsLongestAbove roots path r) → l.root ≡ m.root
  same_root distinct r m =
      inside_some l.root m.root (sym l.at ∙ ap (slice_get roots) (one_number roots path number r distinct l m) ∙ m.at)

  to_constant : (names : List (List ℕ)) → IsSpelling config (above path (end_of l)) (behind path (end_of l))
      (Names names) → SpellsConstant roots config path (l.root.namespace ++ names) number
  to_constant names is = record {
    names = names;
    spells = spells_here roots config path number l names is.0 is.1;
    joined = refl;
  }

module _ (roots : List Root) (config : Config) (path : List ℕ) (number : ℕ) (l : IsLongestAbove roots path number) where
  -- a path of these names spells one constant, below the one root
  pub constant_told : (names found : List (List ℕ)) → AllPairs (λ p q. p ≢ q) (root_paths roots) →
      IsSpelling config (above path (end_of l)) (behind path (end_of l)) (Names names) →
      found ≡ l.root.namespace ++ names → (constant : List (List ℕ)) (r : ℕ) →
      ((found ≡ constant) × (number ≡ r)) ↔ SpellsConstant roots config path constant r
  constant_told names found distinct is e constant r = (
    λ h. subst (λ n. SpellsConstant roots config path constant n) h.1
        (subst (λ c. SpellsConstant roots config path c number) (sym e ∙ h.0)
        (to_constant roots config path number l names is)),
    λ s. (
      e
          ∙ ap (λ root. root.namespace ++ names) (same_root roots config path number l distinct r s.spells.longest)
          ∙ ap (λ n. s.spells.longest.root.namespace ++ n)
          (sym (names_told roots config path number l names is r s.names s.spells))
          ∙ sym s.joined,
      one_number roots path number r distinct l s.spells.longest,
    ),
  )

-- a spelling that was told of the same path and root, by other words
pub same_spelling : (config : Config) (roots : List Root) (path told : List ℕ) (number end : ℕ) (root : Root)
    (s t : Spelling) (l : IsLongestAbove roots path number) →
    told ≡ path → slice_get roots number ≡ Some root → end ≡ length root.path → s ≡ t →
    IsSpelling config (above told end) (behind told end) s →
    IsSpelling config (above path (end_of l)) (behind path (end_of l)) t
same_spelling config roots path told number end root s t l p at e st h =
    let k : end ≡ end_of l = e ∙ ap (λ r. length r.path) (inside_some root l.root (sym at ∙ l.at)) in
    subst (λ u. IsSpelling config (above path (end_of l)) (behind path (end_of l)) u) st
    (subst (λ n. IsSpelling config (above path n) (behind path n) s) k
    (subst (λ q. IsSpelling config (above q end) (behind q end) s) p h))

-- the names behind a root's namespace, by the root that a number finds
pub same_namespace : (roots : List Root) (path : List ℕ) (number : ℕ) (root : Root)
    (l : IsLongestAbove roots path number) (found names told : List (List ℕ)) →
    slice_get roots number ≡ Some root → found ≡ root.namespace ++ told → told ≡ names →
    found ≡ l.root.namespace ++ names
same_namespace roots path number root l found names told at e t = e ∙ ap (λ n. root.namespace ++ n) t
    ∙ ap (λ r. r.namespace ++ names) (inside_some root l.root (sym at ∙ l.at))

-- Which directories on the way to a file patterns name.
use Rattle.std.proofs.Common.{◌≡◌, ℕ, suc, ◌<◌, ◌≤◌, ◌+◌, ◌-◌, List, ◌∷◌, ◌++◌, length, take, sym, ap, ◌∙◌}
use Rattle.std.proofs.Common.{subst, inl, inr, arith, slice_index, Bool, MatchBool}
use Rattle.std.proofs.lemmas.Bool.{cases_lt}
use Rattle.std.proofs.Math.Seq.{take-append-add}
use Rattle.app_config.specs.Patterns.{IsNamed}
use Rattle.app_config.proofs.MemberLaws.{MatchBool-same}
use Rattle.tree_scan_roots.specs.Above.{IsLongestAbove}
use Rattle.tree_scan_roots.specs.declared.roots.Root.{Root}
use Rattle.tree_scan_roots.specs.Directories.{IsAbove}
use Rattle.tree_scan_roots.proofs.AboveLaws.{above_at, above_shorter}
use Rattle.tree_scan.proofs.RootLaws.{at_root, slash_there}
use Rattle.eager_order.specs.EagerOrder.{IsBelowRoot}
use Rattle.eager_plan.specs.Plan.{IsMarked, IsSkipped}

-- no pattern names a directory on the way from the root to the path whose own path is as long as this or longer
abbrev pub IsUnmarked : (patterns : List (List ℕ)) → (root path : List ℕ) → (end : ℕ) → Type 0
IsUnmarked patterns root path end = (place : List ℕ) → IsAbove root place → IsAbove place path → end ≤ length place →
    IsNamed patterns place → ⊥

module _ (patterns : List (List ℕ)) (root path : List ℕ) where
  -- no directory above a path is as long as the path
  pub none_so_long : IsUnmarked patterns root path (length path)
  none_so_long place below above le named =
      let shorter : length place < length path = above_shorter place path above in
      absurd (omega arith)

  -- a directory that ends at a place is the path up to there, and a slash stands behind it
  ends_at : (place : List ℕ) (end : ℕ) → IsAbove place path → length place ≡ end →
      (slice_index path end ≡ 47) × (place ≡ take end path)
  ends_at place end above e = (
    ap (slice_index path) (sym e) ∙ slash_there place path above.0 above.1,
    sym (at_root place path above.0 above.1) ∙ ap (λ n. take n path) e,
  )

  -- where the patterns don't name what ends here either, none is named from here on
  pub unmarked_here : (end behind : ℕ) → behind ≡ end + 1 → IsUnmarked patterns root path behind →
      ((slice_index path end ≡ 47) → IsNamed patterns (take end path) → ⊥) → IsUnmarked patterns root path end
  unmarked_here end behind e later here place below above le named = elim (cases_lt end (length place)) [
    | inl lt ↦ later place below above (omega arith) named
    | inr ge ↦
        let same : length place ≡ end = omega arith in
        let ends = ends_at place end above same in
        here ends.0 (subst (λ p. IsNamed patterns p) ends.1 named)
  ]

  -- what a path begins with behind a root's slash is below the root
  below_root : (end : ℕ) → IsAbove root path → length root < end → IsAbove root (take end path)
  below_root end above lt =
      let e : end ≡ length root + suc (end - (length root + 1)) = omega arith in (
        take (end - (length root + 1)) above.0,
        ap (take end) above.1
            ∙ ap (λ n. take n (root ++ 47 ∷ above.0)) e
            ∙ take-append-add root (47 ∷ above.0) (suc (end - (length root + 1))),
      )

  -- a directory that a pattern names marks the path
  pub marked_here : (end : ℕ) → IsAbove root path → length root < end → end < length path →
      slice_index path end ≡ 47 → IsNamed patterns (take end path) → IsMarked patterns root path
  marked_here end above lt within slash named =
      (take end path, below_root end above lt, inr (above_at path end within slash), named)

  -- what marks the path below its root is skipped
  pub skipped_as : (roots : List Root) →
      ((number : ℕ) → (longest : IsLongestAbove roots path number) → longest.root.path ≡ root) →
      IsBelowRoot roots path → (answer : Bool) →
      MatchBool answer (IsMarked patterns root path) (¬ IsMarked patterns root path) →
      MatchBool answer (IsSkipped roots patterns path) (¬ IsSkipped roots patterns path)
  skipped_as roots is below answer marked = MatchBool-same answer
      (λ m. (below.0, below.1, subst (λ r. IsMarked patterns r path) (sym (is below.0 below.1)) m))
      (λ s. subst (λ r. IsMarked patterns r path) (is s.0 s.1) s.2)
      marked

  -- where neither the path nor a directory on the way is named, nothing marks the path
  pub not_marked : (end : ℕ) → end ≤ length root + 1 → (IsNamed patterns path → ⊥) →
      IsUnmarked patterns root path end → IsMarked patterns root path → ⊥
  not_marked end le own unmarked marked = elim marked.2 [
    | inl same ↦ own (subst (λ p. IsNamed patterns p) same marked.3)
    | inr above ↦
        let longer : length root < length marked.0 = above_shorter root marked.0 marked.1 in
        unmarked marked.0 marked.1 above (omega arith) marked.3
  ]

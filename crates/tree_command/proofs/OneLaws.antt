-- The roots of an application are one list, so it is never both listed and refused.
use Rattle.std.proofs.Common.{◌≡◌, ℕ, ◌<◌, ◌≤◌, List, [], ◌∷◌, ◌++◌, length, map, filter, Contains, All, refl}
use Rattle.std.proofs.Common.{sym, ap, ◌∙◌, subst, inl, inr, arith}
use Rattle.std.proofs.lemmas.List.Elements.{All-contains, Contains-append_right}
use Rattle.outside.specs.Order.{IsBefore}
use Rattle.outside.specs.Tree.{paths_of}
use Rattle.outside.specs.declared.files.FileEntry.{FileEntry}
use Rattle.outside.proofs.TableLaws.{before_is, not_before_itself}
use Rattle.app_config.specs.declared.config.Config.{Config}
use Rattle.app_config.specs.declared.config.ConfigFault.{ConfigFault}
use Rattle.app_config.specs.declared.config.RootLine.{RootLine}
use Rattle.tree_scan_roots.specs.Roots.{AreRoots, default_root, line_root, names_none_of}
use Rattle.tree_scan_roots.specs.declared.roots.Root.{Root}
use Rattle.tree_scan_roots.proofs.FaultLaws.{no_fault}
use Rattle.tree_scan_sites.proofs.MemberLaws.{In, in_from_Contains, Contains-from_in, Each, of_each, Rises}
use Rattle.tree_scan_sites.proofs.MemberLaws.{rises_from_AllPairs}
use Rattle.tree_scan.specs.Spells.{HasBadName}
use Rattle.tree_scan.specs.Scanned.{Scanned}
use Rattle.tree_scan.specs.Sites.{AreSites, IsFault}
use Rattle.tree_scan.specs.declared.fault.ScanFault.TheVariants as scan
use Rattle.tree_report.specs.Limits.{IsWithinLimits, IsExceeded}
use Rattle.tree_report.specs.Configurations.{IsConfiguration}
use Rattle.tree_report.specs.declared.limits.Limit.{Limit as LimitKind}
use Rattle.tree_report.specs.declared.limits.Limit.TheVariants.{Files, Bytes, Path}
use Rattle.tree_report.specs.declared.refusal.Refusal.{Refusal}
use Rattle.tree_report.specs.declared.refusal.Refusal.TheVariants.{Limit, Configuration, BadName, TwoRoots}
use Rattle.tree_command.specs.Tree.{IsTreeListing, IsRefused}

not_both : (a b : List ℕ) → IsBefore a b → IsBefore b a → ⊥
not_both a b h k = let e = before_is b a h in cc

-- ---- lists that rise and have the same members are one
same_head : (x y : List ℕ) (xs ys : List (List ℕ)) → Each (IsBefore x) xs → Each (IsBefore y) ys → In x (y ∷ ys) →
    In y (x ∷ xs) → x ≡ y
same_head x y xs ys up down h k = elim h [
  | inl e ↦ sym e
  | inr later ↦ elim k [
    | inl e ↦ e
    | inr other ↦ absurd (not_both x y (of_each (IsBefore x) xs y up other) (of_each (IsBefore y) ys x down later))
  ]
]

tail_in : (x y : List ℕ) (xs ys : List (List ℕ)) → x ≡ y → Each (IsBefore x) xs →
    ((d : List ℕ) → In d (x ∷ xs) → In d (y ∷ ys)) → (d : List ℕ) → In d xs → In d ys
tail_in x y xs ys e up into d h = elim (into d (inr h)) [
  | inl same ↦ absurd (not_before_itself x
      (subst (λ z. IsBefore x z) (sym (e ∙ same)) (of_each (IsBefore x) xs d up h)))
  | inr k ↦ k
]

one_rising : (xs ys : List (List ℕ)) → Rises IsBefore xs → Rises IsBefore ys → ((d : List ℕ) → In d xs → In d ys) →
    ((d : List ℕ) → In d ys → In d xs) → xs ≡ ys
one_rising [] [] up down into back = refl
one_rising [] (y ∷ ys) up down into back = absurd (back y (inl refl))
one_rising (x ∷ xs) [] up down into back = absurd (into x (inl refl))
one_rising (x ∷ xs) (y ∷ ys) up down into back =
    let e : x ≡ y = same_head x y xs ys up.0 down.0 (into x (inl refl)) (back y (inl refl)) in
    joined e (one_rising xs ys up.1 down.1 (tail_in x y xs ys e up.0 into) (tail_in y x ys xs (sym e) down.0 back))
  where
    joined : x ≡ y → xs ≡ ys → x ∷ xs ≡ y ∷ ys
    joined e f = rw (e, f) refl

module _ (paths : List (List ℕ)) (lines : List RootLine) (a b : List Root) (first : AreRoots paths lines a)
    (second : AreRoots paths lines b) where
  same_defaults : first.defaults ≡ second.defaults
  same_defaults = one_rising first.defaults second.defaults
      (rises_from_AllPairs IsBefore first.defaults first.rising)
      (rises_from_AllPairs IsBefore second.defaults second.rising)
      (λ d h. in_from_Contains d second.defaults
      ((second.exact d).1 ((first.exact d).0 (Contains-from_in d first.defaults h))))
      (λ d h. in_from_Contains d first.defaults
      ((first.exact d).1 ((second.exact d).0 (Contains-from_in d second.defaults h))))

  -- files and root lines have one list of roots at most
  pub one_roots : a ≡ b
  one_roots = first.joined
      ∙ ap (λ defaults. map (default_root lines) defaults ++ map line_root (filter (names_none_of defaults) lines))
      same_defaults ∙ sym second.joined

-- ---- what stands against a listing
not_exceeded : (files : List FileEntry) (limit : LimitKind) (number : ℕ) → IsWithinLimits files →
    IsExceeded files limit number → ⊥
not_exceeded files Files number w h = omega (arith, w.number, h.0)
not_exceeded files Bytes number w h = omega (arith, w.bytes, h.1)
not_exceeded files Path number w h = long_path h.2
  where
    member : (front back : List FileEntry) (file : FileEntry) → files ≡ front ++ file ∷ back → Contains files file
    member front back file e = subst (λ fs. Contains fs file) (sym e)
        (Contains-append_right front (file ∷ back) file (Contains-from_in file (file ∷ back) (inl refl)))

    long_path : (h : (front : List FileEntry) × (file : FileEntry) × (back : List FileEntry)
        × (files ≡ front ++ file ∷ back) × All (λ f. length f.path ≤ 255) front × (255 < length file.path)
        × (number ≡ length file.path)) → ⊥
    long_path h = let short = All-contains (λ f. length f.path ≤ 255) files h.1 w.paths (member h.0 h.2 h.1 h.3) in
        omega (arith, short, h.5)

no_first : (fault : ConfigFault) (all later : List ConfigFault) → all ≡ [] → all ≡ fault ∷ later → ⊥
no_first fault all later e f = let g : [] ≡ fault ∷ later = sym e ∙ f in cc

same_configuration : (files : List FileEntry) (a b : Config) → IsConfiguration files a → IsConfiguration files b → a ≡ b
same_configuration files a b h k = h.1 ∙ sym k.1

no_scan_fault : (files : List FileEntry) (config : Config) (scanned : Scanned) (path : List ℕ) →
    AreSites files config scanned → IsFault files config (scan.BadName path) → ⊥
no_scan_fault files config scanned path sites h =
    let e : h.1.0 ≡ sites.roots = one_roots (paths_of files) config.roots h.1.0 sites.roots h.1.1 sites.are_roots in
    let first = h.1.2 in
    let there : Contains files first.entry = subst (λ fs. Contains fs first.entry) (sym first.split)
    (Contains-append_right first.before (first.entry ∷ first.behind) first.entry
    (Contains-from_in first.entry (first.entry ∷ first.behind) (inl refl))) in
    All-contains (λ f. ¬ (HasBadName sites.roots config f.path)) files first.entry sites.named there
    (subst (λ roots. HasBadName roots config first.entry.path) e
    (subst (λ p. HasBadName h.1.0 config p) (sym first.here) first.bad))

no_two_roots : (files : List FileEntry) (config : Config) (scanned : Scanned) (path : List ℕ) →
    AreSites files config scanned → IsFault files config (scan.TwoRoots path) → ⊥
no_two_roots files config scanned path sites h = no_fault config.roots path h sites.once

-- no application is both listed and refused
pub never_both : (files : List FileEntry) (bytes : List ℕ) (refusal : Refusal) → IsTreeListing files bytes →
    IsRefused files refusal → ⊥
never_both files bytes (Limit exceeded) l h = not_exceeded files exceeded.limit exceeded.number l.within h
never_both files bytes (Configuration fault) l h = no_first fault _ h.1.0 l.configured.0 h.1.1
never_both files bytes (BadName path) l h =
    no_scan_fault files l.config l.scanned path l.are_sites
    (subst (λ c. IsFault files c (scan.BadName path))
    (same_configuration files h.1.0 l.config h.1.1 l.configured) h.1.2)
never_both files bytes (TwoRoots path) l h =
    no_two_roots files l.config l.scanned path l.are_sites
    (subst (λ c. IsFault files c (scan.TwoRoots path))
    (same_configuration files h.1.0 l.config h.1.1 l.configured) h.1.2)

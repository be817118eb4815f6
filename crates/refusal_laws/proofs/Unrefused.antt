-- Files that have a program are not refused.
use Rattle.std.proofs.Common.{◌≡◌, ℕ, ◌<◌, ◌≤◌, List, [], ◌∷◌, ◌++◌, length, Contains, All, refl}
use Rattle.std.proofs.Common.{sym, ◌∙◌, subst, inl, arith}
use Rattle.std.proofs.lemmas.List.Elements.{All-contains, Contains-append_right}
use Rattle.outside.specs.Tree.{paths_of}
use Rattle.outside.specs.declared.files.FileEntry.{FileEntry}
use Rattle.app_config.specs.declared.config.Config.{Config}
use Rattle.app_config.specs.declared.config.ConfigFault.{ConfigFault}
use Rattle.tree_scan_roots.proofs.FaultLaws.{no_fault}
use Rattle.tree_scan_sites.proofs.MemberLaws.{Contains-from_in}
use Rattle.tree_scan.specs.Spells.{HasBadName}
use Rattle.tree_scan.specs.Scanned.{Scanned}
use Rattle.tree_scan.specs.Sites.{AreSites, IsFault}
use Rattle.tree_scan.specs.declared.fault.ScanFault.TheVariants as scan
use Rattle.tree_report.specs.Limits.{IsWithinLimits, IsExceeded}
use Rattle.tree_report.specs.Configurations.{IsConfiguration}
use Rattle.tree_report.specs.declared.limits.Limit.{Limit as LimitKind}
use Rattle.tree_report.specs.declared.limits.Limit.TheVariants.{Files, Bytes, Path}
use Rattle.tree_report.specs.declared.refusal.Refusal.{Refusal}
use Rattle.tree_report.specs.declared.refusal.Refusal.TheVariants.{Limit, Configuration, BadName, TwoRoots}
use Rattle.tree_command.specs.Tree.{IsRefused}
use Rattle.tree_command.proofs.OneLaws.{one_roots}
use Rattle.program_index.specs.Content.{Content}
use Rattle.program_index.specs.Program.{IsProgram}

not_exceeded : (files : List FileEntry) (limit : LimitKind) (number : ℕ) → IsWithinLimits files →
    IsExceeded files limit number → ⊥
not_exceeded files Files number w h = omega (arith, w.number, h.0)
not_exceeded files Bytes number w h = omega (arith, w.bytes, h.1)
not_exceeded files Path number w h = long_path h.2
  where
    member : (front back : List FileEntry) (file : FileEntry) → files ≡ front ++ file ∷ back → Contains files file
    member front back file e = subst (λ fs. Contains fs file) (sym e)
        (Contains-append_right front (file ∷ back) file (Contains-from_in file (file ∷ back) (inl refl)))

    long_path : (h : (front : List FileEntry) × (file : FileEntry) × (back : List FileEntry)
        × (files ≡ front ++ file ∷ back) × All (λ f. length f.path ≤ 255) front × (255 < length file.path)
        × (number ≡ length file.path)) → ⊥
    long_path h = let short = All-contains (λ f. length f.path ≤ 255) files h.1 w.paths (member h.0 h.2 h.1 h.3) in
        omega (arith, short, h.5)

no_first : (fault : ConfigFault) (all later : List ConfigFault) → all ≡ [] → all ≡ fault ∷ later → ⊥
no_first fault all later e f = let g : [] ≡ fault ∷ later = sym e ∙ f in cc

same_configuration : (files : List FileEntry) (a b : Config) → IsConfiguration files a → IsConfiguration files b → a ≡ b
same_configuration files a b h k = h.1 ∙ sym k.1

no_scan_fault : (files : List FileEntry) (config : Config) (scanned : Scanned) (path : List ℕ) →
    AreSites files config scanned → IsFault files config (scan.BadName path) → ⊥
no_scan_fault files config scanned path sites h =
    let e : h.1.0 ≡ sites.roots = one_roots (paths_of files) config.roots h.1.0 sites.roots h.1.1 sites.are_roots in
    let first = h.1.2 in
    let there : Contains files first.entry = subst (λ fs. Contains fs first.entry) (sym first.split)
    (Contains-append_right first.before (first.entry ∷ first.behind) first.entry
    (Contains-from_in first.entry (first.entry ∷ first.behind) (inl refl))) in
    All-contains (λ f. ¬ (HasBadName sites.roots config f.path)) files first.entry sites.named there
    (subst (λ roots. HasBadName roots config first.entry.path) e
    (subst (λ p. HasBadName h.1.0 config p) (sym first.here) first.bad))

no_two_roots : (files : List FileEntry) (config : Config) (scanned : Scanned) (path : List ℕ) →
    AreSites files config scanned → IsFault files config (scan.TwoRoots path) → ⊥
no_two_roots files config scanned path sites h = no_fault config.roots path h sites.once

-- files that have a program are not refused
pub not_refused : (files : List FileEntry) (p : Content) (refusal : Refusal) → IsProgram files p →
    IsRefused files refusal → ⊥
not_refused files p (Limit exceeded) l h = not_exceeded files exceeded.limit exceeded.number l.within h
not_refused files p (Configuration fault) l h = no_first fault _ h.1.0 l.configured.0 h.1.1
not_refused files p (BadName path) l h =
    no_scan_fault files p.config p.sites path l.sited
    (subst (λ c. IsFault files c (scan.BadName path))
    (same_configuration files h.1.0 p.config h.1.1 l.configured) h.1.2)
not_refused files p (TwoRoots path) l h =
    no_two_roots files p.config p.sites path l.sited
    (subst (λ c. IsFault files c (scan.TwoRoots path))
    (same_configuration files h.1.0 p.config h.1.1 l.configured) h.1.2)

-- What the files up to some place spell, file by file.
use Rattle.std.proofs.Common.{◌≡◌, ◌↔◌, ◌⊎◌, ℕ, suc, ◌<◌, ◌≤◌, ◌+◌, List, [], ◌∷◌, ◌++◌, length, take, drop, get_or}
use Rattle.std.proofs.Common.{Option, Some, None, slice_get, Contains, refl, sym, ap, ◌∙◌, subst, inl, inr, arith}
use Rattle.std.proofs.lemmas.List.{get_or-take, length-take-le}
use Rattle.std.proofs.Math.Seq.{split_at}
use Rattle.std.proofs.lemmas.List.Elements.{Contains-push, Contains-push_cases, Contains-append_left}
use Rattle.std.proofs.lemmas.Option.{slice_get_within, slice_get-get_or}
use Rattle.outside.specs.declared.files.FileEntry.{FileEntry}
use Rattle.app_config.specs.declared.config.Config.{Config}
use Rattle.tree_scan_roots.specs.declared.roots.Root.{Root}
use Rattle.tree_scan_sites.specs.declared.spelled.Spelled.{Spelled}
use Rattle.tree_scan_sites.specs.Listed.{Lists}
use Rattle.tree_scan.specs.declared.spelling.RootedConstant.{RootedConstant}
use Rattle.tree_scan.specs.declared.fault.ScanFault.{ScanFault}
use Rattle.tree_scan.specs.declared.fault.ScanFault.TheVariants.{BadName, TwoRoots, Memory}
use Rattle.tree_scan.specs.Spells.{SpellsConstant, Spells, HasBadName}
use Rattle.tree_scan.specs.Spelling.{SpelledBy, IsNameFault, IsNameFaultOf}

-- the list has what the files before this place spell
abbrev pub ListsBefore : List Root → Config → List FileEntry → (place : ℕ) → List Spelled → Type 0
ListsBefore roots config files place spelled = (constant : List (List ℕ)) (root file : ℕ) →
    Lists spelled constant root file ↔ ((file < place) × Spells roots config files constant root file)

-- no file before this place has a bad name
abbrev pub NamedBefore : List Root → Config → List FileEntry → (place : ℕ) → Type 0
NamedBefore roots config files place = (k : ℕ) (d : FileEntry) → k < place → k < length files →
    ¬ (HasBadName roots config (get_or files k d).path)

same_entry : (a b : FileEntry) → Some a ≡ Some b → a ≡ b
same_entry a b e = cc

last_or_before : (f place : ℕ) → f < place + 1 → (f < place) ⊎ (f ≡ place)
last_or_before f place lt = grind (arith, lt)

module _ (roots : List Root) (config : Config) (files : List FileEntry) (place : ℕ) (here : FileEntry)
    (stands : slice_get files place ≡ Some here) where
  -- what the file at the place spells
  spells_here : (c : List (List ℕ)) (r f : ℕ) → f ≡ place → Spells roots config files c r f →
      SpellsConstant roots config here.path c r
  spells_here c r f e s = subst (λ x. SpellsConstant roots config x.path c r)
      (same_entry s.entry here (sym s.stands ∙ ap (slice_get files) e ∙ stands)) s.spells

  at_place : (c : List (List ℕ)) (r : ℕ) → SpellsConstant roots config here.path c r →
      Spells roots config files c r place
  at_place c r h = record { entry = here; stands = stands; spells = h }

module _ (roots : List Root) (config : Config) (files : List FileEntry) (place : ℕ) (here : FileEntry)
    (stands : slice_get files place ≡ Some here) (spelled : List Spelled)
    (before : ListsBefore roots config files place spelled) where
  -- where the file at the place spells nothing, the list has what the files up to the next place spell
  pub step_none : ((c : List (List ℕ)) (r : ℕ) → SpelledBy None c r ↔ SpellsConstant roots config here.path c r) →
      ListsBefore roots config files (place + 1) spelled
  step_none told c r f = (
    λ h. let b = (before c r f).0 h in (omega (arith, b.0), b.1),
    λ h. elim (last_or_before f place h.0) [
      | inl lt ↦ (before c r f).1 (lt, h.1)
      | inr e ↦ absurd ((told c r).1 (spells_here roots config files place here stands c r f e h.1))
    ],
  )

  one : RootedConstant → Spelled
  one found = record { constant = found.path; root = found.root; file = place }

  added : (found : RootedConstant) (c : List (List ℕ)) (r f : ℕ) → (found.path ≡ c) × (found.root ≡ r) → f ≡ place →
      one found ≡ record { constant = c; root = r; file = f }
  unfolding one
  added found c r f h e = rw (h.0, h.1, e) refl

  taken : (found : RootedConstant) (c : List (List ℕ)) (r f : ℕ) →
      one found ≡ record { constant = c; root = r; file = f } → ((found.path ≡ c) × (found.root ≡ r)) × (place ≡ f)
  unfolding one
  taken found c r f e = ((ap (λ s. s.constant) e, ap (λ s. s.root) e), ap (λ s. s.file) e)

  -- with the constant of the file at the place added, the list has what the files up to the next place spell
  pub step_some : (found : RootedConstant) →
      ((c : List (List ℕ)) (r : ℕ) → SpelledBy (Some found) c r ↔ SpellsConstant roots config here.path c r) →
      ListsBefore roots config files (place + 1)
      (spelled ++ record { constant = found.path; root = found.root; file = place } ∷ [])
  unfolding one
  step_some found told c r f = (
    λ h. elim (Contains-push_cases spelled (one found) (record { constant = c; root = r; file = f }) h) [
      | inl old ↦ let b = (before c r f).0 old in (omega (arith, b.0), b.1)
      | inr e ↦ let t = taken found c r f e in (
        omega (arith, t.1),
        subst (λ n. Spells roots config files c r n) t.1
            (at_place roots config files place here stands c r ((told c r).0 t.0)),
      )
    ],
    λ h. elim (last_or_before f place h.0) [
      | inl lt ↦ Contains-append_left spelled (one found ∷ []) (record { constant = c; root = r; file = f })
          ((before c r f).1 (lt, h.1))
      | inr e ↦ subst (λ s. Contains (spelled ++ one found ∷ []) s)
          (added found c r f ((told c r).1 (spells_here roots config files place here stands c r f e h.1)) e)
          (Contains-push spelled (one found))
    ],
  )

-- what is listed of all files is what they spell
pub all_listed : (roots : List Root) (config : Config) (files : List FileEntry) (place : ℕ)
    (spelled : List Spelled) → length files ≤ place → ListsBefore roots config files place spelled →
    (c : List (List ℕ)) (r f : ℕ) → Lists spelled c r f ↔ Spells roots config files c r f
all_listed roots config files place spelled over all c r f =
    (λ h. ((all c r f).0 h).1, λ s. (all c r f).1 (omega (arith, over, slice_get_within files f s.entry s.stands), s))

-- an option without a value is none
pub none_there : (found : Option RootedConstant) → ((x : RootedConstant) → found ≡ Some x → ⊥) → found ≡ None
none_there None h = refl
none_there (Some x) h = absurd (h x refl)

-- one place more
pub named_step : (roots : List Root) (config : Config) (files : List FileEntry) (place : ℕ) (here : FileEntry) →
    slice_get files place ≡ Some here → ¬ (HasBadName roots config here.path) →
    NamedBefore roots config files place → NamedBefore roots config files (place + 1)
named_step roots config files place here stands fine before k d lt within bad = elim (last_or_before k place lt) [
  | inl less ↦ before k d less within bad
  | inr e ↦ fine (subst (λ x. HasBadName roots config x.path)
      (same_entry (get_or files k d) here (sym (slice_get-get_or files k d within) ∙ ap (slice_get files) e
      ∙ stands)) bad)
]

-- the fault at a place is the first
pub first_fault : (roots : List Root) (config : Config) (files : List FileEntry) (place : ℕ) (here : FileEntry)
    (fault : ScanFault) → slice_get files place ≡ Some here → NamedBefore roots config files place →
    IsNameFaultOf roots config here.path fault → IsNameFault roots config files fault
first_fault roots config files place here (BadName bad) stands before h =
    let within : place < length files = slice_get_within files place here stands in
    let same : get_or files place here ≡ here = same_entry (get_or files place here) here
    (sym (slice_get-get_or files place here within) ∙ stands) in
    record {
      before = take place files;
      entry = here;
      behind = drop (suc place) files;
      split = split_here within same;
      here = sym h.0;
      bad = subst (λ p. HasBadName roots config p) (sym h.0) h.1;
      none_before = λ k d short b.
          let less : k < place = rw (sym (length-take-le place files (omega (arith, within)))) short in
          before k d less (omega (arith, less, within))
          (subst (λ x. HasBadName roots config x.path) (get_or-take place files k d less) b);
    }
  where
    split_here : place < length files → get_or files place here ≡ here →
        files ≡ take place files ++ here ∷ drop (suc place) files
    split_here within same = split_at files place here within
        ∙ ap (λ x. take place files ++ x ∷ drop (suc place) files) same
first_fault roots config files place here (TwoRoots other) stands before h = h
first_fault roots config files place here Memory stands before h = tt

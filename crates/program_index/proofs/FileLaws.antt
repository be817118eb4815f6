-- The file with a path, where it is used.
use Rattle.std.proofs.Common.{◌≡◌, ◌≢◌, ◌⊎◌, ℕ, zero, suc, Bool, true, false, List, [], ◌∷◌}
use Rattle.std.proofs.Common.{◌++◌, Option, Some, None, slice_get}
use Rattle.std.proofs.Common.{inl, inr, refl, sym, ap, ◌∙◌, subst, bytes_eq, filter_map, cond, append-nil}
use Rattle.std.specs.List.{list_any, cons_option}
use Rattle.std.specs.Option.{option_map}
use Rattle.std.specs.Cmp.Lexicographic.{bytes_decides}
use Rattle.std.proofs.lemmas.Bool.{false≢true, or_cases, or_left, or_right}
use Rattle.std.proofs.lemmas.Option.{none-some, same_Some, slice_get-map}
use Rattle.outside.specs.declared.files.FileEntry.{FileEntry}
use Rattle.outside.specs.Order.{IsBefore}
use Rattle.outside.specs.Table.{HasPath}
use Rattle.outside.specs.Tree.{paths_of}
use Rattle.program_places.specs.Paths.{Path, same_path, begins, levels}
use Rattle.program_files.specs.Files.{UsedFile, file_of, file_at, is_above}
use Rattle.program_files.specs.Members.{Among}
use Rattle.program_files.specs.Owners.{OneFile}
use Rattle.program_files.specs.Tasks.{around_files, near_by}
use Rattle.program_files.proofs.Index.{file_found}
use Rattle.program_files.proofs.Lists.{found, among_right}
use Rattle.program_constants.proofs.ListLaws.{begins_joined, longer_begins_not, begins_rest}
use Rattle.program_files.proofs.Owners.{none_found, its_file, split}
use Rattle.program_files.proofs.Paths.{path_decides, begins_itself, level_begins}
use Rattle.program_used.specs.Rows.{used_at, all_used}
use Rattle.program_used.specs.Texts.{reading_in}
use Rattle.program_used.specs.declared.used.UsedText.{UsedText}
use Rattle.program_outcomes.specs.Outcomes.{flat}
use Rattle.program_tables.proofs.StandLaws.{among_listed}
use Rattle.program_index.specs.Content.{Content, files_of, used_files}
use Rattle.program_index.specs.Program.{IsProgram}
use Rattle.program_index.specs.Lookups.{IsUsedAt}
use Rattle.program_index.specs.declared.lookups.Used.{Used}
use Rattle.program_index.proofs.OneLaws.{once_at, listed_at, used_at_number, one_files}
use Rattle.tree_scan_roots.proofs.KeyLaws.{contains_got}
use Rattle.tree_scan_sites.proofs.MemberLaws.{rises_from_AllPairs}

-- ---- the file with a path

file_at_by : (fs : List UsedFile) → OneFile fs → (f : UsedFile) (path : List ℕ) → Among f fs → f.path ≡ path →
    (o : Option UsedFile) → file_at fs path ≡ o → o ≡ Some f
file_at_by fs one f path m e None h =
    absurd (false≢true (sym (none_found (λ g. bytes_eq g.path path) f fs h m) ∙ (bytes_decides f.path path).1 e))
file_at_by fs one f path m e (Some g) h =
    let k = found (λ (g : UsedFile). bytes_eq g.path path) g fs h in
    ap (λ x. Some x) (one.paths g f k.0 m ((bytes_decides g.path path).0 k.1 ∙ sym e))

-- a file of its path is found by it
pub file_at_is : (fs : List UsedFile) → OneFile fs → (f : UsedFile) (path : List ℕ) → Among f fs → f.path ≡ path →
    file_at fs path ≡ Some f
file_at_is fs one f path m e = file_at_by fs one f path m e (file_at fs path) refl

file_at_none_by : (fs : List UsedFile) (path : List ℕ) → ((g : UsedFile) → Among g fs → g.path ≡ path → ⊥) →
    (o : Option UsedFile) → file_at fs path ≡ o → o ≡ None
file_at_none_by fs path lacks None h = refl
file_at_none_by fs path lacks (Some g) h =
    let k = found (λ (g : UsedFile). bytes_eq g.path path) g fs h in
    absurd (lacks g k.0 ((bytes_decides g.path path).0 k.1))

-- where no file has a path, none is found by it
pub file_at_none : (fs : List UsedFile) (path : List ℕ) → ((g : UsedFile) → Among g fs → g.path ≡ path → ⊥) →
    file_at fs path ≡ None
file_at_none fs path lacks = file_at_none_by fs path lacks (file_at fs path) refl

-- ---- by its number

-- a file as it is used that has this text
abbrev used_made : FileEntry → UsedText → UsedFile
used_made entry used = record { path = entry.path; constant = used.constant; reading = reading_in used.text }

-- a file with a text, as it is used
pub used_row : (fs : List FileEntry) (rs : List (Option UsedText)) (n : ℕ) (entry : FileEntry) (used : UsedText) →
    slice_get fs n ≡ Some entry → slice_get rs n ≡ Some (Some used) →
    slice_get (all_used fs rs) n ≡ Some (used_at entry (Some used))
used_row [] rs n entry used e f = absurd (none-some entry e)
used_row (g ∷ fs) [] n entry used e f = absurd (none-some (Some used) f)
used_row (g ∷ fs) (r ∷ rs) zero entry used e f =
    ap (λ x. Some (used_at x r)) (same_Some g entry e)
    ∙ ap (λ x. Some (used_at entry x)) (same_Some r (Some used) f)
used_row (g ∷ fs) (r ∷ rs) (suc n) entry used e f = used_row fs rs n entry used e f

entry_there : (fs : List FileEntry) (n : ℕ) (path : List ℕ) (o : Option FileEntry) → slice_get fs n ≡ o →
    option_map (λ (f : FileEntry). f.path) o ≡ Some path → (entry : FileEntry) × (slice_get fs n ≡ Some entry)
    × (entry.path ≡ path)
entry_there fs n path None e h = absurd (none-some path h)
entry_there fs n path (Some entry) e h = (entry, e, same_Some entry.path path h)

-- the file that stands at the number of a path
pub entry_at_path : (fs : List FileEntry) (n : ℕ) (path : List ℕ) → slice_get (paths_of fs) n ≡ Some path →
    (entry : FileEntry) × (slice_get fs n ≡ Some entry) × (entry.path ≡ path)
entry_at_path fs n path h =
    entry_there fs n path (slice_get fs n) refl (sym (slice_get-map (λ (f : FileEntry). f.path) fs n) ∙ h)

module _ (p : Content) (is : IsProgram p.files p) where
  -- a file that has a text is found by its path
  pub used_told : (path : List ℕ) (u : Used) → slice_get (paths_of p.files) u.number ≡ Some path →
      slice_get p.texts u.number ≡ Some (Some u.text.now) → IsUsedAt p path u
  used_told path u e f =
      let entry = entry_at_path p.files u.number path e in
      let file : UsedFile = used_made entry.0 u.text.now in
      let at = used_row p.files p.texts u.number entry.0 u.text.now entry.1 f in
      record {
        file = file;
        found = file_at_is (used_files p) (one_files p.files p is) file path
            (among_listed (files_of p) u.number file at) entry.2;
        at = at;
        constant = refl;
      }

  -- a path whose number has no text is that of no file that is used
  pub unused_told : (path : List ℕ) (n : ℕ) → slice_get (paths_of p.files) n ≡ Some path →
      ((used : UsedText) → slice_get p.texts n ≡ Some (Some used) → ⊥) → file_at (used_files p) path ≡ None
  unused_told path n e lacks = file_at_none (used_files p) path (λ g m same.
      let i = listed_at (files_of p) g m in
      let u = used_at_number p.files p.texts i.0 g i.1 in
      let there : slice_get (paths_of p.files) i.0 ≡ Some path =
      slice_get-map (λ (f : FileEntry). f.path) p.files i.0
      ∙ ap (option_map (λ (f : FileEntry). f.path)) u.stands ∙ ap (λ x. Some x) (sym u.path ∙ same) in
      lacks u.text (subst (λ k. slice_get p.texts k ≡ Some (Some u.text))
      (once_at (paths_of p.files) i.0 n path
      (rises_from_AllPairs IsBefore (paths_of p.files) is.rising) there e) u.read))

  -- a path that no file has is that of no file that is used
  pub no_path_told : (path : List ℕ) → (HasPath p.files path → ⊥) → file_at (used_files p) path ≡ None
  no_path_told path lacks = file_at_none (used_files p) path (λ g m same.
      let i = listed_at (files_of p) g m in
      let u = used_at_number p.files p.texts i.0 g i.1 in
      lacks (contains_got (paths_of p.files) i.0 path
      (slice_get-map (λ (f : FileEntry). f.path) p.files i.0
      ∙ ap (option_map (λ (f : FileEntry). f.path)) u.stands ∙ ap (λ x. Some x) (sym u.path ∙ same))))

-- what is there of what may lack a member is a member
pub flat_some : {A : Type 0} (o : Option (Option A)) (x : A) → flat o ≡ Some x → o ≡ Some (Some x)
flat_some None x h = absurd (none-some x h)
flat_some (Some o) x h = ap (λ y. Some y) h

-- ---- files around a file

above_joined : (a b rest : Path) → b ≡ a ++ rest → same_path a b ≡ false → is_above a b ≡ true
above_joined a b [] e s = absurd (false≢true (sym s ∙ (path_decides a b).1 (sym (e ∙ append-nil a))))
above_joined a b (n ∷ ns) e s =
    subst (λ q. is_above a q ≡ true) (sym e)
    (rw (begins_joined a (n ∷ ns), longer_begins_not a n ns) refl)

-- what begins a path and is another is above it
strictly : (a b : Path) → begins a b ≡ true → same_path a b ≡ false → is_above a b ≡ true
strictly a b h s = let r = begins_rest a b h in above_joined a b r.0 r.1 s

-- what begins a path and has a name is one of its levels
level_there : (p path : Path) → p ≢ [] → begins p path ≡ true → Among p (levels path)
level_there [] path named h = absurd (named refl)
level_there (n ∷ ns) path named h =
    let s = split n ns path h in
    subst (Among (n ∷ ns)) (sym s.is) (among_right (n ∷ ns) s.front ((n ∷ ns) ∷ s.back) (inl refl))

module _ (fs : List UsedFile) (one : OneFile fs) where
  around_step : (f g : UsedFile) (p : Path) (b : Bool) (o : Option UsedFile) → is_above p f.constant ≡ b →
      file_of fs p ≡ o → (rest : List UsedFile) → Among g (cons_option (cond b o None) rest) →
      ((file_of fs p ≡ Some g) × (is_above p f.constant ≡ true)) ⊎ Among g rest
  around_step f g p false o e k rest h = inr h
  around_step f g p true None e k rest h = inr h
  around_step f g p true (Some x) e k rest (inl same) = inl (k ∙ ap (λ y. Some y) (sym same), e)
  around_step f g p true (Some x) e k rest (inr h) = inr h

  -- a file around a file is one of the files, and its constant begins the other's
  around_begins : (f g : UsedFile) (ps : List Path) → ((p : Path) → Among p ps → begins p f.constant ≡ true) →
      Among g (filter_map (λ p. cond (is_above p f.constant) (file_of fs p) None) ps) →
      Among g fs × (begins g.constant f.constant ≡ true)
  around_begins f g [] each h = absurd h
  around_begins f g (p ∷ ps) each h =
      elim (around_step f g p (is_above p f.constant) (file_of fs p) refl refl _ h) [
        | inl k ↦
            let found = file_found fs p g k.0 in
            (found.0, subst (λ q. begins q f.constant ≡ true) (sym found.1) (each p (inl refl)))
        | inr k ↦ around_begins f g ps (λ q m. each q (inr m)) k
      ]

  around_among : (f g : UsedFile) (p : Path) (ps : List Path) → Among p ps → is_above p f.constant ≡ true →
      file_of fs p ≡ Some g → Among g (filter_map (λ p. cond (is_above p f.constant) (file_of fs p) None) ps)
  around_among f g p [] m a k = absurd m
  around_among f g p (q ∷ ps) (inl e) a k =
      subst (λ o. Among g (cons_option o (filter_map (λ p. cond (is_above p f.constant) (file_of fs p) None) ps)))
      (sym (ap (λ x. cond (is_above x f.constant) (file_of fs x) None) (sym e) ∙ ap (λ b. cond b (file_of fs p) None) a
      ∙ k)) (inl refl)
  around_among f g p (q ∷ ps) (inr m) a k =
      behind (cond (is_above q f.constant) (file_of fs q) None) _ (around_among f g p ps m a k) where
        behind : (o : Option UsedFile) (rest : List UsedFile) → Among g rest → Among g (cons_option o rest)
        behind None rest h = h
        behind (Some x) rest h = inr h

  path_found : (to : List ℕ) (gs : List UsedFile) → list_any (λ g. bytes_eq g.path to) gs ≡ true →
      (g : UsedFile) × Among g gs × (g.path ≡ to)
  path_found to [] h = absurd (false≢true h)
  path_found to (g ∷ gs) h = elim (or_cases (bytes_eq g.path to) (list_any (λ g. bytes_eq g.path to) gs) h) [
    | inl e ↦ (g, inl refl, (bytes_decides g.path to).0 e)
    | inr k ↦ let i = path_found to gs k in (i.0, inr i.1, i.2)
  ]

  path_there : (to : List ℕ) (g : UsedFile) (gs : List UsedFile) → Among g gs → g.path ≡ to →
      list_any (λ g. bytes_eq g.path to) gs ≡ true
  path_there to g [] m e = absurd m
  path_there to g (x ∷ gs) (inl same) e =
      or_left (bytes_eq x.path to) (list_any (λ g. bytes_eq g.path to) gs)
      (subst (λ (y : UsedFile). bytes_eq y.path to ≡ true) same ((bytes_decides g.path to).1 e))
  path_there to g (x ∷ gs) (inr m) e =
      or_right (bytes_eq x.path to) (list_any (λ g. bytes_eq g.path to) gs) (path_there to g gs m e)

  near_begins : (f : UsedFile) (to : List ℕ) → Among f fs →
      list_any (λ g. bytes_eq g.path to) (f ∷ around_files fs f) ≡ true →
      (g : UsedFile) × Among g fs × (g.path ≡ to) × (begins g.constant f.constant ≡ true)
  near_begins f to m h = by (path_found to (f ∷ around_files fs f) h) where
    by : (g : UsedFile) × Among g (f ∷ around_files fs f) × (g.path ≡ to) →
        (g : UsedFile) × Among g fs × (g.path ≡ to) × (begins g.constant f.constant ≡ true)
    by (g, inl e, k) = (
      g,
      subst (λ x. Among x fs) (sym e) m,
      k,
      subst (λ (x : UsedFile). begins x.constant f.constant ≡ true) (sym e)
          (begins_itself f.constant),
    )
    by (g, inr l, k) =
        let b = around_begins f g (levels f.constant) (λ p q. level_begins p f.constant q) l in (g, b.0, k, b.1)

  begins_near : (f g : UsedFile) (to : List ℕ) → Among f fs → Among g fs → g.path ≡ to →
      begins g.constant f.constant ≡ true → list_any (λ g. bytes_eq g.path to) (f ∷ around_files fs f) ≡ true
  begins_near f g to m l e b = by (same_path g.constant f.constant) refl where
    by : (v : Bool) → same_path g.constant f.constant ≡ v →
        list_any (λ g. bytes_eq g.path to) (f ∷ around_files fs f) ≡ true
    by true s =
        path_there to g (f ∷ around_files fs f) (inl (one.constants g f l m
        ((path_decides g.constant f.constant).0 s))) e
    by false s =
        let above = strictly g.constant f.constant b s in
        path_there to g (f ∷ around_files fs f)
        (inr (around_among f g g.constant (levels f.constant)
        (level_there g.constant f.constant (one.named g l) b) above (its_file fs one g l))) e

  near_is : (f g : UsedFile) (to : List ℕ) → Among f fs → Among g fs → g.path ≡ to → (v b : Bool) →
      list_any (λ g. bytes_eq g.path to) (f ∷ around_files fs f) ≡ v → begins g.constant f.constant ≡ b → v ≡ b
  near_is f g to m l e true true h k = refl
  near_is f g to m l e false false h k = refl
  near_is f g to m l e false true h k = sym h ∙ begins_near f g to m l e k
  near_is f g to m l e true false h k =
      let n = near_begins f to m h in
      let same : n.0 ≡ g = one.paths n.0 g n.1 l (n.2 ∙ sym e) in
      absurd (false≢true (sym k ∙ subst (λ (x : UsedFile). begins x.constant f.constant ≡ true) same n.3))

  -- a file is near another where its constant begins the other's
  pub near_told : (from to : List ℕ) (f g : UsedFile) → file_at fs from ≡ Some f → file_at fs to ≡ Some g →
      begins g.constant f.constant ≡ near_by fs to (file_at fs from)
  near_told from to f g h k =
      let a = found (λ (x : UsedFile). bytes_eq x.path from) f fs h in
      let b = found (λ (x : UsedFile). bytes_eq x.path to) g fs k in
      sym (near_is f g to a.0 b.0 ((bytes_decides g.path to).0 b.1) _ _ refl refl)
      ∙ ap (near_by fs to) (sym h)

  -- no file is near a path of no file
  pub near_none_from : (from to : List ℕ) → file_at fs from ≡ None → false ≡ near_by fs to (file_at fs from)
  near_none_from from to h = ap (near_by fs to) (sym h)

  -- and a path of no file is near none
  pub near_none_to : (from to : List ℕ) → file_at fs to ≡ None → false ≡ near_by fs to (file_at fs from)
  near_none_to from to h = by (file_at fs from) refl where
    by : (o : Option UsedFile) → file_at fs from ≡ o → false ≡ near_by fs to o
    by None k = refl
    by (Some f) k = at (list_any (λ g. bytes_eq g.path to) (f ∷ around_files fs f)) refl where
      at : (v : Bool) → list_any (λ g. bytes_eq g.path to) (f ∷ around_files fs f) ≡ v → false ≡ v
      at false e = refl
      at true e =
          let a = found (λ (x : UsedFile). bytes_eq x.path from) f fs k in
          let n = near_begins f to a.0 e in
          absurd (none-some n.0 (sym h ∙ file_at_is fs one n.0 to n.1 n.2))

-- In a program no two files that are used spell one constant or have one path, so that each constant has one owner.
use Rattle.std.proofs.Common.{◌≡◌, ◌≢◌, ℕ, zero, suc, List, [], ◌∷◌, map, Option, Some, None, slice_get}
use Rattle.std.proofs.Common.{inl, inr, refl, sym, ap, ◌∙◌, subst}
use Rattle.std.specs.Option.{option_map}
use Rattle.std.proofs.lemmas.Option.{none-some, same_Some, slice_get-map}
use Rattle.outside.specs.Order.{IsBefore}
use Rattle.outside.specs.declared.files.FileEntry.{FileEntry}
use Rattle.outside.proofs.TableLaws.{not_before_itself}
use Rattle.tree_scan_sites.specs.Listed.{Lists}
use Rattle.tree_scan_sites.specs.Sites.{IsFileOf}
use Rattle.tree_scan_sites.proofs.MemberLaws.{In, of_each, Rises, rises_from_AllPairs}
use Rattle.tree_scan_sites.proofs.SiteLaws.{one_file_of}
use Rattle.program_places.specs.Paths.{Path}
use Rattle.program_files.specs.Files.{UsedFile}
use Rattle.program_files.specs.Members.{Among}
use Rattle.program_files.specs.Owners.{OneFile}
use Rattle.program_used.specs.Texts.{reading_in}
use Rattle.program_used.specs.Rows.{AreUsed, all_used}
use Rattle.program_used.specs.declared.used.UsedText.{UsedText}
use Rattle.program_outcomes.specs.Outcomes.{listed}
use Rattle.program_tables.specs.Resolved.{OneNumber}
use Rattle.program_index.specs.Content.{Content, files_of, used_files}
use Rattle.program_index.specs.Program.{IsProgram}

-- ---- where a file stands

in_at : {A : Type 0} (xs : List A) (n : ℕ) (x : A) → slice_get xs n ≡ Some x → In x xs
in_at [] n x e = absurd (none-some x e)
in_at (y ∷ ys) zero x e = inl (same_Some y x e)
in_at (y ∷ ys) (suc n) x e = inr (in_at ys n x e)

-- a text stands at one place of a list that rises
pub once_at : (xs : List (List ℕ)) (n m : ℕ) (x : List ℕ) → Rises IsBefore xs → slice_get xs n ≡ Some x →
    slice_get xs m ≡ Some x → n ≡ m
once_at [] n m x up e f = absurd (none-some x e)
once_at (y ∷ ys) zero zero x up e f = refl
once_at (y ∷ ys) zero (suc m) x up e f =
    absurd (not_before_itself x (subst (λ z. IsBefore z x) (same_Some y x e)
    (of_each (IsBefore y) ys x up.0 (in_at ys m x f))))
once_at (y ∷ ys) (suc n) zero x up e f =
    absurd (not_before_itself x (subst (λ z. IsBefore z x) (same_Some y x f)
    (of_each (IsBefore y) ys x up.0 (in_at ys n x e))))
once_at (y ∷ ys) (suc n) (suc m) x up e f = ap suc (once_at ys n m x up.1 e f)

-- a file that is listed stands at a number
pub listed_at : (us : List (Option UsedFile)) (f : UsedFile) → Among f (listed us) →
    (n : ℕ) × (slice_get us n ≡ Some (Some f))
listed_at [] f h = absurd h
listed_at (None ∷ us) f h = let i = listed_at us f h in (suc i.0, i.1)
listed_at (Some g ∷ us) f (inl e) = (zero, ap (λ x. Some (Some x)) (sym e))
listed_at (Some g ∷ us) f (inr h) = let i = listed_at us f h in (suc i.0, i.1)

-- what is used at a number
pub record UsedAt (fs : List FileEntry) (rs : List (Option UsedText)) (n : ℕ) (f : UsedFile) : Type 0 where
  pub entry : FileEntry
  pub text : UsedText
  pub stands : slice_get fs n ≡ Some entry
  pub read : slice_get rs n ≡ Some (Some text)
  pub path : f.path ≡ entry.path
  pub constant : f.constant ≡ text.constant

used_here : (entry : FileEntry) (fs : List FileEntry) (r : Option UsedText) (rs : List (Option UsedText))
    (f : UsedFile) →
    slice_get (all_used (entry ∷ fs) (r ∷ rs)) 0 ≡ Some (Some f) → UsedAt (entry ∷ fs) (r ∷ rs) 0 f
used_here entry fs None rs f e = cc
used_here entry fs (Some u) rs f e =
    let same : record { path = entry.path; constant = u.constant; reading = reading_in u.text } ≡ f = cc in
    record {
      entry = entry;
      text = u;
      stands = refl;
      read = refl;
      path = sym (ap (λ x. x.path) same);
      constant = sym (ap (λ x. x.constant) same);
    }

-- what is used at a number is the file there, with its text
pub used_at_number : (fs : List FileEntry) (rs : List (Option UsedText)) (n : ℕ) (f : UsedFile) →
    slice_get (all_used fs rs) n ≡ Some (Some f) → UsedAt fs rs n f
used_at_number [] rs n f e = absurd (none-some (Some f) e)
used_at_number (entry ∷ fs) [] n f e = absurd (none-some (Some f) e)
used_at_number (entry ∷ fs) (r ∷ rs) zero f e = used_here entry fs r rs f e
used_at_number (entry ∷ fs) (r ∷ rs) (suc n) f e =
    let u = used_at_number fs rs n f e in
    record { entry = u.entry; text = u.text; stands = u.stands; read = u.read; path = u.path; constant = u.constant }

-- the constant of a text
text_here : (c : Option Path) (u : UsedText) (cs : List (Option Path)) (rs : List (Option UsedText)) →
    AreUsed (c ∷ cs) (Some u ∷ rs) → c ≡ Some u.constant
text_here None u cs rs h = absurd h.0
text_here (Some c) u cs rs h = ap (λ x. Some x) (sym h.0)

text_constant : (cs : List (Option Path)) (rs : List (Option UsedText)) (n : ℕ) (u : UsedText) → AreUsed cs rs →
    slice_get rs n ≡ Some (Some u) → slice_get cs n ≡ Some (Some u.constant)
text_constant [] [] n u h e = absurd (none-some (Some u) e)
text_constant [] (r ∷ rs) n u h e = absurd h
text_constant (c ∷ cs) [] n u h e = absurd h
text_constant (c ∷ cs) (r ∷ rs) zero u h e =
    ap (λ x. Some x) (text_here c u cs rs (subst (λ x. AreUsed (c ∷ cs) (x ∷ rs)) (same_Some r (Some u) e) h))
text_constant (c ∷ cs) (r ∷ rs) (suc n) u h e = text_constant cs rs n u h.1 e

module _ (files : List FileEntry) (p : Content) (is : IsProgram files p) where
  -- where a file that is used stands, and that it is the file of its constant
  pub record Standing (f : UsedFile) : Type 0 where
    pub number : ℕ
    pub at : slice_get (files_of p) number ≡ Some (Some f)
    pub path : slice_get (map (λ (e : FileEntry). e.path) files) number ≡ Some f.path
    pub named : f.constant ≢ []
    pub file : IsFileOf (Lists p.sites.spelled) f.constant number

  standing : (f : UsedFile) → Among f (used_files p) → Standing f
  standing f h =
      let i = listed_at (files_of p) f h in
      let u = used_at_number p.files p.texts i.0 f i.1 in
      let c = is.are_constants.each i.0 (Some u.text.constant)
      (text_constant is.constants p.texts i.0 u.text is.are_used u.read) in
      let entry : slice_get files i.0 ≡ Some u.entry =
      subst (λ fs. slice_get fs i.0 ≡ Some u.entry) is.same u.stands in
      record {
        number = i.0;
        at = i.1;
        path = slice_get-map (λ (e : FileEntry). e.path) files i.0
            ∙ ap (option_map (λ (e : FileEntry). e.path)) entry ∙ ap (λ x. Some x) (sym u.path);
        named = subst (λ x. x ≢ []) (sym u.constant) c.0;
        file = subst (λ x. IsFileOf (Lists p.sites.spelled) x i.0) (sym u.constant) c.1;
      }

  same_at : (f g : UsedFile) (s : Standing f) (t : Standing g) → s.number ≡ t.number → f ≡ g
  same_at f g s t e =
      let there : slice_get (files_of p) t.number ≡ Some (Some f) =
      subst (λ n. slice_get (files_of p) n ≡ Some (Some f)) e s.at in
      same_Some f g (same_Some (Some f) (Some g) (sym there ∙ t.at))

  -- no two files that are used spell one constant or have one path
  pub one_files : OneFile (used_files p)
  one_files = record {
    named = λ f h. (standing f h).named;
    constants = λ f g h k e.
        let s = standing f h in
        let t = standing g k in
        same_at f g s t (one_file_of (Lists p.sites.spelled) g.constant s.number t.number
        (subst (λ c. IsFileOf (Lists p.sites.spelled) c s.number) e s.file) t.file);
    paths = λ f g h k e.
        let s = standing f h in
        let t = standing g k in
        same_at f g s t (once_at (map (λ (x : FileEntry). x.path) files) s.number t.number g.path
        (rises_from_AllPairs IsBefore (map (λ (x : FileEntry). x.path) files) is.rising)
        (subst (λ x. slice_get (map (λ (y : FileEntry). y.path) files) s.number ≡ Some x) e s.path) t.path);
  }

  number_at : (n : ℕ) (f : UsedFile) → slice_get (files_of p) n ≡ Some (Some f) →
      slice_get (map (λ (e : FileEntry). e.path) files) n ≡ Some f.path
  number_at n f h =
      let u = used_at_number p.files p.texts n f h in
      let entry : slice_get files n ≡ Some u.entry = subst (λ fs. slice_get fs n ≡ Some u.entry) is.same u.stands in
      slice_get-map (λ (e : FileEntry). e.path) files n
      ∙ ap (option_map (λ (e : FileEntry). e.path)) entry ∙ ap (λ x. Some x) (sym u.path)

  -- no two numbers are of files with one path
  pub one_numbers : OneNumber (files_of p)
  one_numbers n m f g h k e =
      once_at (map (λ (x : FileEntry). x.path) files) n m g.path
      (rises_from_AllPairs IsBefore (map (λ (x : FileEntry). x.path) files) is.rising)
      (number_at n f h ∙ ap (λ x. Some x) e) (number_at m g k)

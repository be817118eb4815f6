-- What the tables of a program tell of a path is what stands there.
use Rattle.std.proofs.Common.{◌≡◌, ℕ, zero, suc, ◌<◌, List, [], ◌∷◌}
use Rattle.std.proofs.Common.{Option, Some, None, slice_get, inl, inr}
use Rattle.std.proofs.Common.{Bool, true, false, refl, sym, ap, ◌∙◌, subst, length}
use Rattle.std.specs.Borrow.{Bor}
use Rattle.std.specs.Option.{option_map}
use Rattle.std.specs.Prelude.{MatchOption}
use Rattle.std.proofs.lemmas.Bool.{false≢true}
use Rattle.std.proofs.lemmas.Option.{none-some, same_Some, slice_get_within}
use Rattle.outside.specs.declared.files.FileEntry.{FileEntry}
use Rattle.ruby_types.specs.declared.request.RubyError.{RubyError}
use Rattle.program_places.specs.Paths.{Name, Path}
use Rattle.program_places.specs.Places.{Owned, Content as PlaceContent}
use Rattle.program_places.specs.Places.{Faulty, Assigned, Opened}
use Rattle.program_places.specs.Places.{Method, Opening}
use Rattle.program_files.specs.Files.{UsedFile}
use Rattle.program_files.specs.Faults.{file_fault}
use Rattle.program_files.specs.Contents.{content_in}
use Rattle.program_files.specs.Owners.{OneFile}
use Rattle.program_constants.specs.Constants.{first_place}
use Rattle.program_owners.specs.declared.owned.Owned.{Owned as OwnedRow}
use Rattle.program_owners.specs.Owned.{owned_paths}
use Rattle.program_owners.proofs.OwnedLaws.{no_owner, row_first}
use Rattle.program_resolve.specs.Resolve.{namespace_or_nothing}
use Rattle.program_outcomes.specs.Outcomes.{listed}
use Rattle.ruby_nodes.specs.Entries.{Entry, entry_at}
use Rattle.program_lookups.specs.Codes.{Opens, opening_of, method_of}
use Rattle.program_lookups.specs.declared.code.MethodCode.{MethodCode}
use Rattle.program_methods.specs.Methods.{first_named, first_method, IsFoundOf, AreFoundOf}
use Rattle.program_methods.proofs.CodeLaws.{method_is}
use Rattle.program_tables.specs.Said.{Says}
use Rattle.program_tables.specs.Tables.{owned_from, tables_of}
use Rattle.program_standing.specs.Tables.{Tables}
use Rattle.program_tables.proofs.SaidLaws.{fault_said}
use Rattle.program_tables.proofs.StandLaws.{OwnedBy, owned_stands, unowned_stands}
use Rattle.program_code.specs.declared.content.ContentCode.{ContentCode}
use Rattle.program_code.specs.declared.content.ContentCode.TheVariants as code
use Rattle.program_code.specs.declared.opened.OpenedCode.{OpenedCode}
use Rattle.program_code.specs.Codes.{IsContentOf, IsCodeOf, AreCodesOf}
use Rattle.program_index.specs.Content.{Content, files_of, used_files}
use Rattle.program_index.specs.Program.{IsProgram}
use Rattle.program_index.specs.Lookups.{place_in, IsRow, IsUnowned, IsOpenedAt, OpensNothing, HasRow, LacksRow}
use Rattle.program_index.specs.declared.lookups.Row.{Row}
use Rattle.program_index.proofs.OneLaws.{one_files, used_at_number}

-- ---- rows and their code

-- the code at a row's place is the row's
pub code_at : (us : List (Option UsedFile)) (known : List Entry) (rows : List OwnedRow) (codes : List ContentCode)
    (k : ℕ) (row : OwnedRow) (c : ContentCode) → AreCodesOf us known rows codes → slice_get rows k ≡ Some row →
    slice_get codes k ≡ Some c → IsCodeOf us known row c
code_at us known [] [] k row c h e f = absurd (none-some row e)
code_at us known [] (d ∷ codes) k row c h e f = absurd h
code_at us known (r ∷ rows) [] k row c h e f = absurd h
code_at us known (r ∷ rows) (d ∷ codes) zero row c h e f =
    subst (λ x. IsCodeOf us known x c) (same_Some r row e)
    (subst (λ x. IsCodeOf us known r x) (same_Some d c f) h.0)
code_at us known (r ∷ rows) (d ∷ codes) (suc k) row c h e f = code_at us known rows codes k row c h.1 e f

-- a row has code
pub code_there : (us : List (Option UsedFile)) (known : List Entry) (rows : List OwnedRow) (codes : List ContentCode)
    (k : ℕ) (row : OwnedRow) → AreCodesOf us known rows codes → slice_get rows k ≡ Some row →
    slice_get codes k ≡ None → ⊥
code_there us known [] [] k row h e f = none-some row e
code_there us known [] (d ∷ codes) k row h e f = h
code_there us known (r ∷ rows) [] k row h e f = h
code_there us known (r ∷ rows) (d ∷ codes) zero row h e f = none-some d (sym f)
code_there us known (r ∷ rows) (d ∷ codes) (suc k) row h e f = code_there us known rows codes k row h.1 e f

-- a file says one thing of a path
says_one : (file : UsedFile) (path : Path) (c d : PlaceContent) (o : Option RubyError) → Says file path c o →
    Says file path d o → c ≡ d
says_one file path c d (Some error) h k = h.0 ∙ sym k.0
says_one file path c d None h k = same_Some c d (sym h ∙ k)

no_faulty_text : (file : UsedFile) (path : Path) (error : RubyError) → content_in file path ≡ Some (Faulty error) → ⊥
no_faulty_text file path error h =
    false≢true (fault_said file path (Faulty error) None h)

module _ (files : List FileEntry) (p : Content) (is : IsProgram files p) where
  one : OneFile (listed (files_of p))
  one = one_files files p is

  abbrev rows : List OwnedRow
  rows = owned_from (used_files p) 0 (files_of p)

  -- a path without a row is owned by no file
  pub row_missing : (path : Path) → first_place path (owned_paths rows) ≡ None → IsUnowned p path
  row_missing path e = unowned_stands (files_of p) one path (sym (no_owner path rows e))

  row_made : (path : Path) (row : OwnedRow) (r : Row) → row.path ≡ path → row.file ≡ r.file →
      OwnedBy (files_of p) one row.file path → IsCodeOf (files_of p) p.nodes row r.code.now → IsRow p path r
  row_made path row r same number o c =
      let file : c.0 ≡ o.file = same_Some c.0 o.file (same_Some (Some c.0) (Some o.file) (sym c.1 ∙ o.at)) in
      let said : Says o.file path c.2.0 (file_fault (used_files p) o.file) =
      subst (λ q. Says o.file q c.2.0 (file_fault (used_files p) o.file)) same
      (subst (λ f. Says f row.path c.2.0 (file_fault (used_files p) f)) file c.2.1) in
      let content : c.2.0 ≡ o.content =
      says_one o.file path c.2.0 o.content (file_fault (used_files p) o.file) said o.says in
      record {
        file = o.file;
        at = subst (λ n. slice_get (files_of p) n ≡ Some (Some o.file)) number o.at;
        content = o.content;
        is = o.is;
        says = o.says;
        code = subst (IsContentOf p.nodes r.code.now) content c.2.2;
      }

  -- the row of a path is what its owner says of it
  pub row_told : (codes : List ContentCode) → AreCodesOf (files_of p) p.nodes rows codes → (path : Path) (k : ℕ) →
      first_place path (owned_paths rows) ≡ Some k → (r : Row) →
      option_map (λ (o : OwnedRow). o.file) (slice_get rows k) ≡ Some r.file → slice_get codes k ≡ Some r.code.now →
      IsRow p path r
  row_told codes h path k e r f g =
      let at = row_first path rows k e in
      let number : at.row.file ≡ r.file =
      same_Some at.row.file r.file (sym (ap (option_map (λ (o : OwnedRow). o.file)) at.at) ∙ f) in
      row_made path at.row r at.same number (owned_stands (files_of p) one path at.row.file (sym at.owner))
      (code_at (files_of p) p.nodes rows codes k at.row r.code.now h at.at g)

  lacks_row : (t : Tables) → t ≡ tables_of (files_of p) → (codes : List ContentCode) →
      AreCodesOf (files_of p) p.nodes rows codes → (path : Path) (k : ℕ) →
      first_place path (owned_paths rows) ≡ Some k → LacksRow t codes k → ⊥
  lacks_row t same codes h path k e (inl f) =
      let at = row_first path rows k e in
      none-some at.row (sym (sym at.at ∙ ap (λ (x : Tables). slice_get x.owned k) (sym same) ∙ f))
  lacks_row t same codes h path k e (inr f) =
      let at = row_first path rows k e in code_there (files_of p) p.nodes rows codes k at.row h at.at f

  -- what is found at the place of a path's row is what its owner says of it
  pub row_found : (t : Tables) → t ≡ tables_of (files_of p) → (codes : List ContentCode) →
      AreCodesOf (files_of p) p.nodes rows codes → (path : Path) (k : ℕ) →
      first_place path (owned_paths t.owned) ≡ Some k → (r : Option Row) →
      MatchOption r (LacksRow t codes k) (HasRow t codes k) → MatchOption r (IsUnowned p path) (IsRow p path)
  row_found t same codes h path k e None lacks =
      absurd (lacks_row t same codes h path k
      (ap (λ (x : Tables). first_place path (owned_paths x.owned)) (sym same) ∙ e) lacks)
  row_found t same codes h path k e (Some row) has =
      row_told codes h path k (ap (λ (x : Tables). first_place path (owned_paths x.owned)) (sym same) ∙ e) row
      (ap (λ (x : Tables). option_map (λ (o : OwnedRow). o.file) (slice_get x.owned k)) (sym same) ∙ has.0) has.1

-- ---- what stands at a path

faulty_is : (file : UsedFile) (path : Path) (content : PlaceContent) (error : RubyError) (o : Option RubyError) →
    o ≡ Some error → Says file path content o → content ≡ Faulty error
faulty_is file path content error (Some found) q says = says.0 ∙ ap Faulty (same_Some found error q)
faulty_is file path content error None q says = absurd (none-some error q)

module _ (p : Content) (path : Path) (r : Row) (h : IsRow p path r) where
  -- the number of a row is that of a file
  pub row_within : r.file < length p.files
  row_within =
      let u = used_at_number p.files p.texts r.file h.file h.at in slice_get_within p.files r.file u.entry u.stands

  -- and its path is the file's
  pub row_path : (entry : FileEntry) → slice_get p.files r.file ≡ Some entry → entry.path ≡ h.file.path
  row_path entry e =
      let u = used_at_number p.files p.texts r.file h.file h.at in
      ap (λ (x : FileEntry). x.path) (same_Some entry u.entry (sym e ∙ u.stands)) ∙ sym u.path

  at_file : (file : List ℕ) (content : PlaceContent) → file ≡ h.file.path → h.content ≡ content →
      place_in p path ≡ Owned file content
  at_file file content f e = h.is ∙ ap (λ (q : List ℕ). Owned q h.content) (sym f) ∙ ap (Owned file) e

  -- a file at fault stands there with its fault
  pub fault_stands : (file : List ℕ) (error : RubyError) → file ≡ h.file.path →
      file_fault (used_files p) h.file ≡ Some error → place_in p path ≡ Owned file (Faulty error)
  fault_stands file error f g =
      at_file file (Faulty error) f
      (faulty_is h.file path h.content error (file_fault (used_files p) h.file) g h.says)

  no_fault_by : (content : PlaceContent) → IsContentOf p.nodes code.Faulty content → (o : Option RubyError) →
      Says h.file path content o → o ≡ None → ⊥
  no_fault_by (Faulty error) k None says q = absurd (no_faulty_text h.file path error says)
  no_fault_by (Faulty error) k (Some found) says q = none-some found (sym q)
  no_fault_by (Assigned value scopes) k o says q = k
  no_fault_by (Opened opening) k o says q = k

  -- where a file is at fault, it has a fault
  pub fault_there : IsContentOf p.nodes code.Faulty h.content → file_fault (used_files p) h.file ≡ None → ⊥
  fault_there k q = no_fault_by h.content k (file_fault (used_files p) h.file) h.says q

  assigned_by : (first : ℕ) (around : List Path) (content : PlaceContent) → h.content ≡ content →
      IsContentOf p.nodes (code.Assigned first around) content → (file : List ℕ) → file ≡ h.file.path →
      place_in p path ≡ Owned file (Assigned (entry_at p.nodes first).expr around)
  assigned_by first around (Faulty error) e k file f = absurd k
  assigned_by first around (Opened opening) e k file f = absurd k
  assigned_by first around (Assigned value scopes) e k file f =
      at_file file (Assigned (entry_at p.nodes first).expr around) f
      (e ∙ ap (λ x. Assigned x scopes) (sym (ap (λ (n : Entry). n.expr) k.0.is))
      ∙ ap (Assigned (entry_at p.nodes first).expr) (sym k.1))

  -- an expression stands there
  pub assigned_stands : (first : ℕ) (around : List Path) → r.code.now ≡ code.Assigned first around →
      (file : List ℕ) → file ≡ h.file.path →
      place_in p path ≡ Owned file (Assigned (entry_at p.nodes first).expr around)
  assigned_stands first around e file f =
      assigned_by first around h.content refl (subst (λ c. IsContentOf p.nodes c h.content) e h.code) file f

  opened_by : (opened : OpenedCode) (content : PlaceContent) → h.content ≡ content →
      IsContentOf p.nodes (code.Opened opened) content → (file : List ℕ) → file ≡ h.file.path →
      (place_in p path ≡ Owned file (Opened (opening_of (place_in p path))))
      × Opens opened.opening (opening_of (place_in p path)) × IsOpenedAt p path opened
  opened_by opened (Faulty error) e k file f = absurd k
  opened_by opened (Assigned value scopes) e k file f = absurd k
  opened_by opened (Opened opening) e k file f =
      let at = at_file file (Opened opening) f e in
      let same : opening_of (place_in p path) ≡ opening = ap opening_of at in (
        at ∙ ap (λ o. Owned file (Opened o)) (sym same),
        subst (Opens opened.opening) (sym same) k.opens,
        (
          subst (λ (o : Opening). AreFoundOf p.nodes opened.singles o.singles) (sym same) k.singles,
          subst (λ (o : Opening). AreFoundOf p.nodes opened.instances o.instances) (sym same) k.instances,
        ),
      )

  -- a class or module stands there, with its methods
  pub opened_stands : (opened : OpenedCode) → r.code.now ≡ code.Opened opened → (file : List ℕ) →
      file ≡ h.file.path → (place_in p path ≡ Owned file (Opened (opening_of (place_in p path))))
      × Opens opened.opening (opening_of (place_in p path)) × IsOpenedAt p path opened
  opened_stands opened e file f =
      opened_by opened h.content refl (subst (λ c. IsContentOf p.nodes c h.content) e h.code) file f

  nothing_by : (c : ContentCode) (content : PlaceContent) → h.content ≡ content → IsContentOf p.nodes c content →
      ((opened : OpenedCode) → c ≡ code.Opened opened → ⊥) → OpensNothing p path
  nothing_by c (Faulty error) e k lacks =
      let at = at_file h.file.path (Faulty error) refl e in
      (ap (λ x. (opening_of x).singles) at, ap (λ x. (opening_of x).instances) at)
  nothing_by c (Assigned value scopes) e k lacks =
      let at = at_file h.file.path (Assigned value scopes) refl e in
      (ap (λ x. (opening_of x).singles) at, ap (λ x. (opening_of x).instances) at)
  nothing_by (code.Opened opened) (Opened opening) e k lacks = absurd (lacks opened refl)
  nothing_by code.Faulty (Opened opening) e k lacks = absurd k
  nothing_by (code.Assigned first around) (Opened opening) e k lacks = absurd k

  -- where the code is of no class or module, nothing there has methods
  pub not_opened : ((opened : OpenedCode) → r.code.now ≡ code.Opened opened → ⊥) → OpensNothing p path
  not_opened lacks = nothing_by r.code.now h.content refl h.code lacks

-- where no file owns a path, nothing there has methods
pub unowned_opens : (p : Content) (path : Path) → IsUnowned p path → OpensNothing p path
unowned_opens p path e = at _ e where
  at : (b : Bool) → place_in p path ≡ namespace_or_nothing b → OpensNothing p path
  at true h = (ap (λ x. (opening_of x).singles) h, ap (λ x. (opening_of x).instances) h)
  at false h = (ap (λ x. (opening_of x).singles) h, ap (λ x. (opening_of x).instances) h)

-- ---- methods

matched : (known : List Entry) (r : Option (Bor MethodCode)) (o : Option Method) →
    IsFoundOf known (option_map (λ (m : Bor MethodCode). m.now) r) o →
    MatchOption r (o ≡ None) (λ found. o ≡ Some (method_of known found.now))
matched known None None h = refl
matched known None (Some m) h = absurd h
matched known (Some c) None h = absurd h
matched known (Some c) (Some m) h = ap (λ x. Some x) (sym (method_is known c.now m h))

-- a method that is found by its code is found
pub method_matched : (known : List Entry) (r : Option (Bor MethodCode)) (name : Name) (table : List MethodCode)
    (methods : List Method) → AreFoundOf known table methods →
    option_map (λ (m : Bor MethodCode). m.now) r ≡ first_named name table →
    MatchOption r (first_method name methods ≡ None) (λ found. first_method name methods
    ≡ Some (method_of known found.now))
method_matched known r name table methods h e =
    matched known r (first_method name methods)
    (subst (λ o. IsFoundOf known o (first_method name methods)) (sym e) (h name))

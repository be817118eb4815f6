-- What stands at a path that a file owns is what that file says of it.
use Rattle.std.proofs.Common.{◌≡◌, ℕ, Bool, true, false, List, [], ◌∷◌, Option, Some, None, is_some, refl, sym, ap, ◌∙◌}
use Rattle.std.proofs.Common.{subst}
use Rattle.std.proofs.lemmas.Option.{none-some, same_Some}
use Rattle.ruby_types.specs.declared.request.RubyError.{RubyError}
use Rattle.program_places.specs.Paths.{Path, levels}
use Rattle.program_places.specs.Places.{Owned, Content, Faulty, Assigned, Opened}
use Rattle.program_files.specs.Files.{UsedFile, entries, file_of, has_site}
use Rattle.program_files.specs.Faults.{Kind, a_module, a_class, a_value, kind_in, file_fault}
use Rattle.program_files.specs.Contents.{content_by, content_in, owned_by, own_place, inner_place, or_file, nearest}
use Rattle.program_files.specs.Contents.{around_place, bare_place, place_by, place_of, opening_of}
use Rattle.program_files.specs.Members.{Among}
use Rattle.program_files.proofs.Index.{file_found}
use Rattle.program_tables.specs.Said.{Says, is_fault}

no_fault_in_text : (file : UsedFile) (path : Path) (o : Option Kind) (content : Content) →
    content_by file path o ≡ Some content → is_fault content ≡ false
no_fault_in_text file path None content e = absurd (none-some content e)
no_fault_in_text file path (Some a_module) content e =
    ap is_fault (sym (same_Some (Opened (opening_of file false path)) content e))
no_fault_in_text file path (Some a_class) content e =
    ap is_fault (sym (same_Some (Opened (opening_of file true path)) content e))
no_fault_in_text file path (Some (a_value x scopes)) content e =
    ap is_fault (sym (same_Some (Assigned x scopes) content e))

-- a file says its fault exactly where it has one
pub fault_said : (file : UsedFile) (path : Path) (content : Content) (o : Option RubyError) →
    Says file path content o → is_some o ≡ is_fault content
fault_said file path content (Some error) h = ap is_fault (sym h.0)
fault_said file path content None h = sym (no_fault_in_text file path (kind_in (entries file) path) content h)

module _ (fs : List UsedFile) where
  -- a file that owns a path, and what it says of it
  pub record Said (path : Path) (owner : List ℕ) (content : Content) : Type 0 where
    pub file : UsedFile
    pub among : Among file fs
    pub owns : file.path ≡ owner
    pub says : Says file path content (file_fault fs file)

  text_said : (file : UsedFile) (path : Path) (owner : List ℕ) (content : Content) (c : Option Content) →
      Among file fs → file_fault fs file ≡ None → content_in file path ≡ c → owned_by file c ≡ Owned owner content →
      Said path owner content
  text_said file path owner content None m f i e = absurd cc
  text_said file path owner content (Some said) m f i e =
      let owns : file.path ≡ owner = cc in
      let same : said ≡ content = cc in
      record {
        file = file;
        among = m;
        owns = owns;
        says = subst (Says file path content) (sym f) (i ∙ ap (λ x. Some x) same);
      }

  own_said : (file : UsedFile) (path : Path) (owner : List ℕ) (content : Content) (o : Option RubyError) →
      Among file fs → file_fault fs file ≡ o → file.constant ≡ path → own_place file path o ≡ Owned owner content →
      Said path owner content
  own_said file path owner content (Some error) m f k e =
      let owns : file.path ≡ owner = cc in
      let same : content ≡ Faulty error = cc in
      record { file = file; among = m; owns = owns; says = subst (Says file path content) (sym f) (same, k) }
  own_said file path owner content None m f k e = text_said file path owner content (content_in file path) m f refl e

  inner_said : (file : UsedFile) (path : Path) (owner : List ℕ) (content : Content) (o : Option RubyError) →
      Among file fs → file_fault fs file ≡ o → inner_place file path o ≡ Owned owner content → Said path owner content
  inner_said file path owner content (Some error) m f e = absurd cc
  inner_said file path owner content None m f e = text_said file path owner content (content_in file path) m f refl e

  -- the nearest file is one of the files
  near_among : (ps : List Path) (file : UsedFile) → nearest fs ps ≡ Some file → Among file fs
  near_among [] file e = absurd (none-some file e)
  near_among (p ∷ ps) file e = near_at (nearest fs ps) refl (near_among ps file) e where
    near_at : (o : Option UsedFile) → nearest fs ps ≡ o → (nearest fs ps ≡ Some file → Among file fs) →
        or_file o (file_of fs p) ≡ Some file → Among file fs
    near_at None i ih h = (file_found fs p file h).0
    near_at (Some g) i ih h = ih (i ∙ h)

  around_said : (path : Path) (owner : List ℕ) (content : Content) (o : Option UsedFile) →
      nearest fs (levels path) ≡ o → around_place fs path o ≡ Owned owner content → Said path owner content
  around_said path owner content None n e = absurd cc
  around_said path owner content (Some file) n e =
      inner_said file path owner content (file_fault fs file) (near_among (levels path) file n) refl e

  bare_said : (path : Path) (owner : List ℕ) (content : Content) (site : Bool) →
      bare_place fs path site ≡ Owned owner content → Said path owner content
  bare_said path owner content true e = absurd cc
  bare_said path owner content false e = around_said path owner content (nearest fs (levels path)) refl e

  place_said_by : (path : Path) (owner : List ℕ) (content : Content) (o : Option UsedFile) → file_of fs path ≡ o →
      place_by fs path o ≡ Owned owner content → Said path owner content
  place_said_by path owner content None f e = bare_said path owner content (has_site fs path) e
  place_said_by path owner content (Some file) f e =
      let found = file_found fs path file f in
      own_said file path owner content (file_fault fs file) found.0 refl found.1 e

  -- what stands at a path that a file owns is said by a file
  pub place_said : (path : Path) (owner : List ℕ) (content : Content) → place_of fs path ≡ Owned owner content →
      Said path owner content
  place_said path owner content e = place_said_by path owner content (file_of fs path) refl e

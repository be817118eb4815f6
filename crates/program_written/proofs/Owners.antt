-- What a file that owns a place says, and which of its entries says it.
use Rattle.std.proofs.Common.{◌≡◌, ◌⊎◌, ℕ, Bool, true, false, cond, List, [], ◌∷◌, Option, Some, None, is_some}
use Rattle.std.proofs.Common.{inl, inr}
use Rattle.std.proofs.Common.{refl, sym, ap, ◌∙◌, subst}
use Rattle.std.proofs.lemmas.Bool.{false≢true}
use Rattle.ruby_types.specs.declared.tree.Expr.{Expr}
use Rattle.ruby_types.specs.declared.request.RubyError.{RubyError}
use Rattle.program_places.specs.Paths.{Path, same_path, levels}
use Rattle.program_places.specs.Places.{Place, Missing, Implicit, Owned, Content, Faulty, Assigned, Opened, Opening}
use Rattle.program_files.specs.Members.{Among}
use Rattle.program_files.specs.Entries.{Entry, What, Opens, Assigns, Defines, Includes, Readers}
use Rattle.program_files.specs.Files.{UsedFile, file_of, has_site}
use Rattle.program_files.specs.Faults.{Kind, a_module, a_class, a_value, kind_of_what, kind_of, or_kind, kind_in}
use Rattle.program_files.specs.Faults.{is_definition, file_fault}
use Rattle.program_files.specs.Contents.{opening_of, content_by, content_in, owned_by, own_place, inner_place, or_file}
use Rattle.program_files.specs.Contents.{nearest, around_place, bare_place, place_by, place_of}
use Rattle.program_files.proofs.Paths.{path_decides}
use Rattle.program_files.proofs.Index.{file_found}

-- ---- the file

-- what a file without fault says of a path; of a file at fault nothing is told
abbrev pub Says : List UsedFile → UsedFile → Path → Content → Type 0
Says files file path (Faulty error) = Unit {0}
Says files file path (Assigned x scopes) =
    (file_fault files file ≡ None) × (content_in file path ≡ Some (Assigned x scopes))
Says files file path (Opened opening) =
    (file_fault files file ≡ None) × (content_in file path ≡ Some (Opened opening))

-- a file that owns a path says this of it
pub record IsOwner (files : List UsedFile) (path : Path) (owner : List ℕ) (content : Content) : Type 0 where
  pub file : UsedFile
  pub among : Among file files
  pub is : file.path ≡ owner
  pub says : Says files file path content

module _ (files : List UsedFile) where
  abbrev OwnerAt : Path → Place → Type 0
  OwnerAt path Missing = Unit {0}
  OwnerAt path Implicit = Unit {0}
  OwnerAt path (Owned owner content) = IsOwner files path owner content

  says_content : (file : UsedFile) (path : Path) (content : Content) → file_fault files file ≡ None →
      content_in file path ≡ Some content → Says files file path content
  says_content file path (Faulty error) f h = tt
  says_content file path (Assigned x scopes) f h = (f, h)
  says_content file path (Opened opening) f h = (f, h)

  content_owner : (file : UsedFile) (path : Path) (c : Option Content) → Among file files →
      file_fault files file ≡ None → content_in file path ≡ c → OwnerAt path (owned_by file c)
  content_owner file path None m f h = tt
  content_owner file path (Some content) m f h =
      record { file = file; among = m; is = refl; says = says_content file path content f h }

  inner_owner : (file : UsedFile) (path : Path) (o : Option RubyError) → Among file files →
      file_fault files file ≡ o → OwnerAt path (inner_place file path o)
  inner_owner file path (Some error) m f = tt
  inner_owner file path None m f = content_owner file path (content_in file path) m f refl

  own_owner : (file : UsedFile) (path : Path) (o : Option RubyError) → Among file files →
      file_fault files file ≡ o → OwnerAt path (own_place file path o)
  own_owner file path (Some error) m f = record { file = file; among = m; is = refl; says = tt }
  own_owner file path None m f = content_owner file path (content_in file path) m f refl

  near_cases : (path : Path) (ps : List Path) (file : UsedFile) (o : Option UsedFile) → nearest files ps ≡ o →
      (nearest files ps ≡ Some file → Among file files) → or_file o (file_of files path) ≡ Some file →
      Among file files
  near_cases path ps file None e ih h = (file_found files path file h).0
  near_cases path ps file (Some g) e ih h = ih (e ∙ h)

  nearest_among : (ps : List Path) (file : UsedFile) → nearest files ps ≡ Some file → Among file files
  nearest_among [] file h = absurd cc
  nearest_among (p ∷ ps) file h = near_cases p ps file (nearest files ps) refl (nearest_among ps file) h

  around_owner : (path : Path) (o : Option UsedFile) → nearest files (levels path) ≡ o →
      OwnerAt path (around_place files path o)
  around_owner path None h = tt
  around_owner path (Some file) h =
      inner_owner file path (file_fault files file) (nearest_among (levels path) file h) refl

  bare_owner : (path : Path) (site : Bool) → OwnerAt path (bare_place files path site)
  bare_owner path true = tt
  bare_owner path false = around_owner path (nearest files (levels path)) refl

  owner_by : (path : Path) (o : Option UsedFile) → file_of files path ≡ o → OwnerAt path (place_by files path o)
  owner_by path None h = bare_owner path (has_site files path)
  owner_by path (Some file) h = own_owner file path (file_fault files file) (file_found files path file h).0 refl

  -- the file that owns a path
  pub owner_of : (path : Path) (owner : List ℕ) (content : Content) → place_of files path ≡ Owned owner content →
      IsOwner files path owner content
  owner_of path owner content h = subst (OwnerAt path) h (owner_by path (file_of files path) refl)

-- ---- what it says

-- what is said to be assigned is by an expression
pub assigned_kind : (file : UsedFile) (path : Path) (o : Option Kind) (x : Expr) (scopes : List Path) →
    content_by file path o ≡ Some (Assigned x scopes) → o ≡ Some (a_value x scopes)
assigned_kind file path None x scopes h = absurd cc
assigned_kind file path (Some a_module) x scopes h = absurd cc
assigned_kind file path (Some a_class) x scopes h = absurd cc
assigned_kind file path (Some (a_value y around)) x scopes h = cc

-- what is said to be opened is an opening of the file
pub opened_kind : (file : UsedFile) (path : Path) (o : Option Kind) (opening : Opening) →
    content_by file path o ≡ Some (Opened opening) → (is_class : Bool) × (opening_of file is_class path ≡ opening)
opened_kind file path None opening h = absurd cc
opened_kind file path (Some a_module) opening h = (false, cc)
opened_kind file path (Some a_class) opening h = (true, cc)
opened_kind file path (Some (a_value y around)) opening h = absurd cc

-- ---- the entry

-- an entry among these assigns the path, in these scopes
pub record IsAssigned (es : List Entry) (path : Path) (x : Expr) (scopes : List Path) : Type 0 where
  pub assignment : Entry
  pub among : Among assignment es
  pub constant : assignment.constant ≡ path
  pub what : assignment.what ≡ Assigns x
  pub around : assignment.scopes ≡ scopes

value_what : (own : List Path) (what : What) (x : Expr) (scopes : List Path) →
    kind_of_what own what ≡ Some (a_value x scopes) → (what ≡ Assigns x) × (own ≡ scopes)
value_what own (Opens true parent) x scopes h = absurd cc
value_what own (Opens false parent) x scopes h = absurd cc
value_what own (Assigns y) x scopes h = (cc, cc)
value_what own (Defines single name params body) x scopes h = absurd cc
value_what own (Includes constant) x scopes h = absurd cc
value_what own (Readers names) x scopes h = absurd cc

assigned_later : (e : Entry) (es : List Entry) (path : Path) (x : Expr) (scopes : List Path) →
    IsAssigned es path x scopes → IsAssigned (e ∷ es) path x scopes
assigned_later e es path x scopes a = record {
  assignment = a.assignment;
  among = inr a.among;
  constant = a.constant;
  what = a.what;
  around = a.around;
}

assigned_here : (e : Entry) (es : List Entry) (path : Path) (x : Expr) (scopes : List Path) →
    same_path e.constant path ≡ true → kind_of e ≡ Some (a_value x scopes) → IsAssigned (e ∷ es) path x scopes
assigned_here e es path x scopes s k =
    let w = value_what e.scopes e.what x scopes k in record {
      assignment = e;
      among = inl refl;
      constant = (path_decides e.constant path).0 s;
      what = w.0;
      around = w.1;
    }

assigned_at : (e : Entry) (es : List Entry) (path : Path) (x : Expr) (scopes : List Path) (b : Bool)
    (o : Option Kind) → same_path e.constant path ≡ b → kind_of e ≡ o →
    (kind_in es path ≡ Some (a_value x scopes) → IsAssigned es path x scopes) →
    cond b (or_kind o (kind_in es path)) (kind_in es path) ≡ Some (a_value x scopes) →
    IsAssigned (e ∷ es) path x scopes
assigned_at e es path x scopes true None s k ih h = assigned_later e es path x scopes (ih h)
assigned_at e es path x scopes true (Some kind) s k ih h = assigned_here e es path x scopes s (k ∙ h)
assigned_at e es path x scopes false o s k ih h = assigned_later e es path x scopes (ih h)

-- where entries first define a path by an expression, one of them assigns it
pub value_entry : (es : List Entry) (path : Path) (x : Expr) (scopes : List Path) →
    kind_in es path ≡ Some (a_value x scopes) → IsAssigned es path x scopes
value_entry [] path x scopes h = absurd cc
value_entry (e ∷ es) path x scopes h =
    assigned_at e es path x scopes (same_path e.constant path) (kind_of e) refl refl (value_entry es path x scopes) h

kind_at : (e f : Entry) (es : List Entry) (path : Path) (b : Bool) (o : Option Kind) → same_path f.constant path ≡ b →
    kind_of f ≡ o → is_definition e ≡ true → e.constant ≡ path → (e ≡ f) ⊎ Among e es →
    (Among e es → (k : Kind) × (kind_in es path ≡ Some k)) →
    (k : Kind) × (cond b (or_kind o (kind_in es path)) (kind_in es path) ≡ Some k)
kind_at e f es path true (Some kind) s k d c m ih = (kind, refl)
kind_at e f es path true None s k d c (inl q) ih =
    absurd (false≢true (sym (ap is_definition q ∙ ap is_some k) ∙ d))
kind_at e f es path true None s k d c (inr m) ih = ih m
kind_at e f es path false o s k d c (inl q) ih =
    let at : f.constant ≡ path = ap (λ (g : Entry). g.constant) (sym q) ∙ c in
    absurd (false≢true (sym s ∙ (path_decides f.constant path).1 at))
kind_at e f es path false o s k d c (inr m) ih = ih m

-- entries of which one defines a path have a kind for it
pub some_kind : (es : List Entry) (path : Path) (e : Entry) → Among e es → is_definition e ≡ true →
    e.constant ≡ path → (k : Kind) × (kind_in es path ≡ Some k)
some_kind [] path e m d c = absurd m
some_kind (f ∷ es) path e m d c =
    kind_at e f es path (same_path f.constant path) (kind_of f) refl refl d c m (λ n. some_kind es path e n d c)

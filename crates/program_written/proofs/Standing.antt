-- What files define stands in their index.
use Rattle.std.proofs.Common.{◌≡◌, ◌⊎◌, ℕ, Bool, true, false, not, ◌&&◌, ◌||◌, cond, List, [], ◌∷◌, Option, Some}
use Rattle.std.proofs.Common.{None, is_some, inl, inr, refl, sym, ap, ◌∙◌, subst}
use Rattle.std.specs.Prelude.{bytes_eq}
use Rattle.std.specs.List.{list_any}
use Rattle.std.proofs.lemmas.Bool.{false≢true, and_from, and_parts, or_left, or_right}
use Rattle.ruby_types.specs.declared.tree.Expr.{Expr}
use Rattle.ruby_types.specs.declared.request.RubyError.{RubyError}
use Rattle.ruby_types.specs.declared.request.Task.TheVariants as task
use Rattle.ruby_grammar.specs.Marks as marks
use Rattle.ruby_grammar.specs.Marks.{Act, assigns, opens_module, opens_class, acts_clash, clash}
use Rattle.ruby_print_pieces.specs.FormedFiles.{Deed, deed, Apart}
use Rattle.ruby_print_trees.proofs.Law.{formed_text}
use Rattle.program_places.specs.Paths.{Name, Path, same_path, begins}
use Rattle.program_places.specs.Places.{Owned, Content, Faulty, Assigned, Opened, Opening}
use Rattle.program_places.specs.Places.{Mention}
use Rattle.program_places.specs.Tasks.{EachIs}
use Rattle.program_files.specs.Members.{Among}
use Rattle.program_files.specs.Entries.{Entry, What, Opens, Assigns, Defines, Includes, Readers}
use Rattle.program_files.specs.Files.{UsedFile, Reading, Readable, Unreadable, entries_read, entries, file_of, is_above}
use Rattle.program_files.specs.Files.{is_namespace, has_site}
use Rattle.program_files.specs.Faults.{Kind, a_module, a_class, a_value, or_fault, unread, undefined_by, opens_around}
use Rattle.program_files.specs.Faults.{is_outside, more_than, is_value, no_module, is_definition, kind_in, file_fault}
use Rattle.program_files.specs.Contents.{parent_what, include_what, gathered, first_mention, content_by}
use Rattle.program_files.specs.Contents.{owned_by, own_place, bare_place, place_by, place_of}
use Rattle.program_files.specs.Tasks.{kind_tasks, index_of}
use Rattle.program_files.specs.Owners.{OneFile}
use Rattle.program_files.proofs.Paths.{name_itself}
use Rattle.program_files.proofs.Index.{inner_task, file_found}
use Rattle.program_files.proofs.Owners.{sound, const_at}
use Rattle.ruby_runs.specs.Names.{is_there}
use Rattle.program_values.specs.Standing.{is_module_at, ScopeStands, IsNamed, IsWritten}
use Rattle.program_values.proofs.Values.{each_of_both}
use Rattle.program_written.specs.Reads.{IsRead}
use Rattle.program_written.proofs.Deeds.{none_passes, two_apart}
use Rattle.program_written.proofs.Written.{IsOpening, IsTold, HasNames, IsOpened, IsFormed, formed_entries}
use Rattle.program_written.proofs.Owners.{owner_of, assigned_kind, opened_kind, IsAssigned, value_entry, some_kind}

-- ---- lists and truth values

each_among : {A : Type 0} (P : A → Type 0) (xs : List A) (x : A) → EachIs P xs → Among x xs → P x
each_among P [] x each m = absurd m
each_among P (y ∷ xs) x each (inl e) = subst P (sym e) each.0
each_among P (y ∷ xs) x each (inr m) = each_among P xs x each.1 m

some_passes : {A : Type 0} (test : A → Bool) (x : A) (xs : List A) → Among x xs → test x ≡ true →
    list_any test xs ≡ true
some_passes test x [] m h = absurd m
some_passes test x (y ∷ xs) (inl e) h = or_left (test y) (list_any test xs) (ap test (sym e) ∙ h)
some_passes test x (y ∷ xs) (inr m) h = or_right (test y) (list_any test xs) (some_passes test x xs m h)

or_cases : (x y : Bool) → (x || y) ≡ true → (x ≡ true) ⊎ (y ≡ true)
or_cases true y h = inl refl
or_cases false y h = inr h

not_true : (b : Bool) → not b ≡ false → b ≡ true
not_true true h = refl
not_true false h = absurd (false≢true (sym h))

-- ---- the entries of a file

-- the entries of a file are formed, and what they do is apart
pub record AreFormed (es : List Entry) : Type 0 where
  pub deeds : List Deed
  pub apart : Apart [] deeds
  pub each : (e : Entry) → Among e es → IsFormed es [] deeds e

-- what was read is formed
read_formed : (r : Reading) → IsRead r → AreFormed (entries_read r)
read_formed (Readable es) h =
    let f = formed_text h.0 h.1 h.2 in
    subst AreFormed (sym h.3)
    (record { deeds = f.deeds; apart = f.apart; each = λ e m. formed_entries f.formed [] e m })
read_formed (Unreadable kind at) h = record { deeds = []; apart = tt; each = λ e m. absurd m }

path_itself : (p : List (List ℕ)) → marks.same_path p p ≡ true
path_itself [] = refl
path_itself (n ∷ ns) = and_from (bytes_eq n n) (marks.same_path ns ns) (name_itself n) (path_itself ns)

-- what is done by an opening, which clashes with an assignment
record OpeningAct (ds : List Deed) (path : Path) : Type 0 where
  pub act : Act
  pub among : Among (deed path act) ds
  pub behind : acts_clash assigns act ≡ true
  pub before : acts_clash act assigns ≡ true
  pub other : assigns ≡ act → ⊥

opening_act : (ds : List Deed) (path : Path) (what : What) → IsOpening what → IsTold ds path what →
    OpeningAct ds path
opening_act ds path (Opens true parent) o t =
    record { act = opens_class; among = t; behind = refl; before = refl; other = λ e. cc }
opening_act ds path (Opens false parent) o t =
    record { act = opens_module; among = t; behind = refl; before = refl; other = λ e. cc }
opening_act ds path (Assigns value) o t = absurd o
opening_act ds path (Defines single name params body) o t = absurd o
opening_act ds path (Includes constant) o t = absurd o
opening_act ds path (Readers names) o t = absurd o

acts_apart : (ds : List Deed) (path : Path) → Apart [] ds → Among (deed path assigns) ds → OpeningAct ds path → ⊥
acts_apart ds path apart a o = elim (two_apart [] ds (deed path assigns) (deed path o.act) apart a o.among) [
  | inl same ↦ o.other (ap (λ (d : Deed). d.act) same)
  | inr either ↦ elim either [
    | inl h ↦ false≢true (sym h ∙ and_from (marks.same_path path path) (acts_clash assigns o.act)
        (path_itself path) o.behind)
    | inr h ↦ false≢true (sym h ∙ and_from (marks.same_path path path) (acts_clash o.act assigns)
        (path_itself path) o.before)
  ]
]

-- no constant is both assigned and opened
no_clash : (es : List Entry) → AreFormed es → (path : Path) (x : Expr) (scopes : List Path) →
    IsAssigned es path x scopes → (o : Entry) → Among o es → IsOpening o.what → o.constant ≡ path → ⊥
no_clash es f path x scopes a o m opens at =
    let told : IsTold f.deeds path (Assigns x) =
    subst (λ p. IsTold f.deeds p (Assigns x)) a.constant
    (subst (IsTold f.deeds a.assignment.constant) a.what (f.each a.assignment a.among).told) in
    let other : IsTold f.deeds path o.what = subst (λ p. IsTold f.deeds p o.what) at (f.each o m).told in
    acts_apart f.deeds path f.apart told (opening_act f.deeds path o.what opens other)

opening_defines : (e : Entry) (what : What) → e.what ≡ what → IsOpening what → is_definition e ≡ true
opening_defines e (Opens is_class parent) w o = rw w refl
opening_defines e (Assigns value) w o = absurd o
opening_defines e (Defines single name params body) w o = absurd o
opening_defines e (Includes constant) w o = absurd o
opening_defines e (Readers names) w o = absurd o

const_of_kind : (path : Path) (k : Kind) → Among (task.Const path) (kind_tasks path (Some k))
const_of_kind path a_module = inl refl
const_of_kind path a_class = inl refl
const_of_kind path (a_value x scopes) = inl refl

-- ---- mentions

abbrev MentionNamed : Mention → Type 0
MentionNamed mention = IsNamed mention.constant.path

parent_named : (e : Entry) (what : What) → HasNames what → EachIs MentionNamed (parent_what e what)
parent_named e (Opens is_class None) h = tt
parent_named e (Opens is_class (Some parent)) h = (h, tt)
parent_named e (Assigns value) h = tt
parent_named e (Defines single name params body) h = tt
parent_named e (Includes constant) h = tt
parent_named e (Readers names) h = tt

include_named : (e : Entry) (what : What) → HasNames what → EachIs MentionNamed (include_what e what)
include_named e (Opens is_class parent) h = tt
include_named e (Assigns value) h = tt
include_named e (Defines single name params body) h = tt
include_named e (Includes constant) h = (h, tt)
include_named e (Readers names) h = tt

cond_each : (b : Bool) (ms : List Mention) → EachIs MentionNamed ms → EachIs MentionNamed (cond b ms [])
cond_each true ms h = h
cond_each false ms h = tt

gathered_named : (f : Entry → What → List Mention) (path : Path) (es : List Entry) →
    ((e : Entry) → Among e es → EachIs MentionNamed (f e e.what)) → EachIs MentionNamed (gathered f es path)
gathered_named f path [] h = tt
gathered_named f path (e ∷ es) h = each_of_both MentionNamed (cond (same_path e.constant path) (f e e.what) [])
    (gathered f es path) (cond_each (same_path e.constant path) (f e e.what) (h e (inl refl)))
    (gathered_named f path es (λ x m. h x (inr m)))

first_named : (ms : List Mention) (mention : Mention) → EachIs MentionNamed ms → first_mention ms ≡ Some mention →
    MentionNamed mention
first_named [] mention each h = absurd cc
first_named (m ∷ ms) mention each h = let e : m ≡ mention = cc in subst MentionNamed e each.0

-- ---- a file without fault

both_none : (a b : Option RubyError) → or_fault a b ≡ None → (a ≡ None) × (b ≡ None)
both_none None b h = (refl, h)
both_none (Some error) b h = absurd cc

no_value : (file : UsedFile) (b : Bool) → no_module file b ≡ None → b ≡ false
no_value file true h = absurd cc
no_value file false h = refl

first_false : (x y : Bool) → (x && y) ≡ false → y ≡ true → x ≡ false
first_false true y h k = absurd (false≢true (sym h ∙ k))
first_false false y h k = refl

-- it defines its constant, by no expression where this is a namespace
record Defining (files : List UsedFile) (file : UsedFile) : Type 0 where
  pub defined : undefined_by file (kind_in (entries file) file.constant) ≡ None
  pub value : (is_value (kind_in (entries file) file.constant) && is_namespace files file.constant) ≡ false

defining_of : (files : List UsedFile) (file : UsedFile) → file_fault files file ≡ None → Defining files file
defining_of files file h =
    let a = both_none (unread file file.reading) _ h in
    let b = both_none (undefined_by file (kind_in (entries file) file.constant)) _ a.1 in
    let c = both_none (more_than file (list_any (is_outside file.constant) (entries file))) _ b.1 in
    let d = both_none (no_module file (is_value (kind_in (entries file) file.constant)
    && is_namespace files file.constant)) _ c.1 in
    record { defined = b.0; value = no_value file _ d.0 }

kind_is_there : (file : UsedFile) (path : Path) (o : Option Kind) → undefined_by file o ≡ None →
    is_there (owned_by file (content_by file path o)) ≡ true
kind_is_there file path None h = absurd cc
kind_is_there file path (Some a_module) h = refl
kind_is_there file path (Some a_class) h = refl
kind_is_there file path (Some (a_value x scopes)) h = refl

kind_is_module : (file : UsedFile) (path : Path) (o : Option Kind) → undefined_by file o ≡ None →
    is_value o ≡ false → is_module_at (owned_by file (content_by file path o)) ≡ true
kind_is_module file path None h v = absurd cc
kind_is_module file path (Some a_module) h v = refl
kind_is_module file path (Some a_class) h v = refl
kind_is_module file path (Some (a_value x scopes)) h v = absurd (false≢true (sym v))

module _ (files : List UsedFile) where
  own_is_there : (file : UsedFile) (o : Option RubyError) → file_fault files file ≡ o →
      is_there (own_place file file.constant o) ≡ true
  own_is_there file (Some error) f = refl
  own_is_there file None f =
      kind_is_there file file.constant (kind_in (entries file) file.constant) (defining_of files file f).defined

  spelled_by : (path : Path) (o : Option UsedFile) → file_of files path ≡ o → is_some o ≡ true →
      is_there (place_by files path o) ≡ true
  spelled_by path None e h = absurd (false≢true h)
  spelled_by path (Some file) e h =
      subst (λ p. is_there (own_place file p (file_fault files file)) ≡ true) (file_found files path file e).1
      (own_is_there file (file_fault files file) refl)

  -- a constant that has a file is there
  spelled_is_there : (path : Path) → is_some (file_of files path) ≡ true → is_there (place_of files path) ≡ true
  spelled_is_there path h = spelled_by path (file_of files path) refl h

  -- ---- an enclosing namespace

  own_is_module : (file : UsedFile) (o : Option RubyError) → file_fault files file ≡ o →
      is_namespace files file.constant ≡ true → is_module_at (own_place file file.constant o) ≡ true
  own_is_module file (Some error) f n = refl
  own_is_module file None f n =
      let d = defining_of files file f in
      kind_is_module file file.constant (kind_in (entries file) file.constant) d.defined
      (first_false (is_value (kind_in (entries file) file.constant)) (is_namespace files file.constant) d.value n)

  namespace_by : (path : Path) (o : Option UsedFile) → file_of files path ≡ o → has_site files path ≡ true →
      is_namespace files path ≡ true → is_module_at (place_by files path o) ≡ true
  namespace_by path None e site n = subst (λ b. is_module_at (bare_place files path b) ≡ true) (sym site) refl
  namespace_by path (Some file) e site n =
      let at = (file_found files path file e).1 in
      subst (λ p. is_module_at (own_place file p (file_fault files file)) ≡ true) at
      (own_is_module file (file_fault files file) refl (subst (λ p. is_namespace files p ≡ true) (sym at) n))

  site_above : (path : Path) (file : UsedFile) → Among file files → IsNamed path →
      is_above path file.constant ≡ true → has_site files path ≡ true
  site_above [] file m named above = absurd named
  site_above (n ∷ ns) file m named above = some_passes (λ f. begins (n ∷ ns) f.constant) file files m
      (and_parts (begins (n ∷ ns) file.constant) (not (begins file.constant (n ∷ ns))) above).0

  -- a namespace around a file's constant is a module
  namespace_is_module : (path : Path) (file : UsedFile) → Among file files → IsNamed path →
      is_above path file.constant ≡ true → is_module_at (place_of files path) ≡ true
  namespace_is_module path file m named above = namespace_by path (file_of files path) refl
      (site_above path file m named above) (some_passes (λ f. is_above path f.constant) file files m above)

  module _ (one : OneFile files) (read : (f : UsedFile) → Among f files → IsRead f.reading) where
    formed_of : (file : UsedFile) → Among file files → AreFormed (entries file)
    formed_of file m = read_formed file.reading (read file m)

    -- what a file opens it doesn't assign
    not_assigned : (file : UsedFile) → Among file files → (o : Entry) → Among o (entries file) → IsOpening o.what →
        (x : Expr) (scopes : List Path) → place_of files o.constant ≡ Owned file.path (Assigned x scopes) → ⊥
    not_assigned file m o n opens x scopes h =
        let w = owner_of files o.constant file.path (Assigned x scopes) h in
        let same : w.file ≡ file = one.paths w.file file w.among m w.is in
        let kind = assigned_kind w.file o.constant (kind_in (entries w.file) o.constant) x scopes w.says.1 in
        let a = value_entry (entries w.file) o.constant x scopes kind in
        no_clash (entries file) (formed_of file m) o.constant x scopes
        (subst (λ g. IsAssigned (entries g) o.constant x scopes) same a) o n opens refl

    content_is_module : (file : UsedFile) → Among file files → (o : Entry) → Among o (entries file) →
        IsOpening o.what → (content : Content) → place_of files o.constant ≡ Owned file.path content →
        is_module_at (Owned file.path content) ≡ true
    content_is_module file m o n opens (Faulty error) h = refl
    content_is_module file m o n opens (Assigned x scopes) h = absurd (not_assigned file m o n opens x scopes h)
    content_is_module file m o n opens (Opened opening) h = refl

    -- what a file opens inside its constant is a module
    inside_is_module : (file : UsedFile) → Among file files → file_fault files file ≡ None → (o : Entry) →
        Among o (entries file) → IsOpening o.what → begins file.constant o.constant ≡ true →
        is_module_at (place_of files o.constant) ≡ true
    inside_is_module file m f o n opens inside =
        let k = some_kind (entries file) o.constant o n (opening_defines o o.what refl opens) refl in
        let owns = const_at files one file None o.constant m f
        (inr (inner_task file o.constant k.0 (task.Const o.constant) k.1 inside (const_of_kind o.constant k.0))) in
        subst (λ p. is_module_at p ≡ true) (sym owns.1) (content_is_module file m o n opens owns.0 owns.1)

    -- what a file without fault opens is a module
    opened_is_module : (file : UsedFile) → Among file files → file_fault files file ≡ None → (o : Entry) →
        Among o (entries file) → IsOpening o.what → IsNamed o.constant →
        is_module_at (place_of files o.constant) ≡ true
    opened_is_module file m f o n opens named =
        let outside = none_passes (is_outside file.constant) o (entries file) (sound files file f).inside n in
        elim (or_cases (begins file.constant o.constant) (opens_around file.constant o) (not_true _ outside)) [
          | inl inside ↦ inside_is_module file m f o n opens inside
          | inr around ↦ namespace_is_module o.constant file m named
              (and_parts (is_above o.constant file.constant) _ around).0
        ]

    scoped_stands : (controller : List Name → Path) (file : UsedFile) → Among file files →
        file_fault files file ≡ None → (scopes : List Path) → (scopes ≡ []) ⊎ IsOpened (entries file) scopes →
        ScopeStands (index_of files controller) scopes
    scoped_stands controller file m f scopes (inl none) =
        subst (ScopeStands (index_of files controller)) (sym none) tt
    scoped_stands controller file m f scopes (inr o) = subst (ScopeStands (index_of files controller)) (sym o.is)
        (opened_is_module file m f o.opening o.among o.opens o.named)

    -- the innermost scope around what is assigned is a module
    scopes_stand : (controller : List Name → Path) (path : Path) (owner : List ℕ) (x : Expr) (around : List Path) →
        place_of files path ≡ Owned owner (Assigned x around) → ScopeStands (index_of files controller) around
    scopes_stand controller path owner x around h =
        let w = owner_of files path owner (Assigned x around) h in
        let kind = assigned_kind w.file path (kind_in (entries w.file) path) x around w.says.1 in
        let a = value_entry (entries w.file) path x around kind in
        let e = (formed_of w.file w.among).each a.assignment a.among in
        subst (ScopeStands (index_of files controller)) a.around
        (scoped_stands controller w.file w.among w.says.0 a.assignment.scopes e.scoped)

    -- names of parents have a segment
    parents_named : (path : Path) (owner : List ℕ) (opening : Opening) (mention : Mention) →
        place_of files path ≡ Owned owner (Opened opening) → opening.parent ≡ Some mention → MentionNamed mention
    parents_named path owner opening mention h p =
        let w = owner_of files path owner (Opened opening) h in
        let k = opened_kind w.file path (kind_in (entries w.file) path) opening w.says.1 in
        let each = gathered_named parent_what path (entries w.file)
        (λ e m. parent_named e e.what ((formed_of w.file w.among).each e m).named) in
        first_named (gathered parent_what (entries w.file) path) mention each
        (ap (λ (o : Opening). o.parent) k.1 ∙ p)

    -- names of what is included have a segment
    includes_named : (path : Path) (owner : List ℕ) (opening : Opening) →
        place_of files path ≡ Owned owner (Opened opening) → EachIs MentionNamed opening.includes
    includes_named path owner opening h =
        let w = owner_of files path owner (Opened opening) h in
        let k = opened_kind w.file path (kind_in (entries w.file) path) opening w.says.1 in
        subst (λ (o : Opening). EachIs MentionNamed o.includes) k.1
        (gathered_named include_what path (entries w.file)
        (λ e m. include_named e e.what ((formed_of w.file w.among).each e m).named))

-- what files define stands in their index
pub files_are_written : (files : List UsedFile) (controller : List Name → Path) → OneFile files →
    EachIs (λ f. IsRead f.reading) files → IsWritten (index_of files controller)
files_are_written files controller one each =
    let read : ((f : UsedFile) → Among f files → IsRead f.reading) =
    λ f m. each_among (λ (g : UsedFile). IsRead g.reading) files f each m in
    record {
      scopes = λ path owner x around h. scopes_stand files one read controller path owner x around h;
      parent = λ path owner opening mention h p. parents_named files one read path owner opening mention h p;
      includes = λ path owner opening h. includes_named files one read path owner opening h;
      spelled = λ path h. spelled_is_there files path h;
    }

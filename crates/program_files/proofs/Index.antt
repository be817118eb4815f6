-- The tasks of files have in them all that runs over their index may ask for.
use Rattle.std.proofs.Common.{◌≡◌, ◌⊎◌, ℕ, Bool, true, false, not, cond, List, [], ◌∷◌, ◌++◌, map, flat_map}
use Rattle.std.proofs.Common.{filter_map, Option, Some, None, is_some, inl, inr, refl, sym, ap, ◌∙◌, subst, bytes_eq}
use Rattle.ruby_types.specs.declared.request.RubyError.{RubyError}
use Rattle.ruby_types.specs.declared.request.Task.{Task}
use Rattle.ruby_types.specs.declared.request.Task.TheVariants as task
use Rattle.program_places.specs.Paths.{Name, Path, same_path, begins, levels}
use Rattle.std.specs.List.{cons_option}
use Rattle.program_places.specs.Tasks.{HasTasks, EachIs}
use Rattle.program_places.specs.Places.{Place, Missing, Implicit, Owned, Content, Faulty, Opened, Opening, AsksFor}
use Rattle.program_files.specs.Members.{Among}
use Rattle.program_files.specs.Entries.{Entry}
use Rattle.program_files.specs.Files.{UsedFile, entries, file_of, file_at, is_above, has_site}
use Rattle.program_files.specs.Faults.{Kind, a_module, a_class, a_value, kind_of, kind_in, or_kind, or_fault}
use Rattle.program_files.specs.Faults.{undefined_by, unread, is_definition, file_fault}
use Rattle.program_files.specs.Contents.{content_by, content_in, owned_by, own_place, inner_place, or_file, nearest}
use Rattle.program_files.specs.Contents.{around_place, bare_place, place_by, place_of}
use Rattle.program_files.specs.Tasks.{once, without, defined_by, kind_tasks, inner_tasks, tasks_by, file_tasks}
use Rattle.program_files.specs.Tasks.{tasks_of, around_files, loading_by, loading_at, index_of}
use Rattle.program_files.proofs.Lists.{among_filter, found, among_flat}
use Rattle.program_files.proofs.Paths.{path_decides, begins_itself, level_begins, not_above}

-- ---- what a file defines

once_at : (a p : Path) (ps : List Path) (b : Bool) → same_path p a ≡ b → Among a (once ps)
    → (a ≡ p) ⊎ Among a (without p (once ps))
once_at a p ps true e h = inl (sym ((path_decides p a).0 e))
once_at a p ps false e h = inr (among_filter (λ q. not (same_path p q)) a (once ps) h (ap not e))

-- keeping each path once loses none, so that what a file defines has tasks
pub among_once : (a : Path) (ps : List Path) → Among a ps → Among a (once ps)
among_once a [] h = absurd h
among_once a (p ∷ ps) (inl e) = inl e
among_once a (p ∷ ps) (inr h) = once_at a p ps (same_path p a) refl (among_once a ps h)

abbrev defines : Entry → List Path
defines e = cond (is_definition e) (e.constant ∷ []) []

defined_at : (e : Entry) (path : Path) (o : Option Kind) (b : Bool) → kind_of e ≡ o → same_path e.constant path ≡ b
    → (es : List Entry) (k : Kind)
    → (kind_in es path ≡ Some k → Among path (flat_map defines es)) → cond b (or_kind o (kind_in es path))
    (kind_in es path) ≡ Some k → Among path (cond (is_some o) (e.constant ∷ []) [] ++ flat_map defines es)
defined_at e path None true q s es k ih h = ih h
defined_at e path (Some kind) true q s es k ih h = inl (sym ((path_decides e.constant path).0 s))
defined_at e path None false q s es k ih h = ih h
defined_at e path (Some kind) false q s es k ih h = inr (ih h)

-- what the entries give a kind is among what they define
pub kind_defined : (es : List Entry) (path : Path) (k : Kind) → kind_in es path ≡ Some k
    → Among path (flat_map defines es)
kind_defined [] path k h = absurd cc
kind_defined (e ∷ es) path k h = defined_at e path (kind_of e) (same_path e.constant path) refl refl es k
    (kind_defined es path k) h

-- ---- its tasks

-- a constant inside the file's own that the file defines has its tasks among the file's inner ones
pub inner_task : (file : UsedFile) (path : Path) (k : Kind) (t : Task) → kind_in (entries file) path ≡ Some k
    → begins file.constant path ≡ true → Among t (kind_tasks path (Some k)) → Among t (inner_tasks file)
inner_task file path k t e b h =
    let d = among_once path (flat_map defines (entries file)) (kind_defined (entries file) path k e) in
    let f = among_filter (λ p. not (is_above p file.constant)) path (defined_by file) d
    (not_above path file.constant b) in
    among_flat (λ p. kind_tasks p (kind_in (entries file) p)) path t _ f (subst (λ o. Among t (kind_tasks path o))
    (sym e) h)

module _ (files : List UsedFile) where
  -- a task of one of the files is a task of the files
  pub file_task : (file : UsedFile) (t : Task) → Among file files → Among t (file_tasks files file)
      → Among t (tasks_of files)
  file_task file t h k = among_flat (file_tasks files) file t files h k

  -- a file that isn't at fault
  inner_of : (file : UsedFile) (path : Path) (k : Kind) (t : Task) → Among file files → file_fault files file ≡ None
      → kind_in (entries file) path ≡ Some k → begins file.constant path ≡ true → Among t (kind_tasks path (Some k))
      → Among t (tasks_of files)
  inner_of file path k t m f e b h = file_task file t m (subst (λ o. Among t (tasks_by file o)) (sym f)
      (inr (inner_task file path k t e b h)))

  itself_at : (file : UsedFile) (o : Option RubyError) → Among (task.File file.path) (tasks_by file o)
  itself_at file None = inl refl
  itself_at file (Some error) = inl refl

  itself : (file : UsedFile) → Among file files → Among (task.File file.path) (tasks_of files)
  itself file m = file_task file (task.File file.path) m (itself_at file (file_fault files file))

  -- what a file that owns a place has as tasks
  pub record Has (path : Path) (owner : List ℕ) (content : Content) : Type 0 where
    pub file : Among (task.File owner) (tasks_of files)
    pub const : Among (task.Const path) (tasks_of files)
    pub opened : (opening : Opening) → content ≡ Opened opening → Among (task.Ancestors path) (tasks_of files)
    pub faulty : (error : RubyError) → content ≡ Faulty error → Among (task.Ancestors path) (tasks_of files)

  -- what is owed at a place: its owner's tasks where a file owns it, and else nothing
  abbrev pub HasAt : Path → Place → Type 0
  HasAt path Missing = Unit {0}
  HasAt path Implicit = Unit {0}
  HasAt path (Owned owner content) = Has path owner content

  has_kind : (file : UsedFile) (path : Path) (k : Kind) (content : Content) → Among file files → file_fault files file
      ≡ None → kind_in (entries file) path ≡ Some k → begins file.constant path ≡ true → content_by file path (Some k)
      ≡ Some content → Has path file.path content
  has_kind file path a_module content m f e b h = record {
    file = itself file m;
    const = inner_of file path a_module (task.Const path) m f e b (inl refl);
    opened = λ opening is. inner_of file path a_module (task.Ancestors path) m f e b (inr (inl refl));
    faulty = λ error is. absurd cc;
  }
  has_kind file path a_class content m f e b h = record {
    file = itself file m;
    const = inner_of file path a_class (task.Const path) m f e b (inl refl);
    opened = λ opening is. inner_of file path a_class (task.Ancestors path) m f e b (inr (inl refl));
    faulty = λ error is. absurd cc;
  }
  has_kind file path (a_value x scopes) content m f e b h = record {
    file = itself file m;
    const = inner_of file path (a_value x scopes) (task.Const path) m f e b (inl refl);
    opened = λ opening is. absurd cc;
    faulty = λ error is. absurd cc;
  }

  has_content : (file : UsedFile) (path : Path) (o : Option Kind) (c : Option Content) → Among file files
      → file_fault files file ≡ None → kind_in (entries file) path ≡ o → begins file.constant path ≡ true
      → content_by file path o ≡ c → HasAt path (owned_by file c)
  has_content file path o None m f e b h = tt
  has_content file path None (Some content) m f e b h = absurd cc
  has_content file path (Some k) (Some content) m f e b h = has_kind file path k content m f e b h

  has_inner : (file : UsedFile) (path : Path) (o : Option RubyError) → Among file files → file_fault files file ≡ o
      → begins file.constant path ≡ true → HasAt path (inner_place file path o)
  has_inner file path (Some error) m f b = tt
  has_inner file path None m f b = has_content file path (kind_in (entries file) path) (content_in file path) m f refl
      b refl

  faulty_task : (file : UsedFile) (error : RubyError) (t : Task) → Among file files → file_fault files file
      ≡ Some error → Among t (tasks_by file (Some error)) → Among t (tasks_of files)
  faulty_task file error t m f h = file_task file t m (subst (λ o. Among t (tasks_by file o)) (sym f) h)

  has_own : (file : UsedFile) (o : Option RubyError) → Among file files → file_fault files file ≡ o
      → HasAt file.constant (own_place file file.constant o)
  has_own file (Some error) m f = record {
    file = itself file m;
    const = faulty_task file error (task.Const file.constant) m f (inr (inl refl));
    opened = λ opening is. faulty_task file error (task.Ancestors file.constant) m f (inr (inr (inl refl)));
    faulty = λ e is. faulty_task file error (task.Ancestors file.constant) m f (inr (inr (inl refl)));
  }
  has_own file None m f = has_content file file.constant (kind_in (entries file) file.constant)
      (content_in file file.constant) m f refl (begins_itself file.constant) refl

  -- the file of a path is one of the files, and its constant is the path
  pub file_found : (path : Path) (file : UsedFile) → file_of files path ≡ Some file → Among file files
      × (file.constant ≡ path)
  file_found path file h = let f = found (λ g. same_path g.constant path) file files h in
      (f.0, (path_decides file.constant path).0 f.1)

  or_file_cases : (path : Path) (ps : List Path) (file : UsedFile) (o : Option UsedFile) → nearest files ps ≡ o
      → (nearest files ps ≡ Some file → Among file files × Among file.constant ps) → or_file o (file_of files path)
      ≡ Some file
      → Among file files × ((file.constant ≡ path) ⊎ Among file.constant ps)
  or_file_cases path ps file None e ih h = let f = file_found path file h in (f.0, inl f.1)
  or_file_cases path ps file (Some g) e ih h = let i = ih (e ∙ h) in (i.0, inr i.1)

  nearest_found : (ps : List Path) (file : UsedFile) → nearest files ps ≡ Some file → Among file files
      × Among file.constant ps
  nearest_found [] file h = absurd cc
  nearest_found (path ∷ ps) file h = or_file_cases path ps file (nearest files ps) refl (nearest_found ps file) h

  has_around : (path : Path) (o : Option UsedFile) → nearest files (levels path) ≡ o
      → HasAt path (around_place files path o)
  has_around path None h = tt
  has_around path (Some file) h = let n = nearest_found (levels path) file h in
      has_inner file path (file_fault files file) n.0 refl (level_begins file.constant path n.1)

  has_bare : (path : Path) (site : Bool) → HasAt path (bare_place files path site)
  has_bare path true = tt
  has_bare path false = has_around path (nearest files (levels path)) refl

  has_by : (path : Path) (o : Option UsedFile) → file_of files path ≡ o → HasAt path (place_by files path o)
  has_by path None h = has_bare path (has_site files path)
  has_by path (Some file) h = let f = file_found path file h in
      subst (λ p. HasAt p (own_place file p (file_fault files file))) f.1 (has_own file (file_fault files file) f.0
      refl)

  has_place : (path : Path) → HasAt path (place_of files path)
  has_place path = has_by path (file_of files path) refl

  -- Where a file owns a path, its tasks are there.
  pub owned_tasks : (path : Path) (owner : List ℕ) (content : Content) → place_of files path ≡ Owned owner content
      → Has path owner content
  owned_tasks path owner content h = subst (HasAt path) h (has_place path)

  -- ---- what a file asks for

  -- a file has its constant's task
  none_left : (a b : Option RubyError) → or_fault a b ≡ None → (a ≡ None) × (b ≡ None)
  none_left None b h = (refl, h)
  none_left (Some error) b h = absurd cc

  kind_there : (file : UsedFile) (o : Option Kind) → undefined_by file o ≡ None → (k : Kind) × (o ≡ Some k)
  kind_there file None h = absurd cc
  kind_there file (Some k) h = (k, refl)

  const_of : (file : UsedFile) (k : Kind) → Among (task.Const file.constant) (kind_tasks file.constant (Some k))
  const_of file a_module = inl refl
  const_of file a_class = inl refl
  const_of file (a_value x scopes) = inl refl

  constant_at : (file : UsedFile) (o : Option RubyError) → Among file files → file_fault files file ≡ o
      → Among (task.Const file.constant) (tasks_of files)
  constant_at file (Some error) m f = faulty_task file error (task.Const file.constant) m f (inr (inl refl))
  constant_at file None m f =
      let p = none_left (unread file file.reading) _ f in
      let q = none_left (undefined_by file (kind_in (entries file) file.constant)) _ p.1 in
      let k = kind_there file (kind_in (entries file) file.constant) q.0 in
      inner_of file file.constant k.0 (task.Const file.constant) m f k.1 (begins_itself file.constant)
      (const_of file k.0)

  -- each file's own constant is a task, at fault or not, so that files inside it may ask for it
  pub constant_task : (file : UsedFile) → Among file files → Among (task.Const file.constant) (tasks_of files)
  constant_task file m = constant_at file (file_fault files file) m refl

  each_map : (gs : List UsedFile) → EachIs (λ g. Among g files) gs
      → EachIs (λ t. Among t (tasks_of files)) (map (λ (f : UsedFile). task.Const f.constant) gs)
  each_map [] h = tt
  each_map (g ∷ gs) h = (constant_task g h.0, each_map gs h.1)

  each_append : (P : Task → Type 0) (ts us : List Task) → EachIs P ts → EachIs P us → EachIs P (ts ++ us)
  each_append P [] us h k = k
  each_append P (t ∷ ts) us h k = (h.0, each_append P ts us h.1 k)

  -- the files around a file are files
  around_at : (file : UsedFile) (p : Path) (b : Bool) (o : Option UsedFile) → file_of files p ≡ o
      → (rest : List UsedFile) → EachIs (λ g. Among g files) rest
      → EachIs (λ g. Among g files) (cons_option (cond b o None) rest)
  around_at file p false o e rest h = h
  around_at file p true None e rest h = h
  around_at file p true (Some g) e rest h = ((file_found p g e).0, h)

  around_in : (file : UsedFile) (ps : List Path)
      → EachIs (λ g. Among g files) (filter_map (λ p. cond (is_above p file.constant) (file_of files p) None) ps)
  around_in file [] = tt
  around_in file (p ∷ ps) = around_at file p (is_above p file.constant) (file_of files p) refl _ (around_in file ps)

  -- each of a list that stands in another list stands there
  each_in : (ts us : List Task) → ((t : Task) → Among t ts → Among t us) → EachIs (λ t. Among t us) ts
  each_in [] us h = tt
  each_in (t ∷ ts) us h = (h t (inl refl), each_in ts us (λ x k. h x (inr k)))

  loading_tasks : (file : UsedFile) (o : Option RubyError) (tasks : List Task) → Among file files
      → file_fault files file ≡ o → loading_by files file o ≡ AsksFor tasks
      → EachIs (λ t. Among t (tasks_of files)) tasks
  loading_tasks file (Some error) tasks m f h = absurd cc
  loading_tasks file None tasks m f h =
      let same : map (λ (g : UsedFile). task.Const g.constant) (around_files files file) ++ inner_tasks file ≡ tasks =
      cc in
      subst (EachIs (λ t. Among t (tasks_of files))) same
      (each_append (λ t. Among t (tasks_of files)) (map (λ (g : UsedFile). task.Const g.constant)
      (around_files files file)) (inner_tasks file) (each_map (around_files files file)
      (around_in file (levels file.constant)))
      (each_in (inner_tasks file) (tasks_of files) (λ t k. file_task file t m (subst (λ o. Among t (tasks_by file o))
      (sym f) (inr k)))))

  loading_found : (path : List ℕ) (o : Option UsedFile) (tasks : List Task) → file_at files path ≡ o
      → loading_at files o ≡ AsksFor tasks → EachIs (λ t. Among t (tasks_of files)) tasks
  loading_found path None tasks e h = absurd cc
  loading_found path (Some file) tasks e h = loading_tasks file (file_fault files file) tasks
      (found (λ f. bytes_eq f.path path) file files e).0 refl h

  -- All that runs over the index may ask for are tasks of the files.
  pub has_tasks : (controller : List Name → Path) → HasTasks (index_of files controller) (λ t. Among t (tasks_of files))
  has_tasks controller = record {
    file = λ path owner content h. (owned_tasks path owner content h).file;
    const = λ path owner content h. (owned_tasks path owner content h).const;
    faulty = λ path owner error h. (owned_tasks path owner (Faulty error) h).faulty error refl;
    opened = λ path owner opening h. (owned_tasks path owner (Opened opening) h).opened opening refl;
    asks = λ path tasks h. loading_found path (file_at files path) tasks refl h;
  }

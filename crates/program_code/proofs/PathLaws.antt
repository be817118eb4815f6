-- The constants of a file's tasks: distinct, and each defined by its entries.
use Rattle.std.proofs.Common.{◌≡◌, ◌≢◌, Bool, true, false, not, ◌||◌, cond, List, [], ◌∷◌, ◌++◌, filter, All}
use Rattle.std.proofs.Common.{Option, Some, None, is_some, refl, sym, ap, ◌∙◌, subst, arith}
use Rattle.std.specs.List.{flat_map, list_any}
use Rattle.std.proofs.lemmas.Bool.{false≢true, or_parts}
use Rattle.std.proofs.lemmas.Grind.{flat_map-append}
use Rattle.std.proofs.lemmas.List.Elements.{All-cons}
use Rattle.std.proofs.lemmas.Option.{none-some}
use Rattle.ruby_types.specs.declared.request.RubyError.{RubyError}
use Rattle.ruby_types.specs.declared.request.Task.{Task}
use Rattle.program_places.specs.Paths.{Path, same_path}
use Rattle.program_places.specs.Places.{Faulty}
use Rattle.program_files.specs.Entries.{Entry}
use Rattle.program_files.specs.Files.{UsedFile, entries, is_above}
use Rattle.program_files.specs.Faults.{Kind, a_module, a_class, a_value, kind_in, file_fault}
use Rattle.program_files.specs.Tasks.{without, once, defined_by, kind_tasks, inner_tasks, tasks_by, file_tasks}
use Rattle.ruby_nodes.specs.Entries.{Entry as NodeEntry}
use Rattle.program_tables.specs.Said.{Says}
use Rattle.program_code.specs.declared.content.ContentCode.{ContentCode}
use Rattle.program_code.specs.Codes.{task_path, task_paths, AreContentsBy}
use Rattle.program_code.specs.Codes.{AreSaidOf, AddsContents, AddsSaid}
use Rattle.program_code.specs.Codes.{faulty_codes}
use Rattle.program_code.specs.Groups.{group, groups, AreDistinct, first_kind, file_named}
use Rattle.program_code.proofs.GroupLaws.{kind_told, content_told}

-- ---- which they are

kind_paths : (p : Path) (o : Option Kind) → task_paths (kind_tasks p o) ≡ cond (is_some o) (p ∷ []) []
kind_paths p None = refl
kind_paths p (Some a_module) = refl
kind_paths p (Some a_class) = refl
kind_paths p (Some (a_value value scopes)) = refl

abbrev has_kind : List Entry → Path → Bool
has_kind es p = is_some (kind_in es p)

all_paths : (es : List Entry) (ps : List Path) →
    task_paths (flat_map (λ p. kind_tasks p (kind_in es p)) ps) ≡ filter (has_kind es) ps
all_paths es [] = refl
all_paths es (p ∷ ps) =
    flat_map-append task_path (kind_tasks p (kind_in es p)) (flat_map (λ q. kind_tasks q (kind_in es q)) ps)
    ∙ ap (λ xs. xs ++ task_paths (flat_map (λ q. kind_tasks q (kind_in es q)) ps)) (kind_paths p (kind_in es p))
    ∙ ap (λ xs. cond (has_kind es p) (p ∷ []) [] ++ xs) (all_paths es ps)
    ∙ at (has_kind es p) where
      at : (b : Bool) → cond b (p ∷ []) [] ++ filter (has_kind es) ps
          ≡ cond b (p ∷ filter (has_kind es) ps) (filter (has_kind es) ps)
      at true = refl
      at false = refl

-- the constants of a file's own tasks
abbrev own_paths : UsedFile → List Path
own_paths file = filter (λ p. not (is_above p file.constant)) (defined_by file)

inner_paths : (file : UsedFile) → task_paths (inner_tasks file) ≡ filter (has_kind (entries file)) (own_paths file)
inner_paths file = all_paths (entries file) (own_paths file)

-- ---- they are distinct

any_left : (test keep : Path → Bool) (ps : List Path) → list_any test ps ≡ false →
    list_any test (filter keep ps) ≡ false
any_left test keep [] h = refl
any_left test keep (p ∷ ps) h =
    let parts = or_parts (test p) (list_any test ps) h in at (keep p) parts.0 (any_left test keep ps parts.1) where
      at : (b : Bool) → test p ≡ false → list_any test (filter keep ps) ≡ false →
          list_any test (cond b (p ∷ filter keep ps) (filter keep ps)) ≡ false
      at true e ih = ap (λ b. b || list_any test (filter keep ps)) e ∙ ih
      at false e ih = ih

distinct_kept : (keep : Path → Bool) (ps : List Path) → AreDistinct ps → AreDistinct (filter keep ps)
distinct_kept keep [] h = tt
distinct_kept keep (p ∷ ps) h = at (keep p) (distinct_kept keep ps h.1) where
  at : (b : Bool) → AreDistinct (filter keep ps) → AreDistinct (cond b (p ∷ filter keep ps) (filter keep ps))
  at true ih = (any_left (same_path p) keep ps h.0, ih)
  at false ih = ih

none_same : (p : Path) (ps : List Path) → list_any (same_path p) (without p ps) ≡ false
none_same p [] = refl
none_same p (q ∷ ps) = at (same_path p q) refl (none_same p ps) where
  at : (b : Bool) → same_path p q ≡ b → list_any (same_path p) (without p ps) ≡ false →
      list_any (same_path p) (cond (not b) (q ∷ without p ps) (without p ps)) ≡ false
  at true e ih = ih
  at false e ih = ap (λ b. b || list_any (same_path p) (without p ps)) e ∙ ih

distinct_once : (ps : List Path) → AreDistinct (once ps)
distinct_once [] = tt
distinct_once (p ∷ ps) =
    (none_same p (once ps), distinct_kept (λ q. not (same_path p q)) (once ps) (distinct_once ps))

inner_distinct : (file : UsedFile) → AreDistinct (task_paths (inner_tasks file))
inner_distinct file = subst AreDistinct (sym (inner_paths file))
    (distinct_kept (has_kind (entries file)) (own_paths file)
    (distinct_kept (λ p. not (is_above p file.constant)) (defined_by file) (distinct_once _)))

-- ---- each is defined

kind_there : (o : Option Kind) → is_some o ≡ true → o ≢ None
kind_there None h = absurd (false≢true h)
kind_there (Some kind) h = λ e. none-some kind (sym e)

each_defined : (es : List Entry) (ps : List Path) →
    All (λ g. first_kind g ≢ None) (groups es (filter (has_kind es) ps))
each_defined es [] = λ k d lt. absurd (omega (arith, lt))
each_defined es (p ∷ ps) = at (has_kind es p) refl (each_defined es ps) where
  at : (b : Bool) → has_kind es p ≡ b → All (λ g. first_kind g ≢ None) (groups es (filter (has_kind es) ps)) →
      All (λ g. first_kind g ≢ None) (groups es (cond b (p ∷ filter (has_kind es) ps) (filter (has_kind es) ps)))
  at false e ih = ih
  at true e ih = All-cons (λ g. first_kind g ≢ None) (group es p) (groups es (filter (has_kind es) ps))
      (subst (λ o. o ≢ None) (kind_told es p) (kind_there (kind_in es p) e)) ih

inner_defined : (file : UsedFile) →
    All (λ g. first_kind g ≢ None) (groups (entries file) (task_paths (inner_tasks file)))
inner_defined file =
    subst (λ ps. All (λ g. first_kind g ≢ None) (groups (entries file) ps)) (sym (inner_paths file))
    (each_defined (entries file) (own_paths file))

module _ (all : List UsedFile) (file : UsedFile) (tasks : List Task) (is : tasks ≡ file_tasks all file) where
  by_fault : (o : Option RubyError) → file_fault all file ≡ o → tasks ≡ tasks_by file o
  by_fault o e = is ∙ ap (tasks_by file) e

  own_tasks : file_fault all file ≡ None → task_paths tasks ≡ task_paths (inner_tasks file)
  own_tasks e = ap task_paths (by_fault None e)

  -- the constants of the tasks of a file without fault are distinct
  pub tasks_distinct : file_fault all file ≡ None → AreDistinct (task_paths tasks)
  tasks_distinct e = subst AreDistinct (sym (own_tasks e)) (inner_distinct file)

  -- and each is defined by the file's entries
  pub tasks_defined : file_fault all file ≡ None →
      All (λ g. first_kind g ≢ None) (groups (entries file) (task_paths tasks))
  tasks_defined e = subst (λ ps. All (λ g. first_kind g ≢ None) (groups (entries file) ps)) (sym (own_tasks e))
      (inner_defined file)

  said_by : (known : List NodeEntry) (ps : List Path) (codes : List ContentCode) → file_fault all file ≡ None →
      AreContentsBy known (file_named file.path) (groups (entries file) ps) codes → AreSaidOf all known file ps codes
  said_by known [] [] e h = tt
  said_by known [] (c ∷ codes) e h = absurd h
  said_by known (p ∷ ps) [] e h = absurd h
  said_by known (p ∷ ps) (c ∷ codes) e h =
      ((h.0.0, subst (Says file p h.0.0) (sym e) (content_told file p ∙ h.0.1), h.0.2), said_by known ps codes e h.1)

  -- what its entries say of them is what the file says
  pub entries_say : (known : List NodeEntry) (old new : List ContentCode) → file_fault all file ≡ None →
      AddsContents known (file_named file.path) old new (groups (entries file) (task_paths tasks)) →
      AddsSaid all known file old new (task_paths tasks)
  entries_say known old new e h =
      record { added = h.added; is = h.is; code = said_by known (task_paths tasks) h.added e h.code }

  -- a file at fault says its fault of its constant
  pub fault_says : (known : List NodeEntry) (old new : List ContentCode) (error : RubyError) →
      file_fault all file ≡ Some error → new ≡ old ++ faulty_codes (task_paths tasks) →
      AddsSaid all known file old new (task_paths tasks)
  fault_says known old new error e n =
      let paths : task_paths tasks ≡ file.constant ∷ [] = ap task_paths (by_fault (Some error) e) in
      subst (AddsSaid all known file old new) (sym paths) (record {
        added = faulty_codes (file.constant ∷ []);
        is = n ∙ ap (λ ps. old ++ faulty_codes ps) paths;
        code = ((Faulty error, subst (Says file file.constant (Faulty error)) (sym e) (refl, refl), tt), tt);
      })

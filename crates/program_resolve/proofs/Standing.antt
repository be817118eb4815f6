-- What stands at a path, by the tasks of the files.
use Rattle.std.proofs.Common.{◌≡◌, Bool, true, false, List, [], Option, Some, None, refl, sym, ap, ◌∙◌, subst, ℕ}
use Rattle.ruby_types.specs.declared.request.RubyError.{RubyError}
use Rattle.ruby_types.specs.declared.request.Task.TheVariants as task
use Rattle.program_places.specs.Paths.{Path, levels}
use Rattle.program_places.specs.Places.{Place, Missing, Implicit, Owned, Content}
use Rattle.program_files.specs.Files.{UsedFile, file_of, has_site}
use Rattle.program_files.specs.Faults.{file_fault}
use Rattle.program_files.specs.Contents.{content_in, owned_by, inner_place, nearest, around_place, bare_place, place_by}
use Rattle.program_files.specs.Contents.{place_of}
use Rattle.program_files.specs.Members.{Among}
use Rattle.program_files.specs.Owners.{OneFile}
use Rattle.program_files.specs.Tasks.{file_tasks, tasks_of}
use Rattle.program_files.proofs.Index.{has_tasks, file_found, constant_task}
use Rattle.program_files.proofs.Owners.{flat_from, const_at}
use Rattle.program_resolve.specs.Resolve.{namespace_or_nothing}

-- a file owns each constant that is one of its tasks
pub task_owned : (fs : List UsedFile) → OneFile fs → (file : UsedFile) (path : Path) → Among file fs →
    Among (task.Const path) (file_tasks fs file) → (content : Content) × (place_of fs path ≡ Owned file.path content)
task_owned fs one file path m h = const_at fs one file (file_fault fs file) path m refl h

module _ (fs : List UsedFile) (path : Path)
    (none : (file : UsedFile) → Among file fs → Among (task.Const path) (file_tasks fs file) → ⊥) where
  no_task : Among (task.Const path) (tasks_of fs) → ⊥
  no_task h = let i = flat_from (file_tasks fs) (task.Const path) fs h in none i.0 i.1 i.2

  not_owned : (owner : List ℕ) (content : Content) → place_of fs path ≡ Owned owner content → ⊥
  not_owned owner content e = no_task ((has_tasks fs (λ names. [])).const path owner content e)

  no_file : (o : Option UsedFile) → file_of fs path ≡ o → o ≡ None
  no_file None e = refl
  no_file (Some f) e =
      let at = file_found fs path f e in
      absurd (no_task (subst (λ p. Among (task.Const p) (tasks_of fs)) at.1 (constant_task fs f at.0)))

  -- no file stands there
  abbrev NotOwned : Place → Type 0
  NotOwned p = (owner : List ℕ) (content : Content) → p ≡ Owned owner content → ⊥

  nothing_said : (file : UsedFile) (o : Option Content) → NotOwned (owned_by file o) → owned_by file o ≡ Missing
  nothing_said file None h = refl
  nothing_said file (Some content) h = absurd (h file.path content refl)

  nothing_inside : (file : UsedFile) (o : Option RubyError) → NotOwned (inner_place file path o) →
      inner_place file path o ≡ Missing
  nothing_inside file (Some error) h = refl
  nothing_inside file None h = nothing_said file (content_in file path) h

  nothing_around : (o : Option UsedFile) → NotOwned (around_place fs path o) → around_place fs path o ≡ Missing
  nothing_around None h = refl
  nothing_around (Some file) h = nothing_inside file (file_fault fs file) h

  bare_stands : (site : Bool) → NotOwned (bare_place fs path site) → bare_place fs path site ≡ namespace_or_nothing site
  bare_stands true h = refl
  bare_stands false h = nothing_around (nearest fs (levels path)) h

  -- what no file has as a task is a namespace or nothing
  pub no_owner_stands : place_of fs path ≡ namespace_or_nothing (has_site fs path)
  no_owner_stands =
      let bare : place_of fs path ≡ bare_place fs path (has_site fs path) =
      ap (place_by fs path) (no_file (file_of fs path) refl) in
      bare ∙ bare_stands (has_site fs path) (λ owner content e. not_owned owner content (bare ∙ e))

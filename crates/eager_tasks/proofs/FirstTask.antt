-- The first task of a file that is used loads it.
use Rattle.std.proofs.Common.{◌≡◌, ℕ, zero, suc, ◌<◌, List, [], ◌∷◌, Option, Some, None, slice_get, length}
use Rattle.std.proofs.Common.{refl, sym, ap, ◌∙◌, subst, get_or}
use Rattle.std.proofs.lemmas.Option.{none-some, same_Some, slice_get_within, slice_get-get_or}
use Rattle.eager_plan.specs.Plan.{IsUsed}
use Rattle.eager_tasks.specs.Loads.{file_task}
use Rattle.program_files.specs.Files.{UsedFile}
use Rattle.program_files.specs.Faults.{file_fault}
use Rattle.program_files.specs.Tasks.{tasks_by, inner_tasks}
use Rattle.program_index.specs.Content.{Content, used_files}
use Rattle.program_index.specs.Program.{IsProgram, tasks_of}
use Rattle.program_index.proofs.FileLaws.{used_row}
use Rattle.program_outcomes.specs.Outcomes as outcomes
use Rattle.program_outcomes.specs.Outcomes.{flat}
use Rattle.program_places.specs.Paths.{Path}
use Rattle.program_used.specs.Constants.{IsConstantOf}
use Rattle.program_used.specs.Rows.{AreUsed}
use Rattle.program_used.specs.Texts.{reading_in}
use Rattle.program_used.specs.declared.used.UsedText.{UsedText}
use Rattle.ruby_types.specs.declared.request.RubyError.{RubyError}
use Rattle.ruby_types.specs.declared.request.Task.{Task}
use Rattle.ruby_types.specs.declared.request.Task.TheVariants as task
use Rattle.tree_scan.specs.Sites.{path_in}
use Rattle.tree_scan.specs.Spells.{Spells}

-- what a task's list begins with
abbrev Begins : List Task → Task → Type 0
Begins tasks first = (behind : List Task) × (tasks ≡ first ∷ behind)

first_by : (file : UsedFile) (o : Option RubyError) → Begins (tasks_by file o) (task.File file.path)
first_by file (Some error) = (task.Const file.constant ∷ task.Ancestors file.constant ∷ [], refl)
first_by file None = (inner_tasks file, refl)

-- a file that has a constant has a text
text_there : (cs : List (Option Path)) (rs : List (Option UsedText)) (n : ℕ) → AreUsed cs rs →
    (c : Path) → slice_get cs n ≡ Some (Some c) → (used : UsedText) × (slice_get rs n ≡ Some (Some used))
text_there [] rs n h c e = absurd (none-some (Some c) e)
text_there (x ∷ cs) [] n h c e = absurd h
text_there (None ∷ cs) (r ∷ rs) zero h c e = absurd (none-some c (same_Some None (Some c) e))
text_there (Some d ∷ cs) (None ∷ rs) zero h c e = absurd h.0
text_there (Some d ∷ cs) (Some used ∷ rs) zero h c e = (used, refl)
text_there (x ∷ cs) (r ∷ rs) (suc n) h c e = text_there cs rs n h.1 c e

module _ (p : Content) (is : IsProgram p.files p) (n : ℕ) (used : IsUsed p.sites.spelled n) where
  spells : Spells is.sited.roots p.config p.files used.0 used.2.0 n
  spells = (is.sited.spelled used.0 used.2.0 n).0 used.2.1

  constant_by : (o : Option Path) → IsConstantOf p.sites.spelled n o → (c : Path) × (o ≡ Some c)
  constant_by None none = absurd (none used.0 used.1 used.2)
  constant_by (Some c) h = (c, refl)

  within : n < length is.constants
  within = subst (λ k. n < k) (sym is.are_constants.size) (slice_get_within p.files n spells.entry spells.stands)

  -- the first task of a file that is used loads it
  pub first_task : Begins (tasks_of p n) (file_task p.files n)
  first_task =
      let o : Option Path = get_or is.constants n None in
      let at : slice_get is.constants n ≡ Some o = slice_get-get_or is.constants n None within in
      let c = constant_by o (is.are_constants.each n o at) in
      let text = text_there is.constants p.texts n is.are_used c.0 (at ∙ ap (λ x. Some x) c.1) in
      let row = used_row p.files p.texts n spells.entry text.0 spells.stands text.1 in
      let file : UsedFile = record {
        path = spells.entry.path;
        constant = text.0.constant;
        reading = reading_in text.0.text;
      } in
      let first = first_by file (file_fault (used_files p) file) in (
        first.0,
        ap (λ x. outcomes.tasks_by (used_files p) (flat x)) row ∙ first.1
            ∙ ap (λ x. task.File (path_in x) ∷ first.0) (sym spells.stands),
      )

use Rattle.std.proofs.Common.{◌≡◌, ◌∙◌, ap, subst, slice_get}
use Rattle.program_outcomes.specs.Outcomes.{flat, tasks_in}
use Rattle.program_outcomes.proofs.OutcomeLaws.{outcome_told, tasks_told}
use Rattle.program_index.specs.Content.{Content, files_of, used_files, used_file}
use Rattle.program_index.specs.Program.{tasks_of}
use Rattle.program_index.specs.Tables.{content_of}
use Rattle.program_index.proofs.program.Program.tasks_of_file.Goals as goal

pub returns : goal.returns
returns c =
    let p = c.self.inside in
    let content = content_of p.snapshot.files p.config p.sites p.texts.items p.tables.nodes in
    let outcomes = p.tables.outcomes.items in
    let outcome = c.outcome_at.ensures
    ∙ ap (λ os. flat (slice_get os c.args.file)) c.as_slice.ensures.value in
    let told = outcome_told (used_files content) (files_of content) outcomes c.args.file
    c.self.invariant.1.outcomes in
    subst (λ (q : Content). c.tasks_in.result.now ≡ tasks_of q c.args.file) c.self.view_is
    (c.tasks_in.ensures ∙ ap (λ o. tasks_in o p.tables.none) outcome
    ∙ ap (tasks_in (flat (slice_get outcomes c.args.file))) c.self.invariant.1.none
    ∙ tasks_told (used_files content) (used_file content c.args.file) (flat (slice_get outcomes c.args.file)) told)

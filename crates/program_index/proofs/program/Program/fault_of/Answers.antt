use Rattle.std.proofs.Common.{◌≡◌, ◌∙◌, ap, subst, slice_get}
use Rattle.std.specs.Option.{option_map}
use Rattle.program_outcomes.specs.Outcomes.{flat, fault_in}
use Rattle.program_outcomes.proofs.OutcomeLaws.{outcome_told, fault_told}
use Rattle.program_index.specs.Content.{Content, files_of, used_files, used_file}
use Rattle.program_index.specs.Program.{fault_of}
use Rattle.program_index.specs.Tables.{content_of}
use Rattle.program_index.proofs.program.Program.fault_of.Goals as goal

pub returns : goal.returns
returns c =
    let p = c.self.inside in
    let content = content_of p.snapshot.files p.config p.sites p.texts.items p.tables.nodes in
    let outcomes = p.tables.outcomes.items in
    let outcome = c.outcome_at.ensures
    ∙ ap (λ os. flat (slice_get os c.args.file)) c.as_slice.ensures.value in
    let told = outcome_told (used_files content) (files_of content) outcomes c.args.file
    c.self.invariant.1.outcomes in
    subst (λ (q : Content). option_map (λ fault. fault.now) c.fault_in.result ≡ fault_of q c.args.file) c.self.view_is
    (c.fault_in.ensures ∙ ap fault_in outcome
    ∙ fault_told (used_files content) (used_file content c.args.file) (flat (slice_get outcomes c.args.file)) told)

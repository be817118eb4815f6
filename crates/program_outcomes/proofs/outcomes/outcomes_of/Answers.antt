use Rattle.std.proofs.Common.{◌≡◌, ◌∙◌, List, Option, map, ap, subst}
use Rattle.std.specs.Prelude.{IfOk}
use Rattle.std.specs.Option.{option_map}
use Rattle.program_files.specs.Files.{UsedFile}
use Rattle.program_faults.specs.Read.{used, used_all}
use Rattle.program_used.specs.Rows.{all_used}
use Rattle.program_outcomes.specs.Outcomes.{listed, HaveOutcomes}
use Rattle.program_outcomes.proofs.OutcomeLaws.{used_listed}
use Rattle.program_outcomes.proofs.outcomes.outcomes_of.Goals as goal

pub returns : goal.returns
returns c =
    let files = c.args.files.now in
    let texts = c.args.texts.now in
    let all : used_all c.in_ok-used.used.files.now ≡ listed (all_used files texts) =
    c.in_ok-used.ensures ∙ ap used_all c.as_slice.ensures.value ∙ used_listed c.in_ok-reads.reads.items
    ∙ ap listed c.in_ok-reads.ensures in
    let each : map (option_map used) c.as_slice-2.result.now ≡ all_used files texts =
    ap (map (option_map used)) c.as_slice-2.ensures.value ∙ c.in_ok-reads.ensures in
    subst (λ (us : List UsedFile). IfOk c.outcomes_among.result
    (λ outcomes. HaveOutcomes us (all_used files texts) outcomes.items)) all
    (subst (λ (us : List (Option UsedFile)). IfOk c.outcomes_among.result
    (λ outcomes. HaveOutcomes (used_all c.in_ok-used.used.files.now) us outcomes.items)) each c.outcomes_among.ensures)

use Rattle.std.proofs.Common.{◌≡◌, List, [], ◌∷◌, ◌++◌, ℕ, Some, ap, sym, subst, ◌∙◌}
use Rattle.std.proofs.lemmas.Bool.Decides.{Decides-eqb}
use Rattle.std.proofs.lemmas.Slice.Eq.{strip_suffix_is}
use Rattle.tree_scan_names.specs.Below.{SpellsBelow, ruby_ending}
use Rattle.tree_scan_names.proofs.WithinLaws.{way_step, EndsInRb-behind}
use Rattle.tree_scan_names.proofs.SpellLaws.{spells-step, spells-file}
use Rattle.tree_scan_names.proofs.spelling.spelled_names.Goals as goal

pub returns-in_default : goal.returns-in_default
returns-in_default c =
    let step = c.step_below-step in
    let whole = rw c.in_default.is at step.ensures.parts in
    let base = c.in-Some-strip_suffix.base in
    let name : List ℕ = c.in_ok-camelize_by.field-0 in
    let cut : step.result.name.now ≡ base.now ++ ruby_ending
    = strip_suffix_is Decides-eqb step.result.name.now c.as_slice.result.now
    (Some base) c.in-Some-strip_suffix.ensures.cases ∙ ap (λ x. base.now ++ x) c.as_slice.ensures in
    let P : List (List ℕ) → Type 0 = λ x. SpellsBelow c.args.rules.now c.args.root.now c.args.below.now x in
    subst P (sym c.in_ok-push.ensures.ok)
    (c.steps.invariant.spells (name ∷ [])
    (spells-file c.args.rules.now c.steps.directory.now c.steps.left.now step.result.name.now base.now name
    step.ensures.piece whole cut c.in_ok-camelize_by.ensures))

pub steps-preserved : goal.steps-preserved
steps-preserved c =
    let step = c.step_below-step in
    let cut = rw c.in-Some.is at step.ensures.parts in
    record {
      way = way_step c.args.path.now c.steps.directory.now c.steps.left.now step.result.name.now
          step.result.place.now c.in-Some.rest.now c.steps.invariant.way cut step.ensures.place;
      spells = λ more h. spells-step c.args.rules.now c.steps.directory.now step.result.name.now c.steps.left.now
          step.result.place.now c.in-Some.rest.now c.steps.names c.add_directory.new.names more
          (λ all. SpellsBelow c.args.rules.now c.args.root.now c.args.below.now all) step.ensures.piece cut
          step.ensures.place c.in_ok-add_directory.ensures c.steps.invariant.spells h;
      ends = λ h. EndsInRb-behind c.steps.left.now step.result.name.now c.in-Some.rest.now cut
          (c.steps.invariant.ends h);
    }

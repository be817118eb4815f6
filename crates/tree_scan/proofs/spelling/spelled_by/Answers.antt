use Rattle.std.proofs.Common.{◌≡◌, ◌↔◌, ℕ, List, Some, slice_get, length, refl}
use Rattle.std.proofs.Common.{subst}
use Rattle.std.proofs.lemmas.Option.{slice_get_read}
use Rattle.std.proofs.lemmas.Result.{err_from_is_err_and}
use Rattle.tree_scan.specs.Spells.{SpellsConstant}
use Rattle.tree_scan.specs.Spelling.{SpelledBy}
use Rattle.tree_scan.proofs.ListLaws.{step_none, step_some, all_listed, named_step, first_fault}
use Rattle.tree_scan.proofs.ListLaws.{none_there}
use Rattle.tree_scan.proofs.spelling.spelled_by.Goals.{in-Some+in_ok-add_spelled, in_default}
use Rattle.tree_scan.proofs.spelling.spelled_by.Goals as goal

pub returns-in_err-constant-clause-fault : goal.returns-in_err-constant-clause-fault
returns-in_err-constant-clause-fault c =
    let stands : slice_get c.args.files.now c.files.place ≡ Some c.index-files-place.result =
    slice_get_read c.args.files.now (length c.args.files.now) c.files.place c.index-files-place.result refl
    c.files-test.true c.index-files-place.is in
    let p = err_from_is_err_and c.from_residual.result c.from_residual.ensures.1 in
    rw (p.1, p.2) (first_fault c.args.roots.now c.args.rules.now c.args.files.now c.files.place
    c.index-files-place.result c.in_err-constant.field-0.0 stands c.files.invariant.named
    c.in_err-constant.ensures.fault)

pub files-preserved : goal.files-preserved
files-preserved c =
    let stands : slice_get c.args.files.now c.files.place ≡ Some c.index-files-place.result =
    slice_get_read c.args.files.now (length c.args.files.now) c.files.place c.index-files-place.result refl
    c.files-test.true c.index-files-place.is in
    record {
      listed = elim c.match-branch-2.branch [
        | in-Some+in_ok-add_spelled w ↦
            rw (w.spelled-is, w.in_ok-add_spelled.ensures)
            (step_some c.args.roots.now c.args.rules.now c.args.files.now c.files.place c.index-files-place.result
            stands c.files.spelled.items c.files.invariant.listed w.in-Some.constant
            (subst (λ o. (constant : List (List ℕ)) (root : ℕ) →
            SpelledBy o constant root ↔ SpellsConstant c.args.roots.now c.args.rules.now
            c.index-files-place.result.path constant root) w.in-Some.is c.in_ok-constant.ensures.exact))
        | in_default w ↦
            rw w.spelled-is
            (step_none c.args.roots.now c.args.rules.now c.args.files.now c.files.place c.index-files-place.result
            stands c.files.spelled.items c.files.invariant.listed
            (subst (λ o. (constant : List (List ℕ)) (root : ℕ) →
            SpelledBy o constant root ↔ SpellsConstant c.args.roots.now c.args.rules.now
            c.index-files-place.result.path constant root)
            (none_there c.in_ok-constant.field-0 w.in_default.not-Some) c.in_ok-constant.ensures.exact))
      ];
      named = named_step c.args.roots.now c.args.rules.now c.args.files.now c.files.place c.index-files-place.result
          stands c.in_ok-constant.ensures.named c.files.invariant.named;
    }

pub returns-clause-exact : goal.returns-clause-exact
returns-clause-exact c = all_listed c.args.roots.now c.args.rules.now c.args.files.now c.files.place
    c.files.spelled.items c.files-test.false c.files.invariant.listed

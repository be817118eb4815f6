use Rattle.std.proofs.Common.{◌≡◌, ◌∙◌, ◌<◌, Some, List, length, sym, ap, subst, slice_get}
use Rattle.program_places.specs.Paths.{Path}
use Rattle.program_constants.specs.Constants.{first_place}
use Rattle.program_faults.specs.Read.{used_all}
use Rattle.program_faults.specs.declared.own.OwnKind.{OwnKind}
use Rattle.program_faults.proofs.SiteLaws.{module_without_file, keyword_of_file, first_within}
use Rattle.program_faults.proofs.files.UsedFiles.keyword.Goals as goal

pub own_at-requires : goal.own_at-requires
own_at-requires c =
    let first = sym (ap (λ (cs : List Path). first_place c.args.path.now cs) c.args.self.now.constants_are)
    ∙ sym c.first.ensures ∙ c.in-Some.is in
    subst (λ (owns : List OwnKind). c.in-Some.place < length owns)
    (sym (c.as_slice.ensures.value ∙ c.args.self.now.owns_are))
    (first_within c.args.path.now (used_all c.args.self.now.files.now) c.in-Some.place first)

pub returns-in-None : goal.returns-in-None
returns-in-None c =
    let first = sym (ap (λ (cs : List Path). first_place c.args.path.now cs) c.args.self.now.constants_are)
    ∙ sym c.first.ensures ∙ c.in-None.is in
    module_without_file c.args.path.now (used_all c.args.self.now.files.now) first

pub returns-in-Some : goal.returns-in-Some
returns-in-Some c =
    let first = sym (ap (λ (cs : List Path). first_place c.args.path.now cs) c.args.self.now.constants_are)
    ∙ sym c.first.ensures ∙ c.in-Some.is in
    keyword_of_file c.args.path.now (used_all c.args.self.now.files.now) c.in-Some.place c.own_at.result first
    (subst (λ (owns : List OwnKind). slice_get owns c.in-Some.place ≡ Some c.own_at.result)
    (c.as_slice.ensures.value ∙ c.args.self.now.owns_are) c.own_at.ensures)

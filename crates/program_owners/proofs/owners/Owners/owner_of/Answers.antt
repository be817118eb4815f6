use Rattle.std.proofs.Common.{◌≡◌, ◌∙◌, ◌<◌, Some, None, List, length, sym, ap, subst, slice_get}
use Rattle.program_places.specs.Paths.{Path}
use Rattle.program_constants.specs.Constants.{first_place}
use Rattle.program_owners.specs.declared.owned.Owned.{Owned}
use Rattle.program_owners.specs.Owned.{owner_in}
use Rattle.program_owners.proofs.OwnedLaws.{no_owner, row_first, first_within}
use Rattle.program_owners.proofs.owners.Owners.owner_of.Goals as goal

pub file_at-requires : goal.file_at-requires
file_at-requires c =
    let first = sym (ap (λ (cs : List Path). first_place c.args.path.now cs) c.self.invariant)
    ∙ sym c.first.ensures ∙ c.in-Some.is in
    subst (λ (owned : List Owned). c.in-Some.place < length owned) (sym c.as_slice.ensures.value)
    (first_within c.args.path.now c.self.inside.owned.items c.in-Some.place first)

pub returns-in-None : goal.returns-in-None
returns-in-None c =
    let first = sym (ap (λ (cs : List Path). first_place c.args.path.now cs) c.self.invariant)
    ∙ sym c.first.ensures ∙ c.in-None.is in
    subst (λ (owned : List Owned). None ≡ owner_in c.args.path.now owned) c.self.view_is
    (no_owner c.args.path.now c.self.inside.owned.items first)

pub returns-in-Some : goal.returns-in-Some
returns-in-Some c =
    let first = sym (ap (λ (cs : List Path). first_place c.args.path.now cs) c.self.invariant)
    ∙ sym c.first.ensures ∙ c.in-Some.is in
    let r = row_first c.args.path.now c.self.inside.owned.items c.in-Some.place first in
    subst (λ (owned : List Owned). Some c.file_at.result ≡ owner_in c.args.path.now owned) c.self.view_is
    (ap Some (c.file_at.ensures r.row
    (subst (λ (owned : List Owned). slice_get owned c.in-Some.place ≡ Some r.row) (sym c.as_slice.ensures.value) r.at))
    ∙ r.owner)

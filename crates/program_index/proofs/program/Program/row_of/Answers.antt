use Rattle.std.proofs.Common.{◌∙◌, List, sym, ap, subst}
use Rattle.std.specs.Prelude.{MatchOption}
use Rattle.program_constants.specs.Constants.{first_place}
use Rattle.program_owners.specs.Owned.{owned_paths}
use Rattle.program_standing.specs.Tables.{Tables}
use Rattle.program_code.specs.declared.content.ContentCode.{ContentCode}
use Rattle.program_index.specs.Content.{Content}
use Rattle.program_index.specs.Lookups.{HasRow, IsRow, IsUnowned, LacksRow}
use Rattle.program_index.specs.Tables.{content_of}
use Rattle.program_index.proofs.LookupLaws.{row_found, row_missing}
use Rattle.program_index.proofs.program.Program.row_of.Goals as goal

pub returns-in-Some : goal.returns-in-Some
returns-in-Some c =
    let p = c.self.inside in
    let content = content_of p.snapshot.files p.config p.sites p.texts.items p.tables.nodes in
    let path = c.args.path.now in
    let standings = p.tables.standings in
    let found = subst (λ (codes : List ContentCode). MatchOption c.row_at.result
    (LacksRow standings codes c.in-Some.place) (HasRow standings codes c.in-Some.place)) c.as_slice.ensures.value
    c.row_at.ensures in
    subst (λ (q : Content). MatchOption c.row_at.result (IsUnowned q path) (IsRow q path)) c.self.view_is
    (row_found p.snapshot.files content c.self.invariant.0 standings c.self.invariant.1.standings p.tables.codes.items
    c.self.invariant.1.codes path c.in-Some.place (sym c.place_of.ensures ∙ c.in-Some.is) c.row_at.result found)

pub returns-in-None : goal.returns-in-None
returns-in-None c =
    let p = c.self.inside in
    let content = content_of p.snapshot.files p.config p.sites p.texts.items p.tables.nodes in
    let path = c.args.path.now in
    subst (λ (q : Content). IsUnowned q path) c.self.view_is
    (row_missing p.snapshot.files content c.self.invariant.0 path
    (ap (λ (t : Tables). first_place path (owned_paths t.owned)) (sym c.self.invariant.1.standings)
    ∙ sym c.place_of.ensures ∙ c.in-None.is))

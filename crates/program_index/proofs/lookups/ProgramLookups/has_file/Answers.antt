use Rattle.std.proofs.Common.{◌≡◌, ◌∙◌, ap, subst}
use Rattle.std.specs.Option.{is_some}
use Rattle.program_constants.specs.Constants.{first_place}
use Rattle.program_files.specs.Files.{file_of}
use Rattle.program_standing.specs.Tables.{Tables}
use Rattle.program_tables.proofs.AskLaws.{spelled_found}
use Rattle.program_index.specs.Content.{Content, used_files}
use Rattle.program_index.specs.Tables.{content_of}
use Rattle.program_index.proofs.lookups.ProgramLookups.has_file.Goals as goal

pub returns : goal.returns
returns c =
    let p = c.self.inside in
    let content = content_of p.snapshot.files p.config p.sites p.texts.items p.tables.nodes in
    let path = c.args.path.now in
    subst (λ (q : Content). c.has_file.result ≡ is_some (file_of (used_files q) path)) c.self.view_is
    (c.has_file.ensures ∙ ap (λ (t : Tables). is_some (first_place path t.spelled)) c.self.invariant.1.standings
    ∙ spelled_found (used_files content) path)

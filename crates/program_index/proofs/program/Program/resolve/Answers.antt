use Rattle.std.proofs.Common.{◌∙◌, List, sym, ap, subst}
use Rattle.std.specs.Prelude.{IfOk}
use Rattle.std.proofs.lemmas.Result.{IfOk-weaker}
use Rattle.program_places.specs.Paths.{Path}
use Rattle.program_standing.specs.Search.{resolved}
use Rattle.program_standing.specs.Tables.{Tables}
use Rattle.program_tables.specs.Resolved.{IsResolved}
use Rattle.program_tables.proofs.ResolvedLaws.{resolved_told}
use Rattle.program_index.specs.Content.{Content, files_of}
use Rattle.program_index.specs.Tables.{content_of}
use Rattle.program_index.proofs.OneLaws.{one_files, one_numbers}
use Rattle.program_index.proofs.program.Program.resolve.Goals as goal

pub returns : goal.returns
returns c =
    let p = c.self.inside in
    let content = content_of p.snapshot.files p.config p.sites p.texts.items p.tables.nodes in
    let scopes = c.args.scopes.now in
    let name = c.args.name.now in
    let files = p.snapshot.files in
    let told = resolved_told (files_of content) (one_files files content c.self.invariant.0)
    (one_numbers files content c.self.invariant.0) scopes name in
    subst (λ (q : Content). IfOk c.resolve.result (IsResolved (files_of q) scopes name)) c.self.view_is
    (IfOk-weaker c.resolve.result _ _ (λ found same. subst (IsResolved (files_of content) scopes name)
    (sym (same ∙ ap (λ (ss : List Path). resolved p.tables.standings ss name) c.as_slice.ensures
    ∙ ap (λ (t : Tables). resolved t scopes name) c.self.invariant.1.standings)) told) c.resolve.ensures)

use Rattle.std.proofs.Common.{◌∙◌, ◌<◌, Option, length, slice_get, sym, ap, subst}
use Rattle.std.specs.Borrow.{Bor}
use Rattle.std.specs.Option.{option_map}
use Rattle.ruby_types.specs.declared.request.RubyError.{RubyError}
use Rattle.program_files.specs.Files.{UsedFile}
use Rattle.program_outcomes.specs.Outcomes.{fault_by, flat}
use Rattle.program_index.specs.Content.{Content, used_files}
use Rattle.program_index.proofs.LookupLaws.{assigned_stands, fault_stands, opened_stands, row_path, row_within}
use Rattle.program_index.proofs.program.Program.standing_by.Goals as goal

pub at-requires : goal.at-requires
at-requires c =
    subst (λ (q : Content). c.args.row.file < length q.files) (sym c.self.view_is)
    (row_within c.args.self.now c.requires.0 c.args.row c.requires.1)

pub returns-in-Some : goal.returns-in-Some
returns-in-Some c = λ path h.
    let q = c.args.self.now in
    let at = ap (λ (q : Content). slice_get q.files c.args.row.file) (sym c.self.view_is) ∙ c.at.ensures in
    fault_stands q path c.args.row h c.at.result.now.path c.in-Some.fault.now
    (row_path q path c.args.row h c.at.result.now at)
    (sym (ap (λ (o : Option (Option UsedFile)). fault_by (used_files q) (flat o)) h.at) ∙ sym c.fault_of.ensures
    ∙ ap (option_map (λ (e : Bor RubyError). e.now)) c.in-Some.is)

pub returns-in-Assigned : goal.returns-in-Assigned
returns-in-Assigned c = λ path h.
    let q = c.args.self.now in
    let at = ap (λ (q : Content). slice_get q.files c.args.row.file) (sym c.self.view_is) ∙ c.at.ensures in
    assigned_stands q path c.args.row h c.in-Assigned.first c.in-Assigned.scopes c.in-Assigned.is c.at.result.now.path
    (row_path q path c.args.row h c.at.result.now at)

pub returns-in-Opened : goal.returns-in-Opened
returns-in-Opened c = λ path h.
    let q = c.args.self.now in
    let at = ap (λ (q : Content). slice_get q.files c.args.row.file) (sym c.self.view_is) ∙ c.at.ensures in
    let stands = opened_stands q path c.args.row h c.in-Opened.opened c.in-Opened.is c.at.result.now.path
    (row_path q path c.args.row h c.at.result.now at) in
    (stands.0, stands.1)

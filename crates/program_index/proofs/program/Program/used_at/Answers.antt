use Rattle.std.proofs.Common.{◌≡◌, ◌∙◌, ℕ, List, Option, Some, None, slice_get, sym, ap, subst}
use Rattle.std.specs.Option.{option_map}
use Rattle.std.specs.Borrow.{Bor}
use Rattle.std.proofs.lemmas.Option.{none-some}
use Rattle.outside.specs.Table.{HasPath}
use Rattle.outside.specs.Tree.{paths_of}
use Rattle.outside.specs.declared.files.FileEntry.{FileEntry}
use Rattle.program_files.specs.Files.{file_at}
use Rattle.program_used.specs.declared.used.UsedText.{UsedText}
use Rattle.program_outcomes.specs.Outcomes.{flat}
use Rattle.program_index.specs.Content.{Content, used_files}
use Rattle.program_index.specs.Lookups.{IsUsedAt}
use Rattle.program_index.specs.Tables.{content_of}
use Rattle.program_index.proofs.FileLaws.{used_told, unused_told, no_path_told, flat_some}
use Rattle.program_index.proofs.program.Program.used_at.Goals as goal

pub returns-in_default : goal.returns-in_default
returns-in_default c =
    let p = c.self.inside in
    let content = content_of p.snapshot.files p.config p.sites p.texts.items p.tables.nodes in
    let path = c.args.path.now in
    subst (λ (q : Content). file_at (used_files q) path ≡ None) c.self.view_is
    (no_path_told content c.self.invariant.0 path (λ h. c.in_default.ensures.none
    (subst (λ (fs : List FileEntry). HasPath fs c.as_bytes.result.now) (sym c.as_slice.ensures)
    (subst (HasPath p.snapshot.files) (sym c.as_bytes.ensures) h))))

pub returns-in-Some-text_at : goal.returns-in-Some-text_at
returns-in-Some-text_at c =
    let p = c.self.inside in
    let content = content_of p.snapshot.files p.config p.sites p.texts.items p.tables.nodes in
    let path = c.args.path.now in
    let number = c.in-Some.number in
    let at : slice_get (paths_of p.snapshot.files) number ≡ Some path =
    ap (λ (fs : List FileEntry). slice_get (paths_of fs) number) (sym c.as_slice.ensures)
    ∙ c.in-Some.ensures.found ∙ ap (λ (b : List ℕ). Some b) c.as_bytes.ensures in
    let text : flat (slice_get p.texts.items number) ≡ Some c.in-Some-text_at.text.now =
    ap (λ (ts : List (Option UsedText)). flat (slice_get ts number)) (sym c.as_slice-2.ensures.value)
    ∙ sym c.text_at.ensures
    ∙ ap (option_map (λ (t : Bor UsedText). t.now)) c.in-Some-text_at.is in
    subst (λ (q : Content). IsUsedAt q path (record { number = number; text = c.in-Some-text_at.text })) c.self.view_is
    (used_told content c.self.invariant.0 path (record { number = number; text = c.in-Some-text_at.text }) at
    (flat_some (slice_get p.texts.items number) c.in-Some-text_at.text.now text))

pub returns-in-None : goal.returns-in-None
returns-in-None c =
    let p = c.self.inside in
    let content = content_of p.snapshot.files p.config p.sites p.texts.items p.tables.nodes in
    let path = c.args.path.now in
    let number = c.in-Some.number in
    let at : slice_get (paths_of p.snapshot.files) number ≡ Some path =
    ap (λ (fs : List FileEntry). slice_get (paths_of fs) number) (sym c.as_slice.ensures)
    ∙ c.in-Some.ensures.found ∙ ap (λ (b : List ℕ). Some b) c.as_bytes.ensures in
    let text : flat (slice_get p.texts.items number) ≡ None =
    ap (λ (ts : List (Option UsedText)). flat (slice_get ts number)) (sym c.as_slice-2.ensures.value)
    ∙ sym c.text_at.ensures ∙ ap (option_map (λ (t : Bor UsedText). t.now)) c.in-None.is in
    subst (λ (q : Content). file_at (used_files q) path ≡ None) c.self.view_is
    (unused_told content c.self.invariant.0 path number at (λ used h. none-some used (sym text ∙ ap flat h)))

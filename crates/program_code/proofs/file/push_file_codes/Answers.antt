use Rattle.std.proofs.Common.{◌≡◌, ◌≢◌, ◌∙◌, ◌++◌, List, All, None, sym, ap, subst}
use Rattle.std.proofs.lemmas.Result.{on_ok_weaker}
use Rattle.ruby_types.specs.declared.request.Task.{Task}
use Rattle.program_files.specs.Entries.{Entry}
use Rattle.program_files.specs.Files.{entries, entries_read}
use Rattle.program_entries.specs.Seen.{seen_all}
use Rattle.program_used.specs.Texts.{reading_in}
use Rattle.program_used.specs.declared.text.FileText.{FileText}
use Rattle.program_code.specs.Codes.{AddsContents, faulty_codes, task_paths, used_of}
use Rattle.program_code.specs.Groups.{file_named, first_kind, groups}
use Rattle.program_code.proofs.PathLaws.{tasks_distinct, tasks_defined, entries_say, fault_says}
use Rattle.program_code.proofs.file.push_file_codes.Goals as goal

pub push_entries-requires-clause-distinct : goal.push_entries-requires-clause-distinct
push_entries-requires-clause-distinct c =
    tasks_distinct c.requires.0 (used_of c.args.file.now c.args.used.now) c.as_slice-in-Tree-2.result.now
    (c.as_slice-in-Tree-2.ensures ∙ c.requires.1.tasks) (sym c.requires.1.fault ∙ c.in-None.is)

pub push_entries-requires-clause-defined : goal.push_entries-requires-clause-defined
push_entries-requires-clause-defined c =
    let file = used_of c.args.file.now c.args.used.now in
    let tasks = c.as_slice-in-Tree-2.result.now in
    let same : seen_all c.as_slice-in-Tree.result.now ≡ entries file = ap seen_all c.as_slice-in-Tree.ensures.value
    ∙ c.in_ok-entries-in-Tree.ensures ∙ ap (λ (t : FileText). entries_read (reading_in t)) (sym c.in-Tree.is) in
    subst (λ (es : List Entry). All (λ g. first_kind g ≢ None) (groups es (task_paths tasks))) (sym same)
    (tasks_defined c.requires.0 file tasks (c.as_slice-in-Tree-2.ensures ∙ c.requires.1.tasks)
    (sym c.requires.1.fault ∙ c.in-None.is))

pub returns-in-Some-clause-added : goal.returns-in-Some-clause-added
returns-in-Some-clause-added c =
    let old = c.args.codes.now.items in
    let new = c.push_all_faulty.new.codes.items in
    on_ok_weaker c.push_all_faulty.result (λ h all o.
    fault_says all (used_of c.args.file.now c.args.used.now) c.args.outcome.now.tasks o.tasks c.args.nodes.now old new
    c.in-Some.field-0 (sym o.fault ∙ c.in-Some.is)
    (h ∙ ap (λ (ts : List Task). old ++ faulty_codes (task_paths ts)) c.as_slice.ensures)) c.push_all_faulty.ensures

pub returns-in_ok-entries-in-Tree-clause-added : goal.returns-in_ok-entries-in-Tree-clause-added
returns-in_ok-entries-in-Tree-clause-added c =
    let file = used_of c.args.file.now c.args.used.now in
    let tasks = c.as_slice-in-Tree-2.result.now in
    let known = c.push_entries.new.nodes in
    let old = c.args.codes.now.items in
    let new = c.push_entries.new.codes.items in
    let same : seen_all c.as_slice-in-Tree.result.now ≡ entries file = ap seen_all c.as_slice-in-Tree.ensures.value
    ∙ c.in_ok-entries-in-Tree.ensures ∙ ap (λ (t : FileText). entries_read (reading_in t)) (sym c.in-Tree.is) in
    on_ok_weaker c.push_entries.result (λ h all o.
    entries_say all file c.args.outcome.now.tasks o.tasks known old new (sym o.fault ∙ c.in-None.is)
    (subst (AddsContents known (file_named c.args.file.now) old new)
    (ap (λ (es : List Entry). groups es (task_paths tasks)) same
    ∙ ap (λ (ts : List Task). groups (entries file) (task_paths ts)) c.as_slice-in-Tree-2.ensures) h))
    c.push_entries.ensures.added

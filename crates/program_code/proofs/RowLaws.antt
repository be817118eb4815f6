-- The code of files, one more at a time.
use Rattle.std.proofs.Common.{◌≡◌, ◌∙◌, ℕ, zero, suc, ◌+◌, List, [], ◌∷◌, ◌++◌}
use Rattle.std.proofs.Common.{length, take, Option, Some, None, slice_get}
use Rattle.std.proofs.Common.{refl, sym, ap, subst, arith, append-nil, append_assoc, zero-add}
use Rattle.std.proofs.lemmas.List.{take_more, length-take-le}
use Rattle.std.proofs.lemmas.Option.{none-some, same_Some, slice_get_within, get_or_from_slice_get}
use Rattle.outside.specs.declared.files.FileEntry.{FileEntry}
use Rattle.ruby_types.specs.declared.request.Task.{Task}
use Rattle.ruby_types.specs.declared.request.Task.TheVariants as task
use Rattle.program_files.specs.Files.{UsedFile}
use Rattle.program_files.specs.Tasks.{file_tasks}
use Rattle.program_owners.specs.declared.owned.Owned.{Owned}
use Rattle.program_used.specs.Rows.{used_at, all_used}
use Rattle.program_used.specs.declared.used.UsedText.{UsedText}
use Rattle.program_outcomes.specs.declared.outcome.Outcome.{Outcome}
use Rattle.program_outcomes.specs.Outcomes.{HasOutcome, HaveOutcomes, listed, tasks_by}
use Rattle.program_tables.specs.Tables.{owned_tasks, owned_from}
use Rattle.ruby_nodes.specs.Entries.{Entry, Extends}
use Rattle.program_code.specs.declared.content.ContentCode.{ContentCode}
use Rattle.program_code.specs.Codes.{AddsRow, AreCodesOf, AreSaidOf, task_paths}
use Rattle.program_code.proofs.ContentLaws.{codes_append, codes_later}

-- a file of a place is used as its text says
pub used_there : (fs : List FileEntry) (rs : List (Option UsedText)) (i : ℕ) (f : FileEntry) (r : Option UsedText) →
    slice_get fs i ≡ Some f → slice_get rs i ≡ Some r → slice_get (all_used fs rs) i ≡ Some (used_at f r)
used_there [] rs i f r at there = absurd (none-some f at)
used_there (g ∷ fs) [] i f r at there = absurd (none-some r there)
used_there (g ∷ fs) (s ∷ rs) zero f r at there =
    ap (λ x. Some (used_at x s)) (same_Some g f at) ∙ ap (λ x. Some (used_at f x)) (same_Some s r there)
used_there (g ∷ fs) (s ∷ rs) (suc i) f r at there = used_there fs rs i f r at there

-- there are as many files as they are used
pub used_length : (fs : List FileEntry) (rs : List (Option UsedText)) → length rs ≡ length fs →
    length (all_used fs rs) ≡ length fs
used_length [] rs e = refl
used_length (f ∷ fs) [] e = e
used_length (f ∷ fs) (r ∷ rs) e = ap suc (used_length fs rs (omega (arith, e)))

-- there are as many outcomes as files
pub outcomes_length : (all : List UsedFile) (us : List (Option UsedFile)) (os : List (Option Outcome)) →
    HaveOutcomes all us os → length os ≡ length us
outcomes_length all [] [] h = refl
outcomes_length all [] (o ∷ os) h = absurd h
outcomes_length all (u ∷ us) [] h = absurd h
outcomes_length all (u ∷ us) (o ∷ os) h = ap suc (outcomes_length all us os h.1)

-- the outcome of a place is that of its file
pub outcome_there : (all : List UsedFile) (us : List (Option UsedFile)) (os : List (Option Outcome)) (n : ℕ)
    (u : Option UsedFile) (o : Option Outcome) → HaveOutcomes all us os → slice_get us n ≡ Some u →
    slice_get os n ≡ Some o → HasOutcome all u o
outcome_there all [] os n u o h at there = absurd (none-some u at)
outcome_there all (v ∷ us) [] n u o h at there = absurd h
outcome_there all (v ∷ us) (p ∷ os) zero u o h at there =
    subst (λ x. HasOutcome all x o) (same_Some v u at) (subst (HasOutcome all v) (same_Some p o there) h.0)
outcome_there all (v ∷ us) (p ∷ os) (suc n) u o h at there = outcome_there all us os n u o h.1 at there

said_rows : (files : List (Option UsedFile)) (known : List Entry) (n : ℕ) (file : UsedFile) →
    slice_get files n ≡ Some (Some file) → (ts : List Task) (cs : List ContentCode) →
    AreSaidOf (listed files) known file (task_paths ts) cs → AreCodesOf files known (owned_tasks n ts) cs
said_rows files known n file at [] [] h = tt
said_rows files known n file at [] (c ∷ cs) h = absurd h
said_rows files known n file at (task.File f ∷ ts) cs h = said_rows files known n file at ts cs h
said_rows files known n file at (task.Const p ∷ ts) [] h = absurd h
said_rows files known n file at (task.Const p ∷ ts) (c ∷ cs) h =
    ((file, at, h.0), said_rows files known n file at ts cs h.1)
said_rows files known n file at (task.Ancestors p ∷ ts) cs h = said_rows files known n file at ts cs h
said_rows files known n file at (task.Request r ∷ ts) cs h = said_rows files known n file at ts cs h

row_codes : (files : List (Option UsedFile)) (known : List Entry) (n : ℕ) (rows : List Owned)
    (old new : List ContentCode) (u : Option UsedFile) → slice_get files n ≡ Some u →
    AddsRow (listed files) known u old new → AreCodesOf files known rows old →
    AreCodesOf files known (rows ++ owned_tasks n (tasks_by (listed files) u)) new
row_codes files known n rows old new None at added h =
    subst (λ rs. AreCodesOf files known rs new) (sym (append-nil rows))
    (subst (AreCodesOf files known rows) (sym added) h)
row_codes files known n rows old new (Some file) at added h =
    let tasks = file_tasks (listed files) file in
    subst (AreCodesOf files known (rows ++ owned_tasks n tasks)) (sym added.is)
    (codes_append files known rows (owned_tasks n tasks) old added.added h
    (said_rows files known n file at tasks added.added added.code))

owned_more : (all : List UsedFile) (n : ℕ) (us : List (Option UsedFile)) (u : Option UsedFile) →
    owned_from all n (us ++ u ∷ []) ≡ owned_from all n us ++ owned_tasks (n + length us) (tasks_by all u)
owned_more all n [] u =
    let number : n ≡ n + 0 = omega arith in
    append-nil (owned_tasks n (tasks_by all u)) ∙ ap (λ k. owned_tasks k (tasks_by all u)) number
owned_more all n (v ∷ us) u =
    let number : suc n + length us ≡ n + suc (length us) = omega arith in
    ap (λ xs. owned_tasks n (tasks_by all v) ++ xs) (owned_more all (suc n) us u
    ∙ ap (λ k. owned_from all (suc n) us ++ owned_tasks k (tasks_by all u)) number)
    ∙ sym (append_assoc (owned_tasks n (tasks_by all v)) (owned_from all (suc n) us)
    (owned_tasks (n + suc (length us)) (tasks_by all u)))

-- the code of one file more
pub codes_more : {a b : List Entry} (files : List (Option UsedFile)) (k : ℕ) (u : Option UsedFile)
    (old new : List ContentCode) → Extends a b → slice_get files k ≡ Some u → AddsRow (listed files) b u old new →
    AreCodesOf files a (owned_from (listed files) 0 (take k files)) old →
    AreCodesOf files b (owned_from (listed files) 0 (take (k + 1) files)) new
codes_more {a} {b} files k u old new e at added h =
    let all = listed files in
    let within = slice_get_within files k u at in
    let taken : take (k + 1) files ≡ take k files ++ u ∷ [] = take_more files k u within
    ∙ ap (λ x. take k files ++ x ∷ []) (get_or_from_slice_get files k u u at) in
    let size : length (take k files) ≡ k = length-take-le k files (omega (arith, within)) in
    let rows : owned_from all 0 (take (k + 1) files)
    ≡ owned_from all 0 (take k files) ++ owned_tasks k (tasks_by all u) =
    ap (owned_from all 0) taken ∙ owned_more all 0 (take k files) u
    ∙ ap (λ n. owned_from all 0 (take k files) ++ owned_tasks n (tasks_by all u)) (zero-add _ ∙ size) in
    subst (λ rs. AreCodesOf files b rs new) (sym rows)
    (row_codes files b k (owned_from all 0 (take k files)) old new u at added
    (codes_later e files (owned_from all 0 (take k files)) old h))

-- Tables that are made of outcomes are those of the files.
use Rattle.std.proofs.Common.{◌≡◌, ◌∙◌, ℕ, suc, Bool, List, [], ◌∷◌, ◌++◌}
use Rattle.std.proofs.Common.{map, length, Option, Some, None, refl, sym, ap, arith, ◌+◌}
use Rattle.std.proofs.Common.{append-nil, append_assoc}
use Rattle.std.specs.List.{flat_map}
use Rattle.std.specs.Prelude.{is_some}
use Rattle.outside.specs.declared.files.FileEntry.{FileEntry}
use Rattle.program_places.specs.Paths.{Path}
use Rattle.program_files.specs.Files.{UsedFile}
use Rattle.program_owners.specs.declared.owned.Owned.{Owned}
use Rattle.program_standing.specs.Tables.{Tables}
use Rattle.program_used.specs.Rows.{all_used}
use Rattle.program_used.specs.declared.used.UsedText.{UsedText}
use Rattle.program_outcomes.specs.declared.outcome.Outcome.{Outcome}
use Rattle.program_outcomes.specs.Outcomes.{listed, tasks_by, HaveOutcomes}
use Rattle.program_outcomes.proofs.OutcomeLaws.{fault_told, tasks_told}
use Rattle.program_tables.specs.Tables.{owned_tasks, owned_from, owned_in}
use Rattle.program_tables.specs.Tables.{is_at_fault, has_fault, tasks_of, constant_in}
use Rattle.program_tables.specs.Tables.{tables_of}

-- what is owned by outcomes is owned by the files
pub owned_told : (all : List UsedFile) (us : List (Option UsedFile)) (os : List (Option Outcome)) (n : ℕ) →
    HaveOutcomes all us os → owned_in n os ≡ owned_from all n us
owned_told all [] [] n h = refl
owned_told all [] (o ∷ os) n h = absurd h
owned_told all (u ∷ us) [] n h = absurd h
owned_told all (u ∷ us) (o ∷ os) n h =
    ap (λ ts. owned_tasks n ts ++ owned_in (suc n) os) (tasks_told all u o h.0)
    ∙ ap (λ rest. owned_tasks n (tasks_by all u) ++ rest) (owned_told all us os (suc n) h.1)

-- the marks of outcomes are those of the files
pub faults_told : (all : List UsedFile) (us : List (Option UsedFile)) (os : List (Option Outcome)) →
    HaveOutcomes all us os → map has_fault os ≡ map (is_at_fault all) us
faults_told all [] [] h = refl
faults_told all [] (o ∷ os) h = absurd h
faults_told all (u ∷ us) [] h = absurd h
faults_told all (u ∷ us) (o ∷ os) h =
    ap (λ f. is_some f ∷ map has_fault os) (fault_told all u o h.0)
    ∙ ap (λ rest. is_at_fault all u ∷ rest) (faults_told all us os h.1)

abbrev constants : List UsedFile → List (List (List ℕ))
constants files = map (λ (f : UsedFile). f.constant) files

spelled_more : (file : FileEntry) (row : Option UsedText) (files : List FileEntry) (rows : List (Option UsedText)) →
    flat_map constant_in rows ≡ constants (listed (all_used files rows)) →
    flat_map constant_in (row ∷ rows) ≡ constants (listed (all_used (file ∷ files) (row ∷ rows)))
spelled_more file None files rows h = h
spelled_more file (Some used) files rows h = ap (λ rest. used.constant ∷ rest) h

-- the constants of texts are those of the files
pub spelled_told : (files : List FileEntry) (rows : List (Option UsedText)) → length rows ≡ length files →
    flat_map constant_in rows ≡ constants (listed (all_used files rows))
spelled_told [] [] e = refl
spelled_told [] (r ∷ rows) e = absurd (omega (arith, e))
spelled_told (f ∷ files) [] e = absurd (omega (arith, e))
spelled_told (f ∷ files) (r ∷ rows) e = spelled_more f r files rows (spelled_told files rows (omega (arith, e)))

-- what one file more owns
pub owned_more : (n : ℕ) (os : List (Option Outcome)) (o : Option Outcome) →
    owned_in n (os ++ o ∷ []) ≡ owned_in n os ++ owned_tasks (n + length os) (tasks_of o)
owned_more n [] o =
    let number : n ≡ n + 0 = omega arith in
    append-nil (owned_tasks n (tasks_of o)) ∙ ap (λ k. owned_tasks k (tasks_of o)) number
owned_more n (p ∷ os) o =
    let number : suc n + length os ≡ n + suc (length os) = omega arith in
    ap (λ xs. owned_tasks n (tasks_of p) ++ xs) (owned_more (suc n) os o
    ∙ ap (λ k. owned_in (suc n) os ++ owned_tasks k (tasks_of o)) number)
    ∙ sym (append_assoc (owned_tasks n (tasks_of p)) (owned_in (suc n) os)
    (owned_tasks (n + suc (length os)) (tasks_of o)))

abbrev made : List Owned → List Path → List Bool → Tables
made owned spelled at_fault = record { owned = owned; spelled = spelled; at_fault = at_fault }

-- the tables that are made of texts and outcomes are those of the files
pub tables_told : (files : List FileEntry) (texts : List (Option UsedText)) (outcomes : List (Option Outcome))
    (owned : List Owned) (spelled : List Path) (marks : List Bool) → owned ≡ owned_in 0 outcomes →
    spelled ≡ flat_map constant_in texts → marks ≡ map has_fault outcomes → length texts ≡ length files →
    HaveOutcomes (listed (all_used files texts)) (all_used files texts) outcomes →
    made owned spelled marks ≡ tables_of (all_used files texts)
tables_told files texts outcomes owned spelled marks o s m e h =
    let us = all_used files texts in
    ap (λ x. made x spelled marks) (o ∙ owned_told (listed us) us outcomes 0 h)
    ∙ ap (λ x. made (owned_from (listed us) 0 us) x marks) (s ∙ spelled_told files texts e)
    ∙ ap (made (owned_from (listed us) 0 us) (constants (listed us))) (m ∙ faults_told (listed us) us outcomes h)

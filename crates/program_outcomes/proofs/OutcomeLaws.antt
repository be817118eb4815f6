-- The outcomes of files, one more at a time, and of each file.
use Rattle.std.proofs.Common.{◌≡◌, ◌∙◌, ℕ, zero, suc, List, [], ◌∷◌, ◌++◌, map, take, Option, Some, None, slice_get}
use Rattle.std.proofs.Common.{refl}
use Rattle.std.proofs.Common.{ap}
use Rattle.std.specs.Option.{option_map}
use Rattle.std.proofs.lemmas.Option.{none-some, same_Some}
use Rattle.program_files.specs.Files.{UsedFile}
use Rattle.program_faults.specs.Read.{present, used, used_all}
use Rattle.program_faults.specs.declared.read.ReadFile.{ReadFile}
use Rattle.program_outcomes.specs.declared.outcome.Outcome.{Outcome}
use Rattle.program_outcomes.specs.Outcomes.{listed_one, listed, flat, fault_by, tasks_by, HasOutcome, HaveOutcomes}
use Rattle.program_outcomes.specs.Outcomes.{fault_in, tasks_in}

-- one more file has one more outcome
pub outcomes_more : (all : List UsedFile) (us : List (Option UsedFile)) (os : List (Option Outcome))
    (u : Option UsedFile) (o : Option Outcome) → HaveOutcomes all us os → HasOutcome all u o →
    HaveOutcomes all (us ++ u ∷ []) (os ++ o ∷ [])
outcomes_more all [] [] u o h is = (is, tt)
outcomes_more all [] (p ∷ os) u o h is = absurd h
outcomes_more all (v ∷ us) [] u o h is = absurd h
outcomes_more all (v ∷ us) (p ∷ os) u o h is = (h.0, outcomes_more all us os u o h.1 is)

module _ {A B : Type 0} (f : A → B) where
  -- one more member is one more image
  pub mapped_more : (xs : List A) (i : ℕ) (x : A) → slice_get xs i ≡ Some x →
      map f (take (suc i) xs) ≡ map f (take i xs) ++ f x ∷ []
  mapped_more [] i x at = absurd (none-some x at)
  mapped_more (y ∷ ys) zero x at = ap (λ z. f z ∷ []) (same_Some y x at)
  mapped_more (y ∷ ys) (suc i) x at = ap (λ zs. f y ∷ zs) (mapped_more ys i x at)

present_listed : (o : Option ReadFile) → present o ≡ listed_one (option_map used o)
present_listed None = refl
present_listed (Some f) = refl

-- the files that are used among those that were read are those that are listed
pub used_listed : (reads : List (Option ReadFile)) → used_all reads ≡ listed (map (option_map used) reads)
used_listed [] = refl
used_listed (o ∷ os) = ap (λ fs. fs ++ used_all os) (present_listed o)
    ∙ ap (λ fs. listed_one (option_map used o) ++ fs) (used_listed os)

-- the outcome of the file at a number is that of the file
pub outcome_told : (all : List UsedFile) (us : List (Option UsedFile)) (os : List (Option Outcome)) (n : ℕ) →
    HaveOutcomes all us os → HasOutcome all (flat (slice_get us n)) (flat (slice_get os n))
outcome_told all [] [] n h = tt
outcome_told all [] (p ∷ os) n h = absurd h
outcome_told all (v ∷ us) [] n h = absurd h
outcome_told all (v ∷ us) (p ∷ os) zero h = h.0
outcome_told all (v ∷ us) (p ∷ os) (suc n) h = outcome_told all us os n h.1

-- its fault is that of the file
pub fault_told : (all : List UsedFile) (u : Option UsedFile) (o : Option Outcome) → HasOutcome all u o →
    fault_in o ≡ fault_by all u
fault_told all None None h = refl
fault_told all None (Some o) h = absurd h
fault_told all (Some u) None h = absurd h
fault_told all (Some u) (Some o) h = h.fault

-- its tasks are those of the file
pub tasks_told : (all : List UsedFile) (u : Option UsedFile) (o : Option Outcome) → HasOutcome all u o →
    tasks_in o [] ≡ tasks_by all u
tasks_told all None None h = refl
tasks_told all None (Some o) h = absurd h
tasks_told all (Some u) None h = absurd h
tasks_told all (Some u) (Some o) h = h.tasks

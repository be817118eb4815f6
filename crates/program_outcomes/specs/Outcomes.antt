-- The faults and tasks of the files of an application.
use Rattle.std.specs.Prelude.{◌≡◌, List, [], ◌∷◌, ◌++◌, Option, Some, None, ⊤}
use Rattle.ruby_types.specs.declared.request.RubyError.{RubyError}
use Rattle.ruby_types.specs.declared.request.Task.{Task}
use Rattle.program_files.specs.Files.{UsedFile}
use Rattle.program_files.specs.Faults.{file_fault}
use Rattle.program_files.specs.Tasks.{file_tasks}
use Rattle.program_outcomes.specs.declared.outcome.Outcome.{Outcome}

-- the file, if it is used
abbrev pub listed_one : Option UsedFile → List UsedFile
listed_one None = []
listed_one (Some file) = file ∷ []

-- the files that are used, among all
abbrev pub listed : List (Option UsedFile) → List UsedFile
listed [] = []
listed (file ∷ files) = listed_one file ++ listed files

-- what stands at a place that may lack a member, and whose member may be none
abbrev pub flat : {A : Type 0} → Option (Option A) → Option A
flat None = None
flat (Some x) = x

-- the fault of a file that is used
abbrev pub fault_by : List UsedFile → Option UsedFile → Option RubyError
fault_by all None = None
fault_by all (Some file) = file_fault all file

-- the tasks of a file that is used
abbrev pub tasks_by : List UsedFile → Option UsedFile → List Task
tasks_by all None = []
tasks_by all (Some file) = file_tasks all file

-- the fault and the tasks of a file that is used, among all that are
pub record IsOutcome (all : List UsedFile) (file : UsedFile) (outcome : Outcome) : Type 0 where
  pub fault : outcome.fault ≡ file_fault all file
  pub tasks : outcome.tasks ≡ file_tasks all file

-- the outcome of a file that is used, and of no other
abbrev pub HasOutcome : List UsedFile → Option UsedFile → Option Outcome → Type 0
HasOutcome all None None = ⊤
HasOutcome all (Some file) (Some outcome) = IsOutcome all file outcome
HasOutcome all file outcome = ⊥

-- the outcomes of these files
abbrev pub HaveOutcomes : List UsedFile → List (Option UsedFile) → List (Option Outcome) → Type 0
HaveOutcomes all [] [] = ⊤
HaveOutcomes all (file ∷ files) (outcome ∷ outcomes) = HasOutcome all file outcome × HaveOutcomes all files outcomes
HaveOutcomes all files outcomes = ⊥

-- the fault of an outcome, if there is one
abbrev pub fault_in : Option Outcome → Option RubyError
fault_in None = None
fault_in (Some outcome) = outcome.fault

-- the tasks of an outcome, and else these
abbrev pub tasks_in : Option Outcome → List Task → List Task
tasks_in None tasks = tasks
tasks_in (Some outcome) tasks = outcome.tasks

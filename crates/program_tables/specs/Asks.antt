-- What loading files asks for, by tables and outcomes.
use Rattle.std.specs.Prelude.{cond, List, [], ◌∷◌, ◌++◌, map, filter, Option, Some, None, is_some}
use Rattle.std.specs.List.{flat_map}
use Rattle.ruby_types.specs.declared.request.RubyError.{RubyError}
use Rattle.ruby_types.specs.declared.request.Task.{Task}
use Rattle.ruby_types.specs.declared.request.Task.TheVariants as task
use Rattle.program_places.specs.Paths.{Path, levels}
use Rattle.program_files.specs.Files.{UsedFile, is_above}
use Rattle.program_files.specs.Faults.{file_fault}
use Rattle.program_files.specs.Tasks.{around_files, inner_tasks}
use Rattle.program_constants.specs.Constants.{first_place}
use Rattle.program_used.specs.declared.used.UsedText.{UsedText}
use Rattle.program_outcomes.specs.declared.outcome.Outcome.{Outcome}

-- the task of a constant that is spelled
abbrev pub level_task : (spelled : List Path) → Path → List Task
level_task spelled path = cond (is_some (first_place path spelled)) (task.Const path ∷ []) []

-- the paths above a path, from the outermost on
abbrev pub levels_above : Path → List Path
levels_above path = filter (λ p. is_above p path) (levels path)

-- the tasks of the namespaces around a constant that are spelled
abbrev pub around_tasks : (spelled : List Path) → Path → List Task
around_tasks spelled path = flat_map (level_task spelled) (levels_above path)

-- all but the first
abbrev pub behind : List Task → List Task
behind [] = []
behind (t ∷ tasks) = tasks

-- what loading a file asks for that has this fault, or none
abbrev pub asks_by_fault : (spelled : List Path) → Path → List Task → Option RubyError → Option (List Task)
asks_by_fault spelled constant tasks (Some error) = None
asks_by_fault spelled constant tasks None = Some (around_tasks spelled constant ++ behind tasks)

-- what loading a file asks for that has this text and outcome
abbrev pub asks_at : (spelled : List Path) → Option UsedText → Option Outcome → Option (List Task)
asks_at spelled None outcome = None
asks_at spelled (Some used) None = None
asks_at spelled (Some used) (Some outcome) = asks_by_fault spelled used.constant outcome.tasks outcome.fault

-- what loading each of these files asks for
abbrev pub all_asks : (spelled : List Path) → List (Option UsedText) → List (Option Outcome) →
    List (Option (List Task))
all_asks spelled [] outcomes = []
all_asks spelled (text ∷ texts) [] = []
all_asks spelled (text ∷ texts) (outcome ∷ outcomes) =
    asks_at spelled text outcome ∷ all_asks spelled texts outcomes

-- what a file asks for that has this fault, or none
abbrev pub asks_in : List UsedFile → UsedFile → Option RubyError → Option (List Task)
asks_in all file (Some error) = None
asks_in all file None =
    Some (map (λ f. task.Const f.constant) (around_files all file) ++ inner_tasks file)

-- What loading a file asks for, where it is used and not at fault.
abbrev pub asks_by : List UsedFile → Option UsedFile → Option (List Task)
asks_by all None = None
asks_by all (Some file) = asks_in all file (file_fault all file)

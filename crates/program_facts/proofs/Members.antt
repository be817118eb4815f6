-- Members of lists of tasks, by the rules' test and by std's word; and what a task needs, by each.
use Rattle.std.proofs.Common.{◌≡◌, ◌↔◌, true, List, [], ◌∷◌, Some, inl, inr, sym, subst}
use Rattle.std.specs.Prelude.{Contains}
use Rattle.by_need.specs.Rounds.{Needs as NeedsByRules, itself as itself_by_rules, asked, is_in, known}
use Rattle.by_need.proofs.Rounds.{known_task}
use Rattle.ruby_types.specs.declared.request.Task.{Task}
use Rattle.ruby_types.specs.declared.value.Value.{Value}
use Rattle.task_keys.specs.Same.{same_task}
use Rattle.task_keys.proofs.SameTasks.{same_is, same_self}
use Rattle.tree_scan_sites.proofs.MemberLaws.{In, Contains-from_in, in_from_Contains}
use Rattle.program_files.specs.Members.{Among}
use Rattle.program_files.specs.Tasks.{tasks_of}
use Rattle.program_theory.specs.Applications.{Application, rules_of}
use Rattle.program_theory.proofs.Tasks.{test_is_among, among_is_tested}
use Rattle.program_theory.proofs.Lawful.{asked_is_task, rules_lawful}
use Rattle.system_events.specs.Facts.{Needs, itself, through}
use Rattle.program_facts.specs.Generations.{asked_by}

-- a test that finds a task, and equality
pub same_equal : (a b : Task) → (same_task a b ≡ true) ↔ (a ≡ b)
same_equal a b = (same_is a b, λ e. subst (λ x. same_task a x ≡ true) e (same_self a))

among_is_in : (t : Task) (ts : List Task) → Among t ts → In t ts
among_is_in t [] h = absurd h
among_is_in t (x ∷ xs) (inl e) = inl (sym e)
among_is_in t (x ∷ xs) (inr h) = inr (among_is_in t xs h)

in_is_among : (t : Task) (ts : List Task) → In t ts → Among t ts
in_is_among t [] h = absurd h
in_is_among t (x ∷ xs) (inl e) = inl (sym e)
in_is_among t (x ∷ xs) (inr h) = inr (in_is_among t xs h)

-- what the test finds is there, and the other way round
pub found_is_there : (app : Application) (t : Task) (ts : List Task) →
    (is_in (rules_of app) t ts ≡ true) ↔ Contains ts t
found_is_there app t ts = (
  λ h. Contains-from_in t ts (among_is_in t ts (test_is_among t ts h)),
  λ h. among_is_tested t ts (in_is_among t ts (in_from_Contains t ts h)),
)

-- what is asked for is a task
pub asked_is_there : (app : Application) (t u : Task) → Contains (asked_by app t) u → Contains (tasks_of app.files) u
asked_is_there app t u h = (found_is_there app u (tasks_of app.files)).0
    (asked_is_task app t u (known (rules_of app)) ((found_is_there app u (asked_by app t)).1 h))

-- what is known is of tasks
pub known_is_there : (app : Application) (t : Task) (v : Value) → known (rules_of app) t ≡ Some v →
    Contains (tasks_of app.files) t
known_is_there app t v h =
    (found_is_there app t (tasks_of app.files)).0 (known_task (rules_of app) (rules_lawful app) t v h)

-- what is needed by the rules is needed by events
pub needs_by_events : (app : Application) (t u : Task) → NeedsByRules (rules_of app) t u → Needs (asked_by app) t u
needs_by_events app t u itself_by_rules = itself
needs_by_events app t u (asked {v} n h) =
    through v u (needs_by_events app t v n) ((found_is_there app u (asked_by app v)).0 h)

-- what is needed by events is needed by the rules
pub needs_by_rules : (app : Application) (t u : Task) → Needs (asked_by app) t u → NeedsByRules (rules_of app) t u
needs_by_rules app t u itself = itself_by_rules
needs_by_rules app t u (through v w n h) =
    asked (needs_by_rules app t v n) ((found_is_there app w (asked_by app v)).1 h)

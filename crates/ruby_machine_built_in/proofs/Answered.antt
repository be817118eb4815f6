-- What a call of a built-in method answers, as the machine goes on with it.
use Rattle.std.proofs.Common.{◌≡◌, ◌≤◌, ◌-◌, ◌+◌, ℕ, Bool, true, false, List, []}
use Rattle.std.proofs.Common.{Option, Some, None, refl, sym, ap, subst}
use Rattle.std.proofs.Common.{arith}
use Rattle.std.specs.Prelude.{nat_le, if◌then◌else◌, Ok}
use Rattle.std.proofs.lemmas.Bool.{leb-true}
use Rattle.ruby_types.specs.Size.{size}
use Rattle.ruby_types.specs.declared.value.Value.{Value}
use Rattle.ruby_types.specs.declared.request.ErrorClass.{ErrorClass}
use Rattle.ruby_types.specs.declared.request.ErrorClass.TheVariants as class
use Rattle.ruby_types.specs.declared.request.RubyError.{RubyError}
use Rattle.ruby_builtin_base.specs.Answers as answers
use Rattle.ruby_builtin_base.specs.Costs.{call_sizes, cost}
use Rattle.ruby_builtin_base.specs.declared.called.Called.{Called}
use Rattle.ruby_builtin_base.specs.declared.called.Called.TheVariants as called
use Rattle.ruby_builtin.specs.Rows.{Method, built_in, built_in_called, method_called}
use Rattle.program_places.specs.Places.{Index}
use Rattle.ruby_nodes.specs.Entries.{Entry}
use Rattle.ruby_runs.specs.Doing.{Here, error_at}
use Rattle.ruby_runs.specs.BuiltIns.{built_in_call, ended_call, raised_here}
use Rattle.ruby_machine_names.specs.Profile.{profile}
use Rattle.ruby_machine_names.specs.Steps.{here_of}
use Rattle.ruby_machine_frames.specs.declared.frames.Control.TheVariants as control
use Rattle.ruby_machine_frames.specs.declared.stack.Core.{Core}
use Rattle.ruby_machine_frames.specs.Rest.{KeptFrom, gives_of, load}

-- a value costs no more than is left
abbrev Pays : ℕ → Called → Type 0
Pays left (called.Value value cost) = cost ≤ left
Pays left _ = Unit {0}

pays_within : (left cost : ℕ) (value : Value) (enough : Bool) → nat_le cost left ≡ enough →
    Pays left (if enough then called.Value value cost else answers.raised class.TurnBudget [])
pays_within left cost value true is = leb-true cost left is
pays_within left cost value false is = tt

raises_within : (left : ℕ) (class' : ErrorClass) (message : List ℕ) (enough : Bool) →
    Pays left (if enough then answers.raised class' message else answers.raised class.TurnBudget [])
raises_within left class' message true = tt
raises_within left class' message false = tt

pays_answer : (left : ℕ) (on : Value) (name : List ℕ) (args : List Value) (answer : answers.Answer) →
    Pays left (answers.called_of left on name args answer)
pays_answer left on name args (answers.Gives value) =
    pays_within left (cost (call_sizes on args) (size value)) value _ refl
pays_answer left on name args (answers.Raises class' message) = raises_within left class' message _
pays_answer left on name args answers.WrongArgument = raises_within left class.Kind (answers.wrong_argument_text name) _
pays_answer left on name args (answers.WrongCount expected) =
    raises_within left class.Argument (answers.wrong_count_text _ expected) _

pays_method : (left : ℕ) (on : Value) (name : List ℕ) (args : List Value) (method : Option Method) →
    Pays left (method_called left on name args method)
pays_method left on name args None = tt
pays_method left on name args (Some method) = pays_answer left on name args (method args)

-- the value of a built-in method costs no more than is left
pub pays : (left : ℕ) (on : Value) (name : List ℕ) (args : List Value) (value : Value) (cost : ℕ) →
    called.Value value cost ≡ built_in_called left on name args → cost ≤ left
pays left on name args value cost is =
    subst (Pays left) (sym is) (pays_method left on name args (built_in on name))

-- with its value the machine goes on
pub gives_kept : (index : Index) (known : List Entry) (m : Core) (on : Value) (name : List ℕ) (args : List Value)
    (value : Value) (cost : ℕ) → called.Value value cost ≡ built_in_called m.turns on name args → cost ≤ m.turns →
    KeptFrom index known
    (built_in_call profile (here_of m.here) on name args m.turns (gives_of index known m)) (load m + 6)
    (Ok (control.Gives value)) (record m { turns = m.turns - cost })
gives_kept index known m on name args value cost is le = (
  ap (λ called'. ended_call (here_of m.here) on name called' m.turns (gives_of index known m)) (sym is),
  omega (arith, le),
)

-- an error that isn't about turns is raised as it is, with the path of the code
pub raised_as_is : (here : Here) (error : RubyError) (class' : ErrorClass) → (class' ≡ class.TurnBudget → ⊥) →
    raised_here here error class' ≡ error_at here class' error.message
raised_as_is here error class.Name other = refl
raised_as_is here error class.NoMethod other = refl
raised_as_is here error class.Argument other = refl
raised_as_is here error class.Kind other = refl
raised_as_is here error class.ZeroDivision other = refl
raised_as_is here error class.Range other = refl
raised_as_is here error class.Key other = refl
raised_as_is here error class.Runtime other = refl
raised_as_is here error class.Syntax other = refl
raised_as_is here error class.Stack other = refl
raised_as_is here error class.Load other = refl
raised_as_is here error class.TurnBudget other = absurd (other refl)

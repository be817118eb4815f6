-- What a row of the built-in methods comes to, and what a call of it answers.
use Rattle.std.specs.Prelude.{ℕ, ◌≡◌, nat_le, if◌then◌else◌, List, [], ◌++◌, length, codes, Option, Some, None}
use Rattle.std.specs.Prelude.{Result, Ok, Err}
use Rattle.std.specs.Fmt.{decimal}
use Rattle.ruby_types.specs.Size.{size}
use Rattle.ruby_builtin_base.specs.Costs.{call_sizes, cost}
use Rattle.ruby_types.specs.declared.value.Value.{Value}
use Rattle.ruby_types.specs.declared.request.ErrorClass.{ErrorClass}
use Rattle.ruby_types.specs.declared.request.ErrorClass.TheVariants as class
use Rattle.ruby_builtin_base.specs.declared.call.Call.{Call}
use Rattle.ruby_builtin_base.specs.declared.called.Called.{Called}
use Rattle.ruby_builtin_base.specs.declared.called.Called.TheVariants as called

-- What a row comes to, whatever turns are left: a value; an error of a class with a text; an argument that isn't of
-- the kind that the row takes; another number of arguments than the row takes, which is told as it is printed.
pub data Answer : Type 0 where
  Gives : Value → Answer
  Raises : ErrorClass → List ℕ → Answer
  WrongArgument : Answer
  WrongCount : List ℕ → Answer

-- `wrong number of arguments (given 1, expected 2)`
abbrev pub wrong_count_text : ℕ → List ℕ → List ℕ
wrong_count_text given expected =
    codes "wrong number of arguments (given " ++ decimal given ++ codes ", expected " ++ expected ++ codes ")"

-- `wrong argument for 'join'`
abbrev pub wrong_argument_text : List ℕ → List ℕ
wrong_argument_text name = codes "wrong argument for '" ++ name ++ codes "'"

-- an error of a call, which knows no file
abbrev pub raised : ErrorClass → List ℕ → Called
raised class message = called.Raised (record { class = class; message = message; path = [] })

-- the answer where as many turns are left as it costs, else that the budget is spent
abbrev pub within : ℕ → ℕ → Called → Called
within left cost answer = if nat_le cost left then answer else raised class.TurnBudget []

-- What a call answers whose row comes to this, with so many turns left: a value with its cost; an error, whose own
-- size counts nothing.
abbrev pub called_of : ℕ → Value → List ℕ → List Value → Answer → Called
called_of left on name args (Gives value) =
    within left (cost (call_sizes on args) (size value)) (called.Value value (cost (call_sizes on args) (size value)))
called_of left on name args (Raises class message) =
    within left (cost (call_sizes on args) 0) (raised class message)
called_of left on name args WrongArgument =
    within left (cost (call_sizes on args) 0) (raised class.Kind (wrong_argument_text name))
called_of left on name args (WrongCount expected) =
    within left (cost (call_sizes on args) 0) (raised class.Argument (wrong_count_text (length args) expected))

-- the same of a call
abbrev pub answered : Call → Answer → Called
answered call answer = called_of call.left call.on.now call.name.now call.args.now answer

-- What a call answers whose name this row has, a function of the receiver and the arguments. A method that no row has
-- costs nothing.
abbrev pub row_answered : {On : Type 0} → Call → On → Option (On → List Value → Answer) → Called
row_answered call on None = called.NoMethod
row_answered call on (Some row) = answered call (row on call.args.now)

-- this answer, or that memory is lacking
abbrev pub OrMemory : Called → Called → Type 0
OrMemory called.Memory answer = Unit {0}
OrMemory result answer = result ≡ answer

-- The same of a row's code, which leaves early where the arguments are wrong or too few turns are left.
abbrev pub Says : Result Called Called → Called → Type 0
Says (Ok called) answer = OrMemory called answer
Says (Err called) answer = OrMemory called answer

-- `takes` makes a row from what is done with arguments of the right kind. The arguments are of it, and this is what
-- they give to each row.
abbrev pub IsRead : {X : Type 0} → ((X → Answer) → List Value → Answer) → Call → X → Type 0
IsRead {X} takes call x = (row : X → Answer) → takes row call.args.now ≡ row x

-- The arguments aren't of it, and this is what each such row answers.
abbrev pub IsRefused : {X : Type 0} → ((X → Answer) → List Value → Answer) → Call → Called → Type 0
IsRefused {X} takes call called = (row : X → Answer) → OrMemory called (answered call (takes row call.args.now))

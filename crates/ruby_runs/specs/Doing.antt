-- What gives a result from the turns that are left, and asks for tasks on its way. A run has a budget of turns: what it
-- does costs turns, and where none is left the run ends with an error.
use Rattle.std.specs.Prelude.{ℕ, zero, suc, ◌-◌, nat_le, Bool, true, false, List, [], ◌++◌, Option, Some, None, codes}
use Rattle.std.specs.Fmt.{decimal}
use Rattle.by_need.specs.Asking.{Computation, Gives, Ask, Ending, Error}
use Rattle.ruby_types.specs.declared.value.Value as value
use Rattle.ruby_types.specs.declared.request.ErrorClass.{ErrorClass}
use Rattle.ruby_types.specs.declared.request.ErrorClass.TheVariants as class
use Rattle.ruby_types.specs.declared.request.RubyError.{RubyError}
use Rattle.ruby_types.specs.declared.request.Task.{Task}
use Rattle.program_places.specs.Paths.{Path}
use Rattle.ruby_runs.specs.declared.NoReply.{NoReply}

-- A whole run: what it asks for, and the value, the error or the other end that it comes to.
abbrev pub Meaning : Type 0
Meaning = Computation Task value.Value RubyError NoReply

-- What comes after a result, with the turns that are left.
abbrev pub Going : Type 0 → Type 0
Going A = A → ℕ → Meaning

-- What gives an A: a function of the turns that are left and of what comes after.
abbrev pub Doing : Type 0 → Type 0
Doing A = ℕ → Going A → Meaning

-- It gives this, without turns.
abbrev pub pure : {A : Type 0} → A → Doing A
pure a = λ turns go. go a turns

infixl 10 ◌>>=◌
-- First the one, then the other with its result.
abbrev pub ◌>>=◌ : {A B : Type 0} → Doing A → (A → Doing B) → Doing B
p >>= f = λ turns go. p turns (λ a left. f a left go)

infixl 10 ◌>>◌
-- First the one, then the other.
abbrev pub ◌>>◌ : {A B : Type 0} → Doing A → Doing B → Doing B
p >> q = p >>= (λ _. q)

-- The run ends here.
abbrev pub ends : {A : Type 0} → Ending value.Value RubyError NoReply → Doing A
ends ending = λ turns go. Gives ending

-- Where code runs: its file, of which a request has none; its lexical scopes, innermost first; and the turns that its
-- whole run has.
pub record Here : Type 0 where
  pub file : Option (List ℕ)
  pub scopes : List Path
  pub limit : ℕ

-- the path of the file, where there is one
abbrev pub path_of : Option (List ℕ) → List ℕ
path_of None = []
path_of (Some path) = path

-- An error has the path of the file whose code is running.
abbrev pub error_at : Here → ErrorClass → List ℕ → RubyError
error_at here class message = record { class = class; message = message; path = path_of here.file }

-- The run ends with this error.
abbrev pub raise : {A : Type 0} → RubyError → Doing A
raise error = ends (Error error)

-- The run ends with an error of the code that runs here.
abbrev pub fail : {A : Type 0} → Here → ErrorClass → List ℕ → Doing A
fail here class message = raise (error_at here class message)

-- `TurnBudgetError: turn budget of 200000 spent`
abbrev pub spent : Here → RubyError
spent here = error_at here class.TurnBudget (codes "turn budget of " ++ (decimal here.limit ++ codes " spent"))

-- Begins one turn. Where none is left, it isn't begun.
abbrev pub turn : Here → Doing (Unit {0})
turn here zero go = Gives (Error (spent here))
turn here (suc left) go = go tt left

-- what comes after, where the turns were enough
abbrev pub paid : Here → Bool → ℕ → Going (Unit {0}) → Meaning
paid here true left go = go tt left
paid here false left go = Gives (Error (spent here))

-- Spends several turns at once.
abbrev pub pay : Here → ℕ → Doing (Unit {0})
pay here cost = λ turns. paid here (nat_le cost turns) (turns - cost)

-- The value of a task. Asking costs one turn, each time, whether the task was loaded or not. What its own run costs
-- counts there alone.
abbrev pub ask : Here → Task → Doing value.Value
ask here task = turn here >> (λ turns go. Ask task (λ v. go v turns))

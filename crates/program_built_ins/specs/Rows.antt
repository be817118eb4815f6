-- When rows of built-in methods give only what stands in an application.
use Rattle.std.specs.Prelude.{ℕ, List}
use Rattle.ruby_types.specs.declared.value.Value.{Value}
use Rattle.ruby_builtin_base.specs.Answers.{Answer, Gives, Raises, WrongArgument, WrongCount}
use Rattle.program_places.specs.Places.{Index}
use Rattle.program_places.specs.Tasks.{EachIs}
use Rattle.program_values.specs.Standing.{Stands}

-- nothing is asked of a receiver
abbrev pub Anything : {On : Type 0} → On → Type 0
Anything on = Unit {0}

module _ (index : Index) where
  -- the value that an answer gives stands
  abbrev pub AnswerStands : Answer → Type 0
  AnswerStands (Gives value) = Stands index value
  AnswerStands (Raises class message) = Unit {0}
  AnswerStands WrongArgument = Unit {0}
  AnswerStands (WrongCount expected) = Unit {0}

  -- what a method gives to arguments that stand stands
  abbrev pub MethodStands : (List Value → Answer) → Type 0
  MethodStands method = (args : List Value) → EachIs (Stands index) args → AnswerStands (method args)

  -- what each row gives stands, where P holds of the receiver
  abbrev pub RowsStand : {On : Type 0} → (On → Type 0) → List (List ℕ × (On → List Value → Answer)) → Type 0
  RowsStand {On} P rows = EachIs (λ row. (on : On) → P on → MethodStands (row.1 on)) rows

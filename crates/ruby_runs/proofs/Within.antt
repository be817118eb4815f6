-- What is done asks only for tasks that may be asked for, where what comes after it does.
use Rattle.std.proofs.Common.{ℕ, zero, suc, Bool, true, false, List}
use Rattle.std.specs.Prelude.{◌-◌, nat_le, if◌then◌else◌}
use Rattle.by_need.specs.Asking.{Ending}
use Rattle.ruby_types.specs.declared.value.Value.{Value}
use Rattle.ruby_types.specs.declared.request.ErrorClass.{ErrorClass}
use Rattle.ruby_types.specs.declared.request.RubyError.{RubyError}
use Rattle.ruby_types.specs.declared.request.Task.{Task}
use Rattle.ruby_runs.specs.declared.NoReply.{NoReply}
use Rattle.ruby_runs.specs.Doing.{Going, Doing, Here, pure, ◌>>=◌, ◌>>◌, ends, raise, fail, turn, paid, pay, ask}
use Rattle.ruby_runs.specs.Asked.{Bounds, MayEnd, IsWithin}

-- It asks for these alone, where what comes after does.
abbrev pub StaysWithin : Bounds → {A : Type 0} → Doing A → Type 0
StaysWithin may {A} p = (turns : ℕ) (go : Going A) → ((a : A) (left : ℕ) → IsWithin may (go a left)) →
    IsWithin may (p turns go)

module _ (may : Bounds) where
  -- a result without turns asks for nothing
  pub pure_stays_within : {A : Type 0} (a : A) → StaysWithin may (pure a)
  pure_stays_within a turns go h = h a turns

  -- one thing after another
  pub bind_stays_within : {A B : Type 0} (p : Doing A) (f : A → Doing B) → StaysWithin may p → ((a : A) →
      StaysWithin may (f a)) → StaysWithin may (p >>= f)
  bind_stays_within p f k l turns go h = k turns (λ a left. f a left go) (λ a left. l a left go h)

  -- the same, without the result of the first
  pub then_stays_within : {A B : Type 0} (p : Doing A) (q : Doing B) → StaysWithin may p → StaysWithin may q →
      StaysWithin may (p >> q)
  then_stays_within p q k l turns go h = k turns (λ a left. q left go) (λ a left. l left go h)

  -- an end that may be
  pub ends_stays_within : {A : Type 0} (e : Ending Value RubyError NoReply) → MayEnd may e →
      StaysWithin may (ends {A = A} e)
  ends_stays_within e k turns go h = k

  -- an error that ends the run
  pub raise_stays_within : {A : Type 0} (error : RubyError) → StaysWithin may (raise {A = A} error)
  raise_stays_within error turns go h = tt

  -- an error of the code that runs
  pub fail_stays_within : {A : Type 0} (here : Here) (class : ErrorClass) (message : List ℕ) →
      StaysWithin may (fail {A = A} here class message)
  fail_stays_within here class message turns go h = tt

  -- a turn, whether one is left or not
  pub turn_stays_within : (here : Here) → StaysWithin may (turn here)
  turn_stays_within here zero go h = tt
  turn_stays_within here (suc left) go h = h tt left

  paid_is_within : (here : Here) (b : Bool) (left : ℕ) (go : Going (Unit {0})) → ((u : Unit {0}) (left : ℕ) →
      IsWithin may (go u left)) → IsWithin may (paid here b left go)
  paid_is_within here true left go h = h tt left
  paid_is_within here false left go h = tt

  -- several turns
  pub pay_stays_within : (here : Here) (cost : ℕ) → StaysWithin may (pay here cost)
  pay_stays_within here cost turns go h = paid_is_within here (nat_le cost turns) (turns - cost) go h

  -- a question for a task that may be asked for
  pub ask_stays_within : (here : Here) (t : Task) → may.task t → StaysWithin may (ask here t)
  ask_stays_within here t is zero go h = tt
  ask_stays_within here t is (suc left) go h = (is, λ x. h x left)

  -- a choice between two
  pub either_stays_within : {A : Type 0} (b : Bool) (p q : Doing A) → StaysWithin may p → StaysWithin may q →
      StaysWithin may (if b then p else q)
  either_stays_within true p q k l = k
  either_stays_within false p q k l = l

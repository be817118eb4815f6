-- Two runs that go together: over what is known they come to the same, and to a value that stands.
use Rattle.std.proofs.Common.{◌≡◌, ℕ, zero, suc, Bool, true, false, List, ◌∷◌, Option, Some, None, refl, ap}
use Rattle.std.specs.Prelude.{◌-◌, nat_le, if◌then◌else◌}
use Rattle.by_need.specs.Asking as asking
use Rattle.by_need.specs.Asking.{Gives, Answer, Done, Raised, Asks, Otherwise, Outcome, over, with_value}
use Rattle.ruby_types.specs.declared.value.Value.{Value}
use Rattle.ruby_types.specs.declared.request.ErrorClass.{ErrorClass}
use Rattle.ruby_types.specs.declared.request.RubyError.{RubyError}
use Rattle.ruby_types.specs.declared.request.Task.{Task}
use Rattle.program_places.specs.Places.{Index}
use Rattle.ruby_runs.specs.declared.NoReply.{NoReply}
use Rattle.ruby_runs.specs.Doing.{Meaning, Going, Doing, Here, pure, ◌>>=◌, ends, raise, fail, turn, paid}
use Rattle.ruby_runs.specs.Doing.{pay, ask}
use Rattle.program_values.specs.Standing.{Stands, AllStand}

-- nothing is said of a result
abbrev pub Any : {A : Type 0} → A → Type 0
Any a = Unit {0}

module _ (index : Index) (K : Task → Option Value) (all : AllStand index K) where
  -- a value in the end stands
  abbrev pub EndStands : Answer Task Value RubyError NoReply → Type 0
  EndStands (Done v) = Stands index v
  EndStands (Raised error) = Unit {0}
  EndStands (Asks t) = Unit {0}
  EndStands (Otherwise end) = Unit {0}

  -- Two runs come to the same over what is known, and a value in the end stands.
  abbrev pub Agree : Meaning → Meaning → Type 0
  Agree c d = (over K c ≡ over K d) × EndStands (over K c).answer

  -- What is done by both is followed by the same results, of which P holds.
  pub record Keeps {A : Type 0} (P : A → Type 0) (p q : Doing A) : Type 0 where
    pub run : (turns : ℕ) (go next : Going A) → ((a : A) (left : ℕ) → P a → Agree (go a left) (next a left)) →
        Agree (p turns go) (q turns next)

  -- a result without turns
  pub pure_keeps : {A : Type 0} {P : A → Type 0} (a : A) → P a → Keeps P (pure a) (pure a)
  pure_keeps a h = record { run = λ turns go next each. each a turns h }

  -- one thing after another
  pub bind_keeps : {A B : Type 0} {P : A → Type 0} {Q : B → Type 0} {p q : Doing A} {f g : A → Doing B} →
      Keeps P p q → ((a : A) → P a → Keeps Q (f a) (g a)) → Keeps Q (p >>= f) (q >>= g)
  bind_keeps {f} {g} k l = record {
    run = λ turns go next each.
        k.run turns (λ a left. f a left go) (λ a left. g a left next) (λ a left h. (l a h).run left go next each);
  }

  -- less is said of a result
  pub keeps_less : {A : Type 0} {P Q : A → Type 0} {p q : Doing A} → ((a : A) → P a → Q a) → Keeps P p q → Keeps Q p q
  keeps_less to k = record { run = λ turns go next each. k.run turns go next (λ a left h. each a left (to a h)) }

  -- an end without a value
  pub raise_keeps : {A : Type 0} {P : A → Type 0} (error : RubyError) → Keeps P (raise {A = A} error) (raise error)
  raise_keeps error = record { run = λ turns go next each. (refl, tt) }

  -- an error of the code that runs
  pub fail_keeps : {A : Type 0} {P : A → Type 0} (here : Here) (class : ErrorClass) (message : List ℕ) →
      Keeps P (fail {A = A} here class message) (fail here class message)
  fail_keeps here class message = record { run = λ turns go next each. (refl, tt) }

  -- an end of a request
  pub end_keeps : {A : Type 0} {P : A → Type 0} (end : NoReply) →
      Keeps P (ends {A = A} (asking.Other end)) (ends (asking.Other end))
  end_keeps end = record { run = λ turns go next each. (refl, tt) }

  turn_runs : (here : Here) (turns : ℕ) (go next : Going (Unit {0})) →
      ((u : Unit {0}) (left : ℕ) → Any u → Agree (go u left) (next u left)) →
      Agree (turn here turns go) (turn here turns next)
  turn_runs here zero go next each = (refl, tt)
  turn_runs here (suc left) go next each = each tt left tt

  -- a turn
  pub turn_keeps : (here : Here) → Keeps Any (turn here) (turn here)
  turn_keeps here = record { run = turn_runs here }

  paid_runs : (here : Here) (b : Bool) (left : ℕ) (go next : Going (Unit {0})) →
      ((u : Unit {0}) (left : ℕ) → Any u → Agree (go u left) (next u left)) →
      Agree (paid here b left go) (paid here b left next)
  paid_runs here true left go next each = each tt left tt
  paid_runs here false left go next each = (refl, tt)

  -- several turns
  pub pay_keeps : (here : Here) (cost : ℕ) → Keeps Any (pay here cost) (pay here cost)
  pay_keeps here cost =
      record { run = λ turns go next each. paid_runs here (nat_le cost turns) (turns - cost) go next each }

  asked_runs : (t : Task) (f g : Value → Outcome Task Value RubyError NoReply) →
      ((v : Value) → Stands index v → (f v ≡ g v) × EndStands (f v).answer) → (o : Option Value) → K t ≡ o →
      (with_value t f o ≡ with_value t g o) × EndStands (with_value t f o).answer
  asked_runs t f g each None is = (refl, tt)
  asked_runs t f g each (Some v) is = let k = each v (all t v is) in
      (ap (λ x. record { answer = x.answer; asked = t ∷ x.asked }) k.0, k.1)

  ask_runs : (here : Here) (t : Task) (turns : ℕ) (go next : Going Value) →
      ((v : Value) (left : ℕ) → Stands index v → Agree (go v left) (next v left)) →
      Agree (ask here t turns go) (ask here t turns next)
  ask_runs here t zero go next each = (refl, tt)
  ask_runs here t (suc left) go next each =
      asked_runs t (λ v. over K (go v left)) (λ v. over K (next v left)) (λ v h. each v left h) (K t) refl

  -- a question, whose value stands
  pub ask_keeps : (here : Here) (t : Task) → Keeps (Stands index) (ask here t) (ask here t)
  ask_keeps here t = record { run = ask_runs here t }

  -- a choice between two
  pub either_keeps : {A : Type 0} {P : A → Type 0} (b : Bool) {p q r s : Doing A} →
      (b ≡ true → Keeps P p r) → (b ≡ false → Keeps P q s) → Keeps P (if b then p else q) (if b then r else s)
  either_keeps true k l = k refl
  either_keeps false k l = l refl

-- How a run over all that is known goes on behind a question.
use Rattle.std.proofs.Common.{◌≡◌, ◌<◌, Option, Some, None, true, false, length, refl, ◌∙◌, arith}
use Rattle.std.proofs.lemmas.Bool.{or_left, or_right}
use Rattle.by_need.specs.Asking.{Computation, Outcome, Ask, with_value, over}
use Rattle.by_need.specs.Blame.{blame}
use Rattle.by_need.specs.Laws.{Lawful}
use Rattle.by_need.specs.Load.{Gains}
use Rattle.by_need.specs.Rounds.{Rules, Part, is_in, known}
use Rattle.by_need_loader.specs.Failures.{cause}
use Rattle.by_need_loader.specs.Gained.{GainsFor}
use Rattle.by_need_loader.proofs.Gained.{gains_more}
use Rattle.by_need_loader.specs.declared.loader.Failure.{Failure}
use Rattle.by_need_answer.specs.Answers.{Answers, GoesOn}
use Rattle.by_need_answer.specs.declared.answer.Answered.TheVariants as answered

module _ {T V E O : Type 0} (r : Rules T V E O) (laws : Lawful r) where
  first_asked : (u : T) (go : V → Outcome T V E O) (o : Option V) → is_in r u (with_value u go o).asked ≡ true
  first_asked u go None = or_left (r.same u u) false (laws.same_self u)
  first_asked u go (Some v) = or_left (r.same u u) (is_in r u (go v).asked) (laws.same_self u)

  -- what is asked for next was asked for by the whole run
  pub next_asked : (whole left : Computation T V E O) (J K : T → Option V) (u : T) (k : V → Computation T V E O) →
      GoesOn r whole left J K → left ≡ Ask u k → is_in r u (over (known r) whole).asked ≡ true
  next_asked whole left J K u k on is =
      on.asked u (rw is (first_asked u (λ v. over (known r) (k v)) (known r u)))

  -- what is asked for next is loaded, and with it only what it needs
  pub gains_next : (whole left : Computation T V E O) (J K L : T → Option V) (u : T) (k : V → Computation T V E O) →
      GoesOn r whole left J K → left ≡ Ask u k → Gains r u K L → GainsFor r (over (known r) whole).asked J L
  gains_next whole left J K L u k on is more =
      gains_more r (over (known r) whole).asked J K L u on.gains (next_asked whole left J K u k on is) more

  -- what is asked for behind a value was asked for by the whole
  later_asked : (u t : T) (go : V → Outcome T V E O) (v : V) → is_in r t (go v).asked ≡ true →
      is_in r t (with_value u go (Some v)).asked ≡ true
  later_asked u t go v h = or_right (r.same t u) (is_in r t (go v).asked) h

  -- behind the value of a known task, which was loaded, the run goes on
  pub goes_on : (whole left : Computation T V E O) (J K L : T → Option V) (u : T) (k : V → Computation T V E O)
      (v : V) →
      GoesOn r whole left J K → left ≡ Ask u k → known r u ≡ Some v → Part L (known r) → Gains r u K L →
      GoesOn r whole (k v) J L
  goes_on whole left J K L u k v on is has part more = record {
    same = on.same ∙ rw (is, has) refl;
    asked = λ t h. on.asked t (rw (is, has) (later_asked u t (λ w. over (known r) (k w)) v h));
    part = part;
    gains = gains_next whole left J K L u k on is more;
  }

  -- and it has less to ask for
  pub asks_less : (left : Computation T V E O) (u : T) (k : V → Computation T V E O) (v : V) → left ≡ Ask u k →
      known r u ≡ Some v → length (over (known r) (k v)).asked < length (over (known r) left).asked
  asks_less left u k v is has = rw (is, has) (omega arith)

  -- a run that asks for a task that stays unknown has the blame of that task
  pub blamed : (whole left : Computation T V E O) (J K : T → Option V) (u : T) (k : V → Computation T V E O)
      (failure : Failure T E O) → GoesOn r whole left J K → left ≡ Ask u k → known r u ≡ None →
      blame r u ≡ cause failure → Answers r whole (answered.Blamed failure)
  blamed whole left J K u k failure on is lost why = (u, on.same ∙ rw (is, lost) refl, lost, why)

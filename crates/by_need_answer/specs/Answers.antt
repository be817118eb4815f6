-- What a run that is no task's, as that of a request is, comes to by need.
use Rattle.std.specs.Prelude.{◌≡◌, Option, None, true}
use Rattle.by_need.specs.Asking.{Computation, Done, Raised, Asks, Otherwise, over}
use Rattle.by_need.specs.Blame.{blame}
use Rattle.by_need.specs.Rounds.{Rules, Part, is_in, is_task, known}
use Rattle.by_need_loader.specs.Failures.{cause}
use Rattle.by_need_loader.specs.Gained.{GainsFor}
use Rattle.by_need_answer.specs.declared.answer.Answered.{Answered}
use Rattle.by_need_answer.specs.declared.answer.Answered.TheVariants as answered

-- What the run asks for over all that is known are tasks.
abbrev pub AsksForTasks : {T V E O : Type 0} → Rules T V E O → Computation T V E O → Type 0
AsksForTasks {T} r c = (u : T) → is_in r u (over (known r) c).asked ≡ true → is_task r u ≡ true

-- What the run comes to over all that is known. Where it waits there for a task that stays unknown, this is the blame.
abbrev pub Answers : {T V E O : Type 0} → Rules T V E O → Computation T V E O → Answered T V E O → Type 0
Answers r c (answered.Done v) = (over (known r) c).answer ≡ Done v
Answers r c (answered.Raised e) = (over (known r) c).answer ≡ Raised e
Answers r c (answered.Otherwise o) = (over (known r) c).answer ≡ Otherwise o
Answers {T} r c (answered.Blamed failure) = (u : T) × ((over (known r) c).answer ≡ Asks u)
    × (known r u ≡ None) × (blame r u ≡ cause failure)

-- What is left of a run that was begun over J ends as the whole run does, asks for tasks that the whole asks for, and
-- goes on over a part of all that is known, which has gained only what these need.
pub record GoesOn {T V E O : Type 0} (r : Rules T V E O) (whole left : Computation T V E O) (J K : T → Option V) :
    Type 0 where
  pub same : (over (known r) whole).answer ≡ (over (known r) left).answer
  pub asked : (u : T) → is_in r u (over (known r) left).asked ≡ true → is_in r u (over (known r) whole).asked ≡ true
  pub part : Part K (known r)
  pub gains : GainsFor r (over (known r) whole).asked J K

-- Two tasks, small enough to work out by hand: `a` is known, and `b` stays unknown.
use Rattle.std.specs.Prelude.{ℕ, ◌+◌, ◌==◌, Bool, true, false, List, [], ◌∷◌, Option, Some, None}
use Rattle.by_need.specs.Asking.{Asking, Gives, Ask}
use Rattle.system_events.specs.Facts.{Facts}
use Rattle.request_actor.specs.Talks.{Talks}
use Rattle.request_actor_cases.specs.declared.pair.Name.{Name}
use Rattle.request_actor_cases.specs.declared.pair.Name.TheVariants.{A, B}
use Rattle.request_actor_cases.specs.declared.pair.Wish.{Wish}
use Rattle.request_actor_cases.specs.declared.pair.Wish.TheVariants.{Nothing, First, Both}
use Rattle.request_actor_cases.specs.declared.pair.Going.{Going}
use Rattle.request_actor_cases.specs.declared.pair.Going.TheVariants.{Begun, HasFirst, HasBoth}
use Rattle.request_actor_cases.specs.declared.pair.Stopped.{Stopped}
use Rattle.request_actor_cases.specs.declared.pair.Stopped.TheVariants.{WantsFirst, WantsSecond}

-- the same task
abbrev pub same_name : Name → Name → Bool
same_name A A = true
same_name B B = true
same_name _ _ = false

-- of a program, which is a number, the value of `a` is that number; `b` has none
abbrev pub known_of : ℕ → Name → Option ℕ
known_of program A = Some program
known_of program B = None

-- what each request asks for over what is known
abbrev pub asked_of : Wish → List Name
asked_of Nothing = []
asked_of First = A ∷ []
asked_of Both = A ∷ B ∷ []

-- The reply of a request: 0 of nothing, the value of `a`, and 404 where `b` is asked for.
abbrev pub reply_of : ℕ → Wish → ℕ
reply_of program Nothing = 0
reply_of program First = program
reply_of program Both = 404

-- what is left of a run behind the value of `a`
abbrev pub behind_first : Bool → ℕ → Asking Name ℕ ℕ
behind_first false value = Gives value
behind_first true value = Ask B (λ more. Gives (value + more))

-- the run of a request
abbrev pub run_of : Wish → Asking Name ℕ ℕ
run_of Nothing = Gives 0
run_of First = Ask A (behind_first false)
run_of Both = Ask A (behind_first true)

-- what is left of a run that goes on
abbrev pub rest_of : Going → Asking Name ℕ ℕ
rest_of (Begun wish) = run_of wish
rest_of (HasFirst more value) = behind_first more value
rest_of (HasBoth value) = Gives value

-- what is left of a run that waits, behind each value
abbrev pub branch_of : Stopped → ℕ → Asking Name ℕ ℕ
branch_of (WantsFirst more) value = behind_first more value
branch_of (WantsSecond first) value = Gives (first + value)

-- the facts
abbrev pub facts : Facts Name ℕ ℕ Wish ℕ ℕ
facts = record {
  same_task = same_name;
  hash = λ task. 0;
  empty = 0;
  tasks = λ program. A ∷ B ∷ [];
  known = known_of;
  asked = λ program task. [];
  request_asked = λ program wish. asked_of wish;
  reply = reply_of;
  same_stamps = λ a b. a == b;
  changed_bytes = λ before after. 0;
  reply_bytes = λ reply. 0;
  IsProgram = λ program. Unit {0};
  IsRequest = λ wish. Unit {0};
  IsFault = λ fault. Unit {0};
}

-- the runs; the error that `b` stays unknown for is 404, and an error is its own reply
abbrev pub talks : Talks Name ℕ ℕ Wish ℕ ℕ Going Stopped
talks = record {
  whole = λ program wish. run_of wish;
  rest = rest_of;
  branch = branch_of;
  failed = λ error. error;
  blame = λ program task. 404;
}

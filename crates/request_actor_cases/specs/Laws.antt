-- The facts and the runs fit one another.
use Rattle.std.proofs.Common.{◌≡◌, ℕ, refl, sym, lit<}
use Rattle.std.specs.Prelude.{Contains}
use Rattle.std.proofs.lemmas.Bool.{true≢false}
use Rattle.system_events.specs.Facts.{SameIsEqual}
use Rattle.request_actor.specs.Talks.{AreOf, asked_over, reply_over}
use Rattle.request_actor_cases.specs.declared.pair.Name.{Name}
use Rattle.request_actor_cases.specs.declared.pair.Name.TheVariants.{A, B}
use Rattle.request_actor_cases.specs.declared.pair.Wish.{Wish}
use Rattle.request_actor_cases.specs.declared.pair.Wish.TheVariants.{Nothing, First, Both}
use Rattle.request_actor_cases.specs.Pair.{facts, talks, asked_of, known_of, run_of, reply_of}

-- `same_name` is equality
pub same_is_equal : SameIsEqual facts
same_is_equal A A = (λ same. refl, λ equal. refl)
same_is_equal B B = (λ same. refl, λ equal. refl)
same_is_equal A B = (λ same. absurd (true≢false (sym same)), λ equal. absurd (cc))
same_is_equal B A = (λ same. absurd (true≢false (sym same)), λ equal. absurd (cc))

-- both names are tasks
all_are_tasks : (program : ℕ) (task : Name) → Contains (facts.tasks program) task
all_are_tasks program A = (0, lit< tt, refl)
all_are_tasks program B = (1, lit< tt, refl)

asked_is : (program : ℕ) (wish : Wish) → asked_of wish ≡ asked_over (known_of program) (run_of wish)
asked_is program Nothing = refl
asked_is program First = refl
asked_is program Both = refl

reply_is : (program : ℕ) (wish : Wish) →
    reply_of program wish ≡ reply_over (known_of program) (λ task. 404) (run_of wish)
reply_is program Nothing = refl
reply_is program First = refl
reply_is program Both = refl

-- replies and what is asked for are those of the runs
pub are_of : AreOf facts talks
are_of = record {
  asked = asked_is;
  reply = reply_is;
  tasks = λ program wish task begins asks. all_are_tasks program task;
}

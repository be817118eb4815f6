-- What serves requests to the programs of generations serves them as their applications answer.
use Rattle.by_need.specs.Asking.{Asking}
use Rattle.ruby_types.specs.declared.value.Value.{Value}
use Rattle.ruby_types.specs.declared.request.Reply.{Reply}
use Rattle.ruby_types.specs.declared.request.Task.{Task}
use Rattle.ruby_types.specs.declared.request.Task.TheVariants as task
use Rattle.program_facts.specs.Generations.{Generations, facts_of}
use Rattle.program_facts.proofs.Members.{asked_is_there}
use Rattle.request_actor.specs.Talks.{AreOf}
use Rattle.program_requests.specs.Requests.{talks_of}
use Rattle.program_requests.proofs.Runs.{request_asks, request_replies}

-- replies, and what requests ask for, are those of their runs
pub talks_are_of : {P F G W : Type 0} (g : Generations P F) (rest : G → Asking Task Value Reply)
    (branch : W → Value → Asking Task Value Reply) → AreOf (facts_of g) (talks_of g rest branch)
talks_are_of g rest branch = record {
  asked = λ p q. request_asks (g.application p) q;
  reply = λ p q. request_replies (g.application p) q;
  tasks = λ p q t begins asks. asked_is_there (g.application p) (task.Request q) t asks;
}

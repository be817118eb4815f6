-- What is left of the run of a request on a generation.
use Rattle.std.specs.Prelude.{◌≡◌}
use Rattle.by_need.specs.Asking.{Asking, Error, Gives, Other, Value as Ends}
use Rattle.by_need_answer.specs.declared.answer.Answered.{Answered}
use Rattle.by_need_answer.specs.declared.answer.Answered.TheVariants as answered
use Rattle.ruby_types.specs.declared.value.Value.{Value}
use Rattle.ruby_types.specs.declared.request.Reply.{Reply}
use Rattle.ruby_types.specs.declared.request.RubyError.{RubyError}
use Rattle.ruby_types.specs.declared.request.Task.{Task}
use Rattle.program_application.specs.Applications.{application_of}
use Rattle.program_index.specs.Program.{index_in, nodes_in}
use Rattle.program_requests.specs.Requests.{replying}
use Rattle.ruby_machine.specs.Machines.{branch, still}
use Rattle.ruby_runs.specs.Doing.{Meaning}
use Rattle.ruby_runs.specs.declared.NoReply.{NoReply}
use Rattle.generation_runs.specs.declared.run.RequestRun.{RequestRun}

-- what is left of a run that goes on
abbrev pub left_of : RequestRun → Asking Task Value Reply
left_of run = replying (application_of run.generation) run.request
    (still (index_in run.generation) (nodes_in run.generation) run.machine.stage)

-- what is left of a waiting run behind each value that it may be given
abbrev pub branch_of : RequestRun → Value → Asking Task Value Reply
branch_of run value = replying (application_of run.generation) run.request
    (branch (index_in run.generation) (nodes_in run.generation) run.machine.stage value)

-- what is left of a run is this end; a run that ends blames no task
abbrev pub EndsAs : Meaning → Answered Task Value RubyError NoReply → Type 0
EndsAs left (answered.Done value) = left ≡ Gives (Ends value)
EndsAs left (answered.Raised error) = left ≡ Gives (Error error)
EndsAs left (answered.Otherwise end) = left ≡ Gives (Other end)
EndsAs left (answered.Blamed failure) = ⊥

use Rattle.by_need.specs.Rounds.{known}
use Rattle.ruby_types.specs.declared.request.Task.TheVariants as task
use Rattle.program_theory.specs.Applications.{index_in, rules_of}
use Rattle.program_values.proofs.Known.{done_stands}
use Rattle.program_replies.specs.Profiled.{profiled}
use Rattle.program_replies.proofs.Profiled.{profile_names_nothing_new, profiled_is_written, profiled_known_stands}
use Rattle.program_replies.proofs.Profiled.{parameters_stand}
use Rattle.program_replies.proofs.laws.request_values_stand.Goals as goal

pub returns : goal.returns
returns c = λ files controller are request formed v done. done_stands (profiled files controller)
    (profile_names_nothing_new files controller) (profiled_is_written files controller are)
    (known (rules_of (profiled files controller))) (profiled_known_stands files controller are) (task.Request request)
    (parameters_stand (index_in (profiled files controller)) request formed) v done

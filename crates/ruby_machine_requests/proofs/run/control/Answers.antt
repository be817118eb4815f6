use Rattle.ruby_types.specs.declared.value.Value.{out-Value}
use Rattle.ruby_runs.specs.Runs.{action_of, run_limits}
use Rattle.ruby_machine_names.specs.Profile.{profile}
use Rattle.ruby_machine_files.specs.Files.{finish}
use Rattle.ruby_machine_requests.specs.Requests.{called_on}
use Rattle.ruby_machine_requests.proofs.Goes.{goes_along, module_is_called}
use Rattle.ruby_machine_requests.proofs.run.control.Goals as goal

pub returns-in-Module : goal.returns-in-Module
returns-in-Module g c =
    let i = g.P.Lookups.index c.args.program.now in
    let k = g.P.Lookups.entries c.args.program.now in
    let run = c.args.run in
    let v = c.args.controller in
    goes_along i k (action_of i profile run_limits run.request run.path v (out-Value v) run.turns finish)
    (called_on i run c.in-Module.called) c.find_action.result
    (module_is_called i k run v c.in-Module.called c.in-Module.is) c.find_action.ensures

use Rattle.std.proofs.Common.{ap, ◌∙◌, ◌+◌, arith}
use Rattle.std.specs.Option.{option_map}
use Rattle.ruby_types.specs.declared.value.Value.TheVariants as value
use Rattle.program_lookups.specs.Codes.{method_of}
use Rattle.ruby_runs.specs.Runs.{action_call, run_limits}
use Rattle.ruby_machine_names.specs.Profile.{profile}
use Rattle.ruby_machine_entering.specs.Methods.{invokes}
use Rattle.ruby_machine_entering.specs.declared.entering.Giving.TheVariants as giving
use Rattle.ruby_machine_files.specs.Files.{finish}
use Rattle.ruby_machine_frames.specs.Rest.{load}
use Rattle.ruby_machine_frames.proofs.Steps.{kept_along}
use Rattle.ruby_machine_requests.proofs.Goes.{action_is_called}
use Rattle.ruby_machine_requests.proofs.run.call_action.Goals as goal

pub returns : goal.returns
returns c i k =
    let run = c.args.run in
    let on = value.Module c.args.called in
    let m = c.begun-core.result in
    let method = method_of k c.in-Some.method.now in
    let bound = load m + 9 in (
      bound,
      kept_along i k (invokes i k m giving.Value method on c.in_ok-args.args)
          (action_call i profile run_limits run.request run.path on (option_map (λ x. method_of k x.now) c.args.found)
          run.turns finish) bound bound c.invoke-next.result c.invoke-next.new.core
          (ap (λ found. action_call i profile run_limits run.request run.path on
          (option_map (λ x. method_of k x.now) found) run.turns finish) c.in-Some.is
          ∙ action_is_called i k run.request run.path on method m c.request_here-here.result value.Nil run.turns
          c.spend.new.turns c.in_ok-args.args c.begun-core.ensures c.request_here-here.ensures c.if-not-spend.ensures
          c.in_ok-args.ensures) (omega arith) (c.invoke-next.ensures i k),
    )

use Rattle.std.proofs.Common.{sym, ◌∙◌}
use Rattle.std.proofs.lemmas.Bool.{true≢false}
use Rattle.ruby_runs.specs.Runs.{routed, run_limits}
use Rattle.ruby_machine_names.specs.Profile.{profile}
use Rattle.ruby_machine_files.specs.Files.{finish}
use Rattle.ruby_machine_requests.specs.Requests.{referred}
use Rattle.ruby_machine_requests.proofs.Goes.{goes_along, routed_is}
use Rattle.ruby_machine_requests.proofs.run.begin.Goals as goal

pub returns-then-has_file : goal.returns-then-has_file
returns-then-has_file g c =
    let i = g.P.Lookups.index c.args.program.now in
    let k = g.P.Lookups.entries c.args.program.now in
    let request = c.args.request.now in
    goes_along i k (routed i profile run_limits request request.controller run_limits.request_turns finish)
    (referred i request c.in_ok-path.path) c.refer_controller.result
    (routed_is i request request.controller c.in_ok-path.path
    (λ e. true≢false (sym (c.is_empty.ensures.1 e) ∙ c.if-is_empty.false)) c.in_ok-path.ensures c.if-has_file.ensures)
    c.refer_controller.ensures

use Rattle.std.proofs.Common.{ap, ◌∙◌}
use Rattle.std.specs.Prelude.{codes}
use Rattle.ruby_types.specs.declared.request.ErrorClass.TheVariants as class
use Rattle.ruby_types.specs.declared.value.Value.{out-Value}
use Rattle.ruby_types.specs.declared.value.Value.TheVariants as value
use Rattle.ruby_runs.specs.Doing.{error_at}
use Rattle.ruby_machine_names.specs.Steps.{here_of}
use Rattle.ruby_machine_frames.specs.Rest.{raised_layer_error}
use Rattle.ruby_machine_statements.proofs.Kept.{raises_with, raised_no_text}
use Rattle.ruby_machine_statements.proofs.waiting.raised_with.Goals as goal

pub returns-in-Str : goal.returns-in-Str
returns-in-Str c =
    let here = here_of c.args.core.now.here in
    let error = error_at here class.Runtime c.in-Str.text in
    raises_with here c.args.value error c.stop_with.result
    (ap (λ v. raised_layer_error here (out-Value v)) c.in-Str.is
    ∙ ap (raised_layer_error here) (value.outs-Str c.in-Str.text)) (c.stop_with.ensures error c.error.ensures)

pub returns-in-Ok : goal.returns-in-Ok
returns-in-Ok c =
    let here = here_of c.args.core.now.here in
    let error = error_at here class.Kind (codes "exception text expected") in
    raises_with here c.args.value error c.stop_with-in-Ok.result
    (raised_no_text here c.args.value c.in_default.not-Str)
    (c.stop_with-in-Ok.ensures error (rw c.in-Ok.ensures at c.error-in-Ok.ensures))

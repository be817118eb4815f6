use Rattle.std.proofs.Common.{◌+◌, sym, ap, ◌∙◌, subst}
use Rattle.std.specs.Prelude.{Ok, Err}
use Rattle.ruby_machine_names.specs.Names.{later}
use Rattle.ruby_machine_names.specs.Steps.{WholeGoes, here_of}
use Rattle.ruby_machine_frames.specs.Rest.{KeptFrom, const_from, load, with_turns}
use Rattle.ruby_machine_operators.proofs.Resolution.{found_kept, asks_kept, fails_kept}
use Rattle.ruby_machine_operators.proofs.constants.resolved.Goals as goal

pub returns-in-Ok-Found : goal.returns-in-Ok-Found
returns-in-Ok-Found c i k d turns goes =
    let m = c.args.core.now in
    found_kept i k m d turns c.in-Ok-Found.found
    (subst (λ s. WholeGoes (later i (here_of m.here)) d turns s m.turns)
    (c.in-Ok-Found.is ∙ ap Ok c.in-Ok-Found.field-0-is) goes)

pub returns-in-Ok-Asks : goal.returns-in-Ok-Asks
returns-in-Ok-Asks c i k d turns goes =
    let m = c.args.core.now in
    asks_kept i k m d turns c.in-Ok-Asks.task c.in-Ok-Asks.wait c.need.result c.need.new.self
    (subst (λ s. WholeGoes (later i (here_of m.here)) d turns s m.turns)
    (c.in-Ok-Asks.is ∙ ap Ok c.in-Ok-Asks.field-0-is) goes) (c.need.ensures i k)

pub returns-in-Err : goal.returns-in-Err
returns-in-Err c i k d turns goes =
    let m = c.args.core.now in
    subst (λ s. KeptFrom i k (const_from i k (with_turns m turns) d) (load (with_turns m turns) + 9) (Err s) m)
    (sym c.from.ensures)
    (fails_kept i k m d turns c.in-Err.failure
    (subst (λ s. WholeGoes (later i (here_of m.here)) d turns s m.turns) c.in-Err.is goes))

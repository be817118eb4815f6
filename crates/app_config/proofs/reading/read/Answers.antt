use Rattle.std.proofs.Common.{◌≡◌, ◌+◌, Some, ap, arith}
use Rattle.app_config.specs.Loops.Left.{size_left}
use Rattle.app_config.proofs.ReadLaws.{lines_left-step, size_left-step, config-step, faults-step, faults-first}
use Rattle.app_config.proofs.reading.read.Goals as goal

pub lines-preserved : goal.lines-preserved
lines-preserved c =
    let next = lines_left-step c.in-Some.text c.lines.rest c.cut_at.result.1 c.cut_at.result.0.now
    c.trimmed_line.result.now
    c.in-Some.is c.cut_at.ensures.parts c.trimmed_line.ensures in
    let size = size_left-step c.in-Some.text.now c.cut_at.result.0.now c.cut_at.result.1 c.cut_at.ensures.length in
    let before : size_left c.lines.rest ≡ size_left (Some c.in-Some.text) = ap size_left c.in-Some.is in
    record {
      config = config-step _ c.lines.config c.add_line.new.config _ _ c.trimmed_line.result.now next
          c.in-Ok.ensures.added
          c.lines.invariant.config;
      faults = faults-step _ (c.lines.number + 1) _ _ c.trimmed_line.result.now next c.in-Ok.ensures.sound
          c.lines.invariant.faults;
      counted = omega (arith, before, size);
    }

pub returns-in-Err-clause-fault : goal.returns-in-Err-clause-fault
returns-in-Err-clause-fault c = λ other.
    let next = lines_left-step c.in-Some.text c.lines.rest c.cut_at.result.1 c.cut_at.result.0.now
    c.trimmed_line.result.now
    c.in-Some.is c.cut_at.ensures.parts c.trimmed_line.ensures in
    faults-first _ (c.lines.number + 1) c.in-Err.kind _ _ c.trimmed_line.result.now next
    (c.in-Err.ensures.fault other) c.lines.invariant.faults

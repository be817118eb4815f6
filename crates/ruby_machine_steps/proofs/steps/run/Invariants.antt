use Rattle.std.proofs.Common.{◌≡◌, ◌≤◌}
use Rattle.ruby_machine_frames.specs.Rest.{meaning, work}
use Rattle.ruby_machine_steps.proofs.steps.run.Given as goal

abbrev pub invariant-steps : goal.invariant-steps
invariant-steps g l = record {
  keeps : meaning (g.P.Lookups.index l.program) (g.P.Lookups.entries l.program) l.fn.core l.fn.now
      ≡ meaning (g.P.Lookups.index l.program) (g.P.Lookups.entries l.program) l.core l.next;
  falls : work l.core l.next ≤ work l.fn.core l.fn.now;
}

abbrev pub decreases-steps : goal.decreases-steps
decreases-steps g l = work l.core l.next

use Rattle.std.proofs.Common.{map, take}
use Rattle.std.specs.Option.{option_map}
use Rattle.program_faults.specs.Read.{used, used_all}
use Rattle.program_outcomes.specs.Outcomes.{HaveOutcomes}
use Rattle.program_outcomes.proofs.outcomes.outcomes_among.Given as goal

abbrev pub invariant-places : goal.invariant-places
invariant-places l = HaveOutcomes (used_all l.files.files.now) (map (option_map used) (take l.place l.reads))
    l.outcomes.items

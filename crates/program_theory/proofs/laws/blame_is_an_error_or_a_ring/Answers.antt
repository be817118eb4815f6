use Rattle.program_theory.proofs.Lawful.{blame_ends}
use Rattle.program_theory.proofs.laws.blame_is_an_error_or_a_ring.Goals as goal

pub returns : goal.returns
returns c = blame_ends

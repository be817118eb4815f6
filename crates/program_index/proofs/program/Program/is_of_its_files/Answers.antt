use Rattle.std.proofs.Common.{subst}
use Rattle.program_index.specs.Content.{Content}
use Rattle.program_index.specs.Program.{IsProgram}
use Rattle.program_index.proofs.program.Program.is_of_its_files.Goals as goal

pub returns : goal.returns
returns c = subst (λ (p : Content). IsProgram p.files p) c.self.view_is c.self.invariant.0

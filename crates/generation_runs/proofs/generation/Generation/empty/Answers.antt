use Rattle.std.proofs.Common.{◌∙◌, subst}
use Rattle.generation_runs.proofs.Told.{of_result}
use Rattle.generation_runs.proofs.generation.Generation.empty.Goals as goal
use Rattle.program_index.proofs.EmptyLaws.{empty_told}
use Rattle.program_index.specs.Program.{IsProgram}

pub returns-in-Ok : goal.returns-in-Ok
returns-in-Ok c = of_result c.new-in-Ok.result _ _
    (λ generation e. e ∙ empty_told c.in-Ok.program
    (subst (λ files. IsProgram files c.in-Ok.program) c.new.ensures c.in-Ok.ensures.program))
    c.new-in-Ok.ensures

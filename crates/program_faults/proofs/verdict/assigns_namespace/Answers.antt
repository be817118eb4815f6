use Rattle.program_faults.proofs.verdict.assigns_namespace.Goals as goal

pub is_namespace-requires : goal.is_namespace-requires
is_namespace-requires c = c.args.file.now.named

use Rattle.reloader.proofs.tests.wrap_again.Goals as goal

pub wrap-requires-clause-keeps : goal.wrap-requires-clause-keeps
wrap-requires-clause-keeps g c = λ given inside left returned. cc

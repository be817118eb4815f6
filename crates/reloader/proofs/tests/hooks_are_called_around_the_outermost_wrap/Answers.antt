use Rattle.reloader.proofs.tests.hooks_are_called_around_the_outermost_wrap.Goals as goal

pub wrap-inner_depth-requires-clause-keeps : goal.wrap-inner_depth-requires-clause-keeps
wrap-inner_depth-requires-clause-keeps g c = λ given inside left returned. cc

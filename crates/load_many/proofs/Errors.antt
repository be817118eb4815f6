-- The errors of the tasks that failed.
use Rattle.std.proofs.Common.{◌≡◌, List, [], ◌∷◌, ◌++◌, length, refl, ap}
use Rattle.std.specs.Prelude.{map}
use Rattle.by_need_check.specs.Checks.{causes}
use Rattle.by_need_loader.specs.Failures.{cause}
use Rattle.by_need_loader.specs.declared.loader.Failure.{Failure}
use Rattle.ruby_types.specs.declared.request.RubyError.{RubyError}
use Rattle.ruby_types.specs.declared.request.Task.{Task}
use Rattle.ruby_runs.specs.declared.NoReply.{NoReply}
use Rattle.load_many.specs.Unknown.{with_error}

-- one failure more has its error behind the others
pub errors_more : (failed : List (Task × Failure Task RubyError NoReply))
    (last : Task × Failure Task RubyError NoReply) →
    map with_error (causes (failed ++ last ∷ [])) ≡
    map with_error (causes failed) ++ with_error (last.0, cause last.1) ∷ []
errors_more [] last = refl
errors_more (f ∷ failed) last = ap (λ errors. with_error (f.0, cause f.1) ∷ errors) (errors_more failed last)

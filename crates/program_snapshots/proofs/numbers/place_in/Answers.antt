use Rattle.std.proofs.Common.{rules}
use Rattle.std.proofs.lemmas.Fn.{always_returns_same}
use Rattle.outside.specs.Order.{order}
use Rattle.program_snapshots.proofs.numbers.place_in.Goals as goal

-- the closure compares a file's path with the path
pub returns-clause-position : goal.returns-clause-position
returns-clause-position c =
    c.binary_search_by.ensures.position (λ f. order f.path c.args.path.now)
    (always_returns_same _ _ _ (λ a r g called. (search rules, search rules)))

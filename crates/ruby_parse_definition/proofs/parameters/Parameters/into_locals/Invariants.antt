use Rattle.std.proofs.Common.{◌≡◌, ◌++◌, map, length}
use Rattle.ruby_parse_definition.proofs.parameters.Parameters.into_locals.Given as goal

abbrev pub invariant-names : goal.invariant-names
invariant-names l = l.fn.self ≡ map (λ name. name.now) l.names.items ++ l.locals

abbrev pub decreases-names : goal.decreases-names
decreases-names l = length l.names.items

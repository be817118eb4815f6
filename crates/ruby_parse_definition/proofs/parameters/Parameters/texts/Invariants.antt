use Rattle.std.proofs.Common.{◌≡◌, map, take}
use Rattle.ruby_parse_definition.proofs.parameters.Parameters.texts.Given as goal

abbrev pub invariant-names : goal.invariant-names
invariant-names l = l.texts ≡ map (λ name. name.now) (take l.name-index l.name-items)

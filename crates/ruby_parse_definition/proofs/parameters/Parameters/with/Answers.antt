use Rattle.ruby_parse_definition.proofs.ParameterLaws.{has_same_more}
use Rattle.ruby_parse_definition.proofs.parameters.Parameters.with.Goals as goal

pub invariant_of-result : goal.invariant_of-result
invariant_of-result c = has_same_more (λ name. name.now) c.self.inside.names.items c.push.new.self.items c.args.name
    c.self.inside.known c.insert.new.self c.in_ok-push.ensures.items c.in_ok-insert.ensures c.self.invariant

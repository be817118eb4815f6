use Rattle.ruby_parse_definition.proofs.ParameterLaws.{copied_more}
use Rattle.ruby_parse_definition.proofs.parameters.Parameters.texts.Goals as goal

pub names-preserved : goal.names-preserved
names-preserved c = copied_more (λ name. name.now) c.deref-name-items.result.now c.names.name-index _ c.names.texts
    c.push.new.self c.in_ok-from_bytes.field-0 c.names-test.true c.names.invariant c.in_ok-from_bytes.ensures
    c.in_ok-push.ensures.ok

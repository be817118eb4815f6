use Rattle.std.proofs.Common.{◌++◌, ap, ◌∙◌, arith}
use Rattle.ruby_print.proofs.Joins.{names-more}
use Rattle.ruby_print.proofs.pieces.push_names.Goals as goal

pub names-preserved : goal.names-preserved
names-preserved c =
    names-more _ _ c.name-item.result _ _ c.push_comma.new.written.items _ _
    (omega arith) c.name-item.is c.names.invariant c.in_ok-push_comma.ensures
    (c.in_ok-extend_from_slice.ensures.items ∙ ap (λ t. c.push_comma.new.written.items ++ t) c.as_bytes.ensures)

use Rattle.std.proofs.Common.{arith}
use Rattle.ruby_print.specs.Definitions.{symbol}
use Rattle.ruby_print.proofs.Joins.{joined-more}
use Rattle.ruby_print.proofs.pieces.push_symbols.Goals as goal

pub names-preserved : goal.names-preserved
names-preserved c =
    joined-more symbol _ _ c.name-item.result _ _ c.push_comma.new.written.items _ _
    (omega arith) c.name-item.is c.names.invariant c.in_ok-push_comma.ensures c.in_ok-push_symbol.ensures

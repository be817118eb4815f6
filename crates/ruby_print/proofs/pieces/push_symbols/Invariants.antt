use Rattle.std.proofs.Common.{◌≡◌, ◌++◌, take, map}
use Rattle.ruby_print.specs.Pieces.{joined}
use Rattle.ruby_print.specs.Definitions.{symbol}
use Rattle.ruby_print.proofs.Joins.{is_nil}
use Rattle.ruby_print.proofs.pieces.push_symbols.Given as goal

abbrev pub invariant-names : goal.invariant-names
invariant-names l = (l.first ≡ is_nil (take l.name-index l.names))
    × (l.written.items ≡ l.initial.written.items ++ joined (map symbol (take l.name-index l.names)))

use Rattle.std.proofs.Common.{◌≡◌, ◌++◌, length}
use Rattle.ruby_grammar.specs.Values.{double_text}
use Rattle.ruby_parse_cursor.proofs.texts.double_text.Given as goal

abbrev pub invariant-bytes : goal.invariant-bytes
invariant-bytes l = double_text l.fn.piece ≡ l.bytes ++ double_text l.rest

abbrev pub decreases-bytes : goal.decreases-bytes
decreases-bytes l = length l.rest

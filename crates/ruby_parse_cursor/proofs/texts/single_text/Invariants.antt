use Rattle.std.proofs.Common.{◌≡◌, ◌++◌, length}
use Rattle.ruby_grammar.specs.Values.{single_text}
use Rattle.ruby_parse_cursor.proofs.texts.single_text.Given as goal

abbrev pub invariant-bytes : goal.invariant-bytes
invariant-bytes l = single_text l.fn.piece ≡ l.bytes ++ single_text l.rest

abbrev pub decreases-bytes : goal.decreases-bytes
decreases-bytes l = length l.rest

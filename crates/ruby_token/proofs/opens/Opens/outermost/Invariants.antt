use Rattle.std.proofs.Common.{◌≡◌, drop}
use Rattle.ruby_token.specs.Opens.{first_text}
use Rattle.ruby_token.proofs.opens.Opens.outermost.Given as goal

abbrev pub invariant-loop-open : goal.invariant-loop-open
invariant-loop-open l = first_text (drop l.open-index l.open-items) ≡ first_text l.open-items

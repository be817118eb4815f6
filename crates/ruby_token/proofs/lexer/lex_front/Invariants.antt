use Rattle.std.proofs.Common.{◌≡◌, ◌≤◌, ◌-◌, drop, length}
use Rattle.ruby_token.specs.Cut.{put}
use Rattle.ruby_token.specs.Reading.{read, outcome_of}
use Rattle.ruby_token.proofs.lexer.lex_front.Given as goal

abbrev pub invariant-lexemes : goal.invariant-lexemes
invariant-lexemes l = record {
  within : l.at ≤ length l.front;
  brackets : l.state.brackets ≤ l.at;
  reads : put l.tokens (read l.is_whole l.state l.at 0 (drop l.at l.front)) ≡ outcome_of l.is_whole l.front;
}

abbrev pub decreases-lexemes : goal.decreases-lexemes
decreases-lexemes l = length l.front - l.at

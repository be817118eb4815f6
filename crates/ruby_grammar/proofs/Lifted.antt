-- The rules beside meet the laws of lifting.
use Rattle.descent.proofs.Lifts.{Lifts}
use Rattle.ruby_grammar.specs.Language.{ruby_grammar}
use Rattle.ruby_grammar.specs.Choices.{ruby_choices}
use Rattle.ruby_grammar.proofs.Beside.{More, ruby_lift}
use Rattle.ruby_grammar.proofs.Paired.{among_beside}
use Rattle.ruby_grammar.proofs.Picks.{takes, nothing_beside, depth_beside, bar_beside}
use Rattle.ruby_grammar.proofs.Opened.{opens, unbars}

-- the rules beside meet each law of a lift: what is too deep, or barred, could go on with more
pub lifts : (m : More) → Lifts ruby_grammar ruby_choices (ruby_lift m)
lifts m = record {
  among = among_beside m;
  takes = takes m;
  nothing_beside = nothing_beside m;
  depth_beside = depth_beside m;
  bar_beside = bar_beside m;
  opens = opens m;
  unbars = unbars m;
}

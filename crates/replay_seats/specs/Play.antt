-- What is true of the matter of a replay.
use Rattle.by_need.specs.Rounds.{Rules}
use Rattle.by_need_loader.specs.Runs.{Runs}
use Rattle.system_events.specs.declared.event.Cause.{Cause}
use Rattle.system_events.specs.Facts.{Facts}
use Rattle.request_actor.specs.Talks.{Talks}
use Rattle.replay_matter.specs.Words.{Words}
use Rattle.reload_matter.specs.Sources.{Sources}
use Rattle.seat_steps.specs.Theories.{Theories, theories_by}

-- Tasks, values, programs and requests; their runs; how steps are told; what programs are of files; how tasks are
-- loaded.
pub record Play (M T V P Q R F G W E X O H U N : Type 0) : Type 1 where
  pub facts : Facts T V P Q R F
  pub talks : Talks T V P Q R E G W
  pub words : Words T P Q R (Cause M T V P Q R F)
  pub sources : Sources P F
  pub theories : Theories T V P X O H U N

-- the same of what a matter has
abbrev pub play_of : {M T V P Q R F G W E X O H U N Y : Type 0} → Facts T V P Q R F → Talks T V P Q R E G W →
    Words T P Q R (Cause M T V P Q R F) → Sources P F → (Y → Rules T V X O) → (Y → Runs T V X O H U N) → (P → Y) →
    Play M T V P Q R F G W E X O H U N
play_of facts talks words sources rules runs theory_of = record {
  facts = facts;
  talks = talks;
  words = words;
  sources = sources;
  theories = theories_by rules runs theory_of;
}

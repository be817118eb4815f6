use Rattle.std.proofs.Common.{◌≡◌, ◌≤◌, ◌+◌, length, map}
use Rattle.app_config.specs.Loops.Left.{parts_left, size_left}
use Rattle.app_config.specs.Text.{without_return}
use Rattle.app_config.specs.Configuration.{collected, entries, configuration, faults_from, faults}
use Rattle.app_config.proofs.ReadLaws.{joined}
use Rattle.app_config.proofs.reading.read.Given as goal

abbrev pub invariant-lines : goal.invariant-lines
invariant-lines l = record {
  config : joined l.config (collected (entries (map without_return (parts_left 10 l.rest)))) ≡ configuration l.bytes;
  faults : faults_from (l.number + 1) (map without_return (parts_left 10 l.rest)) ≡ faults l.bytes;
  counted : l.number + size_left l.rest ≤ length l.bytes + 1;
}

abbrev pub decreases-lines : goal.decreases-lines
decreases-lines l = size_left l.rest

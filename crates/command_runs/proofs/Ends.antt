-- How commands end.
use Rattle.std.proofs.Common.{◌≡◌, ℕ, List, Option, ◌==◌}
use Rattle.std.proofs.Common.{refl}
use Rattle.outside.specs.Faults.{Counts}
use Rattle.outside.specs.Told.{appended}
use Rattle.outside.specs.declared.files.FileEntry.{FileEntry}
use Rattle.command_runs.specs.Output.{code_of, EndsOn, IsReached, IsAfterReading, Writes}
use Rattle.command_runs.specs.Output.{KnownOutput, too_long, not_built}
use Rattle.command_runs.specs.declared.outcome.Outcome.{Outcome}
use Rattle.command_runs.specs.declared.outcome.Outcome.TheVariants.{Done, Negative, FaultyWords, FilesUnread}
use Rattle.command_runs.specs.declared.outcome.Outcome.TheVariants.{WriteFault, Memory, Refused, NotBuilt}

-- an answer on files ends as answers do
pub ends_reached : (files : List FileEntry) (own : Outcome) → EndsOn files own → IsReached own
ends_reached files Done e = tt
ends_reached files Negative e = tt
ends_reached files FaultyWords e = absurd e
ends_reached files FilesUnread e = absurd e
ends_reached files WriteFault e = absurd e
ends_reached files Memory e = absurd e
ends_reached files Refused e = tt
ends_reached files NotBuilt e = tt

-- an answer that no file decides ends as answers do
pub known_reached : (words : List (List ℕ)) (output : List ℕ) (own : Outcome) → KnownOutput words output own →
    IsReached own
known_reached words output own (too_long h) = tt
known_reached words output own (not_built h) = tt

-- what is reached comes after the files are read, and is no fault of a write
pub reached_after_reading : (outcome : Outcome) → IsReached outcome → IsAfterReading outcome
reached_after_reading Done reached = tt
reached_after_reading Negative reached = tt
reached_after_reading FaultyWords reached = absurd reached
reached_after_reading FilesUnread reached = absurd reached
reached_after_reading WriteFault reached = absurd reached
reached_after_reading Memory reached = absurd reached
reached_after_reading Refused reached = tt
reached_after_reading NotBuilt reached = tt

-- an end that is an answer's own counts no fault of a write, as the sink counted none
pub no_write_fault : (outcome : Outcome) (before now : ℕ) → IsReached outcome → now ≡ before →
    Counts (code_of outcome == 4) before now
no_write_fault Done before now reached same = same
no_write_fault Negative before now reached same = same
no_write_fault FaultyWords before now reached same = absurd reached
no_write_fault FilesUnread before now reached same = absurd reached
no_write_fault WriteFault before now reached same = absurd reached
no_write_fault Memory before now reached same = absurd reached
no_write_fault Refused before now reached same = same
no_write_fault NotBuilt before now reached same = same

-- what was reached was written whole
pub written_whole : (output : List ℕ) (own : Outcome) (before now : Option (List ℕ)) → IsReached own →
    now ≡ appended before output → Writes output own own before now
written_whole output Done before now reached is = (refl, is)
written_whole output Negative before now reached is = (refl, is)
written_whole output FaultyWords before now reached is = absurd reached
written_whole output FilesUnread before now reached is = absurd reached
written_whole output WriteFault before now reached is = absurd reached
written_whole output Memory before now reached is = absurd reached
written_whole output Refused before now reached is = (refl, is)
written_whole output NotBuilt before now reached is = (refl, is)

-- the tree's count stood still
pub no_tree_fault : (outcome : Outcome) (before now : ℕ) → IsAfterReading outcome → now ≡ before →
    Counts (code_of outcome == 3) before now
no_tree_fault Done before now own same = same
no_tree_fault Negative before now own same = same
no_tree_fault FaultyWords before now own same = absurd own
no_tree_fault FilesUnread before now own same = absurd own
no_tree_fault WriteFault before now own same = same
no_tree_fault Memory before now own same = same
no_tree_fault Refused before now own same = same
no_tree_fault NotBuilt before now own same = same

-- A matter of files of which the length of the first counts alone. Nothing asks for anything.
use Rattle.std.specs.Prelude.{◌≡◌, ℕ, ◌==◌, nat_le, true, false, Bool, List, [], ◌∷◌, Option, Some, None}
use Rattle.std.specs.Prelude.{Result, Ok, Err}
use Rattle.std.specs.Prelude.{if◌then◌else◌, slice_get, refl}
use Rattle.std.proofs.Common.{eq-eqb, ap}
use Rattle.std.proofs.lemmas.Bool.{eqb-true}
use Rattle.outside.specs.declared.files.FileEntry.{FileEntry}
use Rattle.outside.specs.declared.files.Stamp.{Stamp}
use Rattle.outside.specs.Tree.{stamps_of}
use Rattle.system_events.specs.Facts.{Facts, SameIsEqual}
use Rattle.reload_matter.specs.Sources.{Sources}

-- A program is a number, which is also its changed bytes. A task's value is its own number, and a reply is 0.
abbrev pub lengths : Facts ℕ ℕ ℕ ℕ ℕ ℕ
lengths = record {
  same_task = λ a b. a == b;
  hash = λ task. task;
  empty = 0;
  tasks = λ program. [];
  known = λ program task. Some task;
  asked = λ program task. [];
  request_asked = λ program request. [];
  reply = λ program request. 0;
  same_stamps = λ a b. b == a;
  changed_bytes = λ before after. after;
  reply_bytes = λ reply. reply;
  IsProgram = λ program. Unit {0};
  IsRequest = λ request. Unit {0};
  IsFault = λ fault. Unit {0};
}

-- the length of a file by its stamp, or 0
abbrev pub stamp_length : Option (List ℕ × Stamp) → ℕ
stamp_length None = 0
stamp_length (Some file) = file.1.length

-- the length of a file, or 0
abbrev pub file_length : Option FileEntry → ℕ
file_length None = 0
file_length (Some file) = file.stamp.length

-- the length of the first file, or 0
abbrev pub first_length : List (List ℕ × Stamp) → ℕ
first_length stamps = stamp_length (slice_get stamps 0)

-- the first file has the length of its stamp
pub first_is : (files : List FileEntry) → first_length (stamps_of files) ≡ file_length (slice_get files 0)
first_is [] = refl
first_is (file ∷ files) = refl

-- a first file of 1,000 bytes or more exceeds a limit
abbrev pub limit_of : ℕ → Option ℕ
limit_of n = if nat_le 1000 n then Some n else None

-- a first file of 13 bytes is at fault
abbrev pub faulty : Result ℕ ℕ
faulty = Err 13

-- the program of a first file of so many bytes
abbrev pub program_of : ℕ → Result ℕ ℕ
program_of n = if n == 13 then faulty else Ok n

-- what programs are of files
abbrev pub first_lengths : Sources ℕ ℕ
first_lengths = record {
  limit = λ stamps. limit_of (first_length stamps);
  has_stamps = λ program stamps. program == first_length stamps;
  Builds = λ files answer. answer ≡ program_of (first_length (stamps_of files));
}

-- two tasks are the same where their numbers are
pub same_task_is : SameIsEqual lengths
same_task_is a b = (λ same. eqb-true a b same, λ is. eq-eqb a b is)

-- a program that was built is the length
pub built_is : (n program : ℕ) → Ok program ≡ program_of n → program ≡ n
built_is n program is = by (n == 13) is
  where
    by : (b : Bool) → Ok program ≡ (if b then faulty else Ok n) → program ≡ n
    by true at = absurd (cc)
    by false at = cc

-- it has the stamps of its files
pub built_has_stamps : (files : List FileEntry) (program : ℕ) → first_lengths.Builds files (Ok program) →
    first_lengths.has_stamps program (stamps_of files) ≡ true
built_has_stamps files program is = eq-eqb program _ (built_is _ program is)

-- another program has the same stamps where it has those of the files
pub built_same_stamps : (files : List FileEntry) (next program : ℕ) → first_lengths.Builds files (Ok next) →
    lengths.same_stamps next program ≡ first_lengths.has_stamps program (stamps_of files)
built_same_stamps files next program is = ap (λ n. program == n) (built_is _ next is)

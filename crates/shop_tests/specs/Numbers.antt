-- A matter of numbers, small enough to work out by hand. Nothing asks for anything.
use Rattle.std.specs.Prelude.{◌≡◌, ℕ, ◌+◌, ◌==◌, true, [], ◌∷◌, Some}
use Rattle.std.proofs.Common.{eq-eqb}
use Rattle.std.proofs.lemmas.Bool.{eqb-true}
use Rattle.system_events.specs.Facts.{Facts, SameIsEqual}

-- A program is a number, which is also its stamps and its changed bytes. A task's value is the sum of the program's
-- number and its own, and so is the reply of a request.
abbrev pub numbers : Facts ℕ ℕ ℕ ℕ ℕ ℕ
numbers = record {
  same_task = λ a b. a == b;
  hash = λ task. task;
  empty = 0;
  tasks = λ program. 1 ∷ 2 ∷ 3 ∷ [];
  known = λ program task. Some (program + task);
  asked = λ program task. [];
  request_asked = λ program request. [];
  reply = λ program request. program + request;
  same_stamps = λ a b. a == b;
  changed_bytes = λ before after. after;
  reply_bytes = λ reply. reply;
  IsProgram = λ program. Unit {0};
  IsRequest = λ request. Unit {0};
  IsFault = λ fault. Unit {0};
}

-- two tasks are the same where their numbers are
pub same_number : SameIsEqual numbers
same_number a b = (λ same. eqb-true a b same, λ is. eq-eqb a b is)

-- Three letters as tasks, small enough to work out by hand. C asks for B; A and B ask for nothing.
use Rattle.std.specs.Prelude.{ℕ, ◌+◌, ◌==◌, Bool, true, false, List, [], ◌∷◌, Some}
use Rattle.system_events.specs.Facts.{Facts}
use Rattle.system_core_cases.specs.declared.letters.Letter.{Letter}
use Rattle.system_core_cases.specs.declared.letters.Letter.TheVariants.{A, B, C}

-- the same letter
abbrev pub same_letter : Letter → Letter → Bool
same_letter A A = true
same_letter B B = true
same_letter C C = true
same_letter _ _ = false

-- A is 1, B is 2, C is 3
abbrev pub number_of : Letter → ℕ
number_of A = 1
number_of B = 2
number_of C = 3

-- the number by which a letter is looked up: B and C have the same
abbrev pub hash_of : Letter → ℕ
hash_of A = 1
hash_of B = 2
hash_of C = 2

-- what a letter asks for
abbrev pub asked_by : Letter → List Letter
asked_by C = B ∷ []
asked_by _ = []

-- A program is a number, which is also its stamps and its changed bytes. A letter's value is the sum of the program's
-- number and its own. A request is a letter, asks for that letter alone, and is answered by its value, of so many
-- bytes.
abbrev pub letters : Facts Letter ℕ ℕ Letter ℕ ℕ
letters = record {
  same_task = same_letter;
  hash = hash_of;
  empty = 0;
  tasks = λ program. A ∷ B ∷ C ∷ [];
  known = λ program letter. Some (program + number_of letter);
  asked = λ program letter. asked_by letter;
  request_asked = λ program request. request ∷ [];
  reply = λ program request. program + number_of request;
  same_stamps = λ a b. a == b;
  changed_bytes = λ before after. after;
  reply_bytes = λ reply. reply;
  IsProgram = λ program. Unit {0};
  IsRequest = λ request. Unit {0};
  IsFault = λ fault. Unit {0};
}

-- Right histories: what one thread would have answered. No lock, table or load is named.
use Rattle.std.specs.Prelude.{◌≡◌, ℕ, ◌==◌, Bool, true, false, if◌then◌else◌, List, [], ◌∷◌, ◌++◌, Option, Some, None}
use Rattle.system_events.specs.declared.event.Entry.{Entry}
use Rattle.system_events.specs.declared.event.Kept.{Kept}
use Rattle.system_events.specs.declared.event.Kept.TheVariants.{Reload, Begin, End}
use Rattle.system_events.specs.Facts.{Facts}

module _ {M T V P Q R F : Type 0} where
  -- a Reload or a Begin
  abbrev pub is_of_thread : Kept M T V P Q R F → Bool
  is_of_thread (Reload program) = true
  is_of_thread (Begin request) = true
  is_of_thread _ = false

  -- the Reloads and Begins of a history, in order: what one thread would do
  abbrev pub one_thread : List (Entry M T V P Q R F) → List (Entry M T V P Q R F)
  one_thread [] = []
  one_thread (entry ∷ entries) =
      if is_of_thread entry.kept then (entry ∷ one_thread entries) else one_thread entries

  -- the program in force after an entry
  abbrev pub program_after : P → Kept M T V P Q R F → P
  program_after program (Reload next) = next
  program_after program _ = program

  -- the last Begin of seat k after an entry: the program that was in force, and the request
  abbrev pub begun_after : ℕ → P → Option (P × Q) → ℕ → Kept M T V P Q R F → Option (P × Q)
  begun_after k program found seat (Begin request) = if seat == k then Some (program, request) else found
  begun_after k program found seat _ = found

  -- The last Begin of seat k in a list, with the program of the last Reload before it. The list begins with a program
  -- in
  -- force, and with a Begin that was found before it, if any.
  -- After Reload P1, Begin r of seat 2, Reload P2 the last Begin of seat 2 is r on P1.
  abbrev pub last_begin : ℕ → P → Option (P × Q) → List (Entry M T V P Q R F) → Option (P × Q)
  last_begin k program found [] = found
  last_begin k program found (entry ∷ entries) =
      last_begin k (program_after program entry.kept) (begun_after k program found entry.seat entry.kept) entries

module _ {M T V P Q R F : Type 0} (f : Facts T V P Q R F) where
  -- Each End carries the reply of its seat's last Begin before it, on the program of the last Reload that stands before
  -- that Begin in the one thread.
  abbrev pub IsRight : List (Entry M T V P Q R F) → Type 0
  IsRight history =
      (before later : List (Entry M T V P Q R F)) (k : ℕ) (reply : R) →
      history ≡ before ++ (record { seat = k; kept = End reply }) ∷ later →
      (program : P) × ((request : Q) × ((last_begin k f.empty None (one_thread before) ≡ Some (program, request))
      × (reply ≡ f.reply program request)))

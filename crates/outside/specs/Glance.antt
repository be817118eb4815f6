-- What a tree in memory keeps of what it gave.
use Rattle.std.specs.Prelude.{◌≡◌, ◌⊎◌, ℕ, ◌≤◌, List, Some, None, cond, Contains}
use Rattle.outside.specs.Tree.{Given, stamps_of}
use Rattle.outside.specs.declared.files.FileEntry.{FileEntry}
use Rattle.outside.specs.declared.glance.Glance.{Glance}

-- the item that stands for it in what the tree gave
abbrev pub given_of : Glance → Given
given_of glance = record { stamps = stamps_of glance.files; snapshot = cond glance.whole (Some glance.files) None }

-- this file is held, or was held when something was given
abbrev pub IsSeen : (held : List FileEntry) → (glances : List Glance) → FileEntry → Type 0
IsSeen held glances file = Contains held file
    ⊎ ((glance : Glance) × Contains glances glance × Contains glance.files file)

-- Each seen file has the number of the write that made it as its time: no later number was given, and a number says
-- which bytes were written.
pub record IsNumbered (held : List FileEntry) (glances : List Glance) (writes : ℕ) : Type 0 where
  pub numbered : (f : FileEntry) → IsSeen held glances f → f.stamp.time ≤ writes
  pub unique : (f g : FileEntry) → IsSeen held glances f → IsSeen held glances g → f.stamp.time ≡ g.stamp.time →
      f.bytes ≡ g.bytes

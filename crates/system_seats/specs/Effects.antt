-- What each event makes of the seats. All rows but the seat's own stay, and so do the places of the other seats.
use Rattle.std.specs.Prelude.{ℕ, if◌then◌else◌, Option, Some, None, is_some, List, slice_set}
use Rattle.share_lock.specs.Rows.{eligible}
use Rattle.share_lock.specs.Lock.{Lock, changed_at, taken_by, released, with_share, without_share, seeking, releasing}
use Rattle.share_lock.specs.Lock.{yielded, restored}
use Rattle.system_seats.specs.declared.guard.Purpose.{Purpose}
use Rattle.system_seats.specs.declared.guard.Purpose.TheVariants.{Load, Unload}
use Rattle.system_seats.specs.Seats.{Seats, Marks, mark, row, is_calm, purpose_bit, purpose_list}

-- the places of all seats, with these of one seat
abbrev pub with_marks : Seats → ℕ → Marks → List Marks
with_marks s k m = slice_set s.marks k m

-- the seat's places, with a section that was opened at this place, or none
abbrev pub with_section : Seats → ℕ → Option ℕ → Marks
with_section s k place = record (mark s k) { section = place }

-- one share more
abbrev pub after_share : Seats → ℕ → Seats
after_share s k = record s { lock = changed_at s.lock k with_share }

-- one share less
abbrev pub after_unshare : Seats → ℕ → Seats
after_unshare s k = record s { lock = changed_at s.lock k without_share }

-- the share is put aside, and loads and new shares are admitted
abbrev pub after_yield : Seats → ℕ → Seats
after_yield s k = record s { lock = changed_at s.lock k (yielded 1) }

-- the share comes back
abbrev pub after_retake : Seats → ℕ → Seats
after_retake s k = record s { lock = changed_at s.lock k restored }

-- the share is put aside, and the seat seeks; this entry opens its section
abbrev pub after_seek : Seats → ℕ → Purpose → ℕ → Seats
after_seek s k purpose place = record {
  lock = changed_at s.lock k (seeking (purpose_bit purpose) (purpose_list purpose));
  marks = with_marks s k (with_section s k (Some place));
}

-- The seat is exclusive. One that was calm opens its section now; one that sought keeps the place where it began to.
abbrev pub after_take : Seats → ℕ → ℕ → Seats
after_take s k place =
    if is_calm (row s k).phase
    then record { lock = taken_by k s.lock; marks = with_marks s k (with_section s k (Some place)) }
    else record s { lock = taken_by k (changed_at s.lock k restored) }

-- a section of a seat that runs is a load
abbrev pub purpose_of_section : Marks → Purpose
purpose_of_section m = if is_some m.running then Load else Unload

-- no seat is exclusive; where some waiting seat can go first by the list, this seat waits
abbrev pub release_lock : Lock → ℕ → ℕ → Lock
release_lock lock k list =
    if eligible list lock.rows then released (changed_at lock k (releasing list)) else released lock

-- no seat is exclusive, and the section is over
abbrev pub after_release : Seats → ℕ → Seats
after_release s k = record {
  lock = release_lock s.lock k (purpose_list (purpose_of_section (mark s k)));
  marks = with_marks s k (with_section s k None);
}

-- the share comes back
abbrev pub after_resume : Seats → ℕ → Seats
after_resume s k = record s { lock = changed_at s.lock k restored }

-- the seat runs the request of the Begin at this place
abbrev pub after_begin : Seats → ℕ → ℕ → Seats
after_begin s k place = record s { marks = with_marks s k (record (mark s k) { running = Some place }) }

-- the seat runs nothing
abbrev pub after_end : Seats → ℕ → Seats
after_end s k = record s { marks = with_marks s k (record (mark s k) { running = None }) }

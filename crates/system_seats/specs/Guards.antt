-- The guards of each event on the seats, in order. The first one that is true refuses the event.
-- `Pending when test else others` is read: refused as Pending where the test holds, else by the guards that follow.
-- So a
-- definition below lists a row's guards in the order in which they are tried.
use Rattle.std.specs.Prelude.{ℕ, ◌==◌, Bool, true, false, not, ◌||◌, ◌&&◌, if◌then◌else◌, Option, Some, None, is_some}
use Rattle.share_lock.specs.declared.seat.Row.{Row}
use Rattle.share_lock.specs.declared.seat.Phase.{Phase}
use Rattle.share_lock.specs.declared.seat.Phase.TheVariants.{Calm, Seeking, Releasing}
use Rattle.share_lock.specs.Rows.{holds_shares, another_exclusive, busy_share, busy_exclusive, eligible}
use Rattle.system_seats.specs.declared.guard.Purpose.{Purpose}
use Rattle.system_seats.specs.declared.guard.Purpose.TheVariants.{Load, Unload}
use Rattle.system_seats.specs.declared.guard.Guard.{Guard}
use Rattle.system_seats.specs.declared.guard.Guard.TheVariants.{Pending, Sharing, BusyShare, NoShare, Exclusive}
use Rattle.system_seats.specs.declared.guard.Guard.TheVariants.{Running}
use Rattle.system_seats.specs.declared.guard.Guard.TheVariants.{NotYielded, OtherExclusive, NotRunning, InTable}
use Rattle.system_seats.specs.declared.guard.Guard.TheVariants.{NotBusy}
use Rattle.system_seats.specs.declared.guard.Guard.TheVariants.{WrongWant, BusyExclusive, NotExclusive, NotReleasing}
use Rattle.system_seats.specs.declared.guard.Guard.TheVariants.{StillEligible, NotLoading, NotUnloading}
use Rattle.system_seats.specs.Seats.{Seats, row, runs_at, is_owner, is_calm, is_releasing, has_yield, purpose_bit}

infixr 2 ◌when◌else◌
-- the guard, where the test holds, and else the ones that follow
abbrev pub ◌when◌else◌ : Guard → Bool → Option Guard → Option Guard
guard when true else others = Some guard
guard when false else others = others

-- ON THE SEAT'S OWN ROW
-- What each row of the table says of the seat's own row alone: the lock's row r, whether the seat runs a request, and
-- whether it is exclusive. The guards that look further follow.

-- Pending: the phase isn't Calm. Sharing: the seat has a share, an open yield, or is exclusive.
abbrev pub own_share : Row → Bool → Bool → Option Guard → Option Guard
own_share r runs owner others =
    Pending when not (is_calm r.phase) else
    Sharing when holds_shares r || has_yield r || owner else
    others

-- the seat has no share, is exclusive, or runs a request
abbrev pub own_unshare : Row → Bool → Bool → Option Guard → Option Guard
own_unshare r runs owner others =
    NoShare when not (holds_shares r) else
    Exclusive when owner else
    Running when runs else
    others

-- the seat has no share, is exclusive, or runs no request
abbrev pub own_yield : Row → Bool → Bool → Option Guard → Option Guard
own_yield r runs owner others =
    NoShare when not (holds_shares r) else
    Exclusive when owner else
    NotRunning when not runs else
    others

-- the phase isn't Calm, or no yield is open
abbrev pub own_retake : Row → Bool → Bool → Option Guard → Option Guard
own_retake r runs owner others =
    NotYielded when not (is_calm r.phase) || not (has_yield r) else
    others

-- A load is asked for by a seat that runs a request, and of a task that isn't in the table. An unload is asked for by a
-- seat that runs none.
abbrev pub own_want : Purpose → Bool → Bool → Option Guard → Option Guard
own_want Load runs in_table others =
    NotRunning when not runs else
    InTable when in_table else
    others
own_want Unload runs in_table others =
    Running when runs else
    others

-- the seat has no share, is exclusive, or can't ask for this
abbrev pub own_seek : Purpose → Row → Bool → Bool → Bool → Option Guard → Option Guard
own_seek purpose r runs owner in_table others =
    NoShare when not (holds_shares r) else
    Exclusive when owner else
    own_want purpose runs in_table others

-- A seat that seeks is to seek this want: for this purpose, and, as `wanted` says, for this task.
abbrev pub seeks_this : Purpose → Bool → Phase → Bool
seeks_this purpose wanted Calm = false
seeks_this purpose wanted (Seeking p) = p == purpose_bit purpose && wanted
seeks_this purpose wanted (Releasing list) = false

-- WrongWant: the phase isn't Calm, and the seat doesn't seek this want. Where it doesn't seek, the guards of a Seek
-- follow. A seat that seeks a load may take although the task was defined meanwhile.
abbrev pub own_take : Purpose → Row → Bool → Bool → Bool → Bool → Option Guard → Option Guard
own_take purpose r runs owner in_table wanted others =
    if is_calm r.phase then own_seek purpose r runs owner in_table others
    else (WrongWant when not (seeks_this purpose wanted r.phase) else others)

-- the seat isn't exclusive
abbrev pub own_release : Row → Bool → Bool → Option Guard → Option Guard
own_release r runs owner others =
    NotExclusive when not owner else
    others

-- the seat doesn't wait after a release
abbrev pub own_resume : Row → Bool → Bool → Option Guard → Option Guard
own_resume r runs owner others =
    NotReleasing when not (is_releasing r.phase) else
    others

-- the seat has no share, or runs a request already
abbrev pub own_begin : Row → Bool → Bool → Option Guard → Option Guard
own_begin r runs owner others =
    NoShare when not (holds_shares r) else
    Running when runs else
    others

-- the seat runs no request, has no share, or is exclusive
abbrev pub own_end : Row → Bool → Bool → Option Guard → Option Guard
own_end r runs owner others =
    NotRunning when not runs else
    NoShare when not (holds_shares r) else
    Exclusive when owner else
    others

-- the seat isn't exclusive for a load, which is the section of a seat that runs a request
abbrev pub own_define : Row → Bool → Bool → Option Guard → Option Guard
own_define r runs owner others =
    NotLoading when not (owner && runs) else
    others

-- the seat isn't exclusive for an unload, which is the section of a seat that runs no request
abbrev pub own_reload : Row → Bool → Bool → Option Guard → Option Guard
own_reload r runs owner others =
    NotUnloading when not (owner && not runs) else
    others

-- ON ALL SEATS

-- Share, at last: another seat is exclusive, or waits with a list that admits no new shares
abbrev pub share_guard : Seats → ℕ → Option Guard
share_guard s k =
    own_share (row s k) (runs_at s k) (is_owner s k)
    (BusyShare when busy_share s.lock.rows s.lock.exclusive k 7 else None)

-- Unshare looks at the seat's own row alone
abbrev pub unshare_guard : Seats → ℕ → Option Guard
unshare_guard s k = own_unshare (row s k) (runs_at s k) (is_owner s k) None

-- Yield looks at the seat's own row alone
abbrev pub yield_guard : Seats → ℕ → Option Guard
yield_guard s k = own_yield (row s k) (runs_at s k) (is_owner s k) None

-- Retake, at last: another seat is exclusive
abbrev pub retake_guard : Seats → ℕ → Option Guard
retake_guard s k =
    own_retake (row s k) (runs_at s k) (is_owner s k)
    (OtherExclusive when another_exclusive s.lock.exclusive k else None)

-- Seek, at last: the exclusive side isn't busy, so the seat may take at once
abbrev pub seek_guard : Seats → ℕ → Purpose → Bool → Option Guard
seek_guard s k purpose in_table =
    own_seek purpose (row s k) (runs_at s k) (is_owner s k) in_table
    (NotBusy when not (busy_exclusive s.lock.rows s.lock.exclusive k (purpose_bit purpose)) else None)

-- Take, at last: another seat is exclusive, waits with a list that lacks this purpose, or has a share
abbrev pub take_guard : Seats → ℕ → Purpose → Bool → Bool → Option Guard
take_guard s k purpose in_table wanted =
    own_take purpose (row s k) (runs_at s k) (is_owner s k) in_table wanted
    (BusyExclusive when busy_exclusive s.lock.rows s.lock.exclusive k (purpose_bit purpose) else None)

-- Release looks at the seat's own row alone
abbrev pub release_guard : Seats → ℕ → Option Guard
release_guard s k = own_release (row s k) (runs_at s k) (is_owner s k) None

-- the list of a seat that waits after a release
abbrev pub list_of_phase : Phase → ℕ
list_of_phase Calm = 0
list_of_phase (Seeking purpose) = 0
list_of_phase (Releasing list) = list

-- Resume, at last: some seat is exclusive, or some waiting seat still goes first
abbrev pub resume_guard : Seats → ℕ → Option Guard
resume_guard s k =
    own_resume (row s k) (runs_at s k) (is_owner s k)
    (OtherExclusive when is_some s.lock.exclusive else
    StillEligible when eligible (list_of_phase (row s k).phase) s.lock.rows else
    None)

-- Begin, of the seats at last: some seat is exclusive
abbrev pub begin_guard : Seats → ℕ → Option Guard
begin_guard s k =
    own_begin (row s k) (runs_at s k) (is_owner s k)
    (Exclusive when is_some s.lock.exclusive else None)

-- End looks at the seat's own row alone
abbrev pub end_guard : Seats → ℕ → Option Guard
end_guard s k = own_end (row s k) (runs_at s k) (is_owner s k) None

-- Define looks at no other seat
abbrev pub define_guard : Seats → ℕ → Option Guard
define_guard s k = own_define (row s k) (runs_at s k) (is_owner s k) None

-- Reload looks at no other seat
abbrev pub reload_guard : Seats → ℕ → Option Guard
reload_guard s k = own_reload (row s k) (runs_at s k) (is_owner s k) None

-- What an act makes of its own seat's row.
use Rattle.std.specs.Prelude.{ℕ, Bool, if◌then◌else◌, Some, None, is_some}
use Rattle.share_lock.specs.Lock.{with_share, without_share, seeking, releasing, yielded, restored}
use Rattle.system_seats.specs.declared.table.SystemRow.{SystemRow}
use Rattle.system_seats.specs.declared.guard.Purpose.TheVariants.{Load, Unload}
use Rattle.system_seats.specs.Seats.{is_calm, purpose_bit, purpose_list}
use Rattle.system_events.specs.declared.event.Cause.TheVariants.{Memory}
use Rattle.system_events.specs.declared.event.Kept.{Kept}
use Rattle.system_events.specs.declared.event.Kept.TheVariants.{Share, Unshare, Yield, Retake, Seek, Take, Release}
use Rattle.system_events.specs.declared.event.Kept.TheVariants.{Resume, Begin, End, Refuse}
use Rattle.system_events.specs.State.{purpose_of}

-- the list with which a seat of this row releases
abbrev pub list_of : SystemRow → ℕ
list_of r = purpose_list (if is_some r.running then Load else Unload)

module _ {M T V P Q R F : Type 0} where
  -- The row after an act that is entered at this place. The test says whether another seat goes first at a release.
  abbrev pub next_row : Bool → ℕ → SystemRow → Kept M T V P Q R F → SystemRow
  next_row first place r Share = record r { lock = with_share r.lock }
  next_row first place r Unshare = record r { lock = without_share r.lock }
  next_row first place r Yield = record r { lock = yielded 1 r.lock }
  next_row first place r Retake = record r { lock = restored r.lock }
  next_row first place r (Seek want) = record {
    lock = seeking (purpose_bit (purpose_of want)) (purpose_list (purpose_of want)) r.lock;
    running = r.running;
    section = Some place;
  }
  next_row first place r (Take want) =
      if is_calm r.lock.phase then record r { section = Some place } else record r { lock = restored r.lock }
  next_row first place r Release = record {
    lock = if first then releasing (list_of r) r.lock else r.lock;
    running = r.running;
    section = None;
  }
  next_row first place r Resume = record r { lock = restored r.lock }
  next_row first place r (Begin request) = record r { running = Some place }
  next_row first place r (End reply) = record r { running = None }
  next_row first place r (Refuse Memory) = record r { running = None }
  next_row first place r _ = r

-- What a pass holds.
use Rattle.std.specs.Prelude.{◌≡◌, ℕ, Option, None}
use Rattle.turn_lock.specs.Tickets.{TicketView}
use Rattle.system_events.specs.declared.event.Entry.{Entry}
use Rattle.system_events.specs.Facts.{Facts}
use Rattle.system_events.specs.Legal.{after}
use Rattle.shop_base.specs.declared.row.PassRow.{PassRow}
use Rattle.shop_base.specs.Passes.{PassView, seat_limit, IsPass}

module _ {D M T V P Q R F : Type 0} where
  -- what contracts see of a pass that holds this ticket, and this task that it seeks
  abbrev pub pass_view : TicketView D (Entry M T V P Q R F) PassRow → Option T → PassView M T V P Q R F
  pass_view t sought = record {
    shop = t.lock;
    number = t.number;
    next = t.next;
    seen = t.seen;
    row = t.row;
    sought = sought;
  }

  -- It is between turns, and keeps what every pass keeps and the generation in force after what it has seen.
  pub record IsHeld
      (f : Facts T V P Q R F) (t : TicketView D (Entry M T V P Q R F) PassRow) (number : ℕ) (sought : Option T)
      : Type 0 where
    pub idle : t.turn ≡ None
    pub pass : IsPass f (pass_view t sought)
    pub generation : number ≡ (after f seat_limit t.seen).counts.generation

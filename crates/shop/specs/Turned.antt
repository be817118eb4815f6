-- What a turn did to a pass.
use Rattle.std.specs.Prelude.{◌≡◌}
use Rattle.turn_lock.specs.Entries.{Lags}
use Rattle.system_events.specs.Facts.{Facts}
use Rattle.system_events.specs.Legal.{IsAfter}
use Rattle.shop_base.specs.Passes.{PassView, seat_of, moved}
use Rattle.shop_desk.specs.Ledgers.{Ledger, desk_row}

module _ {M T V P Q R F : Type 0} (f : Facts T V P Q R F) where
  -- The desk that the turn was handed begins with what the pass had seen, has no entry of its number behind that, and
  -- has its row. The pass then has the row, and has seen the history, of the desk that the turn left.
  pub record Turned (makes : Ledger M T V P Q R F → Ledger M T V P Q R F → Type 0) (old new : PassView M T V P Q R F)
      : Type 0 where
    pub before : Ledger M T V P Q R F
    pub now : Ledger M T V P Q R F
    pub was_after : IsAfter f 64 before.state
    pub is_after : IsAfter f 64 now.state
    pub lags : Lags seat_of old.number old.seen before.state.history
    pub row : desk_row before old.number ≡ old.row
    pub makes_it : makes before now
    pub is : new ≡ moved old (desk_row now old.number) now.state.history

-- What a conversation makes of a pass.
use Rattle.connection_items.specs.declared.ends.End.{End}
use Rattle.connection_items.specs.Exchanges.{items_in, added_in, entries_of}
use Rattle.connection_items.specs.Rules.{Rules}
use Rattle.connection_items.specs.Ends.{Sight, Conversation}
use Rattle.serve_port.specs.Became.{Became}

-- a pass has all that it had before a conversation
pub became_in : {P I E R H F : Type 0} (rules : Rules P I E R H F) (start now : Sight I E R H) (end : End F) →
    Conversation rules start now end → Became start.standing now.standing
became_in rules start now end c = record {
  seen = c.gains.seen;
  items = (items_in c.talk, c.gains.items);
  entries = (entries_of (added_in c.talk c.further), c.gains.entries);
}

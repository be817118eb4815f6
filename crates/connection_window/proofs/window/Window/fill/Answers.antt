use Rattle.std.proofs.Common.{◌≡◌, ◌+◌, ◌++◌, take, drop, ap, ◌∙◌, arith}
use Rattle.std.proofs.Common.{length-take, length-drop}
use Rattle.std.proofs.lemmas.List.{with_items_is}
use Rattle.std.specs.Vec.{with_items}
use Rattle.connection_window.specs.Fills.{window}
use Rattle.connection_window.proofs.Windows.{window_more, window_same}
use Rattle.connection_window.proofs.window.Window.fill.Goals as goal

pub returns-in-Got-clause-bytes : goal.returns-in-Got-clause-bytes
returns-in-Got-clause-bytes g c =
    let from = c.make_room-from.result.0 in
    let to = c.make_room-from.result.1 in
    let n = c.in-Got.count in
    let old = c.make_room-from.new.bytes in
    let new = c.read_behind.new.bytes in
    let items : (with_items (with_items c.self.inside.bytes old) new).items ≡ new =
    with_items_is (with_items c.self.inside.bytes old) new (c.read_behind.auto.bytes ∙ c.deref_mut-2.ensures.len) in
    let lent : c.deref_mut-2.result.now ≡ old =
    c.deref_mut-2.ensures.value
    ∙ with_items_is c.self.inside.bytes old (c.make_room-from.auto.bytes ∙ c.deref_mut.ensures.len) in
    let kept : take to new ≡ take to old = c.read_behind.ensures.kept ∙ ap (take to) lent in
    let moved : window old from to ≡ c.args.self.now =
    c.make_room-from.ensures.same
    ∙ ap (λ xs. window xs c.self.inside.from c.self.inside.to) c.deref_mut.ensures.value ∙ c.self.view_is in
    record {
      piece = take n (drop to new);
      some = omega (arith, length-take n (drop to new), length-drop to new, c.in-Got.ensures.piece);
      behind = ap (λ xs. window xs from (to + n)) items
          ∙ window_more old new from to n c.make_room-from.ensures.room.0 kept
          ∙ ap (λ xs. xs ++ take n (drop to new)) moved;
      left = c.in-Got.ensures.bytes;
      read = c.in-Got.ensures.told;
    }

pub returns-in-End-clause-bytes : goal.returns-in-End-clause-bytes
returns-in-End-clause-bytes g c =
    let from = c.make_room-from.result.0 in
    let to = c.make_room-from.result.1 in
    let old = c.make_room-from.new.bytes in
    let new = c.read_behind.new.bytes in
    let items : (with_items (with_items c.self.inside.bytes old) new).items ≡ new =
    with_items_is (with_items c.self.inside.bytes old) new (c.read_behind.auto.bytes ∙ c.deref_mut-2.ensures.len) in
    let lent : c.deref_mut-2.result.now ≡ old =
    c.deref_mut-2.ensures.value
    ∙ with_items_is c.self.inside.bytes old (c.make_room-from.auto.bytes ∙ c.deref_mut.ensures.len) in
    let kept : take to new ≡ take to old = c.read_behind.ensures.kept ∙ ap (take to) lent in
    let moved : window old from to ≡ c.args.self.now =
    c.make_room-from.ensures.same
    ∙ ap (λ xs. window xs c.self.inside.from c.self.inside.to) c.deref_mut.ensures.value ∙ c.self.view_is in (
      record {
        same = ap (λ xs. window xs from to) items
            ∙ window_same old new from to c.make_room-from.ensures.room.0 kept ∙ moved;
        left = c.in-End.ensures.bytes;
        read = c.in-End.ensures.told;
      },
      c.in-End.ensures.end,
    )

pub returns-in-Failed-clause-bytes : goal.returns-in-Failed-clause-bytes
returns-in-Failed-clause-bytes g c =
    let from = c.make_room-from.result.0 in
    let to = c.make_room-from.result.1 in
    let old = c.make_room-from.new.bytes in
    let new = c.read_behind.new.bytes in
    let items : (with_items (with_items c.self.inside.bytes old) new).items ≡ new =
    with_items_is (with_items c.self.inside.bytes old) new (c.read_behind.auto.bytes ∙ c.deref_mut-2.ensures.len) in
    let lent : c.deref_mut-2.result.now ≡ old =
    c.deref_mut-2.ensures.value
    ∙ with_items_is c.self.inside.bytes old (c.make_room-from.auto.bytes ∙ c.deref_mut.ensures.len) in
    let kept : take to new ≡ take to old = c.read_behind.ensures.kept ∙ ap (take to) lent in
    let moved : window old from to ≡ c.args.self.now =
    c.make_room-from.ensures.same
    ∙ ap (λ xs. window xs c.self.inside.from c.self.inside.to) c.deref_mut.ensures.value ∙ c.self.view_is in
    record {
      same = ap (λ xs. window xs from to) items
          ∙ window_same old new from to c.make_room-from.ensures.room.0 kept ∙ moved;
      left = c.in-Failed.ensures.bytes;
      read = c.in-Failed.ensures.told;
    }

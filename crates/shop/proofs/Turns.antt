-- What a pass holds after a turn.
use Rattle.std.specs.Prelude.{Result, Ok, Err, IfOk, OnOk, OnErr}
use Rattle.std.proofs.Common.{◌≡◌, ◌≢◌, ℕ, ◌<◌, ◌≤◌, List, [], ◌∷◌}
use Rattle.std.proofs.Common.{◌++◌, Option, Some, None, refl, sym, ap, ◌∙◌, subst}
use Rattle.std.proofs.Common.{append_assoc, ◌⊎◌, inl, inr, Bool, true}
use Rattle.std.proofs.Common.{false, if◌then◌else◌, nat_le, length, max, arith}
use Rattle.std.proofs.Math.Nat.{max-eq_left, max-eq_right}
use Rattle.turn_lock.specs.Entries.{NoneOf, Lags, Begins, longer}
use Rattle.turn_lock.specs.Tickets.{TicketView, GainsOne, after_leaving, split_ticket}
use Rattle.turn_lock.proofs.Histories.{none-append, lags_refl, lags-trans}
use Rattle.system_events.specs.declared.event.Entry.{Entry}
use Rattle.system_events.specs.declared.event.Kept.{Kept}
use Rattle.system_events.specs.Facts.{Facts}
use Rattle.system_events.specs.State.{State}
use Rattle.system_events.specs.Legal.{after, IsLegal, IsAfter}
use Rattle.shop_base.specs.declared.row.PassRow.{PassRow}
use Rattle.shop_base.specs.Rows.{seat_row, at_rest}
use Rattle.shop_base.specs.Passes.{PassView, seat_of, entry, moved, Made}
use Rattle.shop_base.proofs.Later.{lags_row, unused_row, generation_of_longer}
use Rattle.shop_desk.specs.Ledgers.{Ledger, desk_row, OneMore, setting_aside}
use Rattle.shop.specs.Held.{pass_view, IsHeld}
use Rattle.shop.specs.Turned.{Turned}

-- one of two lists has what both have
longer_is : {A : Type 0} (Holds : List A → Type 0) (a b : List A) → Holds a → Holds b → Holds (longer a b)
longer_is Holds a b at_a at_b = by (nat_le (length b) (length a))
  where
    by : (t : Bool) → Holds (if t then a else b)
    by true = at_a
    by false = at_b

module _ {M T V P Q R F : Type 0} (f : Facts T V P Q R F) where
  -- after a turn that left this desk
  pub held_left : (d : Ledger M T V P Q R F)
      (t left : TicketView (Ledger M T V P Q R F) (Entry M T V P Q R F) PassRow) (number : ℕ)
      (sought : Option T) → left ≡ after_leaving (λ x. x.state.history) desk_row d t →
      IsAfter f 64 d.state → number ≡ d.state.counts.generation → IsHeld f left number sought
  held_left d t left number sought is_left is number_is =
      subst (λ (x : TicketView (Ledger M T V P Q R F) (Entry M T V P Q R F) PassRow). IsHeld f x number sought)
      (sym is_left) (record {
        idle = refl;
        pass = record {
          legal = is.legal;
          row = ap (λ (s : State M T V P Q R F). seat_row s.seats t.number) is.state;
        };
        generation = number_is ∙ ap (λ (s : State M T V P Q R F). s.counts.generation) is.state;
      })

  -- a pass that is split off
  pub held_split : (t new : TicketView (Ledger M T V P Q R F) (Entry M T V P Q R F) PassRow)
      (number : ℕ) (sought : Option T) → IsHeld f t number sought → new ≡ split_ticket at_rest t →
      NoneOf seat_of t.next t.seen → IsHeld f new number None
  held_split t new number sought held is none =
      subst (λ (x : TicketView (Ledger M T V P Q R F) (Entry M T V P Q R F) PassRow). IsHeld f x number None)
      (sym is) (record {
        idle = refl;
        pass = record {
          legal = held.pass.legal;
          row = sym (unused_row f 64 t.next t.seen none);
        };
        generation = held.generation;
      })

  -- the pass that took in another one
  pub held_joined : (t other new : TicketView (Ledger M T V P Q R F) (Entry M T V P Q R F) PassRow)
      (number theirs longest : ℕ) (sought their_sought : Option T) → IsHeld f t number sought →
      IsHeld f other theirs their_sought → new ≡ record t { seen = longer t.seen other.seen } →
      Lags seat_of t.number t.seen new.seen → Begins other.seen new.seen → longest ≡ max number theirs →
      IsHeld f new longest sought
  held_joined t other new number theirs longest sought their_sought held held_other is new_lags new_begins is_max =
      let seen : List (Entry M T V P Q R F) = longer t.seen other.seen in
      let seen_is : new.seen ≡ seen =
      ap (λ (x : TicketView (Ledger M T V P Q R F) (Entry M T V P Q R F) PassRow). x.seen) is in
      let lags : Lags seat_of t.number t.seen seen = subst (Lags seat_of t.number t.seen) seen_is new_lags in
      let begins_it : Begins other.seen seen = subst (Begins other.seen) seen_is new_begins in
      let legal : IsLegal f 64 seen =
      longer_is (IsLegal f 64) t.seen other.seen held.pass.legal held_other.pass.legal in
      let mine = generation_of_longer f 64 t.seen seen held.pass.legal (lags.more, lags.is) in
      let others = generation_of_longer f 64 other.seen seen held_other.pass.legal begins_it in
      let either : ((after f 64 seen).counts.generation ≡ (after f 64 t.seen).counts.generation)
      ⊎ ((after f 64 seen).counts.generation ≡ (after f 64 other.seen).counts.generation) =
      longer_is (λ l. ((after f 64 l).counts.generation ≡ (after f 64 t.seen).counts.generation)
      ⊎ ((after f 64 l).counts.generation ≡ (after f 64 other.seen).counts.generation)) t.seen other.seen
      (inl refl) (inr refl) in
      let mine_is = held.generation in
      let theirs_is = held_other.generation in
      subst (λ (x : TicketView (Ledger M T V P Q R F) (Entry M T V P Q R F) PassRow). IsHeld f x longest sought)
      (sym is) (record {
        idle = held.idle;
        pass = record {
          legal = legal;
          row = held.pass.row ∙ sym (lags_row f 64 t.number t.seen seen held.pass.legal lags);
        };
        generation = elim either [
          | inl e ↦ is_max ∙ (max-eq_left (omega (arith, e, mine_is, theirs_is, others)) ∙ (mine_is ∙ sym e))
          | inr e ↦ is_max ∙ (max-eq_right (omega (arith, e, mine_is, theirs_is, mine)) ∙ (theirs_is ∙ sym e))
        ];
      })

module _ {M T V P Q R F : Type 0} where
  -- what a desk gained, as the lock asks for it
  pub gains_one : (before d : Ledger M T V P Q R F)
      (t entered : TicketView (Ledger M T V P Q R F) (Entry M T V P Q R F) PassRow) (n : ℕ) →
      entered ≡ record t { seen = before.state.history; turn = Some before } → n ≡ t.number → OneMore n before d →
      GainsOne (λ x. x.state.history) seat_of entered d
  gains_one before d t entered n is same one =
      let seen_is : entered.seen ≡ before.state.history =
      ap (λ (x : TicketView (Ledger M T V P Q R F) (Entry M T V P Q R F) PassRow). x.seen) is in
      let number_is : entered.number ≡ t.number =
      ap (λ (x : TicketView (Ledger M T V P Q R F) (Entry M T V P Q R F) PassRow). x.number) is in
      elim one [
        | inl kept ↦ inl (kept ∙ sym seen_is)
        | inr more ↦
            inr (more.0, more.1 ∙ (same ∙ sym number_is), more.2 ∙ ap (λ l. l ++ more.0 ∷ []) (sym seen_is))
      ]

  -- a turn that left the desk as it was handed it left the pass as it was, but for what it has seen
  pub unmoved : (before d : Ledger M T V P Q R F)
      (t entered left : TicketView (Ledger M T V P Q R F) (Entry M T V P Q R F) PassRow) (sought : Option T)
      (p : PassView M T V P Q R F) → pass_view t sought ≡ p →
      entered ≡ record t { seen = before.state.history; turn = Some before } →
      left ≡ after_leaving (λ x. x.state.history) desk_row d entered →
      Lags seat_of t.number t.seen before.state.history → desk_row before t.number ≡ t.row → d ≡ before →
      (pass_view left sought ≡ moved p p.row left.seen) × Lags seat_of p.number p.seen left.seen
  unmoved before d t entered left sought p view_is is_entered is_left lags row_is same =
      let whole : left ≡ after_leaving (λ x. x.state.history) desk_row before
      (record t { seen = before.state.history; turn = Some before }) =
      is_left ∙ (λ i. after_leaving (λ (x : Ledger M T V P Q R F). x.state.history) desk_row (same i) (is_entered
      i)) in
      let seen_is : left.seen ≡ before.state.history =
      ap (λ (x : TicketView (Ledger M T V P Q R F) (Entry M T V P Q R F) PassRow). x.seen) whole in
      subst (λ (x : PassView M T V P Q R F).
      (pass_view left sought ≡ moved x x.row left.seen) × Lags seat_of x.number x.seen left.seen) view_is (
        ap (λ (x : TicketView (Ledger M T V P Q R F) (Entry M T V P Q R F) PassRow). pass_view x sought) whole
            ∙ (λ i. moved (pass_view t sought) (row_is i) (sym seen_is i)),
        subst (Lags seat_of t.number t.seen) (sym seen_is) lags,
      )

  -- the pass's row before and after a turn, as the desks have it
  pub turn_rows : (before d : Ledger M T V P Q R F)
      (t entered left : TicketView (Ledger M T V P Q R F) (Entry M T V P Q R F) PassRow) (sought : Option T)
      (p : PassView M T V P Q R F) (n : ℕ) → pass_view t sought ≡ p →
      entered ≡ record t { seen = before.state.history; turn = Some before } →
      left ≡ after_leaving (λ x. x.state.history) desk_row d entered → desk_row before t.number ≡ t.row →
      n ≡ t.number → (left.row ≡ desk_row d n) × (desk_row before n ≡ p.row)
  turn_rows before d t entered left sought p n view_is is_entered is_left row_is same = (
    ap (λ (x : TicketView (Ledger M T V P Q R F) (Entry M T V P Q R F) PassRow). x.row) is_left
        ∙ (ap (λ (x : TicketView (Ledger M T V P Q R F) (Entry M T V P Q R F) PassRow). desk_row d x.number) is_entered
        ∙ ap (desk_row d) (sym same)),
    ap (desk_row before) same ∙ (row_is ∙ ap (λ (x : PassView M T V P Q R F). x.row) view_is),
  )

  -- a turn that left the pass this row
  pub moved_turn : (before d : Ledger M T V P Q R F)
      (t entered left : TicketView (Ledger M T V P Q R F) (Entry M T V P Q R F) PassRow) (sought : Option T)
      (p : PassView M T V P Q R F) (n : ℕ) (row : PassRow) → pass_view t sought ≡ p →
      entered ≡ record t { seen = before.state.history; turn = Some before } →
      left ≡ after_leaving (λ x. x.state.history) desk_row d entered → n ≡ t.number → desk_row d n ≡ row →
      pass_view left sought ≡ moved p row left.seen
  moved_turn before d t entered left sought p n row view_is is_entered is_left same row_is =
      let whole : left ≡ after_leaving (λ x. x.state.history) desk_row d
      (record t { seen = before.state.history; turn = Some before }) =
      is_left ∙ ap (after_leaving (λ (x : Ledger M T V P Q R F). x.state.history) desk_row d) is_entered in
      let seen_is : left.seen ≡ d.state.history =
      ap (λ (x : TicketView (Ledger M T V P Q R F) (Entry M T V P Q R F) PassRow). x.seen) whole in
      let same_row : desk_row d t.number ≡ row = ap (desk_row d) (sym same) ∙ row_is in
      subst (λ (x : PassView M T V P Q R F). pass_view left sought ≡ moved x row left.seen) view_is
      (ap (λ (x : TicketView (Ledger M T V P Q R F) (Entry M T V P Q R F) PassRow). pass_view x sought) whole
      ∙ (λ i. moved (pass_view t sought) (same_row i) (sym seen_is i)))

  -- a turn in which the desk gained this entry of the pass
  pub made_turn : (before d : Ledger M T V P Q R F)
      (t entered left : TicketView (Ledger M T V P Q R F) (Entry M T V P Q R F) PassRow) (sought : Option T)
      (p : PassView M T V P Q R F) (n : ℕ) (kept : Kept M T V P Q R F) → pass_view t sought ≡ p →
      left ≡ after_leaving (λ x. x.state.history) desk_row d entered →
      Lags seat_of t.number t.seen before.state.history → n ≡ t.number →
      d.state.history ≡ before.state.history ++ entry n kept ∷ [] → Made p.number kept p.seen left.seen
  made_turn before d t entered left sought p n kept view_is is_left lags same gained =
      let seen_is : left.seen ≡ d.state.history =
      ap (λ (x : TicketView (Ledger M T V P Q R F) (Entry M T V P Q R F) PassRow). x.seen) is_left in
      subst (λ (x : PassView M T V P Q R F). Made x.number kept x.seen left.seen) view_is (record {
        between = lags.more;
        is = seen_is ∙ (gained ∙ (λ i. lags.is i ++ entry (same i) kept ∷ []));
        none = lags.none;
      })

  -- a turn that left the history as it was
  pub lags_turn : (before d : Ledger M T V P Q R F)
      (t entered left : TicketView (Ledger M T V P Q R F) (Entry M T V P Q R F) PassRow) (sought : Option T)
      (p : PassView M T V P Q R F) → pass_view t sought ≡ p →
      left ≡ after_leaving (λ x. x.state.history) desk_row d entered →
      Lags seat_of t.number t.seen before.state.history → d.state.history ≡ before.state.history →
      Lags seat_of p.number p.seen left.seen
  lags_turn before d t entered left sought p view_is is_left lags same =
      let seen_is : left.seen ≡ before.state.history =
      ap (λ (x : TicketView (Ledger M T V P Q R F) (Entry M T V P Q R F) PassRow). x.seen) is_left ∙ same in
      subst (λ (x : PassView M T V P Q R F). Lags seat_of x.number x.seen left.seen) view_is
      (subst (Lags seat_of t.number t.seen) (sym seen_is) lags)

  -- setting room aside leaves the history as it was, whatever comes of it
  pub aside_history : {A E : Type 0} (r : Result A E) (before d : Ledger M T V P Q R F) (k entries values : ℕ) →
      OnOk r (d ≡ setting_aside before k entries values) → OnErr r (d ≡ before) →
      d.state.history ≡ before.state.history
  aside_history (Ok a) before d k entries values ok err = ap (λ (x : Ledger M T V P Q R F). x.state.history) ok
  aside_history (Err e) before d k entries values ok err = ap (λ (x : Ledger M T V P Q R F). x.state.history) err

  -- a turn in which this was made of the desk
  pub turned_is : (f : Facts T V P Q R F) (Makes : ℕ → Ledger M T V P Q R F → Ledger M T V P Q R F → Type 0)
      (before d : Ledger M T V P Q R F)
      (t entered left : TicketView (Ledger M T V P Q R F) (Entry M T V P Q R F) PassRow) (sought : Option T)
      (p : PassView M T V P Q R F) (n : ℕ) → pass_view t sought ≡ p →
      entered ≡ record t { seen = before.state.history; turn = Some before } →
      left ≡ after_leaving (λ x. x.state.history) desk_row d entered →
      Lags seat_of t.number t.seen before.state.history → desk_row before t.number ≡ t.row → n ≡ t.number →
      IsAfter f 64 before.state → IsAfter f 64 d.state → Makes n before d →
      Turned f (Makes p.number) p (pass_view left sought)
  turned_is f Makes before d t entered left sought p n view_is is_entered is_left lags row_is same was is made =
      let whole : left ≡ after_leaving (λ x. x.state.history) desk_row d
      (record t { seen = before.state.history; turn = Some before }) =
      is_left ∙ ap (after_leaving (λ (x : Ledger M T V P Q R F). x.state.history) desk_row d) is_entered in
      subst (λ (x : PassView M T V P Q R F). Turned f (Makes x.number) x (pass_view left sought)) view_is (record {
        before = before;
        now = d;
        was_after = was;
        is_after = is;
        lags = lags;
        row = row_is;
        makes_it = subst (λ k. Makes k before d) same made;
        is = ap (λ (x : TicketView (Ledger M T V P Q R F) (Entry M T V P Q R F) PassRow). pass_view x sought) whole;
      })

  -- entries of others after entries of others
  pub lags_later : (k : ℕ) (a b c : List (Entry M T V P Q R F)) → Lags seat_of k a b → Lags seat_of k b c →
      Lags seat_of k a c
  lags_later k a b c first second = lags-trans seat_of k a b c first second

  -- nothing was seen since
  pub lags_self : (k : ℕ) (a : List (Entry M T V P Q R F)) → Lags seat_of k a a
  lags_self k a = lags_refl seat_of k a

  -- an event after entries of others
  pub made_later : (k : ℕ) (kept : Kept M T V P Q R F) (a b c : List (Entry M T V P Q R F)) →
      Lags seat_of k a b → Made k kept b c → Made k kept a c
  made_later k kept a b c lags made = record {
    between = lags.more ++ made.between;
    is = made.is ∙ ap (λ l. l ++ entry k kept ∷ [])
        (ap (λ l. l ++ made.between) lags.is ∙ append_assoc a lags.more made.between);
    none = none-append seat_of k lags.more made.between lags.none made.none;
  }

-- what follows of what was given holds where something was given
pub on_ok_if : {A E : Type 0} (r : Result A E) (P : A → Type 0) (Q : Type 0) → ((a : A) → P a → Q) → IfOk r P → OnOk r Q
on_ok_if (Ok a) P Q follows is = follows a is
on_ok_if (Err e) P Q follows is = tt

-- the same, of what was given
pub if_ok_map : {A E : Type 0} (r : Result A E) (P Q : A → Type 0) → ((a : A) → P a → Q a) → IfOk r P → IfOk r Q
if_ok_map (Ok a) P Q follows is = follows a is
if_ok_map (Err e) P Q follows is = tt

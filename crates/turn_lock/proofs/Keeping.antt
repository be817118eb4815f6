-- Each step keeps the rule.
use Rattle.std.proofs.Common.{◌≡◌, ◌≢◌, ◌⊎◌, ℕ, zero, suc, ◌+◌, ◌%◌, ◌<◌, ◌≤◌, eqb, cond, List, [], ◌∷◌, ◌++◌, length}
use Rattle.std.proofs.Common.{get_or, set, Some, None, Option, Bool, true, false, not, IsSome, rules, refl, sym, ap}
use Rattle.std.proofs.Common.{◌∙◌, subst, ⊎_elim, inl, inr, arith, length-append, append-nil, length-set, eq-eqb}
use Rattle.std.proofs.Common.{ne_eqb}
use mathlib.Core.Logic.{dite}
use mathlib.Core.Option.{none, some, some-ne-none, some-injective}
use native.Mathlib.Decide.{ℕ_discrete}
use lib.ListN.{get_elem?}
use lib.Seq.{set-get_or}
use native.Mathlib.Nat.{mod-eq_of_lt}
use Rattle.atomic_table.specs.Table.{State, opening, Splits, Joins, Me, Step, step, Act, keeps, takes, gives, stepped}
use Rattle.atomic_table.specs.Table.{Allows, Valid, carried_after, rest as held_rest}
use Rattle.atomic_table.proofs.Lists.{set_again, set_else, one_turn}
use Rattle.turn_lock.specs.declared.view.View.{View}
use Rattle.turn_lock.specs.Entries.{NoneOf, NoneFrom, Lags, Begins, longer}
use Rattle.turn_lock.specs.Rule.{total, count_some, count_true, ticket_count, live_count, slot_home, Fits, Turning}
use Rattle.turn_lock.specs.Steps.{Unused, number_or_0, first_view, DrawsTicket, LooksForTurn, RecordsEntry, EndsTurn}
use Rattle.turn_lock.specs.Steps.{ComparesHeard, after_giving, newcomer, after_taking_in, spent_view, Added, holding}
use Rattle.turn_lock.proofs.Counts.{mod_step, total_set, total_snoc, total_le, ticket_le_live, views_stay, at_snoc_is}
use Rattle.turn_lock.proofs.Histories.{length-zero, begins_after, none_push, none_before, none_after, lags_push}
use Rattle.turn_lock.proofs.Histories.{lags_none, compare}

module _ {B E W : Type 0} (history : B → List E) (seat_of : E → ℕ) (rows : B → ℕ → W) (rest : W) where
  abbrev V : Type 0
  V = View B E W

  abbrev St : Type 0
  St = State (Option B) V

  abbrev Rule : St → Type 0
  Rule = Turning history seat_of rows rest

  -- the plays ignore the step
  abbrev none_step : Step (Option B)
  none_step = step 0 0 0 0 none

  few_wait : (s : St) (r : Rule s) → total ticket_count s.views ≤ 64
  few_wait s r = let h = total_le ticket_count live_count s.views
      (λ i v e. ticket_le_live v.live v.ticket (λ d. ((r.each i v e).dead d).0)) in let f = r.few in omega arith

  unused_now : (s : St) (r : Rule s) (id : ℕ) (v : V) → get_elem? s.views id ≡ some v → v.live ≡ true →
      Unused seat_of v r.log
  unused_now s r id v at live zero_th k far = r.unused_numbers k (let next = (r.each id v at).root live zero_th in
      omega arith)

  value_of : (o : Option B) → IsSome o → (b : B) × (o ≡ Some b)
  value_of (Some b) h = (b, refl)
  value_of None h = absurd (search rules)

  -- Draw keeps the rule, and the seat has the ticket that the word held
  pub draws : (slots id : ℕ) (v : V) (c : List (ℕ × Option B)) → v.live ≡ true → v.ticket ≡ None → v.turn ≡ None →
      Allows Rule slots id (v, c) 0 (λ n. (n + 1) % 18446744073709551616) (DrawsTicket none_step (v, c))
  draws slots id v c live idle out s r deep at wide =
      let w : V = record v { ticket = Some r.drawn } in
      let f = r.each id v at in
      let holder : ℕ → ℕ = λ t. cond (eqb t r.drawn) id (r.holder t) in
      let before : r.served ≤ r.drawn = (let o = r.out in omega arith) in (
        w,
        keeps,
        tt,
        record {
          log = r.log;
          value = r.value;
          taken = r.taken;
          served = r.served;
          drawn = r.drawn + 1;
          given = r.given;
          owner = r.owner;
          holder = holder;
          words = ap (λ (ws : List ℕ). set ws 0 ((get_or ws 0 0 + 1) % 18446744073709551616)) r.words
              ∙ ap (λ (x : ℕ). x ∷ r.served % 18446744073709551616 ∷ length r.log % 18446744073709551616 ∷ [])
              (mod_step r.drawn);
          homes = r.homes;
          kept = r.kept;
          out = (let t = total_set ticket_count s.views id v w at in let z : ticket_count v ≡ 0 =
              ap count_some idle in let o = r.out in omega arith);
          busy = λ e. let b = r.busy e in omega arith;
          few = (let t = total_set live_count s.views id v w at in let f = r.few in omega arith);
          unused_rows = r.unused_rows;
          unused_numbers = r.unused_numbers;
          each = views_stay (Fits history seat_of rows rest r.log r.value r.taken r.served
              (r.drawn + 1) r.given r.owner holder) s.views id w
              record {
                dead = λ e. absurd (cc);
                numbered = f.numbered;
                root = f.root;
                lags = f.lags;
                told = f.told;
                row_is = f.row_is;
                ticketed = λ t e. let is : r.drawn ≡ t = cc in
                    (omega arith, omega arith, ap (λ (x : Bool). cond x id (r.holder t)) (eq-eqb t r.drawn (sym is)));
                turned = λ b e. absurd (cc);
                turn_is = λ e b. let is : r.drawn ≡ r.served = cc in let z = r.busy b in absurd (omega arith);
              }
              (λ j u apart there. let h = r.each j u there in record {
                dead = h.dead;
                numbered = h.numbered;
                root = h.root;
                lags = h.lags;
                told = h.told;
                row_is = h.row_is;
                ticketed = λ t e. let x = h.ticketed t e in let a = x.0 in let b = x.1 in (
                  a,
                  omega arith,
                  ap (λ (y : Bool). cond y id (r.holder t)) (ne_eqb t r.drawn (λ z. omega arith))
                      ∙ x.2,
                );
                turned = h.turned;
                turn_is = h.turn_is;
              });
        },
        (r.drawn, ap (λ (ws : List ℕ). get_or ws 0 0) r.words, refl),
      )

  -- a view that did not change keeps its fit, where the table's words change as they do in the other seats' steps
  same_view : (s : St) (r : Rule s) (id : ℕ) (v : V) (c : List (ℕ × Option B)) → get_elem? s.views id ≡ some v →
      Rule (stepped s 1 (get_or s.words 1 0) id c v keeps)
  same_view s r id v c at =
      subst Rule (λ i. record {
        words = sym (set-get_or s.words 1 0) i;
        homes = s.homes;
        views =
            sym (set_again s.views id v at) i;
      }) r

  -- Look keeps the rule, and where the word is the seat's ticket the seat takes the slot
  pub looks : (slots id : ℕ) (v : V) (c : List (ℕ × Option B)) (t : ℕ) → v.live ≡ true → v.ticket ≡ Some t →
      v.turn ≡ None → Allows Rule slots id (v, c) 1 (λ n. n) (LooksForTurn history seat_of rows none_step (v, c))
  looks slots id v c t live has idle s r deep at wide =
      let f = r.each id v at in
      let mine = f.ticketed t has in
      let word : get_or s.words 1 0 ≡ r.served % 18446744073709551616 = ap (λ (ws : List ℕ). get_or ws 1 0) r.words in
      let number : number_or_0 v.ticket ≡ t = ap number_or_0 has in
      dite (ℕ_discrete (get_or s.words 1 0) (number_or_0 v.ticket % 18446744073709551616))
      (λ e. looks_in r.taken refl mine.0 mine.1 word number e)
      (λ ne. (v, keeps, tt, same_view s r id v c at, ((λ e. absurd (ne e)), (λ _. refl))))
    where
      looks_in : (b : Bool) → r.taken ≡ b → r.served ≤ t → t < r.drawn →
          get_or s.words 1 0 ≡ r.served % 18446744073709551616 → number_or_0 v.ticket ≡ t →
          get_or s.words 1 0 ≡ number_or_0 v.ticket % 18446744073709551616
          → (w : V) × (a : Act (Option B)) × Valid s.homes c a × Rule (stepped s 1 (get_or s.words 1 0) id c w a)
          × LooksForTurn history seat_of rows none_step (v, c) (get_or s.words 1 0) (w, carried_after c a)
      looks_in true is le lt word number e =
          let few = few_wait s r in
          let o = r.out in
          let same : r.served ≡ t = one_turn r.served t 18446744073709551616 le (omega arith)
          (sym word ∙ (e ∙ ap (λ (n : ℕ). n % 18446744073709551616) number)) in
          let on = (r.each id v at).turn_is (has ∙ ap Some (sym same)) is in
          absurd (cc)
      looks_in false is le lt word number e =
          let few = few_wait s r in
          let o = r.out in
          let f = r.each id v at in
          let same : r.served ≡ t = one_turn r.served t 18446744073709551616 le (omega arith)
          (sym word ∙ (e ∙ ap (λ (n : ℕ). n % 18446744073709551616) number)) in
          let now : v.ticket ≡ Some r.served = has ∙ ap Some (sym same) in
          let hs : s.homes ≡ some (Some r.value) ∷ [] = r.homes ∙ ap (λ (b : Bool). slot_home b r.value ∷ []) is in
          let whole : history r.value ≡ r.log = r.kept is in
          let w : V = record v { turn = Some r.value; seen = history r.value } in (
            w,
            takes 0 (Some r.value),
            ap (λ h. get_elem? h 0) hs,
            record {
              log = r.log;
              value = r.value;
              taken = true;
              served = r.served;
              drawn = r.drawn;
              given = r.given;
              owner = r.owner;
              holder = r.holder;
              words = set-get_or s.words 1 0 ∙ r.words;
              homes = ap (λ h. set h 0 none) hs;
              kept = λ e. absurd (cc);
              out = (let t = total_set ticket_count s.views id v w at in omega arith);
              busy = λ e. omega arith;
              few = (let t = total_set live_count s.views id v w at in let f = r.few in omega arith);
              unused_rows = r.unused_rows;
              unused_numbers = r.unused_numbers;
              each = views_stay (Fits history seat_of rows rest r.log r.value true r.served r.drawn r.given r.owner
                  r.holder) s.views id w
                  record {
                    dead = λ e. absurd (cc);
                    numbered = f.numbered;
                    root = f.root;
                    lags = λ _. lags_none seat_of v.number (history r.value) r.log whole;
                    told = f.told;
                    row_is = f.row_is;
                    ticketed = f.ticketed;
                    turned = λ b e. (cc, refl, now, whole);
                    turn_is = λ _ _. refl;
                  }
                  (λ j u apart there. let h = r.each j u there in record {
                    dead = h.dead;
                    numbered = h.numbered;
                    root = h.root;
                    lags = h.lags;
                    told = h.told;
                    row_is = h.row_is;
                    ticketed = h.ticketed;
                    turned = λ b e. let x = (h.turned b e).1 in absurd (cc);
                    turn_is = λ e _. absurd (apart (sym (h.ticketed r.served e).2 ∙ (f.ticketed r.served now).2));
                  });
            },
            (
              (λ _. (
                r.value,
                refl,
                subst (Lags seat_of v.number v.seen) (sym whole) (f.lags live),
                sym (f.row_is live),
                (λ z k far. subst (NoneOf seat_of k) (sym whole)
                    (unused_now s r id v at live z k far)),
              )),
              (λ ne. absurd (ne e)),
            ),
          )

  records : (slots id : ℕ) (v : V) (b now : B) (e : E) → v.live ≡ true → v.turn ≡ Some b → seat_of e ≡ v.number →
      history now ≡ v.seen ++ e ∷ []
      → Allows Rule slots id (v, (0, Some now) ∷ []) 2 (λ n. (n + 1) % 18446744073709551616)
      (RecordsEntry history none_step (v, (0, Some now) ∷ []))
  records slots id v b now e live turn own longer s r deep at wide =
      let f = r.each id v at in
      let mine = f.turned b turn in
      let whole : history now ≡ r.log ++ e ∷ [] = longer ∙ ap (λ l. l ++ e ∷ []) mine.3 in
      let len : length (history now) ≡ length r.log + 1 = ap length whole ∙ length-append r.log (e ∷ []) in
      let below = (f.numbered live).0 in
      let w : V = record v { seen = history now } in (
        w,
        keeps,
        tt,
        record {
          log = history now;
          value = r.value;
          taken = r.taken;
          served = r.served;
          drawn = r.drawn;
          given = r.given;
          owner = r.owner;
          holder = r.holder;
          words = ap (λ (ws : List ℕ). set ws 2 ((get_or ws 2 0 + 1) % 18446744073709551616)) r.words
              ∙ ap (λ (x : ℕ). r.drawn % 18446744073709551616 ∷ r.served % 18446744073709551616 ∷ x ∷ [])
              (mod_step (length r.log) ∙ ap (λ (x : ℕ). x % 18446744073709551616) (sym len));
          homes = r.homes;
          kept = λ is. let on = mine.1 in absurd (cc);
          out = (let t = total_set ticket_count s.views id v w at in let o = r.out in omega arith);
          busy = r.busy;
          few = (let t = total_set live_count s.views id v w at in let f = r.few in omega arith);
          unused_rows = r.unused_rows;
          unused_numbers = λ k far. subst (NoneOf seat_of k) (sym whole)
              (none_push seat_of k r.log e (r.unused_numbers k far) (λ z. omega arith));
          each = views_stay (Fits history seat_of rows rest (history now) r.value r.taken r.served r.drawn r.given
              r.owner r.holder) s.views id w
              record {
                dead = λ e. absurd (cc);
                numbered = f.numbered;
                root = f.root;
                lags = λ _. lags_none seat_of v.number (history now) (history now) refl;
                told = begins_after r.log (history now) v.heard e whole f.told;
                row_is = f.row_is;
                ticketed = f.ticketed;
                turned = λ x e. let y = f.turned x e in (y.0, y.1, y.2, refl);
                turn_is = f.turn_is;
              }
              (λ j u apart there. let h = r.each j u there in record {
                dead = h.dead;
                numbered = h.numbered;
                root = h.root;
                lags = λ alive. subst (Lags seat_of u.number u.seen) (sym whole)
                    (lags_push seat_of u.number u.seen r.log e (h.lags alive)
                    (λ z. absurd (apart (sym (h.numbered alive).1
                    ∙ (ap r.owner (sym z ∙ own) ∙ (f.numbered live).1)))));
                told = begins_after r.log (history now) u.heard e whole h.told;
                row_is = h.row_is;
                ticketed = h.ticketed;
                turned = λ x e. absurd (apart (sym (h.ticketed r.served (h.turned x e).2).2
                    ∙ (f.ticketed r.served mine.2).2));
                turn_is = h.turn_is;
              });
        },
        refl,
      )

  ends_held : (slots id : ℕ) (v : V) (b now : B) → v.live ≡ true → v.turn ≡ Some b → history now ≡ v.seen →
      ((k : ℕ) → k < 64 → k ≢ v.number → rows now k ≡ rows b k)
      → Allows Rule slots id (v, (0, Some now) ∷ []) 1 (λ n. (n + 1) % 18446744073709551616)
      (EndsTurn rows none_step (v, (0, Some now) ∷ []))
  ends_held slots id v b now live turn whole others s r deep at wide =
      let f = r.each id v at in
      let mine = f.turned b turn in
      let below = (f.numbered live).0 in
      let late = r.busy mine.1 in
      let kept : (k : ℕ) → k < 64 → k ≢ v.number → rows now k ≡ rows r.value k = λ k near n. others k near n
      ∙ ap (λ (x : B). rows x k) mine.0 in
      let w : V = record v { ticket = None; turn = None; row = rows now v.number } in (
        w,
        gives,
        tt,
        record {
          log = r.log;
          value = now;
          taken = false;
          served = r.served + 1;
          drawn = r.drawn;
          given = r.given;
          owner = r.owner;
          holder = r.holder;
          words = ap (λ (ws : List ℕ). set ws 1 ((get_or ws 1 0 + 1) % 18446744073709551616)) r.words
              ∙ ap (λ (x : ℕ). r.drawn % 18446744073709551616 ∷ x ∷ length r.log % 18446744073709551616 ∷ [])
              (mod_step r.served);
          homes = ap (λ h. set h 0 (some (Some now))) r.homes;
          kept = λ _. whole ∙ mine.3;
          out = (let t = total_set ticket_count s.views id v w at in let one : ticket_count v ≡ 1 =
              ap count_some mine.2 in let o = r.out in omega arith);
          busy = λ e. absurd (cc);
          few = (let t = total_set live_count s.views id v w at in let f = r.few in omega arith);
          unused_rows = λ k far near. kept k near (λ z. omega arith) ∙ r.unused_rows k far near;
          unused_numbers = r.unused_numbers;
          each = views_stay (Fits history seat_of rows rest r.log now false (r.served + 1) r.drawn r.given r.owner
              r.holder) s.views id w
              record {
                dead = λ e. absurd (cc);
                numbered = f.numbered;
                root = f.root;
                lags = f.lags;
                told = f.told;
                row_is = λ _. refl;
                ticketed = λ t e. absurd (cc);
                turned = λ x e. absurd (cc);
                turn_is = λ _ e. absurd (cc);
              }
              (λ j u apart there. let h = r.each j u there in record {
                dead = h.dead;
                numbered = h.numbered;
                root = h.root;
                lags = h.lags;
                told = h.told;
                row_is = λ alive. h.row_is alive
                    ∙ sym (kept u.number (let n = (h.numbered alive).0 in let few = r.few.1 in omega arith)
                    (λ z. apart (sym (h.numbered alive).1 ∙ (ap r.owner z ∙ (f.numbered live).1))));
                ticketed = λ t e. let x = h.ticketed t e in let a = x.0 in let b = x.1 in
                    let new : t ≢ r.served = λ z. apart (sym x.2 ∙ (ap r.holder z ∙ (f.ticketed r.served mine.2).2)) in
                    (omega arith, b, x.2);
                turned = λ x e. absurd (apart (sym (h.ticketed r.served (h.turned x e).2).2
                    ∙ (f.ticketed r.served mine.2).2));
                turn_is = λ _ e. absurd (cc);
              });
        },
        refl,
      )

  -- the rule at the start
  pub begins : (value : B) → length (history value) < 18446744073709551616 →
      ((k : ℕ) → 1 ≤ k → k < 64 → rows value k ≡ rest) → NoneFrom seat_of 1 (history value)
      → Rule (opening (0 ∷ 0 ∷ length (history value) ∷ []) (Some value ∷ []) (first_view history rows value))
  begins value small calm first = record {
    log = history value;
    value = value;
    taken = false;
    served = 0;
    drawn = 0;
    given = 1;
    owner = λ _. 0;
    holder = λ _. 0;
    words = ap (λ (x : ℕ). 0 ∷ 0 ∷ x ∷ []) (sym (mod-eq_of_lt small));
    homes = refl;
    kept = λ _. refl;
    out = refl;
    busy = λ e. absurd (cc);
    few = (omega arith, omega arith);
    unused_rows = calm;
    unused_numbers = first;
    each = one;
  }
    where
      one : (i : ℕ) (v : V) → get_elem? (first_view history rows value ∷ []) i ≡ some v →
          Fits history seat_of rows rest (history value) value false 0 0 1 (λ _. 0) (λ _. 0) i v
      one zero v e = subst (Fits history seat_of rows rest (history value) value false 0 0 1 (λ _. 0) (λ _. 0) 0)
          (some-injective _ _ e) record {
            dead = λ e. absurd (cc);
            numbered = λ _. (omega arith, refl);
            root = λ _ _. refl;
            lags = λ _. lags_none seat_of 0 (history value) (history value) refl;
            told = (history value, refl);
            row_is = λ _. refl;
            ticketed = λ t e. absurd (cc);
            turned = λ b e. absurd (cc);
            turn_is = λ e. absurd (cc);
          }
      one (suc i) v e = absurd (some-ne-none v (sym e))

  -- Give keeps the rule: the new seat's number was never given
  pub splits : (id : ℕ) (v : V) → v.live ≡ true → v.number ≡ 0 → v.next < 64 →
      Splits Rule id v (after_giving v) (newcomer rest v)
  splits id v live zero_th room s r at =
      let f = r.each id v at in
      let next : v.next ≡ r.given = f.root live zero_th in
      let below = (f.numbered live).0 in
      let w : V = after_giving v in
      let x : V = newcomer rest v in
      let vs : List V = set s.views id w in
      let len : length vs ≡ length s.views = length-set s.views id w in
      let owner : ℕ → ℕ = λ k. cond (eqb k r.given) (length vs) (r.owner k) in
      let old : (k : ℕ) → k < r.given →
      owner k ≡ r.owner k = λ k l. ap (λ (y : Bool). cond y (length vs) (r.owner k))
      (ne_eqb k r.given (λ z. omega arith)) in
      let P : ℕ → V → Type 0 = Fits history seat_of rows rest r.log r.value r.taken r.served r.drawn
      (r.given + 1) owner r.holder in
      let seen = f.lags live in
      record {
        log = r.log;
        value = r.value;
        taken = r.taken;
        served = r.served;
        drawn = r.drawn;
        given = r.given + 1;
        owner = owner;
        holder = r.holder;
        words = r.words;
        homes = r.homes;
        kept = r.kept;
        out = (let t = total_set ticket_count s.views id v w at in let u = total_snoc ticket_count vs x in
            let o = r.out in omega arith);
        busy = r.busy;
        few = (let t = total_set live_count s.views id v w at in let u = total_snoc live_count vs x in let one :
            live_count v ≡ 1 = ap count_true live in let f = r.few in (omega arith, omega arith));
        unused_rows = λ k far near. r.unused_rows k (omega arith) near;
        unused_numbers = λ k far. r.unused_numbers k (omega arith);
        each = λ j u there. ⊎_elim
            (views_stay P s.views id w
            record {
              dead = λ e. absurd (cc);
              numbered = λ alive. (omega arith, old v.number below ∙ (f.numbered alive).1);
              root = λ alive z. ap (λ (n : ℕ). n + 1) (f.root alive z);
              lags = f.lags;
              told = f.told;
              row_is = f.row_is;
              ticketed = f.ticketed;
              turned = f.turned;
              turn_is = f.turn_is;
            }
            (λ j u apart there. let h = r.each j u there in record {
              dead = h.dead;
              numbered = λ alive. let n = h.numbered alive in let l = n.0 in (omega arith, old u.number l ∙ n.1);
              root = λ alive z. absurd
                  (apart (sym (h.numbered alive).1 ∙ (ap r.owner (z ∙ sym zero_th) ∙ (f.numbered live).1)));
              lags = h.lags;
              told = h.told;
              row_is = h.row_is;
              ticketed = h.ticketed;
              turned = h.turned;
              turn_is = h.turn_is;
            }) j u)
            (λ (t : (j ≡ length vs) × (x ≡ u)). subst (λ (y : ℕ × V). P y.0 y.1) (λ i. (sym t.0 i, t.1 i)) record {
              dead = λ e. absurd (cc);
              numbered = λ _. (
                omega arith,
                ap (λ (y : Bool). cond y (length vs) (r.owner v.next))
                    (eq-eqb v.next r.given next),
              );
              root = λ _ z. absurd (omega arith);
              lags = λ _. record {
                more = seen.more;
                is = seen.is;
                none =
                    subst (λ (k : ℕ). NoneOf seat_of k seen.more) (sym next)
                    (none_after seat_of r.given v.seen seen.more
                    (subst (NoneOf seat_of r.given) seen.is (r.unused_numbers r.given (omega arith))));
              };
              told = (r.log, refl);
              row_is = λ _. sym (r.unused_rows r.given (omega arith) (omega arith)) ∙ ap (rows r.value) (sym next);
              ticketed = λ t e. absurd (cc);
              turned = λ b e. absurd (cc);
              turn_is = λ e. absurd (cc);
            })
            (at_snoc_is vs x u j there);
      }

  -- a ticket that is not in a turn is joined to another
  pub joins : (id other : ℕ) (v u : V) → v.live ≡ true → u.live ≡ true → u.ticket ≡ None → u.turn ≡ None →
      Joins Rule id v other u (after_taking_in v u) (spent_view rest)
  joins id other v u live alive idle out s r at apart there =
      let f = r.each id v at in
      let w : V = after_taking_in v u in
      let x : V = spent_view rest in
      let vs : List V = set s.views id w in
      let was : get_elem? s.views other ≡ some u = sym (set_else s.views id other w apart) ∙ there in
      let g = r.each other u was in
      let P : ℕ → V → Type 0 = Fits history seat_of rows rest r.log r.value r.taken r.served r.drawn r.given r.owner
      r.holder in
      record {
        log = r.log;
        value = r.value;
        taken = r.taken;
        served = r.served;
        drawn = r.drawn;
        given = r.given;
        owner = r.owner;
        holder = r.holder;
        words = r.words;
        homes = r.homes;
        kept = r.kept;
        out = (let t = total_set ticket_count s.views id v w at in
            let y = total_set ticket_count vs other u x there in
            let none : ticket_count u ≡ 0 = ap count_some idle in
            let o = r.out in omega arith);
        busy = r.busy;
        few = (let t = total_set live_count s.views id v w at in let y = total_set live_count vs other u x there in
            let f = r.few in (omega arith, omega arith));
        unused_rows = r.unused_rows;
        unused_numbers = r.unused_numbers;
        each = views_stay P vs other x
            record {
              dead = λ _. (refl, refl);
              numbered = λ e. absurd (cc);
              root = λ e. absurd (cc);
              lags = λ e. absurd (cc);
              told = (r.log, refl);
              row_is = λ e. absurd (cc);
              ticketed = λ t e. absurd (cc);
              turned = λ b e. absurd (cc);
              turn_is = λ e. absurd (cc);
            }
            (λ j d _ e. views_stay P s.views id w
            record {
              dead = f.dead;
              numbered = f.numbered;
              root = f.root;
              lags = f.lags;
              told = ((g.lags alive).more, (g.lags alive).is);
              row_is = f.row_is;
              ticketed = f.ticketed;
              turned = f.turned;
              turn_is = f.turn_is;
            }
            (λ j d _ e. r.each j d e) j d e);
      }

  -- Compare keeps the rule, and tells that both lists are beginnings of one history
  pub compares : (slots id : ℕ) (v : V) (c : List (ℕ × Option B)) → v.live ≡ true →
      Allows Rule slots id (v, c) 0 (λ n. n) (ComparesHeard seat_of none_step (v, c))
  compares slots id v c live s r deep at wide =
      let f = r.each id v at in
      let w : V = record v { seen = longer v.seen v.heard } in
      let l = compare seat_of v.number v.seen v.heard r.log (f.lags live) f.told in (
        w,
        keeps,
        tt,
        record {
          log = r.log;
          value = r.value;
          taken = r.taken;
          served = r.served;
          drawn = r.drawn;
          given = r.given;
          owner = r.owner;
          holder = r.holder;
          words = set-get_or s.words 0 0 ∙ r.words;
          homes = r.homes;
          kept = r.kept;
          out = (let t = total_set ticket_count s.views id v w at in let o = r.out in omega arith);
          busy = r.busy;
          few = (let t = total_set live_count s.views id v w at in let f = r.few in (omega arith, omega arith));
          unused_rows = r.unused_rows;
          unused_numbers = r.unused_numbers;
          each = views_stay (Fits history seat_of rows rest r.log r.value r.taken r.served r.drawn r.given r.owner
              r.holder) s.views id w
              record {
                dead = f.dead;
                numbered = f.numbered;
                root = f.root;
                lags = λ _. l.2;
                told = f.told;
                row_is = f.row_is;
                ticketed = f.ticketed;
                turned = λ b e. let t = f.turned b e in (
                  t.0,
                  t.1,
                  t.2,
                  whole_begins (longer v.seen v.heard) r.log (l.2.more, l.2.is)
                      (l.0.more, l.0.is) t.3,
                );
                turn_is = f.turn_is;
              }
              (λ j u apart there. r.each j u there);
        },
        (
          refl,
          l.0,
          l.1,
          (λ zero_th k far. none_before seat_of k (longer v.seen v.heard) l.2.more
              (subst (NoneOf seat_of k) l.2.is (unused_now s r id v at live zero_th k far))),
          (λ turn. let b = value_of v.turn turn in let all = (f.turned b.0 b.1).3 in
              whole_begins (longer v.seen v.heard) r.log (l.2.more, l.2.is) (l.0.more, l.0.is) all ∙ sym all),
        ),
      )
    where
      whole_begins : (xs log : List E) → Begins xs log → Begins v.seen xs → v.seen ≡ log → xs ≡ log
      whole_begins xs log a b e =
          let n : length log ≡ length xs + length a.0 = ap length a.1 ∙ length-append xs a.0 in
          let m : length xs ≡ length v.seen + length b.0 = ap length b.1 ∙ length-append v.seen b.0 in
          let k : length v.seen ≡ length log = ap length e in
          sym (append-nil xs) ∙ (ap (λ l. xs ++ l) (sym (length-zero a.0 (omega arith))) ∙ sym a.1)

  abbrev M : Type 0
  M = Me (Option B) V

  -- Record keeps the rule, of a seat that has put a value with one entry more into the slot
  pub records_at : (slots id : ℕ) (m : M) (v : V) (now : B) → m ≡ (v, (0, Some now) ∷ []) → v.live ≡ true →
      IsSome v.turn → Added history seat_of true now v
      → Allows Rule slots id m 2 (λ n. (n + 1) % 18446744073709551616) (RecordsEntry history none_step m)
  records_at slots id m v now is live turn added = let b = value_of v.turn turn in
      subst (λ (x : M). Allows Rule slots id x 2 (λ n. (n + 1) % 18446744073709551616)
      (RecordsEntry history none_step x)) (sym is)
      (records slots id v b.0 now added.0 live b.1 added.1 added.2)

  -- Done keeps the rule, of a seat that has put the value into the slot
  pub ends_at : (slots id : ℕ) (m : M) (v : V) (now : B) → m ≡ holding history now v → v.live ≡ true →
      IsSome v.turn → ((b : B) (k : ℕ) → v.turn ≡ Some b → k < 64 → k ≢ v.number → rows now k ≡ rows b k)
      → Allows Rule slots id m 1 (λ n. (n + 1) % 18446744073709551616) (EndsTurn rows none_step m)
  ends_at slots id m v now is live turn others = let b = value_of v.turn turn in
      subst (λ (x : M). Allows Rule slots id x 1 (λ n. (n + 1) % 18446744073709551616) (EndsTurn rows none_step x))
      (sym is)
      (ends_held slots id (record v { seen = history now }) b.0 now live b.1 refl (λ k near n. others b.0 k b.1 near n))

-- after the value is put into the slot that is held
module _ {B V : Type 0} where
  -- what a seat has in its hand after a value was put into its slot
  pub exchanged_is : (m n : Me (Option B) V) (now : B) → m.1 ≡ (0, None) ∷ [] →
      n ≡ (m.0, (0, Some now) ∷ held_rest m.1) → n ≡ (m.0, (0, Some now) ∷ [])
  exchanged_is m n now one is = is ∙ ap (λ l. (m.0, (0, Some now) ∷ held_rest l)) one

-- which of the two it was
module _ {B E W : Type 0} (history : B → List E) (seat_of : E → ℕ) (value : B) (v : View B E W) where
  abbrev May : Type 0
  May = (history value ≡ v.seen) ⊎ ((e : E) × (seat_of e ≡ v.number) × (history value ≡ v.seen ++ e ∷ []))

  none_added : length (history value) ≡ length v.seen → May → Added history seat_of false value v
  none_added same (inl is) = is
  none_added same (inr more) = let n : length (history value) ≡ length v.seen + 1 = ap length more.2
      ∙ length-append v.seen (more.0 ∷ []) in absurd (omega arith)

  one_added : length (history value) ≢ length v.seen → May → Added history seat_of true value v
  one_added differ (inl is) = absurd (differ (ap length is))
  one_added differ (inr more) = more

  -- a length that is not the one seen tells that an entry was added
  pub added_if : (len seen_len : ℕ) → len ≡ length (history value) → seen_len ≡ length v.seen → May →
      Added history seat_of (not (eqb len seen_len)) value v
  added_if len seen_len l s may = dite (ℕ_discrete len seen_len)
      (λ e. subst (λ b. Added history seat_of (not b) value v) (sym (eq-eqb len seen_len e))
      (none_added (sym l ∙ (e ∙ s)) may))
      (λ ne. subst (λ b. Added history seat_of (not b) value v) (sym (ne_eqb len seen_len ne))
      (one_added (λ z. ne (l ∙ (z ∙ sym s))) may))

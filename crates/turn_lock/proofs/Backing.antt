-- Each call leaves a ticket whose fields tell what its seat knows.
use Rattle.std.proofs.Common.{◌≡◌, ◌⊎◌, ℕ, ◌+◌, ◌<◌, ◌≤◌, max, List, [], ◌∷◌, ◌++◌, length, Bool, true, false, cond}
use Rattle.std.proofs.Common.{rules, refl, sym, ap, ◌∙◌, subst, inl, inr, arith}
use Rattle.std.specs.Prelude.{nat_le}
use borrow.Author.Tests.{leb-true, leb-false}
use mathlib.Core.Option.{none}
use Rattle.atomic_table.specs.Table.{Step, step}
use Rattle.turn_lock.specs.declared.view.View.{View}
use Rattle.turn_lock.specs.Entries.{NoneOf, NoneFrom, longer}
use Rattle.turn_lock.specs.Steps.{SeatState, first_view, after_taking_in, ComparesHeard, after_giving}
use Rattle.turn_lock.specs.Tickets.{Backed}
use Rattle.turn_lock.proofs.Histories.{none_push}

length_longer : {E : Type 0} → (xs ys : List E) → max (length xs) (length ys) ≡ length (longer xs ys)
length_longer {E} xs ys = by_test (nat_le (length ys) (length xs)) refl
  where
    by_test : (b : Bool) → nat_le (length ys) (length xs) ≡ b → max (length xs) (length ys) ≡ length (cond b xs ys)
    by_test true e = let le = leb-true (length ys) (length xs) e in omega arith
    by_test false e = let le = leb-false (length ys) (length xs) e in omega arith

-- what a step tells here doesn't depend on its operands
abbrev no_step : {S : Type 0} → Step S
no_step = step 0 0 0 0 none

module _ {B E W : Type 0} (history : B → List E) (seat_of : E → ℕ) where
  -- the first ticket's fields tell what its seat knows
  pub backed_first : (rows : B → ℕ → W) (value : B) (count : ℕ) (m : SeatState B E W) →
      count ≡ length (history value) → NoneFrom seat_of 1 (history value) → m ≡ (first_view history rows value, []) →
      Backed seat_of 0 count 1 m
  backed_first rows value count m counted unused is = subst (λ (x : SeatState B E W). Backed seat_of 0 count 1 x)
      (sym is) record {
        live = refl;
        numbered = refl;
        counted = counted;
        given = refl;
        small = omega arith;
        few = omega arith;
        begun = λ _. omega arith;
        unused = λ _. unused;
        idle = λ _. (refl, refl);
        busy = λ turn. absurd (search rules);
      }

  -- so do those of a ticket that gave a number
  pub backed_gave : (number count next : ℕ) (m n : SeatState B E W) → Backed seat_of number count next m →
      next < 64 → n ≡ (after_giving m.0, m.1) → Backed seat_of number count (next + 1) n
  backed_gave number count next m n h room is =
      subst (λ (x : SeatState B E W). Backed seat_of number count (next + 1) x) (sym is) record {
        live = h.live;
        numbered = h.numbered;
        counted = h.counted;
        given = ap (λ (x : ℕ). x + 1) h.given;
        small = h.small;
        few = omega arith;
        begun = λ _. omega arith;
        unused = λ zero_th k far. h.unused zero_th k (omega arith);
        idle = h.idle;
        busy = h.busy;
      }

  -- o is the seat that was joined, j the keeping seat after the join, and n after the comparing
  pub backed_joined : (number count next other after : ℕ) (m o j n : SeatState B E W) →
      Backed seat_of number count next m → other ≡ length o.0.seen → after ≡ max count other
      → j ≡ (after_taking_in m.0 o.0, m.1) → ComparesHeard seat_of no_step j 0 n → Backed seat_of number after next n
  backed_joined number count next other after m o j n h there most is told =
      subst (λ (x : SeatState B E W). Backed seat_of number after next x) (sym (now.0)) record {
        live = h.live;
        numbered = h.numbered;
        counted = most ∙ (ap (λ (x : ℕ). max x other) h.counted
            ∙ (ap (λ (x : ℕ). max (length m.0.seen) x) there ∙ length_longer m.0.seen o.0.seen));
        given = h.given;
        small = h.small;
        few = h.few;
        begun = h.begun;
        unused = λ zero_th k far. now.3 (sym h.numbered ∙ zero_th) k (let g = h.given in omega arith);
        idle = h.idle;
        busy = h.busy;
      }
    where
      now : ComparesHeard seat_of no_step (after_taking_in m.0 o.0, m.1) 0 n
      now = subst (λ (x : SeatState B E W). ComparesHeard seat_of no_step x 0 n) is told

  -- after a turn, the entries' numbers are still below the next one
  pub unused_left : (v : View B E W) (value : B) (next : ℕ) → v.number ≡ 0 → 1 ≤ next → NoneFrom seat_of next v.seen
      → (history value ≡ v.seen) ⊎ ((e : E) × (seat_of e ≡ v.number) × (history value ≡ v.seen ++ e ∷ [])) →
      NoneFrom seat_of next (history value)
  unused_left v value next zero_th begun unused (inl is) k far = subst (NoneOf seat_of k) (sym is) (unused k far)
  unused_left v value next zero_th begun unused (inr more) k far = let own = more.1 in
      subst (NoneOf seat_of k) (sym more.2) (none_push seat_of k v.seen more.0 (unused k far) (λ z. omega arith))

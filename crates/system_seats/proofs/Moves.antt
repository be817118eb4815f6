-- One seat's row and marks changed: what every state of the seats keeps is kept.
use Rattle.std.proofs.Common.{◌≡◌, ◌≢◌, ℕ, ◌<◌, inl, inr, Bool, true, false, if◌then◌else◌, length}
use Rattle.std.proofs.Common.{length-set, set, slice_index_or, Some, None, is_some, refl, sym, ap}
use Rattle.std.proofs.Common.{◌∙◌, subst, get_or-set_same, get_or-set_other}
use Rattle.std.proofs.lemmas.Bool.{true≢false, cases_eq, ne_eqb, eq-eqb, eqb-true}
use Rattle.std.proofs.lemmas.List.{set-get_or}
use Rattle.share_lock.specs.declared.seat.Row.{Row}
use Rattle.share_lock.specs.Rows.{resting_row}
use Rattle.share_lock.specs.Lock.{owns}
use Rattle.system_seats.specs.Seats.{Seats, Marks, no_marks, row, mark, is_owner}
use Rattle.system_seats.specs.Shapes.{Shape, Fits, HasShape, IsTidy}

-- the seat k has the row r and the marks m now, and the others are as before
pub record Moved (s t : Seats) (k : ℕ) (r : Row) (m : Marks) : Type 0 where
  pub rows : t.lock.rows ≡ set s.lock.rows k r
  pub marks : t.marks ≡ set s.marks k m

-- the rows are those with the seat's own row put in its place
pub same_rows : (s : Seats) (k : ℕ) → s.lock.rows ≡ set s.lock.rows k (row s k)
same_rows s k = sym (set-get_or s.lock.rows k resting_row)

-- the places are those with the seat's own put in their place
pub same_marks : (s : Seats) (k : ℕ) → s.marks ≡ set s.marks k (mark s k)
same_marks s k = sym (set-get_or s.marks k no_marks)

moved-even : (s t : Seats) (k : ℕ) (r : Row) (m : Marks) → IsTidy s → Moved s t k r m →
    length t.marks ≡ length t.lock.rows
moved-even s t k r m tidy moved =
    ap length moved.marks ∙ (length-set s.marks k m
    ∙ (tidy.even ∙ (sym (length-set s.lock.rows k r) ∙ sym (ap length moved.rows))))

moved-row : (s t : Seats) (k : ℕ) (r : Row) (m : Marks) → k < length s.lock.rows → Moved s t k r m → row t k ≡ r
moved-row s t k r m below moved = ap (λ rs. slice_index_or rs k resting_row) moved.rows
    ∙ get_or-set_same s.lock.rows k r resting_row below

moved-row_other : (s t : Seats) (k : ℕ) (r : Row) (m : Marks) → Moved s t k r m → (j : ℕ) → j ≢ k → row t j ≡ row s j
moved-row_other s t k r m moved j other = ap (λ rs. slice_index_or rs j resting_row) moved.rows
    ∙ get_or-set_other s.lock.rows k j r resting_row other

moved-mark : (s t : Seats) (k : ℕ) (r : Row) (m : Marks) → IsTidy s → k < length s.lock.rows → Moved s t k r m →
    mark t k ≡ m
moved-mark s t k r m tidy below moved =
    ap (λ ms. slice_index_or ms k no_marks) moved.marks
    ∙ get_or-set_same s.marks k m no_marks (subst (λ n. k < n) (sym tidy.even) below)

moved-mark_other : (s t : Seats) (k : ℕ) (r : Row) (m : Marks) → Moved s t k r m → (j : ℕ) → j ≢ k → mark t j ≡ mark s j
moved-mark_other s t k r m moved j other = ap (λ ms. slice_index_or ms j no_marks) moved.marks
    ∙ get_or-set_other s.marks k j m no_marks other

HasShape-moved : {r r' : Row} {m m' : Marks} {o o' : Bool} → r ≡ r' → m ≡ m' → o ≡ o' → HasShape r m o →
    HasShape r' m' o'
HasShape-moved {r} {r'} {m} {m'} {o} {o'} p q e h =
    subst (λ x. HasShape r' m' x) e (subst (λ x. HasShape r' x o) q (subst (λ x. HasShape x m o) p h))

moved-shapes : (s t : Seats) (k : ℕ) (r : Row) (m : Marks) (shape : Shape) (exclusive : Bool) → IsTidy s →
    k < length s.lock.rows → Moved s t k r m → Fits shape r m exclusive
    → is_owner t k ≡ exclusive → ((j : ℕ) → j ≢ k → is_owner t j ≡ is_owner s j) → (j : ℕ) →
    HasShape (row t j) (mark t j) (is_owner t j)
moved-shapes s t k r m shape exclusive tidy below moved fits own others j =
    elim (cases_eq j k) [
      | inl same ↦
          subst (λ i. HasShape (row t i) (mark t i) (is_owner t i)) (sym same)
          (HasShape-moved (sym (moved-row s t k r m below moved)) (sym (moved-mark s t k r m tidy below moved))
          (sym own) (record { shape = shape; fits = fits }))
      | inr other ↦
          HasShape-moved (sym (moved-row_other s t k r m moved j other))
          (sym (moved-mark_other s t k r m moved j other)) (sym (others j other)) (tidy.shapes j)
    ]

-- nobody is exclusive afterwards
pub moved-none : (s t : Seats) (k : ℕ) (r : Row) (m : Marks) (shape : Shape) → IsTidy s → k < length s.lock.rows →
    Moved s t k r m → Fits shape r m false
    → t.lock.exclusive ≡ None → t.lock.depth ≡ 0 → ((j : ℕ) → j ≢ k → is_owner s j ≡ false) → IsTidy t
moved-none s t k r m shape tidy below moved fits none depth others =
    let free : (j : ℕ) → is_owner t j ≡ false = λ j. ap (λ e. owns e j) none in
    record {
      even = moved-even s t k r m tidy moved;
      shapes = moved-shapes s t k r m shape false tidy below moved fits (free k) (λ j other. free j
          ∙ sym (others j other));
      alone = λ owner j is _. absurd (true≢false (sym is ∙ free owner));
      quiet = λ owner j is _. absurd (true≢false (sym is ∙ free owner));
      once = depth ∙ sym (ap (λ e. if is_some e then 1 else 0) none);
    }

-- the exclusive side is as before, and this seat, which doesn't have it, gains neither a share nor a request
pub moved-same : (s t : Seats) (k : ℕ) (r : Row) (m : Marks) (shape : Shape) → IsTidy s → k < length s.lock.rows →
    Moved s t k r m → Fits shape r m false
    → is_owner s k ≡ false → t.lock.exclusive ≡ s.lock.exclusive → t.lock.depth ≡ s.lock.depth
    → ((row s k).shares ≡ 0 → r.shares ≡ 0) → ((mark s k).running ≡ None → m.running ≡ None) → IsTidy t
moved-same s t k r m shape tidy below moved fits apart same depth fewer calmer =
    let owners : (j : ℕ) → is_owner t j ≡ is_owner s j = λ j. ap (λ e. owns e j) same in
    let elsewhere : (j : ℕ) → is_owner t j ≡ true →
    j ≢ k = λ j is at. true≢false (sym is ∙ (owners j ∙ (ap (λ i. is_owner s i) at ∙ apart))) in
    record {
      even = moved-even s t k r m tidy moved;
      shapes = moved-shapes s t k r m shape false tidy below moved fits (owners k ∙ apart) (λ j other. owners j);
      alone = λ owner j is other.
          elim (cases_eq j k) [
            | inl here ↦
                ap (λ (x : Row). x.shares) (ap (λ i. row t i) here ∙ moved-row s t k r m below moved)
                ∙ fewer (ap (λ i. (row s i).shares) (sym here) ∙ tidy.alone owner j (sym (owners owner) ∙ is) other)
            | inr away ↦
                ap (λ (x : Row). x.shares) (moved-row_other s t k r m moved j away)
                ∙ tidy.alone owner j (sym (owners owner) ∙ is) other
          ];
      quiet = λ owner j is idle.
          let idle_before : (mark s owner).running ≡ None =
          ap (λ (x : Marks). x.running) (sym (moved-mark_other s t k r m moved owner (elsewhere owner is))) ∙ idle in
          elim (cases_eq j k) [
            | inl here ↦
                ap (λ (x : Marks). x.running) (ap (λ i. mark t i) here ∙ moved-mark s t k r m tidy below moved)
                ∙ calmer (tidy.quiet owner k (sym (owners owner) ∙ is) idle_before)
            | inr away ↦
                ap (λ (x : Marks). x.running) (moved-mark_other s t k r m moved j away)
                ∙ tidy.quiet owner j (sym (owners owner) ∙ is) idle_before
          ];
      once = depth ∙ (tidy.once ∙ sym (ap (λ e. if is_some e then 1 else 0) same));
    }

-- this seat becomes exclusive
pub moved-taken : (s t : Seats) (k : ℕ) (r : Row) (m : Marks) (shape : Shape) → IsTidy s → k < length s.lock.rows →
    Moved s t k r m → Fits shape r m true
    → s.lock.exclusive ≡ None → t.lock.exclusive ≡ Some k → t.lock.depth ≡ 1
    → ((j : ℕ) → j ≢ k → (row s j).shares ≡ 0) → (m.running ≡ None → (j : ℕ) → j ≢ k → (mark s j).running ≡ None) →
    IsTidy t
moved-taken s t k r m shape tidy below moved fits none own depth alone quiet =
    let owners : (j : ℕ) → is_owner t j ≡ owns (Some k) j = λ j. ap (λ e. owns e j) own in
    let free : (j : ℕ) → is_owner s j ≡ false = λ j. ap (λ e. owns e j) none in
    let holder : (j : ℕ) → is_owner t j ≡ true → j ≡ k = λ j is. sym (eqb-true k j (sym (owners j) ∙ is)) in
    record {
      even = moved-even s t k r m tidy moved;
      shapes = moved-shapes s t k r m shape true tidy below moved fits (owners k ∙ eq-eqb k k refl)
          (λ j other. owners j ∙ (ne_eqb k j (λ same. other (sym same)) ∙ sym (free j)));
      alone = λ owner j is other.
          let away : j ≢ k = λ at. other (at ∙ sym (holder owner is)) in
          ap (λ (x : Row). x.shares) (moved-row_other s t k r m moved j away) ∙ alone j away;
      quiet = λ owner j is idle.
          let idle_here : m.running ≡ None =
          ap (λ (x : Marks). x.running) (sym (moved-mark s t k r m tidy below moved))
          ∙ (ap (λ i. (mark t i).running) (sym (holder owner is)) ∙ idle) in
          elim (cases_eq j k) [
            | inl here ↦ ap (λ (x : Marks). x.running) (ap (λ i. mark t i) here
                ∙ moved-mark s t k r m tidy below moved) ∙ idle_here
            | inr away ↦ ap (λ (x : Marks). x.running) (moved-mark_other s t k r m moved j away)
                ∙ quiet idle_here j away
          ];
      once = depth ∙ sym (ap (λ e. if is_some e then 1 else 0) own);
    }

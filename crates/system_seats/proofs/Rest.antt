-- Seats that do nothing, and what is eligible.
use Rattle.std.proofs.Common.{◌≡◌, ℕ, zero, suc, List, ◌∷◌, map}
use Rattle.std.proofs.Common.{length, replicate, slice_index_or, is_some, refl, sym, ap, ◌∙◌, subst}
use Rattle.std.proofs.lemmas.Bool.{true≢false}
use Rattle.share_lock.specs.Rows.{resting_row}
use Rattle.share_lock.specs.Lock.{Lock, lock_at_rest}
use Rattle.system_seats.specs.declared.table.SystemRow.{SystemRow}
use Rattle.system_seats.specs.Seats.{Marks, no_marks, seats_at_rest}
use Rattle.system_seats.specs.Copies.{resting, lock_part, mark_part, seats_of}
use Rattle.system_seats.specs.Shapes.{Rests, IsTidy}

at_rest : {A : Type 0} (n k : ℕ) (x : A) → slice_index_or (replicate n x) k x ≡ x
at_rest zero k x = refl
at_rest (suc n) zero x = refl
at_rest (suc n) (suc k) x = at_rest n k x

even_rest : {A B : Type 0} (n : ℕ) (x : A) (y : B) → length (replicate n x) ≡ length (replicate n y)
even_rest zero x y = refl
even_rest (suc n) x y = ap suc (even_rest n x y)

map_rest : {A B : Type 0} (f : A → B) (n : ℕ) (x : A) → map f (replicate n x) ≡ replicate n (f x)
map_rest f zero x = refl
map_rest f (suc n) x = ap (λ xs. f x ∷ xs) (map_rest f n x)

-- seats that do nothing keep it
pub tidy-rest : (n : ℕ) → IsTidy (seats_at_rest n)
tidy-rest n = record {
  even = even_rest n no_marks resting_row;
  shapes = λ k. record {
    shape = Rests;
    fits = record {
      row = at_rest n k resting_row;
      running = ap (λ (m : Marks). is_some m.running) (at_rest n k no_marks);
      section = ap (λ (m : Marks). is_some m.section) (at_rest n k no_marks);
      owner = refl;
    };
  };
  alone = λ o k is _. absurd (true≢false (sym is));
  quiet = λ o k is _. absurd (true≢false (sym is));
  once = refl;
}

-- what contracts see of new seats
pub new_view : (lock : Lock) (rows : List SystemRow) (n : ℕ) → lock ≡ lock_at_rest n → rows ≡ replicate n resting →
    seats_of lock rows ≡ seats_at_rest n
new_view lock rows n is rest_rows = λ i.
    record { lock = is i; marks = (ap (map mark_part) rest_rows ∙ map_rest mark_part n resting) i }

-- new seats keep what the fields keep
pub new_kept : (lock : Lock) (rows : List SystemRow) (n : ℕ) → lock ≡ lock_at_rest n → rows ≡ replicate n resting →
    (map lock_part rows ≡ lock.rows) × IsTidy (seats_of lock rows)
new_kept lock rows n is rest_rows = (
  ap (map lock_part) rest_rows ∙ (map_rest lock_part n resting ∙ sym (ap (λ (l : Lock). l.rows) is)),
  subst IsTidy (sym (new_view lock rows n is rest_rows)) (tidy-rest n),
)

-- The counts after one row left them and another entered in its place.
use Rattle.std.proofs.Common.{◌≡◌, ℕ, ◌+◌, ◌<◌, List, length, get_or, slice_index, slice_set, Bool, true, false, cond}
use Rattle.std.proofs.Common.{nat_lt, refl, sym, ap, ◌∙◌, subst, arith}
use Rattle.std.specs.List.{count_by}
use mir.Val.{bool_byte}
use Rattle.std.proofs.lemmas.List.Sums.{sum_by-set}
use Rattle.share_lock.specs.declared.counts.Counts.{Counts}
use Rattle.share_lock.specs.declared.seat.Row.{Row}
use Rattle.share_lock.specs.Rows.{holds_shares, waits_without, another}
use Rattle.share_lock.specs.Counted.{count_one, IsCountOf}
use Rattle.share_lock.proofs.OtherSeats.{another_count}

-- the count of a test after one row left it and another entered in its place
moved : (test : Row → Bool) (rows : List Row) (seat : ℕ) (old new : Row) (before without after : ℕ) →
    seat < length rows → get_or rows seat old ≡ old
    → before ≡ count_by test rows → without + count_one test old ≡ before → after ≡ without + count_one test new →
    after ≡ count_by test (slice_set rows seat new)
moved test rows seat old new before without after below at is left entered =
    let changed : count_by test (slice_set rows seat new) + count_one test (get_or rows seat old)
    ≡ count_by test rows + count_one test new = sum_by-set (count_one test) rows seat new old below in
    let same : count_one test (get_or rows seat old) ≡ count_one test old = ap (count_one test) at in
    omega arith

-- all counts after one row left them and another entered in its place
pub IsCountOf-set : (rows value : List Row) (seat : ℕ) (old new : Row) (before without after : Counts) →
    rows ≡ value → seat < length value → old ≡ get_or rows seat old → IsCountOf rows before
    → without.sharing + count_one holds_shares old ≡ before.sharing →
    ((bit : ℕ) → bit < 8 → slice_index without.lacking bit + count_one (waits_without bit) old
    ≡ slice_index before.lacking bit)
    → after.sharing ≡ without.sharing + count_one holds_shares new →
    ((bit : ℕ) → bit < 8 → slice_index after.lacking bit ≡ slice_index without.lacking bit + count_one
    (waits_without bit) new)
    → IsCountOf (slice_set rows seat new) after
IsCountOf-set rows value seat old new before without after view within read is left_sharing left_lacking
    entered_sharing entered_lacking =
    let below : seat < length rows = subst (λ xs. seat < length xs) (sym view) within in
    let at : get_or rows seat old ≡ old = sym read in
    record {
      sharing = moved holds_shares rows seat old new _ _ _ below at is.sharing left_sharing entered_sharing;
      lacking = λ bit small. moved (waits_without bit) rows seat old new _ _ _ below at (is.lacking bit small)
          (left_lacking bit small) (entered_lacking bit small);
    }

byte-cond : (b : Bool) → bool_byte b ≡ cond b 1 0
byte-cond true = refl
byte-cond false = refl

-- what the counts tell about the other seats
pub another_from_count : (test : Row → Bool) (rows value : List Row) (seat : ℕ) (row : Row) (own all : ℕ)
    (mine : Bool) → rows ≡ value → seat < length value → row ≡ get_or rows seat row
    → own ≡ bool_byte mine → mine ≡ test row → all ≡ count_by test rows → nat_lt own all ≡ another test value seat
another_from_count test rows value seat row own all mine view within read own_is mine_is all_is =
    let below : seat < length rows = subst (λ xs. seat < length xs) (sym view) within in
    let part_is : own ≡ count_one test row = own_is ∙ (byte-cond mine ∙ ap (λ b. cond b 1 0) mine_is) in
    let counted : nat_lt own all ≡ nat_lt (count_one test row) (count_by test rows) = λ i.
    nat_lt (part_is i) (all_is i) in
    let there : nat_lt (count_one test row) (count_by test rows) ≡ nat_lt (count_one test (get_or rows seat row))
    (count_by test rows) = ap (λ r. nat_lt (count_one test r) (count_by test rows)) read in
    counted ∙ (there ∙ (sym (another_count test rows seat row below) ∙ ap (λ xs. another test xs seat) view))

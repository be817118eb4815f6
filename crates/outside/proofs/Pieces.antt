-- A piece that is copied to the beginning of a slice.
use Rattle.std.proofs.Common.{◌≡◌, ℕ, ◌+◌, ◌-◌, ◌≤◌, List, ◌++◌, length, take, drop, ap, sym, ◌∙◌, length-take-le}
use Rattle.std.proofs.lemmas.List.{take_rest, take_at, take-append-drop, drop-drop}

-- what is left is the piece and what is left behind it
pub left_by_piece : (bytes copied rest : List ℕ) (taken n : ℕ) →
    copied ≡ take n (take (length bytes - taken) (drop taken bytes))
    → n ≤ length (take (length bytes - taken) (drop taken bytes)) →
    drop taken bytes ≡ take n (copied ++ rest) ++ drop (taken + n) bytes
left_by_piece bytes copied rest taken n is fits =
    let is' : copied ≡ take n (drop taken bytes) = rw take_rest at is in
    let fits' : n ≤ length (drop taken bytes) = rw take_rest at fits in
    let size : length copied ≡ n = ap length is' ∙ length-take-le n (drop taken bytes) fits' in
    rw (take_at copied rest n size, is', ← drop-drop n taken bytes) (sym (take-append-drop n (drop taken bytes)))

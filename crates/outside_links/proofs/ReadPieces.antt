-- A piece that was read from a link in memory.
use Rattle.std.proofs.Common.{◌≡◌, ℕ, ◌+◌, ◌-◌, ◌≤◌, List, ◌++◌, length, take, drop, ap, sym, ◌∙◌, length-take-le}
use Rattle.std.proofs.Math.Seq.{take-add}
use Rattle.std.proofs.lemmas.List.{take_rest, take_at}

-- what was read is what was read before and the piece behind it
pub read_by_piece : (bytes copied rest : List ℕ) (taken n : ℕ) →
    copied ≡ take n (take (length bytes - taken) (drop taken bytes))
    → n ≤ length (take (length bytes - taken) (drop taken bytes)) →
    take (taken + n) bytes ≡ take taken bytes ++ take n (copied ++ rest)
read_by_piece bytes copied rest taken n is fits =
    let is' : copied ≡ take n (drop taken bytes) = rw take_rest at is in
    let fits' : n ≤ length (drop taken bytes) = rw take_rest at fits in
    let size : length copied ≡ n = ap length is' ∙ length-take-le n (drop taken bytes) fits' in
    take-add taken n bytes ∙ ap (λ xs. take taken bytes ++ xs) (sym (take_at copied rest n size ∙ is'))

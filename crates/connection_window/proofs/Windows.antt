-- Windows that move.
use Rattle.std.proofs.Common.{◌≡◌, ℕ, ◌+◌, ◌-◌, ◌≤◌, List, ◌++◌, length, take, drop, refl, ap, sym, ◌∙◌, arith}
use Rattle.std.proofs.Common.{length-take, length-drop}
use Rattle.std.proofs.Math.Seq.{take-add}
use Rattle.std.proofs.lemmas.List.{drop-drop, drop-take}
use Rattle.connection_window.specs.Fills.{window}

-- a window as what is left of the bytes up to its end
pub window_is : (xs : List ℕ) (from to : ℕ) → from ≤ to → window xs from to ≡ drop from (take to xs)
window_is xs from to h =
    let e : from + (to - from) ≡ to = omega arith in
    sym (drop-take from (to - from) xs) ∙ ap (λ k. drop from (take k xs)) e

-- a window that begins later has the first bytes less
pub window_less : (xs : List ℕ) (from to n : ℕ) → from + n ≤ to → window xs (from + n) to ≡ drop n (window xs from to)
window_less xs from to n h =
    let h' : from ≤ to = omega arith in
    window_is xs (from + n) to h ∙ sym (drop-drop n from (take to xs)) ∙ ap (drop n) (sym (window_is xs from to h'))

-- a window stays where the bytes up to its end do
pub window_same : (old new : List ℕ) (from to : ℕ) → from ≤ to → take to new ≡ take to old →
    window new from to ≡ window old from to
window_same old new from to h e = window_is new from to h ∙ ap (drop from) e ∙ sym (window_is old from to h)

-- a window that ends later has the bytes behind its end more
pub window_more : (old new : List ℕ) (from to n : ℕ) → from ≤ to → take to new ≡ take to old →
    window new from (to + n) ≡ window old from to ++ take n (drop to new)
window_more old new from to n h e =
    let size : to + n - from ≡ (to - from) + n = omega arith in
    let place : from + (to - from) ≡ to = omega arith in
    ap (λ k. take k (drop from new)) size
    ∙ take-add (to - from) n (drop from new)
    ∙ ap (λ xs. xs ++ take n (drop (to - from) (drop from new))) (window_same old new from to h e)
    ∙ ap (λ xs. window old from to ++ take n xs)
    (drop-drop (to - from) from new ∙ ap (λ k. drop k new) place)

-- what a window's length says of its places
pub window_length : (xs : List ℕ) (from to : ℕ) → to ≤ length xs → length (window xs from to) ≡ to - from
window_length xs from to h =
    let a : length (window xs from to) ≡ length (take (to - from) (drop from xs)) = refl in
    omega (arith, length-take (to - from) (drop from xs), length-drop from xs)

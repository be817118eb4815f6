-- Lists that agree so far and agree at the next place.
use Rattle.std.proofs.Common.{◌≡◌, ℕ, ◌+◌, ◌<◌, List, [], ◌∷◌, ◌++◌, length, take, get_or, ap, sym, ◌∙◌}
use Rattle.std.proofs.lemmas.List.{take_more}

agree_at : {X : Type 0} (xs ys : List X) (i : ℕ) (x y : X) → i < length xs → i < length ys →
    x ≡ get_or xs i x → y ≡ get_or ys i y → take i xs ≡ take i ys → x ≡ y → take (i + 1) xs ≡ take (i + 1) ys
agree_at xs ys i x y in_xs in_ys at_x at_y agree same =
    take_more xs i x in_xs
    ∙ ap (λ z. take i xs ++ z ∷ []) (sym at_x ∙ same ∙ at_y)
    ∙ ap (λ l. l ++ get_or ys i y ∷ []) agree
    ∙ sym (take_more ys i y in_ys)

-- two lists as long as each other, read through slices, that agree up to a place and there agree up to the next
pub agree_one_more : {X : Type 0} (xs ys one two : List X) (i : ℕ) (x y : X) → one ≡ xs → two ≡ ys →
    length xs ≡ length ys → i < length one → x ≡ get_or one i x → y ≡ get_or two i y → take i xs ≡ take i ys → x ≡ y →
    take (i + 1) xs ≡ take (i + 1) ys
agree_one_more xs ys one two i x y is_xs is_ys long within at_x at_y agree same =
    let in_xs : i < length xs = rw (← is_xs) within in
    agree_at xs ys i x y in_xs (rw (← long) in_xs) (at_x ∙ ap (λ l. get_or l i x) is_xs)
    (at_y ∙ ap (λ l. get_or l i y) is_ys) agree same

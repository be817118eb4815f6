-- What an answer to bytes says of them.
use Rattle.std.proofs.Common.{◌≡◌, ◌⊎◌, ◌<◌, ◌≤◌, ℕ, List, ◌++◌, length, subst, arith}
use Rattle.std.proofs.Common.{inl, inr, take_all}
use Rattle.http_front_head.specs.declared.parts.Head.{Head}
use Rattle.http_front_head.specs.declared.parts.Head.TheVariants.{Whole, More, Bad, Long, Many, Memory}
use Rattle.http_front_head.specs.declared.parts.HeadParts.{HeadParts}
use Rattle.http_front_head.specs.Heads.{looked_at, BeginsWholeHead, BeginsFaultyHead, IsJudged, IsHead, IsHopeless}
use Rattle.http_front_head.specs.Lines.{line_count}
use Rattle.http_front_head.proofs.HeadLaws.{answer_is_head, whole_grows, whole_is_within, hopeless_stays}
use Rattle.http_front_head.proofs.ManyLines.{open_has_few_lines, exceeds_line_count}

-- A head that was judged is what the bytes are.
pub judged_is_head : (b w : List ℕ) (answer : Head) → w ≡ looked_at b → (answer ≡ Memory) ⊎ IsJudged w answer
    → (answer ≡ Memory) ⊎ IsHead b answer
judged_is_head b w answer e (inl none) = inl none
judged_is_head b w (Whole n p) e (inr x) = inr (subst (λ (t : List ℕ). BeginsWholeHead t n p) e x)
judged_is_head b w Bad e (inr x) = inr (inl (subst BeginsFaultyHead e x))
judged_is_head b w More e (inr x) = absurd x
judged_is_head b w Long e (inr x) = absurd x
judged_is_head b w Many e (inr x) = absurd x
judged_is_head b w Memory e (inr x) = absurd x

-- A whole head is there.
pub answer_is_within : (b : List ℕ) (answer : Head) → (answer ≡ Memory) ⊎ IsHead b answer → (n : ℕ) (p : HeadParts)
    → answer ≡ Whole n p → (1 ≤ n) × (n ≤ length b)
answer_is_within b answer told n p e = whole_is_within b n p (answer_is_head b answer (Whole n p) told e (λ x. cc))

-- It stays.
pub answer_grows : (b : List ℕ) (answer : Head) → (answer ≡ Memory) ⊎ IsHead b answer → (n : ℕ) (p : HeadParts)
    → (c : List ℕ) → answer ≡ Whole n p → IsHead (b ++ c) (Whole n p)
answer_grows b answer told n p c e = whole_grows b c n p (answer_is_head b answer (Whole n p) told e (λ x. cc))

-- Behind what is hopeless no whole head comes.
pub answer_stays : (b : List ℕ) (answer : Head) → (answer ≡ Memory) ⊎ IsHead b answer → (n : ℕ) (p : HeadParts)
    → (c : List ℕ) → IsHopeless answer → ¬ (IsHead (b ++ c) (Whole n p))
answer_stays b answer (inl none) n p c h y = subst IsHopeless none h
answer_stays b answer (inr x) n p c h y = hopeless_stays b c answer n p h x y

-- Where more bytes are asked for, few are there, with few lines.
pub answer_is_short : (b : List ℕ) (answer : Head) → (answer ≡ Memory) ⊎ IsHead b answer → answer ≡ More
    → (length b < 16384) × (line_count b < 66)
answer_is_short b answer told e =
    let x = answer_is_head b answer More told e (λ y. cc) in
    let all : looked_at b ≡ b = take_all 16384 b (omega (arith, x.1)) in
    (x.1, subst (λ (w : List ℕ). line_count w < 66) all (open_has_few_lines (looked_at b) x.0))

-- Where header lines are too many, many lines are there.
pub answer_has_lines : (b : List ℕ) (answer : Head) → (answer ≡ Memory) ⊎ IsHead b answer → answer ≡ Many
    → 66 ≤ line_count (looked_at b)
answer_has_lines b answer told e = exceeds_line_count (looked_at b) (answer_is_head b answer Many told e (λ y. cc))

-- Bytes are one head, and what they are stays as more come.
use Rattle.std.proofs.Common.{◌≡◌, ◌⊎◌, ◌+◌, ◌-◌, ◌<◌, ◌≤◌, ℕ, zero, suc, List, [], ◌∷◌, ◌++◌, length, take}
use Rattle.std.proofs.Common.{refl, sym, ap, ◌∙◌, subst, arith, append-nil, length-append, length-take}
use Rattle.std.proofs.Common.{inl, inr, Option, Some, None}
use Rattle.std.proofs.lemmas.List.{take-append-le}
use Rattle.httparse.specs.Grammar.{RequestHead, print_request, ReadsRequest}
use Rattle.httparse.specs.Spans.{RequestExceeds}
use Rattle.httparse.proofs.GrammarLemmas.{request_unique, ReadsRequest-append}
use Rattle.httparse.proofs.OpenLemmas.{request_may, Completes_first, line_blank, some_section}
use Rattle.http_front_head.specs.declared.parts.Head.{Head}
use Rattle.http_front_head.specs.declared.parts.Head.TheVariants.{Whole, More, Bad, Long, Many, Memory}
use Rattle.http_front_head.specs.declared.parts.HeadParts.{HeadParts}
use Rattle.http_front_head.specs.Parts.{judge}
use Rattle.http_front_head.specs.Heads.{looked_at, BeginsHead, BeginsFaultyHead, IsOpen, IsLost, IsHead, IsHopeless}
use Rattle.http_front_head.proofs.Shapes.{head_has_bytes, exceeds_all, exceeds_append}

-- ---- the bytes that are looked at

take_row : (n k : ℕ) (xs ys : List ℕ) → k ≡ n - length xs → take n (xs ++ ys) ≡ take n xs ++ take k ys
take_row zero k [] ys e = let none : k ≡ 0 = omega (arith, e) in rw none refl
take_row (suc n) k [] ys e = let all : k ≡ suc n = omega (arith, e) in rw all refl
take_row zero k (x ∷ xs) ys e = let none : k ≡ 0 = omega (arith, e) in rw none refl
take_row (suc n) k (x ∷ xs) ys e = ap (λ (t : List ℕ). x ∷ t) (take_row n k xs ys (omega (arith, e)))

-- What is looked at of longer bytes begins with what is of the shorter.
pub looked_at_append : (b c : List ℕ) → looked_at (b ++ c) ≡ looked_at b ++ take (16384 - length b) c
looked_at_append b c = take_row 16384 (16384 - length b) b c refl

-- Where as many are there as are looked at, those stay as more come.
pub looked_at_full : (b c : List ℕ) → 16384 ≤ length b → looked_at (b ++ c) ≡ looked_at b
looked_at_full b c full = take-append-le 16384 b c full

begun_grows : (w c : List ℕ) (h : RequestHead) → BeginsHead w h → BeginsHead (w ++ c) h
begun_grows w c h x = (x.0 ++ c, ReadsRequest-append w h x.0 c x.1, x.2)

begun_stays : (b c : List ℕ) (h : RequestHead) → BeginsHead (looked_at b) h → BeginsHead (looked_at (b ++ c)) h
begun_stays b c h x =
    subst (λ (w : List ℕ). BeginsHead w h) (sym (looked_at_append b c))
    (begun_grows (looked_at b) (take (16384 - length b) c) h x)

-- ---- what stays

-- A whole head stays one, whatever follows.
pub whole_grows : (b c : List ℕ) (n : ℕ) (p : HeadParts) → IsHead b (Whole n p) → IsHead (b ++ c) (Whole n p)
whole_grows b c n p x = (x.0, begun_stays b c x.0 x.1, x.2, x.3)

-- A whole head has a byte at least, and is there.
pub whole_is_within : (b : List ℕ) (n : ℕ) (p : HeadParts) → IsHead b (Whole n p) → (1 ≤ n) × (n ≤ length b)
whole_is_within b n p x =
    let some = head_has_bytes x.0 in
    let size : length (looked_at b) ≡ length (print_request x.0) + length x.1.0 =
    ap length x.1.1.1 ∙ length-append (print_request x.0) x.1.0 in
    (omega (arith, x.3, some), omega (arith, x.3, size, length-take 16384 b))

-- Where more bytes are asked for, fewer are there than a head may have.
pub more_is_short : (b : List ℕ) → IsHead b More → length b < 16384
more_is_short b x = x.1

begun_unique : (w : List ℕ) (h k : RequestHead) → BeginsHead w h → BeginsHead w k → h ≡ k
begun_unique w h k x y = (request_unique w h k x.0 y.0 x.1 y.1).0

some_none : {A : Type 0} {a : A} {o : Option A} → o ≡ Some a → o ≡ None → ⊥
some_none x y = cc

-- Behind what is hopeless no whole head comes.
pub hopeless_stays : (b c : List ℕ) (head : Head) (n : ℕ) (p : HeadParts) → IsHopeless head → IsHead b head
    → ¬ (IsHead (b ++ c) (Whole n p))
hopeless_stays b c (Whole m q) n p h x y = h
hopeless_stays b c More n p h x y = h
hopeless_stays b c Memory n p h x y = h
hopeless_stays b c Bad n p h (inl x) y =
    some_none y.2 (subst (λ (k : RequestHead). judge k ≡ None)
    (begun_unique (looked_at (b ++ c)) x.0 y.0 (begun_stays b c x.0 x.1) y.1) x.2)
hopeless_stays b c Bad n p h (inr x) y =
    x.never (take (16384 - length b) c) y.0 y.1.0
    (subst (λ (w : List ℕ). ReadsRequest w y.0 y.1.0) (looked_at_append b c) y.1.1)
hopeless_stays b c Long n p h x y =
    x.0.none y.0 y.1.0 (subst (λ (w : List ℕ). ReadsRequest w y.0 y.1.0) (looked_at_full b c x.1) y.1.1)
hopeless_stays b c Many n p h x y =
    let over = exceeds_append 64 (looked_at b) (take (16384 - length b) c) x in
    let many : 64 < length y.0.fields = exceeds_all 64 _ over y.0 y.1.0
    (subst (λ (w : List ℕ). ReadsRequest w y.0 y.1.0) (looked_at_append b c) y.1.1) in
    omega (arith, many, y.1.2)

-- ---- one head alone

begun_open : (w : List ℕ) (h : RequestHead) → BeginsHead w h → IsOpen w → ⊥
begun_open w h x o = o.none h x.0 x.1

begun_lost : (w : List ℕ) (h : RequestHead) → BeginsHead w h → IsLost w → ⊥
begun_lost w h x l = l.never [] h x.0 (subst (λ (t : List ℕ). ReadsRequest t h x.0) (sym (append-nil w)) x.1)

begun_many : (w : List ℕ) (h : RequestHead) → BeginsHead w h → RequestExceeds 64 w → ⊥
begun_many w h x m = let over = exceeds_all 64 w m h x.0 x.1 in omega (arith, over, x.2)

open_lost : (w : List ℕ) → IsOpen w → IsLost w → ⊥
open_lost w o l = elim o.may [ inl x ↦ l.never x.0 x.1 [] x.2 | inr t ↦ l.past_target t ]

whole_bad : (b : List ℕ) (n : ℕ) (p : HeadParts) → IsHead b (Whole n p)
    → BeginsFaultyHead (looked_at b) ⊎ IsLost (looked_at b) → ⊥
whole_bad b n p x (inl y) = some_none x.2 (ap judge (begun_unique (looked_at b) x.0 y.0 x.1 y.1) ∙ y.2)
whole_bad b n p x (inr y) = begun_lost (looked_at b) x.0 x.1 y

open_bad : (w : List ℕ) → IsOpen w → BeginsFaultyHead w ⊎ IsLost w → ⊥
open_bad w o (inl y) = begun_open w y.0 y.1 o
open_bad w o (inr y) = open_lost w o y

bad_many : (w : List ℕ) → BeginsFaultyHead w ⊎ IsLost w → RequestExceeds 64 w → ⊥
bad_many w (inl y) m = begun_many w y.0 y.1 m
bad_many w (inr y) m = y.few m

some_same : {A : Type 0} {a c : A} {o : Option A} → o ≡ Some a → o ≡ Some c → a ≡ c
some_same x y = cc

-- Bytes are one head at most.
pub head_unique : (b : List ℕ) (x y : Head) → IsHead b x → IsHead b y → x ≡ y
head_unique b (Whole n p) (Whole m q) x y =
    let same = begun_unique (looked_at b) x.0 y.0 x.1 y.1 in
    let sizes : n ≡ m = x.3 ∙ ap (λ (h : RequestHead). length (print_request h)) same ∙ sym y.3 in
    let parts : p ≡ q = some_same (sym (ap judge same) ∙ x.2) y.2 in
    (λ i. Whole (sizes i) (parts i))
head_unique b (Whole n p) More x y = absurd (begun_open (looked_at b) x.0 x.1 y.0)
head_unique b (Whole n p) Bad x y = absurd (whole_bad b n p x y)
head_unique b (Whole n p) Long x y = absurd (begun_open (looked_at b) x.0 x.1 y.0)
head_unique b (Whole n p) Many x y = absurd (begun_many (looked_at b) x.0 x.1 y)
head_unique b More (Whole m q) x y = absurd (begun_open (looked_at b) y.0 y.1 x.0)
head_unique b More More x y = refl
head_unique b More Bad x y = absurd (open_bad (looked_at b) x.0 y)
head_unique b More Long x y = absurd (omega (arith, x.1, y.1))
head_unique b More Many x y = absurd (x.0.few y)
head_unique b Bad (Whole m q) x y = absurd (whole_bad b m q y x)
head_unique b Bad More x y = absurd (open_bad (looked_at b) y.0 x)
head_unique b Bad Bad x y = refl
head_unique b Bad Long x y = absurd (open_bad (looked_at b) y.0 x)
head_unique b Bad Many x y = absurd (bad_many (looked_at b) x y)
head_unique b Long (Whole m q) x y = absurd (begun_open (looked_at b) y.0 y.1 x.0)
head_unique b Long More x y = absurd (omega (arith, x.1, y.1))
head_unique b Long Bad x y = absurd (open_bad (looked_at b) x.0 y)
head_unique b Long Long x y = refl
head_unique b Long Many x y = absurd (x.0.few y)
head_unique b Many (Whole m q) x y = absurd (begun_many (looked_at b) y.0 y.1 x)
head_unique b Many More x y = absurd (y.0.few x)
head_unique b Many Bad x y = absurd (bad_many (looked_at b) y x)
head_unique b Many Long x y = absurd (y.0.few x)
head_unique b Many Many x y = refl
head_unique b Memory y x _ = absurd x
head_unique b (Whole n p) Memory x y = absurd y
head_unique b More Memory x y = absurd y
head_unique b Bad Memory x y = absurd y
head_unique b Long Memory x y = absurd y
head_unique b Many Memory x y = absurd y

-- An answer that is memory's or the bytes' is the only head that they are, unless it is memory's.
pub answer_is_only : (b : List ℕ) (answer other : Head) → (answer ≡ Memory) ⊎ IsHead b answer → IsHead b other
    → (answer ≡ Memory) ⊎ (answer ≡ other)
answer_is_only b answer other (inl none) y = inl none
answer_is_only b answer other (inr x) y = inr (head_unique b answer other x y)

-- An answer that is another one than memory's is the bytes'.
pub answer_is_head : (b : List ℕ) (answer head : Head) → (answer ≡ Memory) ⊎ IsHead b answer → answer ≡ head
    → (head ≡ Memory → ⊥) → IsHead b head
answer_is_head b answer head (inl none) e other = absurd (other (sym e ∙ none))
answer_is_head b answer head (inr x) e other = subst (IsHead b) e x

-- No bytes can go on.
pub nothing_is_more : IsHead [] More
nothing_is_more = (
  record {
    none = λ h rest x. let some = head_has_bytes h in
        absurd (omega (arith, ap length x.1, length-append (print_request h) rest, some));
    may = request_may
        (Completes_first (line_blank (record { more = []; tree = []; reads = λ rest. refl })) some_section);
    few = λ x. let some = head_has_bytes x.3 in
        absurd (omega (
          arith,
          ap length x.2,
          length-append x.0 x.1,
          ap length x.4.1,
          length-append x.0 (10 ∷ []),
          length-append (print_request x.3) [],
          some,
        ));
  },
  omega arith,
)

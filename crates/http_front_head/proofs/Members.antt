-- The members of a comma list, one after another.
use Rattle.std.proofs.Common.{◌≡◌, ◌+◌, ◌<◌, ◌||◌, ◌==◌, ℕ, Bool, true, false, List, [], ◌∷◌, length, take, drop}
use Rattle.std.proofs.Common.{refl, ap, ◌∙◌, arith}
use Rattle.std.specs.List.{list_any, position_or_len}
use Rattle.std.proofs.lemmas.List.Sums.{fails_before_first}
use Rattle.std.proofs.lemmas.List.Splits.{slice_split_first, slice_split_none}
use Rattle.http_front_head.specs.Parts.{members, says_close, lists_close}

-- The first member ends at the first comma.
pub members_at : (list : List ℕ) (place : ℕ) → position_or_len (λ b. b == 44) list ≡ place → place < length list
    → members list ≡ take place list ∷ members (drop (place + 1) list)
members_at list place found within =
    slice_split_first (λ (b : ℕ). b == 44) list 0 (omega (arith, found, within))
    ∙ ap (λ (n : ℕ). take n list ∷ members (drop (n + 1) list)) found

-- Without a comma the list is its one member.
pub members_none : (list : List ℕ) → position_or_len (λ b. b == 44) list ≡ length list → members list ≡ list ∷ []
members_none list none =
    slice_split_none (λ (b : ℕ). b == 44) list
    (λ k d l. fails_before_first (λ (b : ℕ). b == 44) list k d (omega (arith, l, none)))

-- A member that doesn't close is passed.
pub member_passed : (list member others : List ℕ) → members list ≡ member ∷ members others → says_close member ≡ false
    → lists_close list ≡ lists_close others
member_passed list member others split stays_open =
    ap (list_any says_close) split ∙ ap (λ (b : Bool). b || lists_close others) stays_open

-- One that closes decides.
pub member_closes : (list member others : List ℕ) → members list ≡ member ∷ members others → says_close member ≡ true
    → lists_close list ≡ true
member_closes list member others split yes_close =
    ap (list_any says_close) split ∙ ap (λ (b : Bool). b || lists_close others) yes_close

or_nothing : (b : Bool) → (b || false) ≡ b
or_nothing true = refl
or_nothing false = refl

-- The last one decides.
pub last_member : (list : List ℕ) → members list ≡ list ∷ [] → lists_close list ≡ says_close list
last_member list one = ap (list_any says_close) one ∙ or_nothing (says_close list)

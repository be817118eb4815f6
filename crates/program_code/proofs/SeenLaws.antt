-- Entries at places, one place more at a time.
use Rattle.std.proofs.Common.{◌≡◌, ◌∙◌, ℕ, zero, suc, ◌<◌, List, [], ◌∷◌, ◌++◌, length, set}
use Rattle.std.proofs.Common.{Some, None, slice_get, refl, sym, ap, append-nil}
use Rattle.std.specs.Global.{Vec}
use Rattle.std.proofs.lemmas.Grind.{flat_map-append}
use Rattle.std.proofs.lemmas.List.{length-map}
use Rattle.std.proofs.lemmas.Option.{none-some, same_Some, slice_get_within}
use Rattle.program_places.specs.Paths.{Path}
use Rattle.program_files.specs.Entries.{Entry, What}
use Rattle.program_files.specs.Contents.{first_mention}
use Rattle.program_places.specs.Places.{Mention}
use Rattle.program_constants.specs.Constants.{first_place}
use Rattle.program_constants.proofs.ListLaws.{first_there}
use Rattle.program_code.specs.Groups.{given, group, groups, add_at}
use Rattle.program_code.specs.Seen.{entry_list, entry_at, placed, placed_groups}

-- one place more
pub placed_more : (es : List Entry) (ks : List ℕ) (k : ℕ) → placed es (ks ++ k ∷ []) ≡ placed es ks ++ entry_at es k
placed_more es ks k = flat_map-append (entry_at es) ks (k ∷ [])
    ∙ ap (λ xs. placed es ks ++ xs) (append-nil (entry_at es k))

-- one place more gives more
pub given_more : {A : Type 0} (f : Entry → What → List A) (es : List Entry) (ks : List ℕ) (k : ℕ) →
    given f (placed es (ks ++ k ∷ [])) ≡ given f (placed es ks) ++ given f (entry_at es k)
given_more f es ks k = ap (given f) (placed_more es ks k)
    ∙ flat_map-append (λ (e : Entry). f e e.what) (placed es ks) (entry_at es k)

-- what is given by an entry and those behind it
pub given_behind : {A : Type 0} (f : Entry → What → List A) (es : List Entry) (k : ℕ) (ks : List ℕ) →
    given f (placed es (k ∷ ks)) ≡ given f (entry_at es k) ++ given f (placed es ks)
given_behind f es k ks = flat_map-append (λ (e : Entry). f e e.what) (entry_at es k) (placed es ks)

-- an entry alone
pub given_one : {A : Type 0} (f : Entry → What → List A) (es : List Entry) (k : ℕ) (e : Entry) →
    slice_get es k ≡ Some e → given f (entry_at es k) ≡ f e e.what
given_one f es k e h = ap (λ o. given f (entry_list o)) h ∙ append-nil (f e e.what)

-- no entry
pub given_none : {A : Type 0} (f : Entry → What → List A) (es : List Entry) (k : ℕ) → slice_get es k ≡ None →
    given f (entry_at es k) ≡ []
given_none f es k h = ap (λ o. given f (entry_list o)) h

-- the first of mentions is the first of some, or of those behind
pub first_of_both : (ms ns : List Mention) → first_mention ms ≡ None → first_mention (ms ++ ns) ≡ first_mention ns
first_of_both [] ns h = refl
first_of_both (m ∷ ms) ns h = absurd (none-some m (sym h))

-- the first mention stays first
pub first_of_front : (ms ns : List Mention) (m : Mention) → first_mention ms ≡ Some m →
    first_mention (ms ++ ns) ≡ Some m
first_of_front [] ns m h = absurd (none-some m h)
first_of_front (n ∷ ms) ns m h = h

-- a group that has a place more, among the others
pub groups_set : (es : List Entry) (gs : List (Vec ℕ)) (n k : ℕ) (g h : Vec ℕ) (e : Entry) →
    slice_get gs n ≡ Some g → h.items ≡ g.items ++ k ∷ [] → slice_get es k ≡ Some e →
    placed_groups es (set gs n h) ≡ add_at (placed_groups es gs) n e
groups_set es [] n k g h e at is there = absurd (none-some g at)
groups_set es (x ∷ gs) zero k g h e at is there =
    ap (λ ys. ys ∷ placed_groups es gs)
    (ap (placed es) is ∙ placed_more es g.items k ∙ ap (λ o. placed es g.items ++ entry_list o) there
    ∙ ap (λ (v : Vec ℕ). placed es v.items ++ e ∷ []) (sym (same_Some x g at)))
groups_set es (x ∷ gs) (suc n) k g h e at is there =
    ap (λ ys. placed es x.items ∷ ys) (groups_set es gs n k g h e at is there)

-- a first place is within as many groups
pub first_within_groups : (path : Path) (cs : List Path) (k size : ℕ) → size ≡ length cs →
    first_place path cs ≡ Some k → k < size
first_within_groups path cs k size same e =
    rw same (slice_get_within cs k path (first_there path cs k e).here)

-- as many groups as constants
pub groups_length : (gs : List (Vec ℕ)) (es fs : List Entry) (cs : List Path) →
    placed_groups es gs ≡ groups fs cs → length gs ≡ length cs
groups_length gs es fs cs e =
    sym (length-map gs (λ (g : Vec ℕ). placed es g.items))
    ∙ ap length e ∙ length-map cs (λ (p : Path). group fs p)

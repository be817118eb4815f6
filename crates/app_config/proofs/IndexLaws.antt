-- Arranged patterns: what they name is what the patterns name.
use Rattle.std.proofs.Common.{◌≡◌, ◌==◌, ◌<◌, ℕ, Bool, true, false, cond, not, ◌||◌}
use Rattle.std.proofs.Common.{List, [], ◌∷◌, ◌++◌, length, map, take, drop, get_or, Contains, refl, sym, ap, subst, ◌∙◌}
use Rattle.std.proofs.Common.{inl, inr, ◌⊎◌, ltb, leb, arith}
use Rattle.std.specs.Prelude.{Result, Ok, Err, MatchBool, is_ok}
use Rattle.std.specs.List.{filter, onto_first, join_with_byte, AllZip}
use Rattle.std.specs.List.Sorted.{IsPartitionPoint, IsBinarySearchResult, IsSearchInRange}
use Rattle.std.specs.Ordering.{nat_cmp}
use Rattle.std.specs.Cmp.Lexicographic.{slice_cmp}
use Rattle.std.specs.declared.cmp.Ordering.TheVariants.{Less, Equal, Greater}
use Rattle.std.proofs.lemmas.Bool.{false≢true, cases_lt, ltb-true}
use Rattle.std.proofs.lemmas.Cmp.{nat_list_cmp_total, tied_itself}
use Rattle.std.proofs.lemmas.Bool.Decides.{nat_tests}
use Rattle.std.proofs.lemmas.List.{get_or-map, length-map, take-append-drop}
use Rattle.std.proofs.lemmas.List.Elements.{All-contains, length_all_zip, Contains-append_left, Contains-append_right}
use Rattle.std.proofs.lemmas.List.Elements.{Contains-append_cases}
use Rattle.std.proofs.lemmas.List.Sorted.{searchable_from_sorted, Contains-permutation, IsPermutation-sym}
use Rattle.std.proofs.lemmas.List.Splits.{length-slice_split, join_with_byte-slice_split}
use Rattle.std.proofs.lemmas.Map.Lookups.{exact_bytes}
use Rattle.app_config.specs.Text.{split}
use Rattle.app_config.specs.Paths.{segments}
use Rattle.app_config.specs.Patterns.{Fits, Names, IsNamed}
use Rattle.app_config.specs.Patterns.Fits.{ends, byte, star}
use Rattle.app_config.specs.Indexes.Arranged.{has_star, slashes, texts, AreInOrder, AreByCount, IsGroup, SomeNames}
use Rattle.app_config.specs.Indexes.Arranged.{IsArranged}
use Rattle.app_config.specs.declared.starred.Starred.{Starred}
use Rattle.app_config.proofs.MemberLaws.{MatchBool-same, Contains-filter, filter-contains, Contains-map}
use Rattle.app_config.proofs.MemberLaws.{map-contains, Any-contains, contains-any, All-take_within, All-drop_within}
use denote.Ref.{Bor}

-- ---- what a pattern names

Fits-itself : (text : List ℕ) → Fits text text
Fits-itself [] = ends
Fits-itself (first ∷ rest) = byte first (Fits-itself rest)

AllZip-itself : (parts : List (List ℕ)) → AllZip Fits parts parts
AllZip-itself [] = tt
AllZip-itself (part ∷ parts) = (Fits-itself part, AllZip-itself parts)

-- a path is named by itself
pub Names-itself : (path : List ℕ) → Names path path
Names-itself path = AllZip-itself (segments path)

-- a pattern has as many slashes as each path that it names
pub Names-slashes : (pattern path : List ℕ) → Names pattern path → slashes pattern ≡ slashes path
Names-slashes pattern path h =
    let same : length (split 47 pattern) ≡ length (split 47 path)
    = length_all_zip Fits (split 47 pattern) (split 47 path) h in
    omega (arith, same, length-slice_split (λ b. b == 47) pattern, length-slice_split (λ b. b == 47) path)

-- each part of a list has no star
abbrev Starless : List (List ℕ) → Type 0
Starless [] = Unit {0}
Starless (part ∷ parts) = (has_star part ≡ false) × Starless parts

or_left : (a b : Bool) → (a || b) ≡ false → a ≡ false
or_left true b e = e
or_left false b e = refl

or_right : (a b : Bool) → (a || b) ≡ false → b ≡ false
or_right true b e = absurd (false≢true (sym e))
or_right false b e = e

both_false : (a b : Bool) → a ≡ false → b ≡ false → (a || b) ≡ false
both_false a b e f = rw (e, f) refl

Starless-onto : (first : ℕ) (parts : List (List ℕ)) → (first == 42) ≡ false → Starless parts →
    Starless (onto_first first parts)
Starless-onto first [] e h = (both_false (first == 42) false e refl, tt)
Starless-onto first (part ∷ parts) e h = (both_false (first == 42) (has_star part) e h.0, h.1)

-- the segments of a pattern without a star have none
Starless-segments : (pattern : List ℕ) → has_star pattern ≡ false → Starless (segments pattern)
Starless-segments [] e = (refl, tt)
Starless-segments (first ∷ rest) e =
    let below = Starless-segments rest (or_right (first == 42) (has_star rest) e) in
    elim (first == 47) as (λ v. Starless (cond v ([] ∷ split 47 rest) (onto_first first (split 47 rest)))) [
      | true ↦ (refl, below)
      | false ↦ Starless-onto first (split 47 rest) (or_left (first == 42) (has_star rest) e) below
    ]

-- a segment of a pattern without a star fits itself alone
Fits-starless : {pattern segment : List ℕ} → Fits pattern segment → has_star pattern ≡ false → pattern ≡ segment
Fits-starless ends e = refl
Fits-starless (byte first {pattern = pattern} f) e =
    ap (λ rest. first ∷ rest) (Fits-starless f (or_right (first == 42) (has_star pattern) e))
Fits-starless (star any f) e = absurd (false≢true (sym e))

AllZip-starless : (patterns parts : List (List ℕ)) → Starless patterns → AllZip Fits patterns parts → patterns ≡ parts
AllZip-starless [] [] s h = refl
AllZip-starless [] (part ∷ parts) s h = absurd h
AllZip-starless (pattern ∷ patterns) [] s h = absurd h
AllZip-starless (pattern ∷ patterns) (part ∷ parts) s h =
    let here = Fits-starless h.0 s.0 in let below = AllZip-starless patterns parts s.1 h.1 in cc

-- a pattern without a star names its own path alone
pub Names-starless : (pattern path : List ℕ) → has_star pattern ≡ false → Names pattern path → pattern ≡ path
Names-starless pattern path e h =
    sym (join_with_byte-slice_split 47 pattern)
    ∙ (ap (join_with_byte 47) (AllZip-starless (segments pattern) (segments path) (Starless-segments pattern e) h)
    ∙ join_with_byte-slice_split 47 path)

-- ---- patterns without a star

-- between texts that come before this one and texts that come behind it, it isn't
not_parted : (sorted : List (Bor (List ℕ))) (text : List ℕ) (place : ℕ) →
    IsPartitionPoint (λ one. slice_cmp nat_cmp one.now text ≡ Less) (λ one. slice_cmp nat_cmp one.now text ≡ Greater)
    sorted place → ¬ Contains (texts sorted) text
not_parted sorted text place parted = λ (k, within, at).
    let none : Bor (List ℕ) = record { ref_ptr = (0, 0); now = text } in
    let inside : k < length sorted = omega (arith, within, length-map sorted (λ (one : Bor (List ℕ)). one.now)) in
    let same : (get_or sorted k none).now ≡ text = sym (get_or-map (λ one. one.now) sorted k none text inside) ∙ at in
    let equal : slice_cmp nat_cmp (get_or sorted k none).now text ≡ Equal =
    ap (λ other. slice_cmp nat_cmp other text) same ∙ tied_itself nat_list_cmp_total text in
    elim (cases_lt k place) [
      | inl before ↦ let less : Less ≡ Equal = sym (parted.0 k none (omega arith) before) ∙ equal in cc
      | inr behind ↦ let greater : Greater ≡ Equal = sym (parted.1 k none behind inside) ∙ equal in cc
    ]

-- what a binary search tells of sorted texts
pub searched-contains : (sorted : List (Bor (List ℕ))) (text : List ℕ) (found : Result ℕ ℕ) (answer : Bool) →
    AreInOrder sorted → IsSearchInRange found (length sorted) →
    IsBinarySearchResult (λ one. slice_cmp nat_cmp one.now text) sorted found → answer ≡ is_ok found →
    MatchBool answer (Contains (texts sorted) text) (¬ Contains (texts sorted) text)
searched-contains sorted text (Ok place) answer order within at e =
    let none : Bor (List ℕ) = record { ref_ptr = (0, 0); now = text } in
    rw e (
      place,
      omega (arith, within, length-map sorted (λ (one : Bor (List ℕ)). one.now)),
      get_or-map (λ one. one.now) sorted place none text within ∙ exact_bytes _ _ (at none),
    )
searched-contains sorted text (Err place) answer order within parted e =
    let searchable = searchable_from_sorted nat_list_cmp_total (λ (one : Bor (List ℕ)). one.now) sorted text order in
    rw e (λ h. not_parted sorted text place (parted searchable) h)

-- ---- patterns with a star

between : (n wanted : ℕ) → ltb n wanted ≡ false → leb n wanted ≡ true → n ≡ wanted
between n wanted low high = grind (arith, nat_tests)

not_fewer : (n wanted : ℕ) → n ≡ wanted → ltb n wanted ≡ true → ⊥
not_fewer n wanted same h = let less = ltb-true n wanted h in omega arith

not_more : (n wanted : ℕ) → n ≡ wanted → leb n wanted ≡ false → ⊥
not_more n wanted same h = grind (arith, nat_tests)

-- the patterns with as many slashes stand behind those with fewer, before those with more
pub IsGroup-parts : (wanted : ℕ) (starred rest : List Starred) (start count : ℕ) → rest ≡ drop start starred →
    IsPartitionPoint (λ one. ltb one.slashes wanted ≡ true) (λ one. ltb one.slashes wanted ≡ false) starred start →
    IsPartitionPoint (λ one. leb one.slashes wanted ≡ true) (λ one. leb one.slashes wanted ≡ false) rest count →
    IsGroup wanted starred (take count rest)
IsGroup-parts wanted starred rest start count e low high = λ one.
    let whole : take start starred ++ rest ≡ starred =
    ap (λ more. take start starred ++ more) e ∙ take-append-drop start starred in
    let parts : take count rest ++ drop count rest ≡ rest = take-append-drop count rest in
    let P : List Starred → Type 0 = λ all. Contains all one in
    let fewer = All-contains (λ y. ltb y.slashes wanted ≡ true) (take start starred) one
    (All-take_within (λ y. ltb y.slashes wanted ≡ true) starred start low.0) in
    let no_fewer = All-contains (λ y. ltb y.slashes wanted ≡ false) (drop start starred) one
    (All-drop_within (λ y. ltb y.slashes wanted ≡ false) starred start low.1) in
    let no_more = All-contains (λ y. leb y.slashes wanted ≡ true) (take count rest) one
    (All-take_within (λ y. leb y.slashes wanted ≡ true) rest count high.0) in
    let more = All-contains (λ y. leb y.slashes wanted ≡ false) (drop count rest) one
    (All-drop_within (λ y. leb y.slashes wanted ≡ false) rest count high.1) in (
      (λ h.
          let in_rest = subst P parts (Contains-append_left (take count rest) (drop count rest) one h) in (
            subst P whole (Contains-append_right (take start starred) rest one in_rest),
            between one.slashes wanted (no_fewer (subst P e in_rest)) (no_more h),
          )),
      (λ (h, same). elim (Contains-append_cases (take start starred) rest one (subst P (sym whole) h)) [
        | inl k ↦ absurd (not_fewer one.slashes wanted same (fewer k))
        | inr k ↦ elim (Contains-append_cases (take count rest) (drop count rest) one (subst P (sym parts) k)) [
          | inl here ↦ here
          | inr past ↦ absurd (not_more one.slashes wanted same (more past))
        ]
      ]),
    )

-- a pattern of the group names the path exactly where some pattern does
pub SomeNames-group : (starred group : List Starred) (path : List ℕ) (answer : Bool) → AreByCount starred →
    IsGroup (slashes path) starred group → MatchBool answer (SomeNames group path) (¬ SomeNames group path) →
    MatchBool answer (SomeNames starred path) (¬ SomeNames starred path)
SomeNames-group starred group path answer by_count is_group h =
    MatchBool-same answer
    (λ some. let r = contains-any (λ one. Names one.pattern.now path) group some in
    Any-contains (λ one. Names one.pattern.now path) starred r.0 (((is_group r.0).0 r.1).0) r.2)
    (λ some. let r = contains-any (λ one. Names one.pattern.now path) starred some in
    Any-contains (λ one. Names one.pattern.now path) group r.0
    ((is_group r.0).1 (
      r.1,
      All-contains (λ one. one.slashes ≡ slashes one.pattern.now) starred r.0 by_count.counted r.1
          ∙ Names-slashes r.0.pattern.now path r.2,
    )) r.2) h

-- ---- both

not_true : (b : Bool) → b ≡ false → not b ≡ true
not_true b e = ap not e

-- a path that is among the patterns without a star is named
pub IsNamed-plain : (patterns : List (List ℕ)) (plain : List (Bor (List ℕ))) (starred : List Starred) (path : List ℕ) →
    IsArranged patterns plain starred → Contains (texts plain) path → IsNamed patterns path
IsNamed-plain patterns plain starred path arranged h =
    let kept = Contains-permutation (texts plain) (filter (λ pattern. not (has_star pattern)) patterns) path
    (IsPermutation-sym (filter (λ pattern. not (has_star pattern)) patterns) (texts plain) arranged.apart.same) h in
    Any-contains (λ pattern. Names pattern path) patterns path
    (filter-contains (λ pattern. not (has_star pattern)) patterns path kept) (Names-itself path)

-- a path that some pattern with a star names is named
pub IsNamed-starred : (patterns : List (List ℕ)) (plain : List (Bor (List ℕ))) (starred : List Starred)
    (path : List ℕ) → IsArranged patterns plain starred → SomeNames starred path → IsNamed patterns path
IsNamed-starred patterns plain starred path arranged h =
    let r = contains-any (λ one. Names one.pattern.now path) starred h in
    let kept = Contains-permutation (map (λ one. one.pattern.now) starred) (filter has_star patterns) r.0.pattern.now
    (IsPermutation-sym (filter has_star patterns) (map (λ one. one.pattern.now) starred) arranged.others.same)
    (Contains-map (λ one. one.pattern.now) starred r.0 r.0.pattern.now r.1 refl) in
    Any-contains (λ pattern. Names pattern path) patterns r.0.pattern.now
    (filter-contains has_star patterns r.0.pattern.now kept) r.2

-- a path that is named is among the patterns without a star, or some pattern with a star names it
IsNamed-cases : (patterns : List (List ℕ)) (plain : List (Bor (List ℕ))) (starred : List Starred) (path : List ℕ) →
    IsArranged patterns plain starred → IsNamed patterns path → Contains (texts plain) path ⊎ SomeNames starred path
IsNamed-cases patterns plain starred path arranged h =
    let r = contains-any (λ pattern. Names pattern path) patterns h in
    elim (has_star r.0) as (λ v. has_star r.0 ≡ v → Contains (texts plain) path ⊎ SomeNames starred path) [
      | true ↦ λ e.
          let kept = Contains-permutation (filter has_star patterns) (map (λ one. one.pattern.now) starred) r.0
          arranged.others.same (Contains-filter has_star patterns r.0 r.1 e) in
          let one = map-contains (λ one. one.pattern.now) starred r.0 kept in
          let P : List ℕ → Type 0 = λ pattern. Names pattern path in
          inr (Any-contains (λ one. Names one.pattern.now path) starred one.0 one.1 (subst P (sym one.2) r.2))
      | false ↦ λ e.
          let P : List ℕ → Type 0 = λ text. Contains (texts plain) text in
          inl (subst P (Names-starless r.0 path e r.2)
          (Contains-permutation (filter (λ pattern. not (has_star pattern)) patterns) (texts plain) r.0
          arranged.apart.same (Contains-filter (λ pattern. not (has_star pattern)) patterns r.0 r.1
          (not_true (has_star r.0) e))))
    ] refl

-- where the path is not among the patterns without a star, those with a star tell
pub IsNamed-others : (patterns : List (List ℕ)) (plain : List (Bor (List ℕ))) (starred : List Starred)
    (path : List ℕ) (answer : Bool) → IsArranged patterns plain starred → (¬ Contains (texts plain) path) →
    MatchBool answer (SomeNames starred path) (¬ SomeNames starred path) →
    MatchBool answer (IsNamed patterns path) (¬ IsNamed patterns path)
IsNamed-others patterns plain starred path answer arranged none h =
    MatchBool-same answer (IsNamed-starred patterns plain starred path arranged)
    (λ named. elim (IsNamed-cases patterns plain starred path arranged named)
    [ inl k ↦ absurd (none k) | inr k ↦ k ]) h

-- The matcher's functions: that the first place of a piece serves, and that they decide what fits.
use Rattle.std.proofs.Common.{◌≡◌, ◌≢◌, ◌==◌, ◌+◌, ◌-◌, ◌≤◌, ℕ, suc, zero, Bool, true, false, cond, not, ◌&&◌, ◌||◌}
use Rattle.std.proofs.Common.{List, [], ◌∷◌, ◌++◌, length, take, drop, refl, sym, ap, ◌∙◌, inl, inr, ◌⊎◌, eqb, arith}
use Rattle.std.specs.Prelude.{Option, Some, None, MatchOption, option_copied, is_some, is_none}
use Rattle.std.specs.Cmp.Lexicographic.{pointwise}
use Rattle.std.specs.List.{AllZip, onto_first, ends_with}
use Rattle.std.proofs.lemmas.Bool.{eqb-true, eq-eqb, false≢true}
use Rattle.std.proofs.lemmas.Bool.Decides.{Decides-eqb}
use Rattle.std.proofs.lemmas.List.{drop-drop}
use Rattle.std.proofs.lemmas.Slice.Eq.{strip_prefix_is, ends_is}
use Rattle.app_config.specs.Text.{split}
use Rattle.app_config.specs.Patterns.{Fits}
use Rattle.app_config.specs.Patterns.Fits.{ends, byte, star}
use Rattle.app_config.specs.Loops.Matching.{is_empty, some_end, behind, first_of, behind_first, passes, fits_pieces}
use Rattle.app_config.specs.Loops.Matching.{segment_fits, some_end_fits, all_fit}
use Rattle.app_config.proofs.PathLaws.{split-some}
use denote.Ref.{Bor}

-- Tests.

or_true : (a b : Bool) → b ≡ true → (a || b) ≡ true
or_true true b e = refl
or_true false b e = e

or_cases : (a b : Bool) → (a || b) ≡ true → (a ≡ true) ⊎ (b ≡ true)
or_cases true b e = inl refl
or_cases false b e = inr e

or_known : (a b : Bool) → (b ≡ true → a ≡ true) → (a || b) ≡ a
or_known true b h = refl
or_known false true h = sym (h refl)
or_known false false h = refl

and_cases : (a b : Bool) → (a && b) ≡ true → (a ≡ true) × (b ≡ true)
and_cases true b e = (refl, e)
and_cases false b e = absurd (false≢true e)

and_false : (a : Bool) → (a && false) ≡ false
and_false true = refl
and_false false = refl

same_tests : (a b : Bool) → (a ≡ true → b ≡ true) → (b ≡ true → a ≡ true) → a ≡ b
same_tests true b f g = sym (f refl)
same_tests false true f g = g refl
same_tests false false f g = refl

-- Ends of a segment.

some_end-true : (test : List ℕ → Bool) (segment : List ℕ) → some_end test segment ≡ true → (any : List ℕ)
    × (end : List ℕ) × (segment ≡ any ++ end) × (test end ≡ true)
some_end-true test [] e = ([], [], refl, e)
some_end-true test (first ∷ rest) e =
    elim (or_cases (test (first ∷ rest)) (some_end test rest) e) [
      | inl h ↦ ([], first ∷ rest, refl, h)
      | inr h ↦ let r = some_end-true test rest h in
          (first ∷ r.0, r.1, ap (λ x. first ∷ x) r.2, r.3)
    ]

some_end-here : (test : List ℕ → Bool) (segment : List ℕ) → test segment ≡ true → some_end test segment ≡ true
some_end-here test [] e = e
some_end-here test (first ∷ rest) e = rw e refl

some_end-append : (test : List ℕ → Bool) (any end : List ℕ) → test end ≡ true → some_end test (any ++ end) ≡ true
some_end-append test [] end e = some_end-here test end e
some_end-append test (first ∷ any) end e = or_true (test (first ∷ any ++ end)) (some_end test (any ++ end))
    (some_end-append test any end e)

some_end-drop : (test : List ℕ → Bool) (n : ℕ) (segment : List ℕ) → some_end test (drop n segment) ≡ true →
    some_end test segment ≡ true
some_end-drop test zero segment e = e
some_end-drop test (suc n) [] e = e
some_end-drop test (suc n) (first ∷ rest) e = or_true (test (first ∷ rest)) (some_end test rest)
    (some_end-drop test n rest e)

some_end-same : (test other : List ℕ → Bool) → ((end : List ℕ) → test end ≡ other end) → (segment : List ℕ) →
    some_end test segment ≡ some_end other segment
some_end-same test other h [] = h []
some_end-same test other h (first ∷ rest) = rw (h (first ∷ rest), some_end-same test other h rest) refl

-- Pieces.

behind-append : (piece rest : List ℕ) → behind piece (piece ++ rest) ≡ Some rest
behind-append [] rest = refl
behind-append (first ∷ piece) rest = rw (eq-eqb first first refl) (behind-append piece rest)

behind-none : (piece segment : List ℕ) → ((rest : List ℕ) → segment ≢ piece ++ rest) → behind piece segment ≡ None
behind-none [] segment h = absurd (h segment refl)
behind-none (first ∷ piece) [] h = refl
behind-none (first ∷ piece) (other ∷ rest) h =
    elim (other == first) as (λ v. (other == first) ≡ v → cond v (behind piece rest) None ≡ None)
    [ true ↦ λ e. behind-none piece rest (λ r d. h r (let same = eqb-true other first e in cc)) | false ↦ λ e. refl ]
    refl

behind-whole : (piece end : List ℕ) → passes is_empty (behind piece end) ≡ true → end ≡ piece
behind-whole [] [] e = refl
behind-whole [] (first ∷ rest) e = absurd (false≢true e)
behind-whole (first ∷ piece) [] e = absurd (false≢true e)
behind-whole (first ∷ piece) (other ∷ rest) e =
    elim (other == first) as (λ v. (other == first) ≡ v → passes is_empty (cond v (behind piece rest) None) ≡ true →
    other ∷ rest ≡ first ∷ piece) [
      | true ↦ λ d h. let same = eqb-true other first d in let tail = behind-whole piece rest h in cc
      | false ↦ λ d h. absurd (false≢true h)
    ] refl e

behind-self : (piece : List ℕ) → passes is_empty (behind piece piece) ≡ true
behind-self [] = refl
behind-self (first ∷ piece) = rw (eq-eqb first first refl) (behind-self piece)

behind-drop : (piece segment rest : List ℕ) → behind piece segment ≡ Some rest → rest ≡ drop (length piece) segment
behind-drop [] segment rest e = cc
behind-drop (first ∷ piece) [] rest e = cc
behind-drop (first ∷ piece) (other ∷ segment) rest e =
    elim (other == first) as (λ v. cond v (behind piece segment) None ≡ Some rest → rest ≡ drop (length piece) segment)
    [ true ↦ λ h. behind-drop piece segment rest h | false ↦ λ h. cc ] e

behind_first-drop : (piece segment rest : List ℕ) → behind_first piece segment ≡ Some rest → (n : ℕ)
    × (length piece ≤ n) × (rest ≡ drop n segment)
behind_first-drop piece [] rest e = (length piece, omega arith, behind-drop piece [] rest e)
behind_first-drop piece (first ∷ segment) rest e =
    elim (behind piece (first ∷ segment)) as (λ found. behind piece (first ∷ segment) ≡ found →
    first_of found (behind_first piece segment) ≡ Some rest → (n : ℕ) × (length piece ≤ n)
    × (rest ≡ drop n (first ∷ segment))) [
      | None ↦ λ d h. let r = behind_first-drop piece segment rest h in (suc r.0, omega arith, r.2)
      | Some found ↦ λ d h. (length piece, omega arith, behind-drop piece (first ∷ segment) rest (d ∙ h))
    ] refl e

-- where a piece stands at the front, its later places leave an end of what stands behind it
first_serves : (test : List ℕ → Bool) (piece : List ℕ) (first : ℕ) (segment rest : List ℕ) →
    behind piece (first ∷ segment) ≡ Some rest →
    passes (some_end test) (behind_first piece segment) ≡ true → some_end test rest ≡ true
first_serves test piece first segment rest e h =
    elim (behind_first piece segment) as (λ found. behind_first piece segment ≡ found →
    passes (some_end test) found ≡ true → some_end test rest ≡ true) [
      | None ↦ λ d k. absurd (false≢true k)
      | Some later ↦ λ d k.
          let r = behind_first-drop piece segment later d in
          let front = behind-drop piece (first ∷ segment) rest e in
          let m : length piece + (suc r.0 - length piece) ≡ suc r.0 = omega arith in
          let tail : drop (suc r.0 - length piece) rest ≡ later =
          ap (drop (suc r.0 - length piece)) front
          ∙ (drop-drop (suc r.0 - length piece) (length piece) (first ∷ segment)
          ∙ (ap (λ n. drop n (first ∷ segment)) m ∙ sym r.2)) in
          some_end-drop test (suc r.0 - length piece) rest (ap (some_end test) tail ∙ k)
    ] refl h

-- a piece before a star: its first place serves
pub some_end-piece : (test : List ℕ → Bool) (piece segment : List ℕ) →
    some_end (λ end. passes (some_end test) (behind piece end)) segment
    ≡ passes (some_end test) (behind_first piece segment)
some_end-piece test piece [] = refl
some_end-piece test piece (first ∷ rest) =
    elim (behind piece (first ∷ rest)) as (λ found. behind piece (first ∷ rest) ≡ found →
    (passes (some_end test) found || some_end (λ end. passes (some_end test) (behind piece end)) rest)
    ≡ passes (some_end test) (first_of found (behind_first piece rest))) [
      | None ↦ λ e. some_end-piece test piece rest
      | Some found ↦ λ e. or_known (some_end test found)
          (some_end (λ end. passes (some_end test) (behind piece end)) rest)
          (λ h. first_serves test piece first rest found e (sym (some_end-piece test piece rest) ∙ h))
    ] refl

-- the last piece stands at the end
pub some_end-last : (piece segment : List ℕ) (answer : Bool) → answer ≡ ends_with eqb segment piece →
    answer ≡ some_end (fits_pieces (piece ∷ [])) segment
some_end-last piece segment answer e =
    let known = ends_is Decides-eqb segment piece answer e in
    same_tests answer (some_end (fits_pieces (piece ∷ [])) segment)
    (λ t. rw (known.0 t) (some_end-append (fits_pieces (piece ∷ [])) (take (length segment - length piece) segment)
    piece (behind-self piece)))
    (λ t. let r = some_end-true (fits_pieces (piece ∷ [])) segment t in
    known.1 r.0 (r.2 ∙ ap (λ x. r.0 ++ x) (behind-whole piece r.1 r.3)))

-- what `strip_prefix` gives
pub behind-strip : (piece segment : List ℕ) (found : Option (Bor (List ℕ))) →
    MatchOption found (pointwise eqb (take (length piece) segment) piece ≡ false)
    (λ x. (pointwise eqb (take (length piece) segment) piece ≡ true) × (x.now ≡ drop (length piece) segment)
    × (length x.now + length piece ≡ length segment)) →
    option_copied found ≡ behind piece segment
behind-strip piece segment None h = sym (behind-none piece segment (strip_prefix_is Decides-eqb segment piece None h))
behind-strip piece segment (Some x) h =
    let e : segment ≡ piece ++ x.now = strip_prefix_is Decides-eqb segment piece (Some x) h in
    sym (ap (behind piece) e ∙ behind-append piece x.now)

-- a piece found at the front is found at its first place
pub behind_first-found : (piece segment : List ℕ) (found : Option (Bor (List ℕ))) →
    option_copied found ≡ behind piece segment → is_some found ≡ true → option_copied found ≡ behind_first piece segment
behind_first-found piece [] found e t = e
behind_first-found piece (first ∷ rest) None e t = absurd (false≢true t)
behind_first-found piece (first ∷ rest) (Some x) e t = ap (λ o. first_of o (behind_first piece rest)) e

-- a pattern's first piece before a star, and what is behind the star

fits_pieces-cons : (piece : List ℕ) (pieces : List (List ℕ)) (segment : List ℕ) → (pieces ≡ [] → ⊥) →
    fits_pieces (piece ∷ pieces) segment ≡ passes (some_end (fits_pieces pieces)) (behind piece segment)
fits_pieces-cons piece [] segment some = absurd (some refl)
fits_pieces-cons piece (next ∷ more) segment some = refl

-- a segment fits a pattern with a star where it begins with the pattern's first piece and some end of its rest fits
pub segment_fits-step : (pattern piece next segment : List ℕ) (found : Option (List ℕ)) →
    split 42 pattern ≡ piece ∷ split 42 next → found ≡ behind piece segment → passes (some_end_fits next) found
    ≡ segment_fits pattern segment
segment_fits-step pattern piece next segment found parts e =
    ap (passes (some_end_fits next)) e
    ∙ (sym (fits_pieces-cons piece (split 42 next) segment (split-some 42 next))
    ∙ ap (λ pieces. fits_pieces pieces segment) (sym parts))

some_end-cons : (piece : List ℕ) (pieces : List (List ℕ)) (segment : List ℕ) → (pieces ≡ [] → ⊥) →
    some_end (fits_pieces (piece ∷ pieces)) segment ≡ passes (some_end (fits_pieces pieces))
    (behind_first piece segment)
some_end-cons piece [] segment some = absurd (some refl)
some_end-cons piece (next ∷ more) segment some = some_end-piece (fits_pieces (next ∷ more)) piece segment

-- a step of the matcher behind a star: the first place of the next piece serves
pub some_end_fits-step : (pattern piece next segment : List ℕ) (found : Option (List ℕ)) →
    split 42 pattern ≡ piece ∷ split 42 next → found ≡ behind_first piece segment → passes (some_end_fits next) found
    ≡ some_end_fits pattern segment
some_end_fits-step pattern piece next segment found parts e =
    ap (passes (some_end_fits next)) e
    ∙ (sym (some_end-cons piece (split 42 next) segment (split-some 42 next))
    ∙ ap (λ pieces. some_end (fits_pieces pieces) segment) (sym parts))

-- the last step of the matcher: the last piece stands at the end
pub some_end_fits-last : (pattern piece segment : List ℕ) (answer : Bool) → split 42 pattern ≡ piece ∷ [] →
    answer ≡ ends_with eqb segment piece → answer ≡ some_end_fits pattern segment
some_end_fits-last pattern piece segment answer parts e = some_end-last piece segment answer e
    ∙ ap (λ pieces. some_end (fits_pieces pieces) segment) (sym parts)

-- A pattern and a path of different numbers of segments.

uneven : (pattern segment : List ℕ) (patterns segments : List (List ℕ)) → ((patterns ≡ []) × (segments ≡ [] → ⊥))
    ⊎ ((patterns ≡ [] → ⊥) × (segments ≡ [])) → all_fit (pattern ∷ patterns) (segment ∷ segments) ≡ false
uneven pattern segment [] [] h = elim h [ inl k ↦ absurd (k.1 refl) | inr k ↦ absurd (k.0 refl) ]
uneven pattern segment [] (next ∷ more) h = and_false (segment_fits pattern segment)
uneven pattern segment (next ∷ more) [] h = and_false (segment_fits pattern segment)
uneven pattern segment (next ∷ more) (below ∷ rest) h = elim h [ inl k ↦ cc k.0 | inr k ↦ cc k.1 ]

path_is_longer : (pattern path wanted segment below : List ℕ) → split 47 pattern ≡ wanted ∷ [] →
    split 47 path ≡ segment ∷ split 47 below → false ≡ all_fit (split 47 pattern) (split 47 path)
path_is_longer pattern path wanted segment below p s =
    rw (p, s) (sym (uneven wanted segment [] (split 47 below) (inl (refl, split-some 47 below))))

is_none-same : (found : Option (Bor (List ℕ))) (answer : Bool) → is_some found ≡ not answer → answer ≡ is_none found
is_none-same None true e = refl
is_none-same None false e = e
is_none-same (Some rest) true e = e
is_none-same (Some rest) false e = refl

-- at the pattern's last segment
pub last_segment : (pattern path wanted segment : List ℕ) (below : Option (Bor (List ℕ))) (answer : Bool) →
    split 47 pattern ≡ wanted ∷ [] →
    MatchOption below (split 47 path ≡ segment ∷ []) (λ rest. split 47 path ≡ segment ∷ split 47 rest.now) →
    segment_fits wanted segment ≡ true → is_some below ≡ not answer →
    answer ≡ all_fit (split 47 pattern) (split 47 path)
last_segment pattern path wanted segment None answer p s e n = is_none-same None answer n ∙ rw (p, s, e) refl
last_segment pattern path wanted segment (Some rest) answer p s e n = is_none-same (Some rest) answer n
    ∙ path_is_longer pattern path wanted segment rest.now p s

-- a pattern of more segments than the path names it not
pub pattern_is_longer : (pattern path wanted segment below : List ℕ) → split 47 pattern ≡ wanted ∷ split 47 below →
    split 47 path ≡ segment ∷ [] → false ≡ all_fit (split 47 pattern) (split 47 path)
pattern_is_longer pattern path wanted segment below p s =
    rw (p, s) (sym (uneven wanted segment (split 47 below) [] (inr (split-some 47 below, refl))))

-- What the matcher decides.

fits_pieces-onto : (wanted : ℕ) (parts : List (List ℕ)) (first : ℕ) (rest : List ℕ) → (parts ≡ [] → ⊥) →
    fits_pieces (onto_first wanted parts) (first ∷ rest) ≡ cond (first == wanted) (fits_pieces parts rest) false
fits_pieces-onto wanted [] first rest some = absurd (some refl)
fits_pieces-onto wanted (part ∷ []) first rest some =
    elim (first == wanted) as (λ v. passes is_empty (cond v (behind part rest) None)
    ≡ cond v (passes is_empty (behind part rest)) false) [ true ↦ refl | false ↦ refl ]
fits_pieces-onto wanted (part ∷ next ∷ more) first rest some =
    elim (first == wanted) as (λ v. passes (some_end (fits_pieces (next ∷ more))) (cond v (behind part rest) None)
    ≡ cond v (passes (some_end (fits_pieces (next ∷ more))) (behind part rest)) false) [
      | true ↦ refl
      | false ↦ refl
    ]

onto_past : (wanted : ℕ) (parts : List (List ℕ)) → fits_pieces (onto_first wanted parts) [] ≡ false
onto_past wanted [] = refl
onto_past wanted (part ∷ []) = refl
onto_past wanted (part ∷ next ∷ more) = refl

Fits-byte : (wanted : ℕ) (pattern segment : List ℕ) → fits_pieces (onto_first wanted (split 42 pattern)) segment
    ≡ true → ((end : List ℕ) → segment_fits pattern end ≡ true → Fits pattern end) → Fits (wanted ∷ pattern) segment
Fits-byte wanted pattern [] e below = absurd (false≢true (sym (onto_past wanted (split 42 pattern)) ∙ e))
Fits-byte wanted pattern (first ∷ rest) e below =
    elim (first == wanted) as (λ v. (first == wanted) ≡ v → cond v (fits_pieces (split 42 pattern) rest) false
    ≡ true → Fits (wanted ∷ pattern) (first ∷ rest)) [
      | true ↦ λ d h. rw (eqb-true first wanted d) (byte wanted (below rest h))
      | false ↦ λ d h. absurd (false≢true h)
    ] refl (sym (fits_pieces-onto wanted (split 42 pattern) first rest (split-some 42 pattern)) ∙ e)

Fits-from_test : (pattern segment : List ℕ) → segment_fits pattern segment ≡ true → Fits pattern segment
Fits-from_test [] [] e = ends
Fits-from_test [] (first ∷ rest) e = absurd (false≢true e)
Fits-from_test (wanted ∷ pattern) segment e =
    elim (wanted == 42) as (λ v. (wanted == 42) ≡ v →
    fits_pieces (cond v ([] ∷ split 42 pattern) (onto_first wanted (split 42 pattern))) segment ≡ true →
    Fits (wanted ∷ pattern) segment) [
      | true ↦ λ d h.
          let r = some_end-true (fits_pieces (split 42 pattern)) segment
          (sym (fits_pieces-cons [] (split 42 pattern) segment (split-some 42 pattern)) ∙ h) in
          rw (eqb-true wanted 42 d, r.2) (star r.0 (Fits-from_test pattern r.1 r.3))
      | false ↦ λ d h. Fits-byte wanted pattern segment h (λ end t. Fits-from_test pattern end t)
    ] refl e

test-from_Fits : {pattern segment : List ℕ} → Fits pattern segment → segment_fits pattern segment ≡ true
test-from_Fits ends = refl
test-from_Fits (byte first {pattern = pattern} {segment = segment} f) =
    elim (first == 42) as (λ v. fits_pieces (cond v ([] ∷ split 42 pattern) (onto_first first (split 42 pattern)))
    (first ∷ segment) ≡ true) [
      | true ↦ fits_pieces-cons [] (split 42 pattern) (first ∷ segment) (split-some 42 pattern)
          ∙ some_end-append (fits_pieces (split 42 pattern)) (first ∷ []) segment (test-from_Fits f)
      | false ↦ fits_pieces-onto first (split 42 pattern) first segment (split-some 42 pattern)
          ∙ rw (eq-eqb first first refl) (test-from_Fits f)
    ]
test-from_Fits (star any {pattern = pattern} {segment = segment} f) =
    fits_pieces-cons [] (split 42 pattern) (any ++ segment) (split-some 42 pattern)
    ∙ some_end-append (fits_pieces (split 42 pattern)) any segment (test-from_Fits f)

-- what the matcher accepts fits, segment by segment
pub AllZip-from_test : (patterns segments : List (List ℕ)) → all_fit patterns segments ≡ true →
    AllZip Fits patterns segments
AllZip-from_test [] [] e = tt
AllZip-from_test [] (segment ∷ segments) e = absurd (false≢true e)
AllZip-from_test (pattern ∷ patterns) [] e = absurd (false≢true e)
AllZip-from_test (pattern ∷ patterns) (segment ∷ segments) e =
    let both = and_cases (segment_fits pattern segment) (all_fit patterns segments) e in
    (Fits-from_test pattern segment both.0, AllZip-from_test patterns segments both.1)

-- what fits, segment by segment, the matcher accepts
pub test-from_AllZip : (patterns segments : List (List ℕ)) → AllZip Fits patterns segments →
    all_fit patterns segments ≡ true
test-from_AllZip [] [] h = refl
test-from_AllZip [] (segment ∷ segments) h = absurd h
test-from_AllZip (pattern ∷ patterns) [] h = absurd h
test-from_AllZip (pattern ∷ patterns) (segment ∷ segments) h =
    rw (test-from_Fits h.0, test-from_AllZip patterns segments h.1) refl

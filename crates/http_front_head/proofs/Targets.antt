-- The scan for a target: where it ends in one, the bytes end inside a target, and where they do, it ends there.
use Rattle.std.proofs.Common.{◌≡◌, ◌<◌, ◌==◌, ℕ, Bool, true, false, List, [], ◌∷◌, ◌++◌, length, refl, sym, ap, ◌∙◌}
use Rattle.std.proofs.Common.{subst, arith, append_assoc, append-nil, inr}
use Rattle.std.specs.Prelude.{if◌then◌else◌}
use Rattle.std.proofs.lemmas.List.Elements.{All-head, All-tail, All-nil, All-cons}
use Rattle.std.proofs.lemmas.Bool.{false≢true, ne_eqb}
use Rattle.httparse.specs.Grammar.{is_token_byte, is_uri_byte, AllPass, LineEnd, crlf, lf, print_blank, EndsInTarget}
use Rattle.httparse.specs.Grammar.{NeverHasRequest, HasNoRequest, ReadsRequest}
use Rattle.httparse.specs.Spans.{RequestExceeds}
use Rattle.httparse.proofs.PieceLemmas.{space_ends_token}
use Rattle.http_front_head.specs.declared.scan.Stage.TheVariants.{Blank, AfterCr, Method, Target, Lost}
use Rattle.http_front_head.specs.Heads.{IsOpen}
use Rattle.http_front_head.specs.Lines.{last_stage}
use Rattle.http_front_head.proofs.ManyLines.{token_has_no_feed}

-- ---- the target

target_stays : (u : List ℕ) → AllPass is_uri_byte u → last_stage Target u ≡ Target
target_stays [] all = refl
target_stays (b ∷ u) all =
    let here : is_uri_byte b ≡ true = All-head (λ v. is_uri_byte v ≡ true) b u all in
    rw here (target_stays u (All-tail (λ v. is_uri_byte v ≡ true) b u all))

lost_stays : (t : List ℕ) → last_stage Lost t ≡ Target → ⊥
lost_stays [] e = cc
lost_stays (b ∷ t) e = lost_stays t e

one_uri : (b : ℕ) (t : List ℕ) (v : Bool) → is_uri_byte b ≡ v → (last_stage Target t ≡ Target → AllPass is_uri_byte t)
    → last_stage (if v then Target else Lost) t ≡ Target → AllPass is_uri_byte (b ∷ t)
one_uri b t true is more e = All-cons (λ v. is_uri_byte v ≡ true) b t is (more e)
one_uri b t false is more e = absurd (lost_stays t e)

target_all : (t : List ℕ) → last_stage Target t ≡ Target → AllPass is_uri_byte t
target_all [] e = All-nil (λ v. is_uri_byte v ≡ true)
target_all (b ∷ t) e = one_uri b t (is_uri_byte b) refl (target_all t) e

-- ---- the method

abbrev InMethod : List ℕ → Type 0
InMethod t = (m : List ℕ) × (u : List ℕ) × AllPass is_token_byte m × AllPass is_uri_byte u × (t ≡ m ++ 32 ∷ u)

one_method : (b : ℕ) (t : List ℕ) (s v : Bool) → (b == 32) ≡ s → is_token_byte b ≡ v
    → (last_stage Method t ≡ Target → InMethod t)
    → last_stage (if s then Target else (if v then Method else Lost)) t ≡ Target → InMethod (b ∷ t)
one_method b t true v is token more e =
    let space : b ≡ 32 = grind (arith, is) in
    ([], t, All-nil (λ v. is_token_byte v ≡ true), target_all t e, ap (λ (x : ℕ). x ∷ t) space)
one_method b t false true is token more e =
    let tail = more e in (
      b ∷ tail.0,
      tail.1,
      All-cons (λ v. is_token_byte v ≡ true) b tail.0 token tail.2,
      tail.3,
      ap (λ (x : List ℕ). b ∷ x) tail.4,
    )
one_method b t false false is token more e = absurd (lost_stays t e)

method_all : (t : List ℕ) → last_stage Method t ≡ Target → InMethod t
method_all [] e = absurd (cc)
method_all (b ∷ t) e = one_method b t (b == 32) (is_token_byte b) refl refl (method_all t) e

method_next : (s v : Bool) → s ≡ false → v ≡ true → (if s then Target else (if v then Method else Lost)) ≡ Method
method_next true v e f = absurd (false≢true (sym e))
method_next false false e f = absurd (false≢true f)
method_next false true e f = refl

method_stays : (m u : List ℕ) → AllPass is_token_byte m → AllPass is_uri_byte u
    → last_stage Method (m ++ 32 ∷ u) ≡ Target
method_stays [] u all uri = target_stays u uri
method_stays (b ∷ m) u all uri =
    let here : is_token_byte b ≡ true = All-head (λ v. is_token_byte v ≡ true) b m all in
    let other : (b == 32) ≡ false =
    ne_eqb b 32 (λ e. false≢true (sym space_ends_token ∙ ap is_token_byte (sym e) ∙ here)) in
    ap (λ p. last_stage p (m ++ 32 ∷ u)) (method_next (b == 32) (is_token_byte b) other here)
    ∙ method_stays m u (All-tail (λ v. is_token_byte v ≡ true) b m all) uri

-- ---- the empty lines

one_blank : (b : ℕ) (t : List ℕ) (f r v : Bool) → (b == 10) ≡ f → (b == 13) ≡ r → is_token_byte b ≡ v
    → (last_stage Blank t ≡ Target → EndsInTarget t) → (last_stage AfterCr t ≡ Target → EndsInTarget (13 ∷ t))
    → (last_stage Method t ≡ Target → InMethod t)
    → last_stage (if f then Blank else (if r then AfterCr else (if v then Method else Lost))) t ≡ Target
    → EndsInTarget (b ∷ t)
one_blank b t true r v is _ _ more cr inside e =
    let feed : b ≡ 10 = grind (arith, is) in
    let x = more e in
    (lf ∷ x.0, x.1, x.2, x.3, x.4, ap (λ (n : ℕ). n ∷ t) feed ∙ ap (λ (l : List ℕ). 10 ∷ l) x.5)
one_blank b t false true v _ is _ more cr inside e =
    let return : b ≡ 13 = grind (arith, is) in
    subst (λ (n : ℕ). EndsInTarget (n ∷ t)) (sym return) (cr e)
one_blank b t false false true _ _ token more cr inside e =
    let x = inside e in (
      [],
      b ∷ x.0,
      x.1,
      (omega arith, All-cons (λ v. is_token_byte v ≡ true) b x.0 token x.2),
      x.3,
      ap (λ (l : List ℕ). b ∷ l) x.4,
    )
one_blank b t false false false _ _ _ more cr inside e = absurd (lost_stays t e)

one_cr : (b : ℕ) (t : List ℕ) (f : Bool) → (b == 10) ≡ f → (last_stage Blank t ≡ Target → EndsInTarget t)
    → last_stage (if f then Blank else Lost) t ≡ Target → EndsInTarget (13 ∷ b ∷ t)
one_cr b t true is more e =
    let feed : b ≡ 10 = grind (arith, is) in
    let x = more e in
    (crlf ∷ x.0, x.1, x.2, x.3, x.4, ap (λ (n : ℕ). 13 ∷ n ∷ t) feed ∙ ap (λ (l : List ℕ). 13 ∷ 10 ∷ l) x.5)
one_cr b t false is more e = absurd (lost_stays t e)

both : (t : List ℕ)
    → (last_stage Blank t ≡ Target → EndsInTarget t) × (last_stage AfterCr t ≡ Target → EndsInTarget (13 ∷ t))
both [] = (λ e. absurd (cc), λ e. absurd (cc))
both (b ∷ t) =
    let tail = both t in (
      one_blank b t (b == 10) (b == 13) (is_token_byte b) refl refl refl tail.0 tail.1 (method_all t),
      one_cr b t (b == 10) refl tail.0,
    )

-- Where the scan ends in a target, the bytes do.
pub inside_found : (t : List ℕ) → last_stage Blank t ≡ Target → EndsInTarget t
inside_found t = (both t).0

blank_stays : (es : List LineEnd) (t : List ℕ) → last_stage Blank (print_blank es ++ t) ≡ last_stage Blank t
blank_stays [] t = refl
blank_stays (crlf ∷ es) t = blank_stays es t
blank_stays (lf ∷ es) t = blank_stays es t

return_no_token : is_token_byte 13 ≡ false
unfolding is_token_byte
return_no_token = refl

first_next : (f r v : Bool) → f ≡ false → r ≡ false → v ≡ true
    → (if f then Blank else (if r then AfterCr else (if v then Method else Lost))) ≡ Method
first_next true r v e g h = absurd (false≢true (sym e))
first_next false true v e g h = absurd (false≢true (sym g))
first_next false false false e g h = absurd (false≢true h)
first_next false false true e g h = refl

first_stays : (m u : List ℕ) → 0 < length m → AllPass is_token_byte m → AllPass is_uri_byte u
    → last_stage Blank (m ++ 32 ∷ u) ≡ Target
first_stays [] u some all uri = absurd (omega (arith, some))
first_stays (b ∷ m) u some all uri =
    let here : is_token_byte b ≡ true = All-head (λ v. is_token_byte v ≡ true) b m all in
    let feed : (b == 10) ≡ false =
    ne_eqb b 10 (λ e. false≢true (sym token_has_no_feed ∙ ap is_token_byte (sym e) ∙ here)) in
    let return : (b == 13) ≡ false =
    ne_eqb b 13 (λ e. false≢true (sym return_no_token ∙ ap is_token_byte (sym e) ∙ here)) in
    ap (λ p. last_stage p (m ++ 32 ∷ u)) (first_next (b == 10) (b == 13) (is_token_byte b) feed return here)
    ∙ method_stays m u (All-tail (λ v. is_token_byte v ≡ true) b m all) uri

-- Where the bytes end in a target, the scan does.
pub inside_all : (t : List ℕ) → EndsInTarget t → last_stage Blank t ≡ Target
inside_all t x =
    ap (last_stage Blank) (x.5 ∙ append_assoc (print_blank x.0) x.1 (32 ∷ x.2))
    ∙ blank_stays x.0 (x.1 ++ 32 ∷ x.2) ∙ first_stays x.1 x.2 x.3.0 x.3.1 x.4

-- ---- bytes that the parser refuses

-- Bytes that never become a head are none.
pub never_is_none : (w : List ℕ) → NeverHasRequest w → HasNoRequest w
never_is_none w never h rest x = never [] h rest (subst (λ (t : List ℕ). ReadsRequest t h rest) (sym (append-nil w)) x)

-- Bytes that end inside a target can go on, since a byte that is no UTF-8 there is judged at the target's end alone.
pub open_in_target : (w : List ℕ) → NeverHasRequest w → EndsInTarget w → ¬ (RequestExceeds 64 w) → IsOpen w
open_in_target w never t few = record { none = never_is_none w never; may = inr t; few = few }

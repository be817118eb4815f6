-- Spans rise, and each token's slice is a text of its kind.
use Rattle.std.proofs.Common.{◌≡◌, ℕ, ◌+◌, ◌-◌, ◌<◌, ◌≤◌, Bool, true, false, List, [], ◌∷◌, ◌++◌, length, refl, ap, sym}
use Rattle.std.proofs.Common.{◌∙◌, take, drop, arith, subst, length-append, append_assoc, Option, Some, None, ◌&&◌}
use Rattle.ruby_token.specs.declared.token.Token.{Token}
use Rattle.ruby_token.specs.declared.opens.Quote.{Quote}
use Rattle.ruby_token.specs.declared.fault.LexFault.{LexFault}
use Rattle.ruby_token.specs.declared.state.State.{State}
use Rattle.ruby_token.specs.Opens.{text_at, outermost}
use Rattle.ruby_token.specs.Lexemes.{token}
use Rattle.ruby_token.specs.Cut.{Outcome, done, fault, put, open_text, at_end, is_last, stuck_in, Cut, ends, passes}
use Rattle.ruby_token.specs.Cut.{gives, big, stuck, with_fault}
use Rattle.ruby_token.specs.Spans.{Spans}
use Rattle.ruby_token.proofs.Words.{split_if, drop_front}
use Rattle.ruby_token.proofs.Cuts.{take_front, some_text}

-- the tokens of an outcome, be they all or those before its fault
abbrev pub tokens_in : Outcome → List Token
tokens_in (done ts) = ts
tokens_in (fault ts kind n) = ts

-- an outcome made of tokens and perhaps a fault has these tokens
pub tokens_with : (ts : List Token) (e : Option LexFault) → tokens_in (with_fault ts e) ≡ ts
tokens_with ts None = refl
tokens_with ts (Some e) = refl

spans_later : (bytes : List ℕ) (low more : ℕ) (ts : List Token) → low ≤ more → Spans bytes more ts → Spans bytes low ts
spans_later bytes low more [] h s = omega arith
spans_later bytes low more (t ∷ ts) h s = (let z : more ≤ t.from = s.0 in omega arith, s.1, s.2, s.3)

none_open : (o : Option ℕ) → tokens_in (open_text o) ≡ []
none_open None = refl
none_open (Some q) = refl

none_at_end : (v : Bool) (s : State) (n : ℕ) → tokens_in (at_end v s n) ≡ []
none_at_end true s n = none_open (outermost s.opens)
none_at_end false s n = refl

none_stuck_in : (m : Option Quote) (v : Bool) (s : State) (n : ℕ) (bs : List ℕ) → tokens_in (stuck_in m v s n bs) ≡ []
none_stuck_in None v s n bs = refl
none_stuck_in (Some q) v s n bs = split_if (λ x. tokens_in x ≡ []) (v && is_last bs) _ _ (λ h. none_at_end v s n)
    (λ h. refl)

put_in : (t : Token) (o : Outcome) → tokens_in (put (t ∷ []) o) ≡ t ∷ tokens_in o
put_in t (done ts) = refl
put_in t (fault ts kind n) = refl

drop_twice : (p t r : List ℕ) → drop (length p + length t) (p ++ (t ++ r)) ≡ r
drop_twice p t r =
    let e : (p ++ t) ++ r ≡ p ++ (t ++ r) = append_assoc p t r in
    let l : length (p ++ t) ≡ length p + length t = length-append p t in
    let d : drop (length (p ++ t)) ((p ++ t) ++ r) ≡ r = drop_front (p ++ t) r in
    rw (e, l) at d

slice : (p t r : List ℕ) (n : ℕ) → n ≡ length t → take n (drop (length p) (p ++ (t ++ r))) ≡ t
slice p t r n e = rw (drop_front p (t ++ r), e) (take_front t r)

no_tokens : (p bs : List ℕ) (n : ℕ) (ts : List Token) → ts ≡ [] → n ≡ length p → Spans (p ++ bs) n ts
no_tokens p bs n ts z e = rw (z, e, length-append) (omega arith)

-- a cut that begins at n has spans that rise from n on, each with a text of its kind
pub spans_of : {v : Bool} {s : State} {n : ℕ} {bs : List ℕ} {o : Outcome} → Cut v s n bs o → (p : List ℕ) →
    n ≡ length p → Spans (p ++ bs) n (tokens_in o)
spans_of {v = v} (ends {s = s} {n = n}) p e = no_tokens p [] n _ (none_at_end v s n) e
spans_of (passes {s = s} {n = n} {t = t} {r = r} {bs = bs} {o = o} h w c) p e =
    let i : Spans ((p ++ t) ++ r) (n + length t) (tokens_in o) =
    spans_of c (p ++ t) (ap (λ x. x + length t) e ∙ sym (length-append p t)) in
    let a : (p ++ t) ++ r ≡ p ++ bs = append_assoc p t r ∙ ap (λ x. p ++ x) (sym w) in
    spans_later (p ++ bs) n (n + length t) (tokens_in o) (omega arith)
    (subst (λ x. Spans x (n + length t) (tokens_in o)) a i)
spans_of (gives {s = s} {n = n} {kind = kind} {t = t} {r = r} {bs = bs} {o = o} h w b c) p e =
    let i : Spans ((p ++ t) ++ r) (n + length t) (tokens_in o) =
    spans_of c (p ++ t) (ap (λ x. x + length t) e ∙ sym (length-append p t)) in
    let a : (p ++ t) ++ r ≡ p ++ bs = append_assoc p t r ∙ ap (λ x. p ++ x) (sym w) in
    let i' : Spans (p ++ bs) (n + length t) (tokens_in o) = subst (λ x. Spans x (n + length t) (tokens_in o)) a i in
    let z : 0 < length t = some_text s (token kind) t r h.is in
    let m : n + length t - n ≡ length t = omega arith in
    let x : take (n + length t - n) (drop n (p ++ bs)) ≡ t =
    rw (e, w) (slice p t r (length p + length t - length p) (omega arith)) in
    let y : drop (n + length t) (p ++ bs) ≡ r = rw (e, w) (drop_twice p t r) in
    rw (put_in (record { kind = kind; from = n; to = n + length t }) o)
    (omega arith, omega arith, (s, rw (x, y) h.is), i')
spans_of (big {n = n} {bs = bs} h w b) p e = no_tokens p bs n [] refl e
spans_of {v = v} (stuck {s = s} {n = n} {b = b} {bs = bs} h) p e =
    no_tokens p (b ∷ bs) n _ (none_stuck_in (text_at s.opens) v s n (b ∷ bs)) e

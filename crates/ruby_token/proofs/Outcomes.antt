-- What an outcome says of the bytes, and what the calls answer by it.
use Rattle.std.proofs.Common.{◌≡◌, ℕ, ◌+◌, Bool, true, false, List, [], ◌∷◌, length, refl, sym, ◌∙◌, take, arith, subst}
use Rattle.std.proofs.Common.{Option, Some, None, Result, Ok, Err, IfOk, IfErr, MatchResult, ◌&&◌, ◌==◌}
use Rattle.std.proofs.lemmas.Bool.{eqb-true}
use Rattle.std.proofs.lemmas.Grind.{common_steps}
use Rattle.std.specs.Str.Lossy.{utf8_valid_len}
use Rattle.ruby_token.specs.declared.token.Token.{Token}
use Rattle.ruby_token.specs.declared.opens.Quote.{Quote}
use Rattle.ruby_token.specs.declared.fault.LexKind.{LexKind}
use Rattle.ruby_token.specs.declared.fault.LexKind.TheVariants as f
use Rattle.ruby_token.specs.declared.fault.LexFault.{LexFault}
use Rattle.ruby_token.specs.declared.state.State.{State}
use Rattle.ruby_token.specs.Opens.{text_at, outermost}
use Rattle.ruby_token.specs.Cut.{Outcome, done, fault, put, open_text, at_end, is_last, stuck_in, Cut, ends, passes}
use Rattle.ruby_token.specs.Cut.{gives, big, stuck, Lexes, utf8_front, is_all_utf8, with_fault, FaultGives}
use Rattle.ruby_token.specs.Spans.{Spans}
use Rattle.ruby_token.specs.Reading.{outcome_of}
use Rattle.ruby_token.proofs.Words.{split_if}
use Rattle.ruby_token.proofs.Cuts.{is_cut, one_cut}
use Rattle.ruby_token.proofs.SpanLaws.{tokens_with, spans_of}

-- ---- where there is no fault, all bytes are UTF-8

end_whole : (v : Bool) (s : State) (n : ℕ) (ts : List Token) → at_end v s n ≡ done ts → v ≡ true
end_whole true s n ts h = refl
end_whole false s n ts h = cc

stuck_whole : (m : Option Quote) (v : Bool) (s : State) (n : ℕ) (bs : List ℕ) (ts : List Token) →
    stuck_in m v s n bs ≡ done ts → v ≡ true
stuck_whole None v s n bs ts h = cc
stuck_whole (Some q) v s n bs ts g = split_if (λ x. x ≡ done ts → v ≡ true) (v && is_last bs) _ _
    (λ k. end_whole v s n ts) (λ k h. cc) g

put_done : (t : Token) (o : Outcome) (ts : List Token) → put (t ∷ []) o ≡ done ts → (us : List Token) × (o ≡ done us)
put_done t (done us) ts h = (us, refl)
put_done t (fault us kind n) ts h = cc

done_whole : {v : Bool} {s : State} {n : ℕ} {bs : List ℕ} {o : Outcome} → Cut v s n bs o → (ts : List Token) →
    o ≡ done ts → v ≡ true
done_whole {v = v} (ends {s = s} {n = n}) ts h = end_whole v s n ts h
done_whole (passes l w c) ts h = done_whole c ts h
done_whole (gives {n = n} {kind = kind} {t = t} {o = o} l w b c) ts h = let p =
    put_done (record { kind = kind; from = n; to = n + length t }) o ts h in done_whole c p.0 p.1
done_whole (big l w b) ts h = cc
done_whole {v = v} (stuck {s = s} {n = n} {b = b} {bs = bs} l) ts h = stuck_whole (text_at s.opens) v s n (b ∷ bs) ts h

all_front : (bytes : List ℕ) → is_all_utf8 bytes ≡ true → utf8_front bytes ≡ bytes
all_front bytes h = let e : utf8_valid_len bytes ≡ length bytes = eqb-true (utf8_valid_len bytes) (length bytes) h in
    rw e (grind (arith, common_steps))

-- ---- a fault is never want of memory

abbrev IsOfBytes : LexKind → Type 0
IsOfBytes f.BadByte = Unit {0}
IsOfBytes f.OpenText = Unit {0}
IsOfBytes f.BigNumber = Unit {0}
IsOfBytes f.BadEscape = Unit {0}
IsOfBytes f.Memory = ⊥

abbrev OfBytes : Outcome → Type 0
OfBytes (done ts) = Unit {0}
OfBytes (fault ts kind n) = IsOfBytes kind

open_of : (o : Option ℕ) → OfBytes (open_text o)
open_of None = tt
open_of (Some q) = tt

end_of : (v : Bool) (s : State) (n : ℕ) → OfBytes (at_end v s n)
end_of true s n = open_of (outermost s.opens)
end_of false s n = tt

stuck_of : (m : Option Quote) (v : Bool) (s : State) (n : ℕ) (bs : List ℕ) → OfBytes (stuck_in m v s n bs)
stuck_of None v s n bs = tt
stuck_of (Some q) v s n bs = split_if OfBytes (v && is_last bs) _ _ (λ k. end_of v s n) (λ k. tt)

put_of : (t : Token) (o : Outcome) → OfBytes o → OfBytes (put (t ∷ []) o)
put_of t (done us) h = tt
put_of t (fault us kind n) h = h

cut_of : {v : Bool} {s : State} {n : ℕ} {bs : List ℕ} {o : Outcome} → Cut v s n bs o → OfBytes o
cut_of {v = v} (ends {s = s} {n = n}) = end_of v s n
cut_of (passes l w c) = cut_of c
cut_of (gives {n = n} {kind = kind} {t = t} {o = o} l w b c) =
    put_of (record { kind = kind; from = n; to = n + length t }) o (cut_of c)
cut_of (big l w b) = tt
cut_of {v = v} (stuck {s = s} {n = n} {b = b} {bs = bs} l) = stuck_of (text_at s.opens) v s n (b ∷ bs)

gives_of : (kind : LexKind) (n : ℕ) (ts : List Token) → IsOfBytes kind → FaultGives kind n (fault ts kind n)
gives_of f.BadByte n ts h = (refl, refl)
gives_of f.OpenText n ts h = (refl, refl)
gives_of f.BigNumber n ts h = (refl, refl)
gives_of f.BadEscape n ts h = (refl, refl)
gives_of f.Memory n ts h = absurd h

-- ---- what the calls answer

-- a call that gives what reading gives of the UTF-8 front meets its clause `found`
pub found_by : {A E : Type 0} (r : Result A E) (g : A → Outcome) (bytes : List ℕ) (n : ℕ) →
    n ≡ utf8_valid_len bytes → IfOk r (λ a. g a ≡ outcome_of (n == length bytes) (take n bytes)) →
    IfOk r (λ a. Lexes bytes (g a))
found_by (Ok a) g bytes n e h =
    let h' : g a ≡ outcome_of (is_all_utf8 bytes) (utf8_front bytes) = rw e at h in
    subst (λ o. Lexes bytes o) (sym h') (is_cut (is_all_utf8 bytes) (utf8_front bytes))
found_by (Err x) g bytes n e h = tt

-- a call that gives what reading gives of the UTF-8 front meets its clause `only`: no other outcome is a cut
pub only_by : {A E : Type 0} (r : Result A E) (g : A → Outcome) (bytes : List ℕ) (n : ℕ) (o : Outcome) →
    n ≡ utf8_valid_len bytes → IfOk r (λ a. g a ≡ outcome_of (n == length bytes) (take n bytes)) → Lexes bytes o →
    IfOk r (λ a. o ≡ g a)
only_by (Ok a) g bytes n o e h l =
    let h' : g a ≡ outcome_of (is_all_utf8 bytes) (utf8_front bytes) = rw e at h in
    one_cut (is_all_utf8 bytes) (utf8_front bytes) o l ∙ sym h'
only_by (Err x) g bytes n o e h l = tt

-- the tokens of a cut stand in rising spans of the UTF-8 front, each with a text of its kind
pub spans_front : (bytes : List ℕ) (ts : List Token) (e : Option LexFault) → Lexes bytes (with_fault ts e) →
    Spans (utf8_front bytes) 0 ts
spans_front bytes ts e h = subst (λ x. Spans (utf8_front bytes) 0 x) (tokens_with ts e) (spans_of h [] refl)

-- the clause `spans` of `lex`, from its clause `found`
pub spans_by : {A E : Type 0} (r : Result A E) (ts : A → List Token) (x : A → Option LexFault) (bytes : List ℕ) →
    IfOk r (λ a. Lexes bytes (with_fault (ts a) (x a))) → IfOk r (λ a. Spans (utf8_front bytes) 0 (ts a))
spans_by (Ok a) ts x bytes h = spans_front bytes (ts a) (x a) h
spans_by (Err e) ts x bytes h = tt

-- some outcome there is
pub some_outcome : (bytes : List ℕ) → (o : Outcome) × Lexes bytes o
some_outcome bytes = (outcome_of (is_all_utf8 bytes) (utf8_front bytes), is_cut (is_all_utf8 bytes) (utf8_front bytes))

-- and no other
pub one_outcome : (bytes : List ℕ) (o o' : Outcome) → Lexes bytes o → Lexes bytes o' → o ≡ o'
one_outcome bytes o o' h g = one_cut (is_all_utf8 bytes) (utf8_front bytes) o h
    ∙ sym (one_cut (is_all_utf8 bytes) (utf8_front bytes) o' g)

-- want of memory may be told of any bytes
pub memory_told : (bytes : List ℕ) → (o : Outcome) × Lexes bytes o × FaultGives f.Memory 0 o
memory_told bytes = let p = some_outcome bytes in (p.0, p.1, refl)

-- where all tokens are given, or a fault, by what was read
pub found_of : {A : Type 0} (r : Result A LexFault) (g : A → List Token) (bytes : List ℕ) (o : Outcome) →
    Lexes bytes o → IfOk r (λ a. done (g a) ≡ o) → IfOk r (λ a. Lexes bytes (done (g a)))
found_of (Ok a) g bytes o l h = subst (Lexes bytes) (sym h) l
found_of (Err x) g bytes o l h = tt

-- the clause `spans` of `tokens`: without a fault all bytes are UTF-8, so the spans are those of the file
pub spans_done : {A : Type 0} (r : Result A LexFault) (g : A → List Token) (bytes : List ℕ) →
    IfOk r (λ a. Lexes bytes (done (g a))) → IfOk r (λ a. Spans bytes 0 (g a))
spans_done (Ok a) g bytes h = subst (λ x. Spans x 0 (g a)) (all_front bytes (done_whole h (g a) refl))
    (spans_of h [] refl)
spans_done (Err x) g bytes h = tt

fault_gives : (bytes : List ℕ) (ts : List Token) (x : LexFault) (o : Outcome) → Lexes bytes o →
    fault ts x.kind x.at ≡ o → FaultGives x.kind x.at o
fault_gives bytes ts x o l e = subst (λ y. FaultGives x.kind x.at y) e
    (gives_of x.kind x.at ts (cut_of (subst (Lexes bytes) (sym e) l)))

-- the clause `fault` of `tokens`: the fault that it returns is the one that the cut ends in
pub fault_of : {A : Type 0} (r : Result A LexFault) (ts : List Token) (bytes : List ℕ) (o : Outcome) →
    Lexes bytes o → IfErr r (λ x. fault ts x.kind x.at ≡ o) →
    IfErr r (λ x. (o : Outcome) × Lexes bytes o × FaultGives x.kind x.at o)
fault_of (Ok a) ts bytes o l h = tt
fault_of (Err x) ts bytes o l h = (o, l, fault_gives bytes ts x o l h)

-- the clause `only` of `tokens`: any cut of the bytes has the tokens, or the fault, that it returns
pub only_of : {A : Type 0} (r : Result A LexFault) (g : A → List Token) (ts : List Token) (bytes : List ℕ)
    (o o' : Outcome) → Lexes bytes o → IfOk r (λ a. done (g a) ≡ o) → IfErr r (λ x. fault ts x.kind x.at ≡ o) →
    o' ≡ o → MatchResult r (λ a. o' ≡ done (g a)) (λ x. FaultGives x.kind x.at o')
only_of (Ok a) g ts bytes o o' l h k e = e ∙ sym h
only_of (Err x) g ts bytes o o' l h k e = subst (λ y. FaultGives x.kind x.at y) (sym e) (fault_gives bytes ts x o l k)

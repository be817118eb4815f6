-- How reading goes on from one lexeme to the next.
use Rattle.std.proofs.Common.{◌≡◌, ℕ, zero, suc, ◌+◌, ◌-◌, ◌<◌, ◌≤◌, Bool, true, false, List, [], ◌∷◌, ◌++◌, length}
use Rattle.std.proofs.Common.{refl, ap, sym, ◌∙◌, take, drop, arith, append_assoc, append-nil, add-zero, length-drop}
use Rattle.std.proofs.Common.{Option, Some, None}
use Rattle.std.proofs.lemmas.Grind.{common_steps}
use Rattle.ruby_token.specs.declared.token.TokenKind.{TokenKind}
use Rattle.ruby_token.specs.declared.token.Token.{Token}
use Rattle.ruby_token.specs.declared.fault.LexKind.TheVariants as f
use Rattle.ruby_token.specs.declared.fault.LexFault.{LexFault}
use Rattle.ruby_token.specs.declared.lexeme.Lexeme.TheVariants as l
use Rattle.ruby_token.specs.declared.state.State.{State}
use Rattle.ruby_token.specs.State.{state_past, state_after}
use Rattle.ruby_token.specs.Steps.{lexeme}
use Rattle.ruby_token.specs.Cut.{Outcome, done, fault, put, at_end, stuck_at, is_big, with_fault}
use Rattle.ruby_token.specs.Reading.{read}

-- the bytes that a lexeme still has are passed over
pub skip : (v : Bool) (s : State) (n j : ℕ) (bs : List ℕ) → read v s n j bs ≡ read v s (n + j) 0 (drop j bs)
skip v s n zero [] = ap (at_end v s) (sym (add-zero (n + 0)))
skip v s n (suc j) [] = ap (at_end v s) (sym (add-zero (n + suc j)))
skip v s n zero (b ∷ bs) = ap (λ m. read v s m 0 (b ∷ bs)) (sym (add-zero n))
skip v s n (suc j) (b ∷ bs) =
    let e : n + 1 + j ≡ n + suc j = omega arith in
    skip v s (n + 1) j bs ∙ ap (λ m. read v s m 0 (drop j bs)) e

-- tokens put before an outcome in two goes are those put before it at once
pub put_put : (ts us : List Token) (o : Outcome) → put ts (put us o) ≡ put (ts ++ us) o
put_put ts us (done vs) = ap done (sym (append_assoc ts us vs))
put_put ts us (fault vs kind n) = ap (λ x. fault x kind n) (sym (append_assoc ts us vs))

-- no tokens put before an outcome leave it as it is
pub put_none : (o : Outcome) → put [] o ≡ o
put_none (done ts) = refl
put_none (fault ts kind n) = refl

-- tokens put before a fault alone, or before nothing, are the outcome of these tokens and that fault
pub put_fault : (ts : List Token) (e : Option LexFault) → put ts (with_fault [] e) ≡ with_fault ts e
put_fault ts None = ap done (append-nil ts)
put_fault ts (Some e) = ap (λ x. fault x e.kind e.at) (append-nil ts)

-- ---- one lexeme

-- before a gap reading goes on behind it, with no token more
pub read_gap : (v : Bool) (s : State) (n m : ℕ) (bs : List ℕ) → lexeme s bs ≡ l.Gap m → 0 < m → 0 < length bs →
    read v s n 0 bs ≡ read v (state_past (take m bs) s) (n + m) 0 (drop m bs)
read_gap v s n m [] e p q = absurd (omega arith)
read_gap v s n zero (b ∷ bs) e p q = absurd (omega arith)
read_gap v s n (suc k) (b ∷ bs) e p q =
    let g : n + 1 + k ≡ n + suc k = omega arith in
    let s' : State = state_past (take (suc k) (b ∷ bs)) s in
    rw (e, read) (skip v s' (n + 1) k bs ∙ ap (λ m. read v s' m 0 (drop k bs)) g)

-- the token of this kind that begins at n and has m bytes
abbrev pub token_at : TokenKind → ℕ → ℕ → Token
token_at kind n m = record { kind = kind; from = n; to = n + m }

-- before a token that is no number out of range, reading gives the token and goes on behind it
pub read_token : (v : Bool) (s : State) (n m : ℕ) (kind : TokenKind) (bs : List ℕ) → lexeme s bs ≡ l.Token kind m →
    0 < m → 0 < length bs → is_big kind (take m bs) ≡ false →
    read v s n 0 bs ≡ put (token_at kind n m ∷ []) (read v (state_after kind (take m bs) n s) (n + m) 0 (drop m bs))
read_token v s n m kind [] e p q i = absurd (omega arith)
read_token v s n zero kind (b ∷ bs) e p q i = absurd (omega arith)
read_token v s n (suc k) kind (b ∷ bs) e p q i =
    let g : n + 1 + k ≡ n + suc k = omega arith in
    let s' : State = state_after kind (take (suc k) (b ∷ bs)) n s in
    rw (e, read, i) (ap (put (token_at kind n (suc k) ∷ [])) (skip v s' (n + 1) k bs
    ∙ ap (λ m. read v s' m 0 (drop k bs)) g))

-- before a number that is out of range reading ends in that fault
pub read_big : (v : Bool) (s : State) (n m : ℕ) (kind : TokenKind) (bs : List ℕ) → lexeme s bs ≡ l.Token kind m →
    0 < length bs → is_big kind (take m bs) ≡ true → read v s n 0 bs ≡ fault [] f.BigNumber n
read_big v s n m kind [] e q i = absurd (omega arith)
read_big v s n m kind (b ∷ bs) e q i = rw (e, read, i) refl

-- where no lexeme begins reading ends as one is stuck there
pub read_nothing : (v : Bool) (s : State) (n : ℕ) (bs : List ℕ) → lexeme s bs ≡ l.Nothing → 0 < length bs →
    read v s n 0 bs ≡ stuck_at v s n bs
read_nothing v s n [] e q = absurd (omega arith)
read_nothing v s n (b ∷ bs) e q = rw (e, read) refl

-- ---- what the loop keeps

-- the loop's invariant (tokens so far, then what reading gives of the rest) is kept past a gap
pub along_gap : (v : Bool) (s s' : State) (ts : List Token) (n m : ℕ) (bs rest : List ℕ) (o : Outcome) →
    l.Gap m ≡ lexeme s rest → rest ≡ drop n bs → 0 < m → n < length bs → s' ≡ state_past (take m rest) s →
    put ts (read v s n 0 (drop n bs)) ≡ o → put ts (read v s' (n + m) 0 (drop (n + m) bs)) ≡ o
along_gap v s s' ts n m bs rest o e r p q es h =
    let d : drop m (drop n bs) ≡ drop (n + m) bs = grind (arith, common_steps) in
    let q' : 0 < length (drop n bs) = rw length-drop (omega arith) in
    let e' : lexeme s (drop n bs) ≡ l.Gap m = sym (rw r at e) in
    let es' : s' ≡ state_past (take m (drop n bs)) s = rw r at es in
    ap (λ x. put ts (read v s' (n + m) 0 x)) (sym d)
    ∙ ap (λ x. put ts (read v x (n + m) 0 (drop m (drop n bs)))) es'
    ∙ ap (put ts) (sym (read_gap v s n m (drop n bs) e' p q')) ∙ h

-- the loop's invariant is kept past a token that is pushed
pub along_token : (v : Bool) (s s' : State) (ts us : List Token) (kind : TokenKind) (n m : ℕ) (bs rest : List ℕ)
    (o : Outcome) → l.Token kind m ≡ lexeme s rest → rest ≡ drop n bs → 0 < m → n < length bs →
    is_big kind (take m rest) ≡ false → s' ≡ state_after kind (take m rest) n s → us ≡ ts ++ token_at kind n m ∷ [] →
    put ts (read v s n 0 (drop n bs)) ≡ o → put us (read v s' (n + m) 0 (drop (n + m) bs)) ≡ o
along_token v s s' ts us kind n m bs rest o e r p q i es eu h =
    let d : drop m (drop n bs) ≡ drop (n + m) bs = grind (arith, common_steps) in
    let q' : 0 < length (drop n bs) = rw length-drop (omega arith) in
    let e' : lexeme s (drop n bs) ≡ l.Token kind m = sym (rw r at e) in
    let i' : is_big kind (take m (drop n bs)) ≡ false = rw r at i in
    let es' : s' ≡ state_after kind (take m (drop n bs)) n s = rw r at es in
    ap (λ x. put us (read v s' (n + m) 0 x)) (sym d)
    ∙ ap (λ x. put us (read v x (n + m) 0 (drop m (drop n bs)))) es'
    ∙ ap (λ x. put x (read v (state_after kind (take m (drop n bs)) n s) (n + m) 0 (drop m (drop n bs)))) eu
    ∙ sym (put_put ts (token_at kind n m ∷ [])
    (read v (state_after kind (take m (drop n bs)) n s) (n + m) 0 (drop m (drop n bs))))
    ∙ ap (put ts) (sym (read_token v s n m kind (drop n bs) e' p q' i')) ∙ h

-- the loop's invariant makes the answer right where a number is out of range
pub along_big : (v : Bool) (s : State) (ts : List Token) (kind : TokenKind) (n m : ℕ) (bs rest : List ℕ)
    (o : Outcome) → l.Token kind m ≡ lexeme s rest → rest ≡ drop n bs → n < length bs →
    is_big kind (take m rest) ≡ true → put ts (read v s n 0 (drop n bs)) ≡ o → fault ts f.BigNumber n ≡ o
along_big v s ts kind n m bs rest o e r q i h =
    let q' : 0 < length (drop n bs) = rw length-drop (omega arith) in
    let e' : lexeme s (drop n bs) ≡ l.Token kind m = sym (rw r at e) in
    let i' : is_big kind (take m (drop n bs)) ≡ true = rw r at i in
    let z : put ts (read v s n 0 (drop n bs)) ≡ put ts (fault [] f.BigNumber n) =
    ap (put ts) (read_big v s n m kind (drop n bs) e' q' i') in
    ap (λ x. fault x f.BigNumber n) (sym (append-nil ts)) ∙ sym z ∙ h

-- the loop's invariant makes the answer right where no lexeme begins
pub along_stuck : (v : Bool) (s : State) (ts : List Token) (n : ℕ) (bs rest : List ℕ) (x : Option LexFault)
    (o : Outcome) → l.Nothing ≡ lexeme s rest → rest ≡ drop n bs → n < length bs →
    with_fault [] x ≡ stuck_at v s n rest → put ts (read v s n 0 (drop n bs)) ≡ o → with_fault ts x ≡ o
along_stuck v s ts n bs rest x o e r q g h =
    let q' : 0 < length (drop n bs) = rw length-drop (omega arith) in
    let e' : lexeme s (drop n bs) ≡ l.Nothing = sym (rw r at e) in
    let g' : with_fault [] x ≡ stuck_at v s n (drop n bs) = rw r at g in
    let z : put ts (read v s n 0 (drop n bs)) ≡ put ts (with_fault [] x) =
    ap (put ts) (read_nothing v s n (drop n bs) e' q' ∙ sym g') in
    sym (put_fault ts x) ∙ sym z ∙ h

no_more : (n : ℕ) (bs : List ℕ) → length bs ≤ n → drop n bs ≡ []
no_more n bs h = grind (arith, common_steps)

-- the loop's invariant makes the answer right at the end of the bytes
pub along_end : (v : Bool) (s : State) (ts : List Token) (n : ℕ) (bs : List ℕ) (x : Option LexFault) (o : Outcome) →
    length bs ≤ n → with_fault [] x ≡ at_end v s n → put ts (read v s n 0 (drop n bs)) ≡ o → with_fault ts x ≡ o
along_end v s ts n bs x o q g h =
    let d : drop n bs ≡ [] = no_more n bs q in
    let z : read v s n 0 (drop n bs) ≡ at_end v s (n + 0) = ap (read v s n 0) d in
    let y : read v s n 0 (drop n bs) ≡ with_fault [] x = z ∙ ap (at_end v s) (add-zero n) ∙ sym g in
    sym (put_fault ts x) ∙ sym (ap (put ts) y) ∙ h

-- the slice from n to the end is all bytes from n on
pub whole : (n k : ℕ) (bs : List ℕ) → k ≡ length bs - n → take k (drop n bs) ≡ drop n bs
whole n k bs e = grind (arith, common_steps)

-- a lexeme within the slice from n on ends within the bytes, so the loop's place stays in range
pub room : (n m : ℕ) (bs : List ℕ) → m ≤ length (take (length bs - n) (drop n bs)) → n ≤ length bs → n + m ≤ length bs
room n m bs h g =
    let h' : m ≤ length (drop n bs) = rw (whole n (length bs - n) bs refl) at h in
    let h'' : m ≤ length bs - n = rw length-drop at h' in
    omega arith

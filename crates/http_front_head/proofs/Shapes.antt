-- The bytes of a head, and what stands before its last line end.
use Rattle.std.proofs.Common.{◌≡◌, ◌<◌, ◌≤◌, ℕ, List, [], ◌∷◌, ◌++◌, length, refl, sym, ap, ◌∙◌, arith}
use Rattle.std.proofs.Common.{append_assoc, append-nil, length-append}
use Rattle.std.specs.List.{flat_map}
use Rattle.httparse.specs.Grammar.{LineEnd, crlf, lf, print_end, print_blank, print_version, print_field}
use Rattle.httparse.specs.Grammar.{RequestHead, IsRequestHead, print_request, ReadsRequest}
use Rattle.httparse.specs.Pieces.{RequestStart, FieldLines}
use Rattle.httparse.specs.Spans.{RequestExceeds}
use Rattle.httparse.proofs.PieceLemmas.{Stops_token, Section_skip, RequestStart_deterministic}
use Rattle.httparse.proofs.GrammarLemmas.{request_tree, request_pieces, cons-append}

-- A head's bytes hold its start line.
pub start_of : (k : RequestHead) → IsRequestHead k → (w m : List ℕ)
    → w ≡ print_blank k.blank
    ++ (k.method ++ 32 ∷ (k.target ++ 32 ∷ (print_version k.minor ++ (print_end k.line_end ++ m))))
    → RequestStart (request_tree k).0 w m
start_of k v w m e = (
  _,
  (e, Stops_token k.method _ v.method.0 v.method.1),
  (_, (v.method.0, v.method.1, refl), (_, ((v.target.0, v.target.1, refl), v.target_text), (_, (v.minor, refl), refl))),
)

-- Two texts with the same last byte are one where they are one with it.
pub front_unique : (a b : List ℕ) (x : ℕ) → a ++ x ∷ [] ≡ b ++ x ∷ [] → a ≡ b
front_unique [] [] x e = refl
front_unique [] (y ∷ b) x e = absurd (omega (arith, ap length e, length-append b (x ∷ [])))
front_unique (y ∷ a) [] x e = absurd (omega (arith, ap length e, length-append a (x ∷ [])))
front_unique (y ∷ a) (z ∷ b) x e = let tails = front_unique a b x (cc) in cc

-- What stands before the last LF of a text that ends in a line end.
pub before_feed : (front a : List ℕ) (last : LineEnd) → front ++ 10 ∷ [] ≡ a ++ print_end last
    → (tail : List ℕ) × (front ≡ a ++ tail)
before_feed front a crlf e =
    (13 ∷ [], front_unique front (a ++ 13 ∷ []) 10 (e ∙ sym (append_assoc a (13 ∷ []) (10 ∷ []))))
before_feed front a lf e = ([], front_unique front a 10 e ∙ sym (append-nil a))

-- the bytes of a head up to its last line end
abbrev pub up_to_fields : RequestHead → List ℕ
up_to_fields k =
    print_blank k.blank ++ (k.method ++ 32 ∷ (k.target ++ 32 ∷ (print_version k.minor
    ++ (print_end k.line_end ++ flat_map print_field k.fields))))

-- A head's bytes are those and its last line end.
pub print_parts : (k : RequestHead) → print_request k ≡ up_to_fields k ++ print_end k.last
unfolding print_request
print_parts k =
    regroup (print_blank k.blank) k.method k.target (print_version k.minor) (print_end k.line_end)
    (flat_map print_field k.fields) (print_end k.last)
  where
    regroup : (a b c d e f r : List ℕ)
        → (a ++ b ++ 32 ∷ c ++ 32 ∷ d ++ e ++ (f ++ r)) ≡ (a ++ (b ++ 32 ∷ (c ++ 32 ∷ (d ++ (e ++ f))))) ++ r
    regroup a b c d e f r = simp (append_assoc, cons-append)

-- A head has two bytes or more.
pub head_has_bytes : (h : RequestHead) → 2 ≤ length (print_request h)
unfolding print_request
head_has_bytes h = grind (arith, length-append)

-- Bytes with too many header lines begin with all of a head but its last line end.
pub exceeds_front : (room : ℕ) (w : List ℕ) (x : RequestExceeds room w)
    → (tail : List ℕ) × (w ≡ up_to_fields x.3 ++ tail)
exceeds_front room w x =
    let k = x.3 in
    let read = x.4 in
    let cut = before_feed x.0 (up_to_fields k) k.last (read.1 ∙ append-nil (print_request k) ∙ print_parts k) in (
      cut.0 ++ x.1,
      x.2 ∙ ap (λ (t : List ℕ). t ++ x.1) cut.1 ∙ append_assoc (up_to_fields k) cut.0 x.1,
    )

-- Behind many header lines no head has fewer.
pub exceeds_all : (room : ℕ) (w : List ℕ) → RequestExceeds room w → (h : RequestHead) (r : List ℕ)
    → ReadsRequest w h r → room < length h.fields
exceeds_all room w x h r y =
    let k = x.3 in
    let read = x.4 in
    let front = exceeds_front room w x in
    let behind = front.0 in
    let e : w ≡ print_blank k.blank ++ (k.method ++ 32 ∷ (k.target ++ 32 ∷ (print_version k.minor
    ++ (print_end k.line_end ++ (flat_map print_field k.fields ++ behind))))) =
    front.1 ∙ regroup (print_blank k.blank) k.method k.target (print_version k.minor) (print_end k.line_end)
    (flat_map print_field k.fields) behind in
    let start = start_of k read.0 w _ e in
    let pieces = request_pieces w h r y in
    let same = RequestStart_deterministic.unique (request_tree k).0 (request_tree h).0 w _ pieces.0 start pieces.1 in
    let lines : FieldLines k.fields pieces.0 behind = (read.0.fields, sym same.1) in
    let skipped = Section_skip k.fields h.fields h.last pieces.0 behind r lines pieces.2 in
    omega (arith, x.5, ap length skipped.1, length-append k.fields skipped.0)
  where
    regroup : (a b c d e f g : List ℕ)
        → (a ++ (b ++ 32 ∷ (c ++ 32 ∷ (d ++ (e ++ f))))) ++ g
        ≡ a ++ (b ++ 32 ∷ (c ++ 32 ∷ (d ++ (e ++ (f ++ g)))))
    regroup a b c d e f g = simp (append_assoc, cons-append)

-- Too many header lines stay too many.
pub exceeds_append : (room : ℕ) (w c : List ℕ) → RequestExceeds room w → RequestExceeds room (w ++ c)
exceeds_append room w c x =
    (x.0, x.1 ++ c, ap (λ (t : List ℕ). t ++ c) x.2 ∙ append_assoc x.0 x.1 c, x.3, x.4, x.5)

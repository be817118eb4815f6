-- The bytes of the forms that the pieces of an expression have.
use Rattle.std.proofs.Common.{◌≡◌, ℕ, Bool, true, false, List, [], ◌∷◌, ◌++◌, map, refl, ap, sym, ◌∙◌, append_assoc}
use Rattle.std.proofs.Common.{append-nil, codes}
use Rattle.std.specs.List.{AllByRecursion}
use Rattle.std.proofs.lemmas.List.Concat.{flat_map-append}
use Rattle.ruby_types.specs.Paths.{path_text}
use Rattle.ruby_token.specs.declared.token.Op.{Op}
use Rattle.ruby_token.specs.declared.token.Op.TheVariants as op
use Rattle.ruby_print.specs.Pieces.{joined}
use Rattle.ruby_print.specs.Expressions.{operation}
use Rattle.ruby_print_pieces.specs.Pieces.{Piece, piece_bytes, bytes_of, mark, comma, close_paren, path, path_more}
use Rattle.ruby_print_pieces.specs.Pieces.{space}
use Rattle.ruby_print_pieces.specs.Expressions.{Laid, enclosed, members, more_members, pair, pairs, more_pairs}
use Rattle.ruby_print_tokens.proofs.ExpressionsLevels.{infix_body, choice_body}

-- pieces with the white before them give this text
abbrev pub Gives : (List ℕ → List Piece) → List ℕ → Type 0
Gives x t = (gap : List ℕ) → bytes_of (x gap) ≡ gap ++ t

-- The bytes of pieces one behind another are their bytes one behind another.
pub bytes-append : (ps qs : List Piece) → bytes_of (ps ++ qs) ≡ bytes_of ps ++ bytes_of qs
bytes-append ps qs = flat_map-append piece_bytes ps qs

-- The pieces of an expression in parentheses have the bytes that are printed.
pub enclosed_bytes : (x : List ℕ → List Piece) (t : List ℕ) → Gives x t → (gap : List ℕ) (inside : Bool) →
    bytes_of (enclosed x gap inside) ≡ gap ++ operation t inside
enclosed_bytes x t h gap true = ap (λ y. (gap ++ 40 ∷ []) ++ y) (bytes-append (x []) (close_paren ∷ [])
    ∙ ap (λ y. y ++ 41 ∷ []) (h [])) ∙ append_assoc gap (40 ∷ []) (t ++ 41 ∷ [])
enclosed_bytes x t h gap false = h gap ∙ ap (λ y. gap ++ y) (sym (append-nil t))

-- The pieces of an operator have the bytes that are printed.
pub infix_bytes : (a b : Laid) (o : Op) (t ta tb : List ℕ) → Gives (λ g. a g true) ta → Gives (λ g. b g true) tb →
    Gives (infix_body a o t b) (ta ++ (32 ∷ (t ++ (32 ∷ tb))))
infix_bytes a b o t ta tb ha hb gap =
    bytes-append (a gap true) (mark space o t ∷ b space true)
    ∙ ap (λ y. y ++ (32 ∷ (t ++ bytes_of (b space true)))) (ha gap)
    ∙ ap (λ y. (gap ++ ta) ++ (32 ∷ (t ++ y))) (hb space)
    ∙ append_assoc gap ta _

-- The pieces of a choice have the bytes that are printed.
pub choice_bytes : (a b c : Laid) (ta tb tc : List ℕ) → Gives (λ g. a g true) ta → Gives (λ g. b g true) tb →
    Gives (λ g. c g true) tc →
    Gives (choice_body a b c) (ta ++ (codes " ? " ++ (tb ++ (codes " : " ++ tc))))
choice_bytes a b c ta tb tc ha hb hc gap =
    bytes-append (a gap true) _
    ∙ ap (λ y. y ++ (32 ∷ 63 ∷ bytes_of (infix_body b op.Colon (codes ":") c space))) (ha gap)
    ∙ ap (λ y. (gap ++ ta) ++ (32 ∷ 63 ∷ y)) (infix_bytes b c op.Colon (codes ":") tb tc hb hc space)
    ∙ append_assoc gap ta _

-- ---- lists

abbrev more_text : List (List ℕ) → List ℕ
more_text [] = []
more_text (x ∷ xs) = 44 ∷ 32 ∷ (x ++ more_text xs)

joined_more : (x : List ℕ) (xs : List (List ℕ)) → joined (x ∷ xs) ≡ x ++ more_text xs
joined_more x [] = sym (append-nil x)
joined_more x (y ∷ ys) = ap (λ t. x ++ (44 ∷ 32 ∷ t)) (joined_more y ys)

more_bytes : {X : Type 0} (f : X → Laid) (g : X → List ℕ) (xs : List X) →
    AllByRecursion (λ x. Gives (λ gap. f x gap true) (g x)) xs → bytes_of (more_members (map f xs))
    ≡ more_text (map g xs)
more_bytes f g [] h = refl
more_bytes f g (x ∷ xs) h =
    ap (λ y. 44 ∷ y) (bytes-append (f x space true) (more_members (map f xs))
    ∙ ap (λ y. y ++ bytes_of (more_members (map f xs))) (h.0 space)
    ∙ ap (λ y. 32 ∷ (g x ++ y)) (more_bytes f g xs h.1))

some_bytes : {X : Type 0} (f : X → Laid) (g : X → List ℕ) (x : X) (xs : List X) →
    AllByRecursion (λ x. Gives (λ gap. f x gap true) (g x)) (x ∷ xs) →
    Gives (λ gap. members gap (map f (x ∷ xs))) (joined (map g (x ∷ xs)))
some_bytes f g x xs h gap =
    bytes-append (f x gap true) (more_members (map f xs))
    ∙ ap (λ y. y ++ bytes_of (more_members (map f xs))) (h.0 gap)
    ∙ ap (λ y. (gap ++ g x) ++ y) (more_bytes f g xs h.1)
    ∙ append_assoc gap (g x) _
    ∙ ap (λ y. gap ++ y) (sym (joined_more (g x) (map g xs)))

-- The pieces of members have the bytes that are printed.
pub members_bytes : {X : Type 0} (f : X → Laid) (g : X → List ℕ) (xs : List X) →
    AllByRecursion (λ x. Gives (λ gap. f x gap true) (g x)) xs → bytes_of (members [] (map f xs)) ≡ joined (map g xs)
members_bytes f g [] h = refl
members_bytes f g (x ∷ xs) h = some_bytes f g x xs h []

-- a pair as a member
abbrev pub as_member : Laid × Laid → Laid
as_member p gap inside = pair gap p

more_pairs_are : {X : Type 0} (f : X → Laid × Laid) (xs : List X) →
    more_pairs (map f xs) ≡ more_members (map (λ x. as_member (f x)) xs)
more_pairs_are f [] = refl
more_pairs_are f (x ∷ xs) = ap (λ y. comma ∷ (pair space (f x) ++ y)) (more_pairs_are f xs)

-- The pieces of pairs are those of members, each a key, an arrow and a value.
pub pairs_are : {X : Type 0} (f : X → Laid × Laid) (xs : List X) →
    pairs (map f xs) ≡ members [] (map (λ x. as_member (f x)) xs)
pairs_are f [] = refl
pairs_are f (x ∷ xs) = ap (λ y. pair [] (f x) ++ y) (more_pairs_are f xs)

-- ---- constants

path_more_bytes : (n : List ℕ) (ns : List (List ℕ)) → n ++ bytes_of (path_more ns) ≡ path_text (n ∷ ns)
path_more_bytes n [] = append-nil n
path_more_bytes n (m ∷ ns) = ap (λ y. n ++ (58 ∷ 58 ∷ y)) (path_more_bytes m ns)

-- The pieces of a path have the bytes that are printed.
pub path_bytes : (n : List ℕ) (ns : List (List ℕ)) → Gives (λ gap. path gap (n ∷ ns)) (path_text (n ∷ ns))
path_bytes n ns gap = append_assoc gap n _ ∙ ap (λ y. gap ++ y) (path_more_bytes n ns)

-- ---- steps of a proof

-- Equal pieces have equal bytes: turns one equation into another.
pub from : {ps qs : List Piece} {t u : List ℕ} (gap : List ℕ) → ps ≡ qs → bytes_of qs ≡ gap ++ t → u ≡ t →
    bytes_of ps ≡ gap ++ u
from gap e h f = ap bytes_of e ∙ h ∙ ap (λ y. gap ++ y) (sym f)

-- Two maps one behind another are one.
pub map_map : {X Y Z : Type 0} (f : Y → Z) (g : X → Y) (xs : List X) → map f (map g xs) ≡ map (λ x. f (g x)) xs
map_map f g [] = refl
map_map f g (x ∷ xs) = ap (λ y. f (g x) ∷ y) (map_map f g xs)

-- between an opening and a closing mark
pub between : (gap front text back : List ℕ) (ps : List Piece) (p : Piece) → bytes_of ps ≡ text →
    piece_bytes p ≡ back → (gap ++ front) ++ bytes_of (ps ++ p ∷ []) ≡ gap ++ (front ++ (text ++ back))
between gap front text back ps p h e =
    ap (λ y. (gap ++ front) ++ y) (bytes-append ps (p ∷ []) ∙ ap (λ y. y ++ bytes_of (p ∷ [])) h
    ∙ ap (λ y. text ++ y) (append-nil (piece_bytes p) ∙ e))
    ∙ append_assoc gap front _

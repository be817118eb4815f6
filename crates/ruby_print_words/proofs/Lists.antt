-- Lists of expressions, of pairs and of the parts of a text.
use Rattle.std.proofs.Common.{◌≡◌, ℕ, zero, suc, true, List, [], ◌∷◌, ◌++◌, map, refl, sym, ap, ◌∙◌, append_assoc}
use Rattle.std.proofs.Common.{append-nil, codes}
use Rattle.std.specs.List.{flat_map}
use Rattle.ruby_types.specs.declared.tree.Expr.{Expr}
use Rattle.ruby_types.specs.declared.tree.Expr.TheVariants as expr
use Rattle.ruby_types.specs.declared.tree.Part.{Part}
use Rattle.ruby_types.specs.declared.tree.Part.TheVariants as part
use Rattle.descent.specs.Grammar.{first, later}
use Rattle.ruby_token.specs.declared.token.Op.TheVariants as op
use Rattle.ruby_token.specs.declared.token.TokenKind.TheVariants as k
use Rattle.ruby_grammar.specs.Rules.{Name}
use Rattle.ruby_grammar.specs.Rules as rule
use Rattle.ruby_grammar.specs.Expressions.{opening, inside_from}
use Rattle.ruby_grammar.specs.Statements.{scope}
use Rattle.ruby_grammar.proofs.Tools.{among_behind}
use Rattle.ruby_print_pieces.specs.Pieces.{Piece, piece, mark, open_bracket, close_bracket, space}
use Rattle.ruby_print_pieces.specs.Expressions.{Laid, expression, members, more_members, pair, more_pairs, pairs}
use Rattle.ruby_print_pieces.specs.Expressions as pieces
use Rattle.ruby_print_words.proofs.Building.{Reads, reads, given, takes, then_, ends, says, over, over_rule, valued}
use Rattle.ruby_print_words.proofs.Building.{Under}
use Rattle.ruby_print_words.proofs.Texts.{text_back}
use Rattle.ruby_print_pieces.proofs.Folds.{pieces_of, pieces_of_part}
use Rattle.ruby_print_words.proofs.Lifting.{Ready, inner, primary_ready}

-- ---- members

pub record Members (names : List Name) (xs : List Expr) (l : ℕ) : Type 0 where
  pub read : (gap : List ℕ) (before : List Expr) →
      Reads (rule.members (scope l names) before) (members gap (map expression xs)) (before ++ xs)

behind_member : {names : List Name} (xs : List Expr) {l : ℕ} → Members names xs l → (before : List Expr) →
    Reads (rule.more_members (scope l names) before) (more_members (map expression xs)) (before ++ xs)
behind_member [] h before = reads (later first) (valued (sym (append-nil before)) given)
behind_member (x ∷ xs) h before = reads first (takes (λ n. refl) (λ n. refl) (says (h.read space before)))

-- No members are read of nothing.
pub no_members : (names : List Name) (l : ℕ) → Members names [] l
no_members names l = record { read = λ gap before. reads (later first) (valued (sym (append-nil before)) given) }

-- A member before others is read before them.
pub members_more : {names : List Name} {x : Expr} {xs : List Expr} {l : ℕ} → Ready names x l → Members names xs l →
    Members names (x ∷ xs) l
members_more {names} {x} {xs} {l} r h = record {
  read = λ gap before.
      reads first (then_ (inner r gap)
      (valued (append_assoc before (x ∷ []) xs) (says (behind_member xs h (before ++ x ∷ [])))));
}

-- A printed array is read as it is.
pub array_ready : (names : List Name) (l : ℕ) (xs : List Expr) → Under (Members names xs) l →
    Ready names (expr.Array xs) l
array_ready names zero xs h = absurd h
array_ready names (suc l) xs h =
    primary_ready (λ gap. open_bracket gap ∷ (members [] (map expression xs) ++ close_bracket ∷ []))
    (pieces_of (expr.Array xs) (expr.outs-Array xs))
    (λ gap. reads (later (later (later (later (later (later (later (later (later (later first))))))))))
    (takes (λ n. refl) (λ n. refl) (then_ (h.read [] []) (takes (λ n. refl) (λ n. refl) given))))

-- ---- pairs

abbrev laid : Expr × Expr → Laid × Laid
laid p = (expression p.0, expression p.1)

-- pairs of which the first stands behind this white
abbrev pairs_at : List ℕ → List (Laid × Laid) → List Piece
pairs_at gap [] = []
pairs_at gap (p ∷ ps) = pair gap p ++ more_pairs ps

pub record Pairs (names : List Name) (ps : List (Expr × Expr)) (l : ℕ) : Type 0 where
  read : (gap : List ℕ) (before : List (Expr × Expr)) →
      Reads (rule.pairs (scope l names) before) (pairs_at gap (map laid ps)) (before ++ ps)

behind_pair : {names : List Name} (ps : List (Expr × Expr)) {l : ℕ} → Pairs names ps l → (before : List (Expr × Expr)) →
    Reads (rule.more_pairs (scope l names) before) (more_pairs (map laid ps)) (before ++ ps)
behind_pair [] h before = reads (later first) (valued (sym (append-nil before)) given)
behind_pair (p ∷ ps) h before = reads first (takes (λ n. refl) (λ n. refl) (says (h.read space before)))

-- No pairs are read of nothing.
pub no_pairs : (names : List Name) (l : ℕ) → Pairs names [] l
no_pairs names l = record { read = λ gap before. reads (later first) (valued (sym (append-nil before)) given) }

one_pair : {names : List Name} {x y : Expr} {l : ℕ} → Ready names x l → Ready names y l → (gap : List ℕ) →
    Reads (rule.pair (scope l names)) (pair gap (laid (x, y))) (x, y)
one_pair r s gap = reads (later first)
    (then_ (inner r gap) (takes (λ n. refl) (λ n. refl) (ends (inner s space) given)))

-- A pair before others is read before them.
pub pairs_more : {names : List Name} {x y : Expr} {ps : List (Expr × Expr)} {l : ℕ} → Ready names x l →
    Ready names y l → Pairs names ps l → Pairs names ((x, y) ∷ ps) l
pairs_more {names} {x} {y} {ps} {l} r s h = record {
  read = λ gap before.
      reads first (then_ (one_pair r s gap)
      (valued (append_assoc before ((x, y) ∷ []) ps) (says (behind_pair ps h (before ++ (x, y) ∷ [])))));
}

first_gap : (ps : List (Laid × Laid)) → pairs ps ≡ pairs_at [] ps
first_gap [] = refl
first_gap (p ∷ ps) = refl

-- A printed hash is read as it is.
pub hash_ready : (names : List Name) (l : ℕ) (ps : List (Expr × Expr)) → Under (Pairs names ps) l →
    Ready names (expr.Hash ps) l
hash_ready names zero ps h = absurd h
hash_ready names (suc l) ps h =
    primary_ready (λ gap. mark gap op.OpenBrace (codes "{") ∷
    (pairs (map laid ps) ++ mark [] op.CloseBrace (codes "}") ∷ [])) (pieces_of (expr.Hash ps) (expr.outs-Hash ps))
    (λ gap. reads (later (later (later (later (later (later (later (later (later (later (later first)))))))))))
    (takes (λ n. refl) (λ n. refl)
    (then_ (over_rule (first_gap (map laid ps)) (h.read [] [])) (takes (λ n. refl) (λ n. refl) given))))

-- ---- parts of a text

-- The pieces of a text's parts.
abbrev pub parts_pieces : List Part → List Piece
parts_pieces ps = flat_map (λ part. part) (map pieces.part ps)

pub record Parts (names : List Name) (ps : List Part) (l : ℕ) : Type 0 where
  pub read : (before : List Part) → Reads (rule.text_parts (scope l names) true before) (parts_pieces ps) (before ++ ps)

-- No parts are read of nothing.
pub no_parts : (names : List Name) (l : ℕ) → Parts names [] l
no_parts names l = record {
  read = λ before.
      reads (later (among_behind (opening l (inside_from (scope l names) true before)) first))
      (valued (sym (append-nil before)) given);
}

-- A plain part before others is read before them.
pub plain_more : {names : List Name} {ps : List Part} {l : ℕ} (text : List ℕ) → Parts names ps l →
    Parts names (part.Plain text ∷ ps) l
plain_more {names} {ps} {l} text h = record {
  read = λ before.
      over_rule (ap (λ t. t ++ parts_pieces ps) (pieces_of_part (part.Plain text) (part.outs-Plain text)))
      (reads first (takes (λ n. refl) (λ n. refl) (valued
      (ap (λ t. (before ++ part.Plain t ∷ []) ++ ps) (text_back text) ∙ append_assoc before (part.Plain text ∷ []) ps)
      (says (h.read (before ++ part.Plain _ ∷ []))))));
}

-- An inside part before others is read before them.
pub inside_more : (names : List Name) (l : ℕ) (x : Expr) (ps : List Part) → Under (Ready names x) l →
    Parts names ps l → Parts names (part.Inside x ∷ ps) l
inside_more names zero x ps r h = absurd r
inside_more names (suc l) x ps r h = record {
  read = λ before.
      over_rule (ap (λ t. t ++ parts_pieces ps) (pieces_of_part (part.Inside x) (part.outs-Inside x)))
      (reads (later first) (takes (λ n. refl) (λ n. refl)
      (over (append_assoc (expression x [] true) (piece [] k.InsideClose (125 ∷ []) ∷ []) (parts_pieces ps))
      (then_ (inner r []) (takes (λ n. refl) (λ n. refl)
      (valued (append_assoc before (part.Inside x ∷ []) ps) (says (h.read (before ++ part.Inside x ∷ [])))))))));
}

-- A printed text is read as it is.
pub text_ready : (names : List Name) (l : ℕ) (ps : List Part) → Parts names ps l → Ready names (expr.Str ps) l
text_ready names l ps h =
    primary_ready (λ gap. piece gap k.TextOpen (34 ∷ []) ∷ (parts_pieces ps ++ piece [] k.TextClose (34 ∷ []) ∷ []))
    (pieces_of (expr.Str ps) (expr.outs-Str ps))
    (λ gap. reads (later first)
    (takes (λ n. refl) (λ n. refl) (then_ (h.read []) (takes (λ n. refl) (λ n. refl) given))))

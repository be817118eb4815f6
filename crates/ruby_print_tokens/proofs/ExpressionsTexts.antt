-- Texts in double quotes are found, part by part.
use Rattle.std.proofs.Common.{◌≡◌, ℕ, true, false, List, [], ◌∷◌, ◌++◌, refl, ap, sym, subst, ◌∙◌, arith, append_assoc}
use Rattle.std.proofs.Common.{Some, ◌≢◌, drop, ◌==◌}
use Rattle.std.specs.List.{flat_map}
use Rattle.ruby_types.specs.declared.tree.Expr.{Expr}
use Rattle.ruby_types.specs.declared.tree.Part.TheVariants as p
use Rattle.ruby_token.specs.declared.token.TokenKind.TheVariants as k
use Rattle.ruby_token.specs.declared.opens.Quote.TheVariants as q
use Rattle.ruby_token.specs.declared.opens.Open.TheVariants as o
use Rattle.ruby_token.specs.declared.state.State.{State}
use Rattle.ruby_token.specs.Opens.{text_at, in_inside}
use Rattle.ruby_token.specs.State.{ends_value}
use Rattle.ruby_token.specs.Lengths.{piece_len}
use Rattle.ruby_print.specs.Pieces.{escaped}
use Rattle.ruby_print_pieces.specs.Pieces.{Piece, bytes_of, behind_piece, piece}
use Rattle.ruby_print_pieces.specs.Expressions.{expression, part}
use Rattle.ruby_print_tokens.specs.Flows.{state_behind}
use Rattle.ruby_print_tokens.proofs.ExpressionsLevels.{part-Plain, part-Inside}
use Rattle.ruby_print_tokens.proofs.SinglesMarks.{inside_close_lexeme}
use Rattle.ruby_print_tokens.proofs.SinglesTexts.{open_text_lexeme, close_text_lexeme, inside_open_lexeme, piece_lexeme}
use Rattle.ruby_print_tokens.proofs.SinglesTexts.{escaped_some}
use Rattle.ruby_print_tokens.proofs.SinglesFlows.{Flown, stay, and_then, so_also, one_goes, begin}
use Rattle.ruby_print_tokens.proofs.ExpressionsForms.{Body, Keeps}

-- These pieces stand in a text, before its closing quote.
abbrev pub InText : List Piece → Type 0
InText ps = (s : State) (n : ℕ) (rest : List ℕ) → text_at s.opens ≡ Some q.Double → Flown (34 ∷ rest) s n ps (Keeps s)

-- No plain bytes stand before them.
abbrev pub NoPlain : List Piece → Type 0
NoPlain ps = (rest : List ℕ) → piece_len (bytes_of ps ++ 34 ∷ rest) ≡ 0

-- The closing quote.
abbrev pub close_text : Piece
close_text = piece [] k.TextClose (34 ∷ [])

-- The piece `#{`.
abbrev pub open_inside : Piece
open_inside = piece [] k.InsideOpen (35 ∷ 123 ∷ [])

-- The piece `}` that ends an inside part.
abbrev pub close_inside : Piece
close_inside = piece [] k.InsideClose (125 ∷ [])

-- A text, given the white before it, is found.
pub text_body : (ps : List Piece) → InText ps → Body (λ gap. piece gap k.TextOpen (34 ∷ []) ∷ (ps ++ close_text ∷ []))
text_body ps f gap s n rest h g =
    begin gap k.TextOpen 34 [] (ps ++ close_text ∷ []) h refl (λ z r. open_text_lexeme z _ r.in_code) refl
    (and_then ps (close_text ∷ []) (f _ _ rest refl)
    (λ mid e. one_goes close_text [] tt (close_text_lexeme mid rest (ap text_at e.opens)) (omega arith) refl
    (stay (record { opens = ap (drop 1) e.opens; brackets = e.brackets; after = refl; no_colon = refl }))))

keeps_on : {s mid : State} → mid.opens ≡ s.opens → mid.brackets ≡ s.brackets → (end : State) → Keeps mid end →
    Keeps s end
keeps_on e f end h = record { opens = h.opens ∙ e; brackets = h.brackets ∙ f }

-- A text without parts is found.
pub no_parts_flow : InText []
no_parts_flow s n rest h = stay (record { opens = refl; brackets = refl })

-- A plain part before others that begin with none is found.
pub plain_flow : (t : List ℕ) (ps : List Piece) → t ≢ [] → NoPlain ps → InText ps → InText (part (p.Plain t) ++ ps)
plain_flow t ps n e f s m rest h =
    subst (λ y. Flown (34 ∷ rest) s m (y ++ ps) (Keeps s)) (sym (part-Plain t))
    (one_goes (piece [] k.TextPiece (flat_map escaped t)) ps tt
    (piece_lexeme s t (bytes_of ps ++ 34 ∷ rest) h n (e rest)) (escaped_some t n) refl
    (so_also (keeps_on refl refl) (f _ _ rest h)))

inside_goes : (x : Expr) (ps : List Piece) → Body (λ g. expression x g true) → InText ps →
    (s mid : State) (n : ℕ) (rest : List ℕ) → text_at s.opens ≡ Some q.Double →
    mid.opens ≡ o.Inside ∷ s.opens → mid.brackets ≡ s.brackets → ends_value mid.after ≡ false →
    (mid.before == 58) ≡ false →
    Flown (34 ∷ rest) mid n (expression x [] true ++ (close_inside ∷ ps)) (Keeps s)
inside_goes x ps fx f s mid n rest h e i v c =
    and_then (expression x [] true) (close_inside ∷ ps)
    (fx [] mid n (bytes_of (close_inside ∷ ps) ++ 34 ∷ rest)
    (record { spaces = tt; in_code = ap text_at e; no_value = v; no_colon = λ z. c }) refl)
    (λ end w.
    let y : end.opens ≡ o.Inside ∷ s.opens = w.opens ∙ e in
    one_goes close_inside ps tt (inside_close_lexeme end (bytes_of ps ++ 34 ∷ rest) (ap text_at y) (ap in_inside y))
    (omega arith) refl
    (so_also (keeps_on (ap (drop 1) y) (w.brackets ∙ i)) (f _ _ rest (ap (λ xs. text_at (drop 1 xs)) y ∙ h))))

-- An inside part before others is found.
pub inside_flow : (x : Expr) (ps : List Piece) → Body (λ g. expression x g true) → InText ps →
    InText (part (p.Inside x) ++ ps)
inside_flow x ps fx f s n rest h =
    subst (λ y. Flown (34 ∷ rest) s n (y ++ ps) (Keeps s)) (sym (part-Inside x))
    (one_goes open_inside ((expression x [] true ++ close_inside ∷ []) ++ ps) tt (inside_open_lexeme s _ h)
    (omega arith) refl
    (subst (λ y. Flown (34 ∷ rest) (state_behind n open_inside s) (behind_piece n open_inside) y (Keeps s))
    (sym (append_assoc (expression x [] true) (close_inside ∷ []) ps))
    (inside_goes x ps fx f s (state_behind n open_inside s) (behind_piece n open_inside) rest h refl refl refl refl)))

-- An inside part is no plain one.
pub inside_no_plain : (x : Expr) (ps : List Piece) → NoPlain (part (p.Inside x) ++ ps)
inside_no_plain x ps rest = subst (λ y. piece_len (bytes_of (y ++ ps) ++ 34 ∷ rest) ≡ 0) (sym (part-Inside x)) refl

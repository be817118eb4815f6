-- The forms that the pieces of an expression have are found: in brackets, with an operator between, in a list.
use Rattle.std.proofs.Common.{◌≡◌, ℕ, ◌+◌, ◌-◌, ◌<◌, Bool, true, false, List, [], ◌∷◌, ◌++◌, map, length, refl, ap, sym}
use Rattle.std.proofs.Common.{subst, ◌∙◌, arith, None, ◌==◌, codes}
use Rattle.std.specs.List.{AllByRecursion}
use Rattle.ruby_token.specs.declared.token.Op.{Op}
use Rattle.ruby_token.specs.declared.token.Op.TheVariants as op
use Rattle.ruby_token.specs.declared.token.TokenKind.TheVariants as k
use Rattle.ruby_token.specs.declared.opens.Open.{Open}
use Rattle.ruby_token.specs.declared.opens.Open.TheVariants as o
use Rattle.ruby_token.specs.declared.state.State.{State}
use Rattle.ruby_token.specs.declared.state.After.TheVariants as a
use Rattle.ruby_token.specs.declared.lexeme.Lexeme.TheVariants as l
use Rattle.ruby_token.specs.Bytes.{is_white, next_passes}
use Rattle.ruby_token.specs.Opens.{text_at, in_inside}
use Rattle.ruby_token.specs.State.{state_past, ends_value, after_op, opens_op, brackets_op, close_brace}
use Rattle.ruby_token.specs.Steps.{lexeme}
use Rattle.ruby_print_pieces.specs.Pieces.{Piece, bytes_of, behind_piece, mark, comma, open_paren, close_paren}
use Rattle.ruby_print_pieces.specs.Pieces.{open_bracket, close_bracket, space}
use Rattle.ruby_print_pieces.specs.Expressions.{Laid, enclosed, members, more_members}
use Rattle.ruby_print_tokens.specs.Flows.{state_behind, stops_by, stops, Begins, Ends}
use Rattle.ruby_print_tokens.proofs.BytesForms.{Gives, infix_bytes}
use Rattle.ruby_print_tokens.proofs.ExpressionsLevels.{infix_body, choice_body}
use Rattle.ruby_print_tokens.proofs.SinglesNames.{IsInfix, minus, ask, colon}
use Rattle.ruby_print_tokens.proofs.SinglesMarks.{lone_open_paren, lone_close_paren, lone_open_bracket}
use Rattle.ruby_print_tokens.proofs.SinglesMarks.{lone_close_bracket, lone_open_brace, lone_comma, IsLone, lone_lexeme}
use Rattle.ruby_print_tokens.proofs.SinglesMarks.{close_brace_lexeme, not_lexeme, infix_lexeme, goes_on}
use Rattle.ruby_print_tokens.proofs.SinglesFlows.{Flown, stay, and_then, so_also, one_goes, passes, begin}

-- These pieces are an expression, whatever stands before them.
abbrev pub Body : (List ℕ → List Piece) → Type 0
Body x = (gap : List ℕ) (s : State) (n : ℕ) (rest : List ℕ) → Begins s gap → stops rest ≡ true →
    Flown rest s n (x gap) (Ends s)

-- Equal pieces are found alike.
pub as_body : {x y : List ℕ → List Piece} → ((gap : List ℕ) → x gap ≡ y gap) → Body y → Body x
as_body e f gap s n rest h g = subst (λ ps. Flown rest s n ps (Ends s)) (sym (e gap)) (f gap s n rest h g)

-- What is open stays.
pub record Keeps (s end : State) : Type 0 where
  pub opens : end.opens ≡ s.opens
  pub brackets : end.brackets ≡ s.brackets

-- pieces that may stand behind an opening bracket
abbrev pub Kept : List Piece → Type 0
Kept ps = (s : State) (n : ℕ) (rest : List ℕ) → Begins s [] → stops rest ≡ true → Flown rest s n ps (Keeps s)

keeps : {s : State} (end : State) → Ends s end → Keeps s end
keeps end e = record { opens = e.opens; brackets = e.brackets }

-- A body without white before it is kept inside brackets.
pub kept : (x : List ℕ → List Piece) → Body x → Kept (x [])
kept x f s n rest h g = so_also keeps (f [] s n rest h g)

-- behind a value, in code
pub record Sits (s : State) : Type 0 where
  pub in_code : text_at s.opens ≡ None
  pub after : s.after ≡ a.Value
  pub no_colon : (s.before == 58) ≡ false

sits : {s end : State} → text_at s.opens ≡ None → Ends s end → Sits end
sits c e = record { in_code = ap text_at e.opens ∙ c; after = e.after; no_colon = e.no_colon }

-- A state ends in itself.
pub ends_here : {s : State} → Sits s → Ends s s
ends_here h = record { opens = refl; brackets = refl; after = h.after; no_colon = h.no_colon }

-- Where nothing opens or closes, what ends behind ends here.
pub ends_on : {s mid : State} → mid.opens ≡ s.opens → mid.brackets ≡ s.brackets → (end : State) → Ends mid end →
    Ends s end
ends_on e f end h = record { opens = h.opens ∙ e; brackets = h.brackets ∙ f; after = h.after; no_colon = h.no_colon }

-- ---- brackets

pub record IsClose (x : Op) (b : ℕ) : Type 0 where
  pub lone : IsLone x b
  pub opens : (xs : List Open) → opens_op x xs ≡ xs
  pub brackets : (m : ℕ) → brackets_op x m ≡ m - 1
  pub after : after_op x ≡ a.Value
  pub no_colon : (b == 58) ≡ false
  pub stop : stops_by b ≡ true

paren : IsClose op.CloseParen 41
paren = record {
  lone = lone_close_paren;
  opens = λ xs. refl;
  brackets = λ m. refl;
  after = refl;
  no_colon = refl;
  stop = refl;
}

-- `]` closes an array or an index.
pub bracket : IsClose op.CloseBracket 93
bracket = record {
  lone = lone_close_bracket;
  opens = λ xs. refl;
  brackets = λ m. refl;
  after = refl;
  no_colon =
      refl;
  stop = refl;
}

one_less : (m n : ℕ) → m ≡ n + 1 → m - 1 ≡ n
one_less m n e = omega (arith, e)

closing : {x : Op} {b : ℕ} → IsClose x b → (s mid : State) (n : ℕ) (rest : List ℕ) → text_at s.opens ≡ None →
    mid.opens ≡ s.opens → mid.brackets ≡ s.brackets + 1 → Flown rest mid n (mark [] x (b ∷ []) ∷ []) (Ends s)
closing {x = x} {b = b} c s mid n rest h e f =
    one_goes (mark [] x (b ∷ [])) [] tt (lone_lexeme c.lone mid rest (ap text_at e ∙ h)) (omega arith) refl
    (stay (record {
      opens = c.opens mid.opens ∙ e;
      brackets = c.brackets mid.brackets
          ∙ one_less mid.brackets s.brackets f;
      after = c.after;
      no_colon = c.no_colon;
    }))

-- the state behind an opening bracket
pub record Opened (s mid : State) : Type 0 where
  pub opens : mid.opens ≡ s.opens
  pub brackets : mid.brackets ≡ s.brackets + 1
  pub no_value : ends_value mid.after ≡ false
  pub no_colon : (mid.before == 58) ≡ false

group_rest : {x : Op} {b : ℕ} → IsClose x b → (ps : List Piece) → Kept ps →
    (s mid : State) (n : ℕ) (rest : List ℕ) → text_at s.opens ≡ None → Opened s mid →
    Flown rest mid n (ps ++ mark [] x (b ∷ []) ∷ []) (Ends s)
group_rest {x = x} {b = b} c ps f s mid n rest h g =
    and_then ps (mark [] x (b ∷ []) ∷ [])
    (f mid n (b ∷ rest) (record {
      spaces = tt;
      in_code = ap text_at g.opens ∙ h;
      no_value = g.no_value;
      no_colon =
          λ e. g.no_colon;
    }) c.stop)
    (λ end e. closing c s end _ rest h (e.opens ∙ g.opens) (e.brackets ∙ g.brackets))

-- directly behind another piece
pub paren_group : (ps : List Piece) → Kept ps → (s : State) (n : ℕ) (rest : List ℕ) → text_at s.opens ≡ None →
    Flown rest s n (open_paren [] ∷ (ps ++ close_paren ∷ [])) (Ends s)
paren_group ps f s n rest h =
    one_goes (open_paren []) (ps ++ close_paren ∷ []) tt (lone_lexeme lone_open_paren s _ h) (omega arith) refl
    (group_rest paren ps f s _ _ rest h (record { opens = refl; brackets = refl; no_value = refl; no_colon = refl }))

-- A group in brackets leaves what is open as it was.
pub bracket_group : (ps : List Piece) → Kept ps → (s : State) (n : ℕ) (rest : List ℕ) → text_at s.opens ≡ None →
    Flown rest s n (open_bracket [] ∷ (ps ++ close_bracket ∷ [])) (Ends s)
bracket_group ps f s n rest h =
    one_goes (open_bracket []) (ps ++ close_bracket ∷ []) tt (lone_lexeme lone_open_bracket s _ h) (omega arith) refl
    (group_rest bracket ps f s _ _ rest h (record { opens = refl; brackets = refl; no_value = refl; no_colon = refl }))

-- at the front of an expression
paren_body : (ps : List Piece) → Kept ps → Body (λ gap. open_paren gap ∷ (ps ++ close_paren ∷ []))
paren_body ps f gap s n rest h g =
    begin gap (k.Op op.OpenParen) 40 [] (ps ++ close_paren ∷ []) h refl
    (λ z r. lone_lexeme lone_open_paren z _ r.in_code) refl
    (group_rest paren ps f s _ _ rest h.in_code
    (record { opens = refl; brackets = refl; no_value = refl; no_colon = refl }))

-- An array, given the white before it, is found.
pub bracket_body : (ps : List Piece) → Kept ps → Body (λ gap. open_bracket gap ∷ (ps ++ close_bracket ∷ []))
bracket_body ps f gap s n rest h g =
    begin gap (k.Op op.OpenBracket) 91 [] (ps ++ close_bracket ∷ []) h refl
    (λ z r. lone_lexeme lone_open_bracket z _ r.in_code) refl
    (group_rest bracket ps f s _ _ rest h.in_code
    (record { opens = refl; brackets = refl; no_value = refl; no_colon = refl }))

close_brace_goes : (s mid : State) (n : ℕ) (rest : List ℕ) → mid.opens ≡ o.Brace ∷ s.opens →
    mid.brackets ≡ s.brackets + 1 → Flown rest mid n (mark [] op.CloseBrace (codes "}") ∷ []) (Ends s)
close_brace_goes s mid n rest e f =
    one_goes (mark [] op.CloseBrace (codes "}")) [] tt (close_brace_lexeme mid rest (ap text_at e) (ap in_inside e))
    (omega arith) refl
    (stay (record {
      opens = ap close_brace e;
      brackets = one_less mid.brackets s.brackets f;
      after = refl;
      no_colon =
          refl;
    }))

-- A hash, given the white before it, is found.
pub brace_body : (ps : List Piece) → Kept ps →
    Body (λ gap. mark gap op.OpenBrace (codes "{") ∷ (ps ++ mark [] op.CloseBrace (codes "}") ∷ []))
brace_body ps f gap s n rest h g =
    begin gap (k.Op op.OpenBrace) 123 [] (ps ++ mark [] op.CloseBrace (codes "}") ∷ []) h refl
    (λ z r. lone_lexeme lone_open_brace z _ r.in_code) refl
    (and_then ps (mark [] op.CloseBrace (codes "}") ∷ [])
    (f _ _ (125 ∷ rest) (record { spaces = tt; in_code = refl; no_value = refl; no_colon = λ e. refl }) refl)
    (λ end e. close_brace_goes s end _ rest e.opens e.brackets))

-- An expression in parentheses, given the white before it, is found.
pub enclosed_body : (x : List ℕ → List Piece) → Body x → (inside : Bool) → Body (λ gap. enclosed x gap inside)
enclosed_body x f true = paren_body (x []) (kept x f)
enclosed_body x f false = f

-- ---- an operator between

dark_first : {x : Op} {t : List ℕ} → IsInfix x t → (r : List ℕ) → next_passes is_white (t ++ r) ≡ false
dark_first {t = t} i r = let g = goes_on i in subst (λ y. next_passes is_white (y ++ r) ≡ false) (sym g.whole) g.dark

some_first : {x : Op} {t : List ℕ} → IsInfix x t → 0 < length t
some_first {t = t} i = let g = goes_on i in subst (λ y. 0 < length y) (sym g.whole) (omega arith)

infix_goes : {x : Op} {t : List ℕ} {P : State → Type 0} → IsInfix x t →
    (s : State) (n : ℕ) (rest u : List ℕ) (ps : List Piece) → text_at s.opens ≡ None → bytes_of ps ++ rest ≡ 32 ∷ u →
    Flown rest (state_behind n (mark space x t) s) (behind_piece n (mark space x t)) ps P →
    Flown rest s n (mark space x t ∷ ps) P
infix_goes {x = x} {t = t} i s n rest u ps c e f =
    one_goes (mark space x t) ps
    (passes s space (t ++ (bytes_of ps ++ rest)) (refl, tt) c (dark_first i (bytes_of ps ++ rest)))
    (subst (λ y. lexeme (state_past space s) (t ++ y) ≡ l.Token (k.Op x) (length t)) (sym e)
    (infix_lexeme i (state_past space s) u c)) (some_first i) refl f

-- An operator is found.
pub infix_flow : (x y : Laid) (p : Op) (t ty : List ℕ) → IsInfix p t → Body (λ g. x g true) → Body (λ g. y g true) →
    Gives (λ g. y g true) ty → Body (infix_body x p t y)
infix_flow x y p t ty i fx fy gy gap s n rest h g =
    and_then (x gap true) (mark space p t ∷ y space true) (fx gap s n _ h refl)
    (λ mid e.
    let w = goes_on i in
    let c : text_at mid.opens ≡ None = ap text_at e.opens ∙ h.in_code in
    infix_goes i mid _ rest (ty ++ rest) (y space true) c (ap (λ z. z ++ rest) (gy space))
    (so_also (ends_on (w.opens mid.opens ∙ e.opens) (w.brackets mid.brackets ∙ e.brackets))
    (fy space _ _ rest (record {
      spaces = (refl, tt);
      in_code = ap text_at (w.opens mid.opens)
          ∙ c;
      no_value = ap ends_value w.joins;
      no_colon = λ z. cc;
    }) g)))

-- A choice is found.
pub choice_flow : (x y z : Laid) (ty tz : List ℕ) → Body (λ g. x g true) → Body (λ g. y g true) →
    Body (λ g. z g true) → Gives (λ g. y g true) ty → Gives (λ g. z g true) tz → Body (choice_body x y z)
choice_flow x y z ty tz fx fy fz gy gz =
    infix_flow x (λ g inside. infix_body y op.Colon (codes ":") z g) op.Ask (codes "?") _ ask fx
    (infix_flow y z op.Colon (codes ":") tz colon fy fz gz) (infix_bytes y z op.Colon (codes ":") ty tz gy gz)

-- ---- an operator before

-- A unary minus is found.
pub minus_flow : (x : Laid) (t : List ℕ) → Body (λ g. x g true) → Gives (λ g. x g true) t →
    Body (λ g. mark g op.Minus (codes "-") ∷ x space true)
minus_flow x t f e gap s n rest h g =
    begin gap (k.Op op.Minus) 45 [] (x space true) h refl
    (λ z r. subst (λ y. lexeme z (45 ∷ (y ++ rest)) ≡ l.Token (k.Op op.Minus) 1) (sym (e space))
    (infix_lexeme minus z (t ++ rest) r.in_code)) refl
    (so_also (ends_on refl refl)
    (f space _ _ rest (record { spaces = (refl, tt); in_code = h.in_code; no_value = refl; no_colon = λ z. cc }) g))

-- a text that doesn't begin with `=` or `~`
pub record Starts (t : List ℕ) : Type 0 where
  pub first : ℕ
  pub others : List ℕ
  pub whole : t ≡ first ∷ others
  pub no_assign : (first == 61) ≡ false
  pub no_match : (first == 126) ≡ false

-- `!` is found.
pub not_flow : (x : Laid) (t : List ℕ) → Body (λ g. x g true) → Gives (λ g. x g true) t → Starts t →
    Body (λ g. mark g op.Not (codes "!") ∷ x [] true)
not_flow x t f e w gap s n rest h g =
    begin gap (k.Op op.Not) 33 [] (x [] true) h refl
    (λ z r. subst (λ y. lexeme z (33 ∷ (y ++ rest)) ≡ l.Token (k.Op op.Not) 1) (sym (e [] ∙ w.whole))
    (not_lexeme z w.first (w.others ++ rest) r.in_code w.no_assign w.no_match)) refl
    (so_also (ends_on refl refl)
    (f [] _ _ rest (record { spaces = tt; in_code = h.in_code; no_value = refl; no_colon = λ z. refl }) g))

-- ---- lists

stops_more : (xs : List Laid) (rest : List ℕ) → stops rest ≡ true → stops (bytes_of (more_members xs) ++ rest) ≡ true
stops_more [] rest g = g
stops_more (x ∷ xs) rest g = refl

more_flow : {X : Type 0} (f : X → Laid) (xs : List X) → AllByRecursion (λ x. Body (λ g. f x g true)) xs →
    (s : State) (n : ℕ) (rest : List ℕ) → Sits s → stops rest ≡ true → Flown rest s n (more_members (map f xs)) (Ends s)
more_flow f [] h s n rest w g = stay (ends_here w)
more_flow f (x ∷ xs) h s n rest w g =
    one_goes comma (f x space true ++ more_members (map f xs)) tt (lone_lexeme lone_comma s _ w.in_code)
    (omega arith) refl
    (and_then (f x space true) (more_members (map f xs))
    (h.0 space _ _ _ (record { spaces = (refl, tt); in_code = w.in_code; no_value = refl; no_colon = λ z. cc })
    (stops_more (map f xs) rest g))
    (λ mid e. so_also (ends_on e.opens e.brackets) (more_flow f xs h.1 mid _ rest (sits w.in_code e) g)))

some_flow : {X : Type 0} (f : X → Laid) (x : X) (xs : List X) →
    AllByRecursion (λ x. Body (λ g. f x g true)) (x ∷ xs) → Body (λ gap. members gap (map f (x ∷ xs)))
some_flow f x xs h gap s n rest w g =
    and_then (f x gap true) (more_members (map f xs)) (h.0 gap s n _ w (stops_more (map f xs) rest g))
    (λ mid e. so_also (ends_on e.opens e.brackets) (more_flow f xs h.1 mid _ rest (sits w.in_code e) g))

-- Members are found inside brackets.
pub members_kept : {X : Type 0} (f : X → Laid) (xs : List X) → AllByRecursion (λ x. Body (λ g. f x g true)) xs →
    Kept (members [] (map f xs))
members_kept f [] h s n rest w g = stay (record { opens = refl; brackets = refl })
members_kept f (x ∷ xs) h s n rest w g = so_also keeps (some_flow f x xs h [] s n rest w g)

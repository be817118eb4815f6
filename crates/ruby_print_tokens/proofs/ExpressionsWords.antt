-- Expressions of one token, constants and calls are found.
use Rattle.std.proofs.Common.{◌≡◌, ℕ, Bool, true, false, List, [], ◌∷◌, ◌++◌, map, refl, ap, sym, subst, ◌∙◌, arith}
use Rattle.std.proofs.Common.{append-nil, None, ◌==◌, codes, bytes_eq}
use Rattle.std.specs.List.{AllByRecursion}
use Rattle.std.specs.Char.{is_ascii_uppercase}
use Rattle.std.proofs.lemmas.Bool.Decides.{nat_tests}
use Rattle.ruby_types.specs.declared.tree.ConstRef.{ConstRef}
use Rattle.ruby_token.specs.declared.token.Op.TheVariants as op
use Rattle.ruby_token.specs.declared.token.TokenKind.TheVariants as k
use Rattle.ruby_token.specs.declared.state.State.{State}
use Rattle.ruby_token.specs.declared.state.After.TheVariants as a
use Rattle.ruby_token.specs.Bytes.{Every, is_word, is_lower, next_passes}
use Rattle.ruby_token.specs.Opens.{text_at}
use Rattle.ruby_token.specs.State.{after_token, is_valueless}
use Rattle.ruby_token.specs.Cut.{is_big}
use Rattle.ruby_token.specs.Number.{is_in_range}
use Rattle.ruby_grammar.specs.Terminals.{name_terminal}
use Rattle.ruby_print.specs.Expressions.{is_operator}
use Rattle.ruby_print_pieces.specs.Pieces.{Piece, bytes_of, behind_piece, op_of, piece, mark, name, const, colons, dot}
use Rattle.ruby_print_pieces.specs.Pieces.{open_paren, close_paren, open_bracket, close_bracket, path, path_more, space}
use Rattle.ruby_print_pieces.specs.Expressions.{Laid, members, arguments, call_on, constant, enclosed}
use Rattle.ruby_print_pieces.specs.Names.{IsPlainName, plain_name, IsConstName, capital, IsSymbolName, of_name}
use Rattle.ruby_print_pieces.specs.Names.{of_constant, IsMethodName, EachConst, IsPath}
use Rattle.ruby_print_tokens.specs.Flows.{state_behind, stops, Ends}
use Rattle.ruby_print_tokens.proofs.BytesForms.{Gives}
use Rattle.ruby_print_tokens.proofs.ExpressionsLevels.{infix_body}
use Rattle.ruby_print_tokens.proofs.SinglesNames.{Tail, bare, name_of, IsWordCall, IsOperatorCall, IsInfix}
use Rattle.ruby_print_tokens.proofs.SinglesMarks.{dot_lexeme, colons_lexeme}
use Rattle.ruby_print_tokens.proofs.SinglesWords.{EndsName, ends_by_stop, ends_by_paren, name_lexeme, const_lexeme}
use Rattle.ruby_print_tokens.proofs.SinglesWords.{ivar_lexeme, symbol_lexeme, symbol_const_lexeme, name_last}
use Rattle.ruby_print_tokens.proofs.SinglesWords.{const_last, word_last, symbol_last, lower_dark, upper_dark}
use Rattle.ruby_print_tokens.proofs.SinglesWords.{word_of_lower, word_of_upper}
use Rattle.ruby_print_tokens.proofs.SinglesNumbers.{IsNumber, number_of}
use Rattle.ruby_print_tokens.proofs.SinglesValues.{no_valueless}
use Rattle.ruby_print_tokens.proofs.SinglesFlows.{Flown, stay, and_then, so_also, one_goes, begin, alone}
use Rattle.ruby_print_tokens.proofs.ExpressionsForms.{Body, as_body, enclosed_body, Kept, Sits, ends_here, ends_on}
use Rattle.ruby_print_tokens.proofs.ExpressionsForms.{paren_group, bracket_group, members_kept, infix_flow}

-- ---- names

value_after : (n : List ℕ) → is_valueless n ≡ false → after_token k.Name n ≡ a.Value
value_after n h = rw h refl

local_of : (b : ℕ) (t : List ℕ) → is_lower b ≡ true → Tail t → is_valueless (b ∷ t) ≡ false →
    Body (λ gap. name gap (b ∷ t) ∷ [])
local_of b t h i v gap s n rest w g =
    alone gap k.Name b t s n rest w (lower_dark b h) (λ z r. name_lexeme z b t rest r.in_code h i (ends_by_stop rest g))
    (record {
      small = refl;
      opens = λ m xs. refl;
      brackets = λ m. refl;
      value = value_after (b ∷ t) v;
      no_colon =
          name_last b t h i;
    })

-- A reserved word, given the white before it, is found.
pub word_body : (b : ℕ) (t : List ℕ) → is_lower b ≡ true → Every is_word t → is_valueless (b ∷ t) ≡ false →
    Body (λ gap. name gap (b ∷ t) ∷ [])
word_body b t h e v = local_of b t h (bare e) v

-- A local variable, given the white before it, is found.
pub local_body : (n : List ℕ) → IsMethodName n → Body (λ gap. name gap n ∷ [])
local_body n i =
    let f = name_of i.spelled in
    subst (λ m. Body (λ gap. name gap m ∷ [])) (sym f.whole)
    (local_of f.first f.tail f.lower f.shape
    (no_valueless (f.first ∷ f.tail) (ap name_terminal (sym f.whole) ∙ i.free)))

-- An instance variable, given the white before it, is found.
pub ivar_body : (n : List ℕ) → IsPlainName n → Body (λ gap. piece gap k.Ivar (64 ∷ n) ∷ [])
ivar_body _ (plain_name {b = b} {t = t} h e) gap s n rest w g =
    alone gap k.Ivar 64 (b ∷ t) s n rest w refl
    (λ z r. ivar_lexeme z b t rest r.in_code h e (EndsName.no_word (ends_by_stop rest g)))
    (record {
      small = refl;
      opens = λ m xs. refl;
      brackets = λ m. refl;
      value = refl;
      no_colon =
          word_last 64 b t (word_of_lower b h) e;
    })

symbol_of : (b : ℕ) (t : List ℕ) → is_lower b ≡ true → Tail t → Body (λ gap. piece gap k.Sym (58 ∷ b ∷ t) ∷ [])
symbol_of b t h i gap s n rest w g =
    alone gap k.Sym 58 (b ∷ t) s n rest w refl
    (λ z r. symbol_lexeme z b t rest r.in_code r.no_colon h i (ends_by_stop rest g))
    (record {
      small = refl;
      opens = λ m xs. refl;
      brackets = λ m. refl;
      value = refl;
      no_colon =
          symbol_last 58 b t h i;
    })

symbol_const_of : (b : ℕ) (t : List ℕ) → is_ascii_uppercase b ≡ true → Every is_word t →
    Body (λ gap. piece gap k.Sym (58 ∷ b ∷ t) ∷ [])
symbol_const_of b t h e gap s n rest w g =
    alone gap k.Sym 58 (b ∷ t) s n rest w refl
    (λ z r. symbol_const_lexeme z b t rest r.in_code r.no_colon h e (EndsName.no_word (ends_by_stop rest g)))
    (record {
      small = refl;
      opens = λ m xs. refl;
      brackets = λ m. refl;
      value = refl;
      no_colon =
          word_last 58 b t (word_of_upper b h) e;
    })

-- A symbol, given the white before it, is found.
pub symbol_body : (n : List ℕ) → IsSymbolName n → Body (λ gap. piece gap k.Sym (58 ∷ n) ∷ [])
symbol_body n (of_name i) = let f = name_of i in
    subst (λ m. Body (λ gap. piece gap k.Sym (58 ∷ m) ∷ [])) (sym f.whole) (symbol_of f.first f.tail f.lower f.shape)
symbol_body _ (of_constant (capital {b = b} {t = t} h e)) = symbol_const_of b t h e

small_number : (text : List ℕ) → is_in_range text ≡ true → is_big k.Int text ≡ false
small_number text h = rw h refl

-- A number, given the white before it, is found.
pub number_body : (text : List ℕ) → is_in_range text ≡ true → IsNumber text → Body (λ gap. piece gap k.Int text ∷ [])
number_body text i j =
    let f = number_of text j in
    subst (λ m. is_in_range m ≡ true → Body (λ gap. piece gap k.Int m ∷ [])) (sym f.whole) (λ i' gap s n rest w g.
    alone gap k.Int f.first f.others s n rest w f.dark
    (λ z r. f.found z rest r (EndsName.no_word (ends_by_stop rest g)))
    (record {
      small = small_number (f.first ∷ f.others) i';
      opens = λ m xs. refl;
      brackets = λ m. refl;
      value = refl;
      no_colon = f.last;
    })) i

-- ---- constants

path_ends : (ns : List (List ℕ)) (rest : List ℕ) → stops rest ≡ true →
    next_passes is_word (bytes_of (path_more ns) ++ rest) ≡ false
path_ends [] rest g = EndsName.no_word (ends_by_stop rest g)
path_ends (n ∷ ns) rest g = refl

-- behind a piece of a path
behind_const : (b : ℕ) (t : List ℕ) (ns : List (List ℕ)) → is_ascii_uppercase b ≡ true → Every is_word t →
    ((s : State) (n : ℕ) (rest : List ℕ) → Sits s → stops rest ≡ true → Flown rest s n (path_more ns) (Ends s)) →
    (s : State) (n : ℕ) (rest : List ℕ) → text_at s.opens ≡ None → stops rest ≡ true →
    Flown rest s n (const [] (b ∷ t) ∷ path_more ns) (Ends s)
behind_const b t ns h e f s n rest c g =
    one_goes (const [] (b ∷ t)) (path_more ns) tt (const_lexeme s b t _ c h e (path_ends ns rest g)) (omega arith) refl
    (so_also (ends_on refl refl) (f _ _ rest (record { in_code = c; after = refl; no_colon = const_last b t h e }) g))

more_consts : (m : List ℕ) (ns : List (List ℕ)) → IsConstName m →
    ((s : State) (n : ℕ) (rest : List ℕ) → Sits s → stops rest ≡ true → Flown rest s n (path_more ns) (Ends s)) →
    (s : State) (n : ℕ) (rest : List ℕ) → Sits s → stops rest ≡ true → Flown rest s n (path_more (m ∷ ns)) (Ends s)
more_consts _ ns (capital {b = b} {t = t} h e) f s n rest w g =
    one_goes (colons []) (const [] (b ∷ t) ∷ path_more ns) tt (colons_lexeme s _ w.in_code) (omega arith) refl
    (so_also (ends_on refl refl) (behind_const b t ns h e f _ _ rest w.in_code g))

path_more_flow : (ns : List (List ℕ)) → EachConst ns → (s : State) (n : ℕ) (rest : List ℕ) → Sits s →
    stops rest ≡ true → Flown rest s n (path_more ns) (Ends s)
path_more_flow [] h s n rest w g = stay (ends_here w)
path_more_flow (m ∷ ns) h s n rest w g = more_consts m ns h.0 (path_more_flow ns h.1) s n rest w g

path_body : (m : List ℕ) (ns : List (List ℕ)) → IsConstName m → EachConst ns → Body (λ gap. path gap (m ∷ ns))
path_body _ ns (capital {b = b} {t = t} h e) j gap s n rest w g =
    begin gap k.Const b t (path_more ns) w (upper_dark b h)
    (λ z r. const_lexeme z b t _ r.in_code h e (path_ends ns rest g)) refl
    (so_also (ends_on refl refl)
    (path_more_flow ns j _ _ rest (record { in_code = w.in_code; after = refl; no_colon = const_last b t h e }) g))

top_body : (m : List ℕ) (ns : List (List ℕ)) → IsConstName m → EachConst ns →
    Body (λ gap. colons gap ∷ path [] (m ∷ ns))
top_body _ ns (capital {b = b} {t = t} h e) j gap s n rest w g =
    begin gap (k.Op op.Path) 58 (58 ∷ []) (const [] (b ∷ t) ∷ path_more ns) w refl
    (λ z r. colons_lexeme z _ r.in_code) refl
    (so_also (ends_on refl refl) (behind_const b t ns h e (path_more_flow ns j) _ _ rest w.in_code g))

const_of : (top : Bool) (ns : List (List ℕ)) → IsPath ns → Body (λ gap. constant gap (record { top = top; path = ns }))
const_of top [] h = absurd h
const_of true (m ∷ ns) h = top_body m ns h.0 h.1
const_of false (m ∷ ns) h = path_body m ns h.0 h.1

-- A constant name, given the white before it, is found.
pub const_body : (c : ConstRef) → IsPath c.path → Body (λ gap. constant gap c)
const_body c h = const_of c.top c.path h

-- ---- calls

own_of : (b : ℕ) (t : List ℕ) (ps : List Piece) → is_lower b ≡ true → Tail t → Kept ps →
    Body (λ gap. name gap (b ∷ t) ∷ open_paren [] ∷ (ps ++ close_paren ∷ []))
own_of b t ps h i f gap s n rest w g =
    begin gap k.Name b t (open_paren [] ∷ (ps ++ close_paren ∷ [])) w (lower_dark b h)
    (λ z r. name_lexeme z b t _ r.in_code h i (ends_by_paren _)) refl
    (so_also (ends_on refl refl) (paren_group ps f _ _ rest w.in_code))

-- A call on self, given the white before it, is found.
pub own_body : (n : List ℕ) (ps : List Piece) → IsMethodName n → Kept ps →
    Body (λ gap. name gap n ∷ open_paren [] ∷ (ps ++ close_paren ∷ []))
own_body n ps i f = let d = name_of i.spelled in
    subst (λ m. Body (λ gap. name gap m ∷ open_paren [] ∷ (ps ++ close_paren ∷ []))) (sym d.whole)
    (own_of d.first d.tail ps d.lower d.shape f)

-- what may stand behind a name is a list of arguments
args_end : {X : Type 0} (f : X → Laid) (xs : List X) (rest : List ℕ) → stops rest ≡ true →
    EndsName (bytes_of (arguments (map f xs)) ++ rest)
args_end f [] rest g = ends_by_stop rest g
args_end f (x ∷ xs) rest g = ends_by_paren _

args_flow : {X : Type 0} (f : X → Laid) (xs : List X) → AllByRecursion (λ x. Body (λ g. f x g true)) xs →
    (s : State) (n : ℕ) (rest : List ℕ) → Sits s → stops rest ≡ true → Flown rest s n (arguments (map f xs)) (Ends s)
args_flow f [] h s n rest w g = stay (ends_here w)
args_flow f (x ∷ xs) h s n rest w g = paren_group (members [] (map f (x ∷ xs))) (members_kept f (x ∷ xs) h) s n rest
    w.in_code

no_dot : (b : ℕ) → is_lower b ≡ true → (b == 46) ≡ false
no_dot b h = grind (arith, nat_tests)

called_flow : {X : Type 0} (f : X → Laid) (xs : List X) → AllByRecursion (λ x. Body (λ g. f x g true)) xs →
    (b : ℕ) (t : List ℕ) → is_lower b ≡ true → Tail t → is_valueless (b ∷ t) ≡ false →
    (s : State) (n : ℕ) (rest : List ℕ) → text_at s.opens ≡ None → stops rest ≡ true →
    Flown rest s n (name [] (b ∷ t) ∷ arguments (map f xs)) (Ends s)
called_flow f xs h b t j i v s n rest c g =
    one_goes (name [] (b ∷ t)) (arguments (map f xs)) tt (name_lexeme s b t _ c j i (args_end f xs rest g))
    (omega arith) refl
    (so_also (ends_on refl refl)
    (args_flow f xs h _ _ rest
    (record { in_code = c; after = value_after (b ∷ t) v; no_colon = name_last b t j i }) g))

dotted : {X : Type 0} (f : X → Laid) (xs : List X) → AllByRecursion (λ x. Body (λ g. f x g true)) xs →
    (b : ℕ) (t : List ℕ) → is_lower b ≡ true → Tail t → is_valueless (b ∷ t) ≡ false →
    (s : State) (n : ℕ) (rest : List ℕ) → text_at s.opens ≡ None → stops rest ≡ true →
    Flown rest s n (dot ∷ name [] (b ∷ t) ∷ arguments (map f xs)) (Ends s)
dotted f xs h b t j i v s n rest c g =
    one_goes dot (name [] (b ∷ t) ∷ arguments (map f xs)) tt (dot_lexeme s b _ c (no_dot b j)) (omega arith) refl
    (so_also (ends_on refl refl) (called_flow f xs h b t j i v (state_behind n dot s) (behind_piece n dot) rest c g))

word_of : {X : Type 0} (x : Laid) (f : X → Laid) (xs : List X) → Body (λ g. x g true) →
    AllByRecursion (λ x. Body (λ g. f x g true)) xs → (b : ℕ) (t : List ℕ) → is_lower b ≡ true → Tail t →
    is_valueless (b ∷ t) ≡ false →
    Body (λ gap. x gap true ++ (dot ∷ name [] (b ∷ t) ∷ arguments (map f xs)))
word_of x f xs hx h b t j i v gap s n rest w g =
    and_then (x gap true) (dot ∷ name [] (b ∷ t) ∷ arguments (map f xs)) (hx gap s n _ w refl)
    (λ mid e. so_also (ends_on e.opens e.brackets)
    (dotted f xs h b t j i v mid _ rest (ap text_at e.opens ∙ w.in_code) g))

word_call : (x : Laid) (n : List ℕ) (args : List Laid) (gap : List ℕ) (inside : Bool) → IsWordCall n →
    call_on x n args gap inside ≡ x gap true ++ (dot ∷ name [] n ∷ arguments args)
word_call x n args gap inside w =
    let e1 : bytes_eq n (codes "[]") ≡ false = w.no_index in
    let e2 : bytes_eq n (codes "-@") ≡ false = w.no_minus in
    let e3 : is_operator n ≡ false = w.no_operator in
    rw (e1, e2, e3) refl

-- A call behind a point, given the white before it, is found.
pub word_call_body : {X : Type 0} (x : Laid) (f : X → Laid) (n : List ℕ) (xs : List X) → IsMethodName n →
    IsWordCall n → Body (λ g. x g true) → AllByRecursion (λ x. Body (λ g. f x g true)) xs → (inside : Bool) →
    Body (λ gap. call_on x n (map f xs) gap inside)
word_call_body x f n xs i w hx h inside gap s m rest b g =
    let d = name_of i.spelled in
    subst (λ ps. Flown rest s m ps (Ends s)) (sym (word_call x n (map f xs) gap inside w))
    (subst (λ y. Flown rest s m (x gap true ++ (dot ∷ name [] y ∷ arguments (map f xs))) (Ends s)) (sym d.whole)
    (word_of x f xs hx h d.first d.tail d.lower d.shape
    (no_valueless (d.first ∷ d.tail) (ap name_terminal (sym d.whole) ∙ i.free)) gap s m rest b g))

operator_call : (x y : Laid) (n : List ℕ) (gap : List ℕ) (inside : Bool) → IsOperatorCall n →
    call_on x n (y ∷ []) gap inside ≡ enclosed (infix_body x (op_of n) n y) gap inside
operator_call x y n gap inside w =
    let e1 : bytes_eq n (codes "[]") ≡ false = w.no_index in
    let e2 : bytes_eq n (codes "-@") ≡ false = w.no_minus in
    let e3 : is_operator n ≡ true = w.operator in
    rw (e1, e2, e3) (ap (λ z. enclosed (λ g. x g true ++ (mark space (op_of n) n ∷ z)) gap inside)
    (append-nil (y space true)))

-- An operator, given the white before it, is found.
pub operator_body : (x y : Laid) (n ty : List ℕ) → IsOperatorCall n → IsInfix (op_of n) n → Body (λ g. x g true) →
    Body (λ g. y g true) → Gives (λ g. y g true) ty → (inside : Bool) → Body (λ gap. call_on x n (y ∷ []) gap inside)
operator_body x y n ty w i hx hy gy inside = as_body (λ gap. operator_call x y n gap inside w)
    (enclosed_body (infix_body x (op_of n) n y) (infix_flow x y (op_of n) n ty i hx hy gy) inside)

-- An index, given the white before it, is found.
pub index_body : (x y : Laid) → Body (λ g. x g true) → Kept (members [] (y ∷ [])) →
    Body (λ gap. x gap true ++ (open_bracket [] ∷ (members [] (y ∷ []) ++ close_bracket ∷ [])))
index_body x y hx hy gap s n rest w g =
    and_then (x gap true) (open_bracket [] ∷ (members [] (y ∷ []) ++ close_bracket ∷ [])) (hx gap s n _ w refl)
    (λ mid e. so_also (ends_on e.opens e.brackets)
    (bracket_group (members [] (y ∷ [])) hy mid _ rest (ap text_at e.opens ∙ w.in_code)))

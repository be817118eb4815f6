-- Each definition on its lines.
use Rattle.std.proofs.Common.{◌≡◌, ℕ, Bool, true, false, List, [], ◌∷◌, ◌++◌, map, refl, ap, sym, ◌∙◌, arith, Option}
use Rattle.std.proofs.Common.{Some, None, append_assoc, append-nil, IsUtf8, codes}
use Rattle.std.specs.List.{AllByRecursion}
use Rattle.std.proofs.lemmas.Str.{IsUtf8-append}
use Rattle.ruby_types.specs.Paths.{path_text}
use Rattle.ruby_types.specs.declared.tree.ConstRef.{ConstRef}
use Rattle.ruby_types.specs.declared.tree.Expr.{Expr}
use Rattle.ruby_types.specs.declared.tree.Stmt.{Stmt}
use Rattle.ruby_types.specs.declared.tree.Def.TheOpen as d
use Rattle.ruby_token.specs.declared.token.TokenKind.TheVariants as k
use Rattle.ruby_token.specs.State.{is_valueless}
use Rattle.ruby_grammar.specs.Rules.{Name}
use Rattle.ruby_print.specs.Statements as print_statements
use Rattle.ruby_print.specs.Definitions.{symbol}
use Rattle.ruby_print.specs.Definitions as print
use Rattle.ruby_print_pieces.specs.Names.{plain_name, IsConstName, IsSymbolName, IsMethodName, IsPath}
use Rattle.ruby_print_pieces.specs.Formed.{Formed, one, IsConstant}
use Rattle.ruby_print_pieces.specs.FormedFiles.{FormedParameters}
use Rattle.ruby_print_pieces.specs.Pieces.{Piece, bytes_of, name, path, space}
use Rattle.ruby_print_pieces.specs.Expressions.{constant}
use Rattle.ruby_print_pieces.specs.Statements.{Placed, statement}
use Rattle.ruby_print_pieces.specs.Definitions.{body, parent, parameters, heading, definition_step}
use Rattle.ruby_print_tokens.specs.Flows.{IsSpaces}
use Rattle.ruby_print_tokens.proofs.Reading.{bytes_append}
use Rattle.ruby_print_tokens.proofs.Utf8.{utf8_ascii, Good, good_then, good_append, good_path, good_const}
use Rattle.ruby_print_tokens.proofs.Utf8.{good_constant, good_name, good_symbol, utf8_joined}
use Rattle.ruby_print_tokens.proofs.StatementsRuns.{Run, behind, weaker, any, Code, Fresh, code_any}
use Rattle.ruby_print_tokens.proofs.StatementsWords.{Breaks, NoWord, breaks_no_word, const_run, symbol_run}
use Rattle.ruby_print_tokens.proofs.StatementsLines.{behind_breaks, Item, EachItem, body_run, body_bytes, utf8_body}
use Rattle.ruby_print_tokens.proofs.StatementsSimple.{IsOpener, opener_run, value_run, utf8_value, set_bytes}
use Rattle.ruby_print_tokens.proofs.FilesNames.{path_run, path_bytes, constant_run, constant_bytes, constant_breaks}
use Rattle.ruby_print_tokens.proofs.FilesNames.{IsParent, parent_run, parent_bytes, utf8_parent, OneRun, listed_run}
use Rattle.ruby_print_tokens.proofs.FilesNames.{listed_bytes, parameters_run, parameters_bytes, utf8_parameters}
use Rattle.ruby_print_tokens.proofs.FilesNames.{heading_run}

-- ---- the words

module_opener : IsOpener (codes "module")
unfolding IsOpener is_valueless
module_opener = (
  plain_name refl (refl, (refl, (refl, (refl, (refl, tt))))),
  refl,
  good_then 109 _ refl (omega arith)
      (utf8_ascii _ refl),
)

class_opener : IsOpener (codes "class")
unfolding IsOpener is_valueless
class_opener = (
  plain_name refl (refl, (refl, (refl, (refl, tt)))),
  refl,
  good_then 99 _ refl (omega arith)
      (utf8_ascii _ refl),
)

def_opener : IsOpener (codes "def")
unfolding IsOpener is_valueless
def_opener = (plain_name refl (refl, (refl, tt)), refl, good_then 100 _ refl (omega arith) (utf8_ascii _ refl))

include_opener : IsOpener (codes "include")
unfolding IsOpener is_valueless
include_opener = (
  plain_name refl (refl, (refl, (refl, (refl, (refl, (refl, tt)))))),
  refl,
  good_then 105 _ refl (omega arith) (utf8_ascii _ refl),
)

readers_opener : IsOpener (codes "attr_reader")
unfolding IsOpener is_valueless
readers_opener = (
  plain_name refl (refl, (refl, (refl, (refl, (refl, (refl, (refl, (refl, (refl, (refl, tt)))))))))),
  refl,
  good_then 97 _ refl (omega arith) (utf8_ascii _ refl),
)

word_run : {w : List ℕ} → IsOpener w → (indent : List ℕ) → IsSpaces indent →
    Run Fresh Breaks (name indent w ∷ []) (Code 0 any)
word_run o indent i = weaker (λ s f. f) (λ rest r. r) (λ s c. code_any s c) (opener_run o indent i)

-- ---- modules and classes

path_breaks : (ns : List (List ℕ)) (qs : List Piece) (rest : List ℕ) → IsPath ns →
    Breaks (bytes_of (path space ns ++ qs) ++ rest)
path_breaks [] qs rest h = absurd h
path_breaks (n ∷ ns) qs rest h = refl

head_bytes : (indent w : List ℕ) (ns : List (List ℕ)) (qs : List Piece) (t : List ℕ) → IsPath ns → bytes_of qs ≡ t →
    bytes_of (name indent w ∷ (path space ns ++ qs)) ≡ indent ++ (w ++ (space ++ (path_text ns ++ t)))
head_bytes indent w ns qs t h e =
    append_assoc indent w (bytes_of (path space ns ++ qs))
    ∙ ap (λ b. indent ++ (w ++ b)) (bytes_append (path space ns) qs
    ∙ ap (λ b. b ++ bytes_of qs) (path_bytes ns space h))
    ∙ ap (λ b. indent ++ (w ++ (space ++ (path_text ns ++ b)))) e

-- A module on its lines is found, and has the bytes that are printed.
pub module_item : (ns : List (List ℕ)) (xs : List Placed) (ys : List print_statements.Placed) → IsPath ns →
    EachItem xs ys → Item (definition_step (d.Module ns xs)) (print.definition_step (d.Module ns ys))
module_item ns xs ys h g = record {
  runs = λ indent i. behind (word_run module_opener indent i) (λ rest r. path_breaks ns (body indent xs) rest h)
      (behind (path_run ns space h (refl, tt)) (λ rest r. refl) (body_run xs ys indent g i));
  bytes = λ indent. head_bytes indent (codes "module") ns (body indent xs) _ h (body_bytes xs ys indent g);
  good = λ indent i. good_then 109 _ refl (omega arith)
      (IsUtf8-append (codes "odule ") _ (utf8_ascii _ refl)
      (IsUtf8-append (path_text ns) _ (good_path ns h).utf8 (utf8_body xs ys indent g i)));
}

class_bytes : (p : Option ConstRef) (xs : List Placed) (ys : List print_statements.Placed) (indent : List ℕ) →
    IsParent p → EachItem xs ys → bytes_of (parent p ++ body indent xs) ≡ print.parent_text p ++ print.body indent ys
class_bytes p xs ys indent h g = bytes_append (parent p) (body indent xs)
    ∙ ap (λ b. b ++ bytes_of (body indent xs)) (parent_bytes p h)
    ∙ ap (λ b. print.parent_text p ++ b) (body_bytes xs ys indent g)

parent_leads : (p : Option ConstRef) (xs : List Placed) (indent rest : List ℕ) →
    NoWord (bytes_of (parent p ++ body indent xs) ++ rest)
parent_leads None xs indent rest = refl
parent_leads (Some c) xs indent rest = refl

-- A class on its lines is found, and has the bytes that are printed.
pub class_item : (ns : List (List ℕ)) (p : Option ConstRef) (xs : List Placed) (ys : List print_statements.Placed) →
    IsPath ns → IsParent p → EachItem xs ys →
    Item (definition_step (d.Class ns p xs)) (print.definition_step (d.Class ns p ys))
class_item ns p xs ys h hp g = record {
  runs = λ indent i.
      behind (word_run class_opener indent i) (λ rest r. path_breaks ns (parent p ++ body indent xs) rest h)
      (behind (path_run ns space h (refl, tt)) (λ rest r. parent_leads p xs indent rest)
      (behind (parent_run p hp) (λ rest r. refl) (body_run xs ys indent g i)));
  bytes = λ indent. head_bytes indent (codes "class") ns (parent p ++ body indent xs) _ h
      (class_bytes p xs ys indent hp g);
  good = λ indent i.
      good_then 99 _ refl (omega arith)
      (IsUtf8-append (codes "lass ") _ (utf8_ascii _ refl)
      (IsUtf8-append (path_text ns) _ (good_path ns h).utf8
      (IsUtf8-append (print.parent_text p) _ (utf8_parent p hp) (utf8_body xs ys indent g i))));
}

-- ---- constants

-- A constant's assignment on its lines is found, and has the bytes that are printed.
pub assign_item : {names : List Name} {n : List ℕ} {x : Expr} → IsConstName n → Formed names one x →
    Item (definition_step (d.Assign n x)) (print.definition_step (d.Assign n x))
assign_item {n = n} p h = record {
  runs = λ indent i. behind (weaker (λ s f. code_any s f.code) (λ rest r. r) (λ s c. code_any s c) (const_run i p))
      (λ rest r. refl) (value_run h);
  bytes = λ indent. set_bytes h indent n;
  good = λ indent i. good_append (good_const p) (utf8_value h);
}

-- ---- methods

method_bytes : (single : Bool) (n : List ℕ) (ps : List Name) (xs : List Placed) (ys : List print_statements.Placed)
    (indent : List ℕ) → EachItem xs ys →
    bytes_of (name indent (codes "def") ∷ (heading single n ++ (parameters ps ++ body indent xs)))
    ≡ indent ++ (print.heading single n ps ++ print.body indent ys)
method_bytes single n ps xs ys indent g =
    append_assoc indent (codes "def") _
    ∙ ap (λ b. indent ++ (codes "def" ++ b)) (bytes_append (heading single n) _
    ∙ ap (λ b. bytes_of (heading single n) ++ b) rest)
    ∙ ap (λ b. indent ++ b) (head single)
  where
    rest : bytes_of (parameters ps ++ body indent xs) ≡ print.parameters_text ps ++ print.body indent ys
    rest = bytes_append (parameters ps) (body indent xs)
        ∙ ap (λ b. b ++ bytes_of (body indent xs)) (parameters_bytes ps)
        ∙ ap (λ b. print.parameters_text ps ++ b) (body_bytes xs ys indent g)

    behind_name : (n ++ []) ++ (print.parameters_text ps ++ print.body indent ys)
        ≡ (n ++ print.parameters_text ps) ++ print.body indent ys
    behind_name = ap (λ b. b ++ (print.parameters_text ps ++ print.body indent ys)) (append-nil n)
        ∙ sym (append_assoc n (print.parameters_text ps) (print.body indent ys))

    head : (b : Bool) → codes "def" ++ (bytes_of (heading b n) ++ (print.parameters_text ps ++ print.body indent ys))
        ≡ print.heading b n ps ++ print.body indent ys
    head true = ap (λ b. codes "def self." ++ b) behind_name
    head false = ap (λ b. codes "def " ++ b) behind_name

-- A method on its lines is found, and has the bytes that are printed.
pub method_item : (single : Bool) (n : List ℕ) (ps : List Name) (ss : List Stmt) → IsMethodName n →
    FormedParameters [] ps → EachItem (map statement ss) (map print_statements.statement ss) →
    Item (definition_step (d.Method single n ps ss)) (print.definition_step (d.Method single n ps ss))
method_item single n ps ss h hp g = record {
  runs = λ indent i.
      behind (word_run def_opener indent i) (λ rest r. heading_leads single indent rest)
      (behind (heading_run single n h) (λ rest r. body_leads ps indent rest)
      (behind (parameters_run ps hp) (λ rest r. refl)
      (body_run (map statement ss) (map print_statements.statement ss) indent g i)));
  bytes = λ indent. method_bytes single n ps (map statement ss) (map print_statements.statement ss) indent g;
  good = λ indent i. good_append (heading_good single)
      (utf8_body (map statement ss) (map print_statements.statement ss) indent g i);
}
  where
    heading_leads : (b : Bool) (indent rest : List ℕ) →
        Breaks (bytes_of (heading b n ++ (parameters ps ++ body indent (map statement ss))) ++ rest)
    heading_leads true indent rest = refl
    heading_leads false indent rest = refl

    body_leads : (ns : List Name) (indent rest : List ℕ) →
        Breaks (bytes_of (parameters ns ++ body indent (map statement ss)) ++ rest)
    body_leads [] indent rest = refl
    body_leads (m ∷ ns) indent rest = refl

    heading_good : (b : Bool) → Good (print.heading b n ps)
    heading_good true = good_append (good_then 100 (codes "ef self.") refl (omega arith) (utf8_ascii _ refl))
        (IsUtf8-append n _ (good_name h.spelled).utf8 (utf8_parameters ps hp))
    heading_good false = good_append (good_then 100 (codes "ef ") refl (omega arith) (utf8_ascii _ refl))
        (IsUtf8-append n _ (good_name h.spelled).utf8 (utf8_parameters ps hp))

-- ---- `include` and `attr_reader`

-- An `include` on its lines is found, and has the bytes that are printed.
pub include_item : (c : ConstRef) → IsConstant c →
    Item (definition_step (d.Include c)) (print.definition_step (d.Include c))
include_item c h = record {
  runs = λ indent i. behind (word_run include_opener indent i) (λ rest r. constant_breaks c rest h)
      (weaker (λ s p. p) (λ rest r. breaks_no_word rest (behind_breaks rest r)) (λ s p. p)
      (constant_run c space h (refl, tt)));
  bytes = λ indent. append_assoc indent (codes "include") (bytes_of (constant space c))
      ∙ ap (λ b. indent ++ (codes "include" ++ b)) (constant_bytes c space h);
  good = λ indent i. good_append (good_then 105 (codes "nclude ") refl (omega arith) (utf8_ascii _ refl))
      (good_constant c h).utf8;
}

each_reader : (ns : List Name) → AllByRecursion IsSymbolName ns → AllByRecursion (OneRun 0 k.Sym space) (map symbol ns)
each_reader [] h = tt
each_reader (n ∷ ns) h = (symbol_run h.0, each_reader ns h.1)

utf8_symbols : (ns : List Name) → AllByRecursion IsSymbolName ns → AllByRecursion IsUtf8 (map symbol ns)
utf8_symbols [] h = tt
utf8_symbols (n ∷ ns) h = ((good_symbol h.0).utf8, utf8_symbols ns h.1)

-- Readers on its lines is found, and has the bytes that are printed.
pub readers_item : (n : Name) (ns : List Name) → AllByRecursion IsSymbolName (n ∷ ns) →
    Item (definition_step (d.Readers (n ∷ ns))) (print.definition_step (d.Readers (n ∷ ns)))
readers_item n ns h = record {
  runs = λ indent i.
      behind (word_run readers_opener indent i) (λ rest r. refl)
      (weaker (λ s c. c) behind_breaks (λ s c. c)
      (listed_run k.Sym space (symbol n) (map symbol ns) (symbol_run h.0) (each_reader ns h.1)));
  bytes = λ indent. append_assoc indent (codes "attr_reader") _
      ∙ ap (λ b. indent ++ (codes "attr_reader" ++ b)) (listed_bytes k.Sym space (symbol n) (map symbol ns));
  good = λ indent i. good_append (good_then 97 (codes "ttr_reader ") refl (omega arith) (utf8_ascii _ refl))
      (utf8_joined (map symbol (n ∷ ns)) (utf8_symbols (n ∷ ns) h));
}

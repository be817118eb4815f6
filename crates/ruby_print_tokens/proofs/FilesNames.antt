-- Runs of paths, constants and names with commas between them, and their bytes.
use Rattle.std.proofs.Common.{◌≡◌, ℕ, Bool, true, false, ◌==◌, List, [], ◌∷◌, ◌++◌, refl, ap, ◌∙◌, arith, Option, Some}
use Rattle.std.proofs.Common.{None, append_assoc, append-nil, IsUtf8, codes, if◌then◌else◌}
use Rattle.std.specs.List.{AllByRecursion}
use Rattle.std.proofs.lemmas.Str.{IsUtf8-append, IsUtf8-nil}
use Rattle.std.proofs.lemmas.Bool.Decides.{nat_tests}
use Rattle.ruby_types.specs.Paths.{path_text}
use Rattle.ruby_types.specs.declared.tree.ConstRef.{ConstRef}
use Rattle.ruby_token.specs.declared.token.TokenKind.{TokenKind}
use Rattle.ruby_token.specs.declared.token.TokenKind.TheVariants as k
use Rattle.ruby_token.specs.Bytes.{is_lower, next_is}
use Rattle.ruby_token.proofs.Words.{split_if}
use Rattle.ruby_grammar.specs.Rules.{Name}
use Rattle.ruby_print.specs.Pieces.{joined, constant_text}
use Rattle.ruby_print.specs.Definitions as print
use Rattle.ruby_print_pieces.specs.Names.{IsPlainName, plain_name, IsMethodName, EachConst, IsPath}
use Rattle.ruby_print_pieces.specs.Formed.{IsConstant}
use Rattle.ruby_print_pieces.specs.FormedFiles.{FormedParameters}
use Rattle.ruby_print_pieces.specs.Pieces.{bytes_of, piece, name, colons, close_paren, path, path_more, listed}
use Rattle.ruby_print_pieces.specs.Pieces.{listed_more, space}
use Rattle.ruby_print_pieces.specs.Expressions.{constant}
use Rattle.ruby_print_pieces.specs.Definitions.{parent, parameters, heading}
use Rattle.ruby_print_tokens.specs.Flows.{IsSpaces}
use Rattle.ruby_print_tokens.proofs.Reading.{bytes_append}
use Rattle.ruby_print_tokens.proofs.Utf8.{utf8_ascii, good_constant, good_plain, good_grouped, utf8_joined}
use Rattle.ruby_print_tokens.proofs.StatementsRuns.{Run, nothing, behind, weaker, any, no_join, Code, Closed, code_any}
use Rattle.ruby_print_tokens.proofs.StatementsWords.{Breaks, NoWord, Worded, worded, plainly, name_run, const_run}
use Rattle.ruby_print_tokens.proofs.StatementsMarks.{NextIs, less_run, open_run, close_run, comma_run, dot_run}
use Rattle.ruby_print_tokens.proofs.StatementsMarks.{colons_run}

-- ---- paths

path_more_leads : (ns : List (List ℕ)) (rest : List ℕ) → NoWord rest → NoWord (bytes_of (path_more ns) ++ rest)
path_more_leads [] rest r = r
path_more_leads (n ∷ ns) rest r = refl

path_more_run : (ns : List (List ℕ)) → EachConst ns → Run Closed NoWord (path_more ns) Closed
path_more_run [] h = nothing NoWord
path_more_run (n ∷ ns) h =
    behind (weaker (λ s c. code_any s c) (λ rest r. r) (λ s c. c) (colons_run {gap = []} tt)) (λ rest r. tt)
    (behind (const_run {gap = []} tt h.0) (λ rest r. path_more_leads ns rest r) (path_more_run ns h.1))

-- The lexer finds a path.
pub path_run : (ns : List (List ℕ)) (gap : List ℕ) → IsPath ns → IsSpaces gap →
    Run (Code 0 any) NoWord (path gap ns) Closed
path_run [] gap h i = absurd h
path_run (n ∷ ns) gap h i = behind (const_run i h.0) (λ rest r. path_more_leads ns rest r) (path_more_run ns h.1)

path_more_bytes : (n : List ℕ) (ns : List (List ℕ)) → n ++ bytes_of (path_more ns) ≡ path_text (n ∷ ns)
path_more_bytes n [] = append-nil n
path_more_bytes n (m ∷ ns) = ap (λ b. n ++ (58 ∷ 58 ∷ b)) (path_more_bytes m ns)

-- The pieces of a path have the bytes that are printed.
pub path_bytes : (ns : List (List ℕ)) (gap : List ℕ) → IsPath ns → bytes_of (path gap ns) ≡ gap ++ path_text ns
path_bytes [] gap h = absurd h
path_bytes (n ∷ ns) gap h = append_assoc gap n (bytes_of (path_more ns)) ∙ ap (λ b. gap ++ b) (path_more_bytes n ns)

-- ---- constants

-- The lexer finds a constant.
pub constant_run : (c : ConstRef) (gap : List ℕ) → IsConstant c → IsSpaces gap →
    Run (Code 0 any) NoWord (constant gap c) Closed
constant_run c gap h i =
    split_if (λ ps. Run (Code 0 any) NoWord ps Closed) c.top (colons gap ∷ path [] c.path) (path gap c.path)
    (λ _. behind (colons_run i) (λ rest r. tt) (path_run c.path [] h tt)) (λ _. path_run c.path gap h i)

-- The pieces of a constant have the bytes that are printed.
pub constant_bytes : (c : ConstRef) (gap : List ℕ) → IsConstant c → bytes_of (constant gap c) ≡ gap ++ constant_text c
constant_bytes c gap h = from_top c.top
  where
    from_top : (b : Bool) → bytes_of (if b then colons gap ∷ path [] c.path else path gap c.path)
        ≡ gap ++ ((if b then 58 ∷ 58 ∷ [] else []) ++ path_text c.path)
    from_top true = append_assoc gap (58 ∷ 58 ∷ []) (bytes_of (path [] c.path))
        ∙ ap (λ b. gap ++ (58 ∷ 58 ∷ b)) (path_bytes c.path [] h)
    from_top false = path_bytes c.path gap h

constant_space : (c : ConstRef) (rest : List ℕ) → IsConstant c → NextIs 32 (bytes_of (constant space c) ++ rest)
constant_space c rest h = rw (constant_bytes c space h) refl

-- A constant behind a space stops the name before it.
pub constant_breaks : (c : ConstRef) (rest : List ℕ) → IsConstant c → Breaks (bytes_of (constant space c) ++ rest)
constant_breaks c rest h = rw (constant_bytes c space h) refl

-- ---- a parent

-- A parent that may lack is a constant.
abbrev pub IsParent : Option ConstRef → Type 0
IsParent None = Unit {0}
IsParent (Some c) = IsConstant c

-- The lexer finds a class's parent.
pub parent_run : (p : Option ConstRef) → IsParent p → Run Closed NoWord (parent p) Closed
parent_run None h = nothing NoWord
parent_run (Some c) h = behind (weaker (λ s c. code_any s c) (λ rest r. r) (λ s c. code_any s c) less_run)
    (λ rest r. constant_space c rest h) (constant_run c space h (refl, tt))

-- The pieces of a class's parent have the bytes that are printed.
pub parent_bytes : (p : Option ConstRef) → IsParent p → bytes_of (parent p) ≡ print.parent_text p
parent_bytes None h = refl
parent_bytes (Some c) h = ap (λ b. 32 ∷ 60 ∷ b) (constant_bytes c space h)

-- The text of a class's parent is UTF-8.
pub utf8_parent : (p : Option ConstRef) → IsParent p → IsUtf8 (print.parent_text p)
utf8_parent None h = IsUtf8-nil
utf8_parent (Some c) h = IsUtf8-append (codes " < ") _ (utf8_ascii _ refl) (good_constant c h).utf8

-- ---- names with commas between them

-- one of them
abbrev pub OneRun : ℕ → TokenKind → List ℕ → List ℕ → Type 0
OneRun m kind gap n = Run (Code m any) Breaks (piece gap kind n ∷ []) (Code m no_join)

listed_more_leads : (kind : TokenKind) (ns : List (List ℕ)) (rest : List ℕ) → Breaks rest →
    Breaks (bytes_of (listed_more kind ns) ++ rest)
listed_more_leads kind [] rest r = r
listed_more_leads kind (n ∷ ns) rest r = refl

listed_more_run : {m : ℕ} (kind : TokenKind) (ns : List (List ℕ)) → AllByRecursion (OneRun m kind space) ns →
    Run (Code m no_join) Breaks (listed_more kind ns) (Code m no_join)
listed_more_run kind [] h = nothing Breaks
listed_more_run kind (n ∷ ns) h =
    behind (weaker (λ s c. code_any s c) (λ rest r. r) (λ s c. c) comma_run) (λ rest r. tt)
    (behind h.0 (λ rest r. listed_more_leads kind ns rest r) (listed_more_run kind ns h.1))

-- The lexer finds names with commas between.
pub listed_run : {m : ℕ} (kind : TokenKind) (gap n : List ℕ) (ns : List (List ℕ)) → OneRun m kind gap n →
    AllByRecursion (OneRun m kind space) ns → Run (Code m any) Breaks (listed kind gap (n ∷ ns)) (Code m no_join)
listed_run kind gap n ns h hs = behind h (λ rest r. listed_more_leads kind ns rest r) (listed_more_run kind ns hs)

listed_more_bytes : (kind : TokenKind) (n : List ℕ) (ns : List (List ℕ)) → n ++ bytes_of (listed_more kind ns)
    ≡ joined (n ∷ ns)
listed_more_bytes kind n [] = append-nil n
listed_more_bytes kind n (m ∷ ns) = ap (λ b. n ++ (44 ∷ 32 ∷ b)) (listed_more_bytes kind m ns)

-- The pieces of names with commas between have the bytes that are printed.
pub listed_bytes : (kind : TokenKind) (gap n : List ℕ) (ns : List (List ℕ)) → bytes_of (listed kind gap (n ∷ ns))
    ≡ gap ++ joined (n ∷ ns)
listed_bytes kind gap n ns = append_assoc gap n (bytes_of (listed_more kind ns))
    ∙ ap (λ b. gap ++ b) (listed_more_bytes kind n ns)

-- ---- parameters

each_plain : (before ns : List Name) → FormedParameters before ns → AllByRecursion IsPlainName ns
each_plain before [] h = tt
each_plain before (n ∷ ns) h = (h.0.spelled, each_plain (before ++ n ∷ []) ns h.2)

one_parameter : {n : List ℕ} {gap : List ℕ} → IsSpaces gap → IsPlainName n → OneRun 1 k.Name gap n
one_parameter i h = name_run i (plainly h)

each_parameter : (ns : List Name) → AllByRecursion IsPlainName ns → AllByRecursion (OneRun 1 k.Name space) ns
each_parameter [] h = tt
each_parameter (n ∷ ns) h = (one_parameter (refl, tt) h.0, each_parameter ns h.1)

plain_parameters_run : (ns : List Name) → AllByRecursion IsPlainName ns → Run Closed Breaks (parameters ns) Closed
plain_parameters_run [] h = nothing Breaks
plain_parameters_run (n ∷ ns) h =
    behind (weaker (λ s c. code_any s c) (λ rest r. r) (λ s c. c) open_run) (λ rest r. tt)
    (behind (listed_run k.Name [] n ns (one_parameter tt h.0) (each_parameter ns h.1)) (λ rest r. refl)
    (weaker (λ s c. code_any s c) (λ rest r. tt) (λ s c. c) close_run))

-- The lexer finds a method's parameters.
pub parameters_run : (ns : List Name) → FormedParameters [] ns → Run Closed Breaks (parameters ns) Closed
parameters_run ns h = plain_parameters_run ns (each_plain [] ns h)

parameters_leads : (ns : List Name) (rest : List ℕ) → Breaks rest → Breaks (bytes_of (parameters ns) ++ rest)
parameters_leads [] rest r = r
parameters_leads (n ∷ ns) rest r = refl

-- The pieces of a method's parameters have the bytes that are printed.
pub parameters_bytes : (ns : List Name) → bytes_of (parameters ns) ≡ print.parameters_text ns
parameters_bytes [] = refl
parameters_bytes (n ∷ ns) = ap (λ b. 40 ∷ b) (bytes_append (listed k.Name [] (n ∷ ns)) (close_paren ∷ [])
    ∙ ap (λ b. b ++ 41 ∷ []) (listed_bytes k.Name [] n ns))

utf8_plain : (ns : List Name) → AllByRecursion IsPlainName ns → AllByRecursion IsUtf8 ns
utf8_plain [] h = tt
utf8_plain (n ∷ ns) h = ((good_plain h.0).utf8, utf8_plain ns h.1)

utf8_of_plain : (ns : List Name) → AllByRecursion IsPlainName ns → IsUtf8 (print.parameters_text ns)
utf8_of_plain [] h = IsUtf8-nil
utf8_of_plain (n ∷ ns) h = (good_grouped (utf8_joined (n ∷ ns) (utf8_plain (n ∷ ns) h))).utf8

-- The text of a method's parameters is UTF-8.
pub utf8_parameters : (ns : List Name) → FormedParameters [] ns → IsUtf8 (print.parameters_text ns)
utf8_parameters ns h = utf8_of_plain ns (each_plain [] ns h)

-- ---- a method's name

lower_no_dot : (b : ℕ) → is_lower b ≡ true → (b == 46) ≡ false
lower_no_dot b h = grind (arith, nat_tests)

name_no_dot : {n : List ℕ} → Worded n → (rest : List ℕ) → next_is 46 (bytes_of (name [] n ∷ []) ++ rest) ≡ false
name_no_dot w rest = rw w.whole (lower_no_dot w.first w.lower)

-- The lexer finds a method's heading.
pub heading_run : (single : Bool) (n : List ℕ) → IsMethodName n → Run (Code 0 any) Breaks (heading single n) Closed
heading_run true n h =
    behind (weaker (λ s c. c) (λ rest r. r) (λ s c. code_any s c)
    (name_run {gap = space} (refl, tt)
    (plainly (plain_name {b = 115} {t = 101 ∷ 108 ∷ 102 ∷ []} refl (refl, (refl, (refl, tt))))))) (λ rest r. refl)
    (behind dot_run (λ rest r. name_no_dot (worded h.spelled) rest) (name_run {gap = []} tt (worded h.spelled)))
heading_run false n h = name_run {gap = space} (refl, tt) (worded h.spelled)

-- How paths are read on.
use Rattle.std.proofs.Common.{◌≡◌, ◌≤◌, ◌<◌, ◌-◌, length, arith, ℕ, Bool, true, false, List, [], ◌∷◌, ◌++◌, drop, sym}
use Rattle.std.proofs.Common.{ap, ◌∙◌, cond, Option, Some, None, Result, Ok, Err, subst}
use Rattle.std.proofs.lemmas.List.{length-drop}
use Rattle.descent.specs.Grammar.{give, token, call, only}
use Rattle.descent.specs.Reading.{take, nothing, head, choose, Outcome, done, fault, Unexpected, Twice, by_word}
use Rattle.descent.specs.Reading.{by_mark, by_clash, by_give, by_nothing}
use Rattle.ruby_grammar.specs.Words.{Word}
use Rattle.ruby_grammar.specs.Marks.{Mark}
use Rattle.ruby_grammar.specs.Terminals.{is_path, is_const}
use Rattle.ruby_grammar.specs.Rules.{ruby, some_names, a_constant, path_rest, constant}
use Rattle.ruby_grammar.specs.Expressions.{path_end, path_more, constant_from}
use Rattle.ruby_grammar.specs.Choices.{ruby_choices, next_is}
use Rattle.ruby_types.specs.declared.tree.ConstRef.{ConstRef}
use Rattle.ruby_parse_cursor.specs.declared.fault.Fault.{Fault}
use Rattle.ruby_parse_cursor.specs.declared.fault.Fault.TheVariants as f
use Rattle.ruby_parse_steps.specs.Gives.{Comes, Stops, with_ending, GivesConstant, GivesConstantFrom, GivesPathRest}
use Rattle.ruby_parse_steps.proofs.Descent.{token_fails, token_skips, chosen, called, called_fails, stops_call}
use Rattle.ruby_parse_steps.proofs.Descent.{stops_word, stops_skips, stops_chosen}

more_chosen : (ending : Option Mark) (names : List (List ℕ)) (ws : List Word) → next_is is_path (head ws) ≡ true →
    choose ruby_choices (path_rest true ending names) ws ≡ take (path_more ending names)
more_chosen ending names ws e = ap (λ b. cond b (take (path_more ending names)) (take (path_end ending names))) e

end_chosen : (ending : Option Mark) (names : List (List ℕ)) (ws : List Word) → next_is is_path (head ws) ≡ false →
    choose ruby_choices (path_rest true ending names) ws ≡ take (path_end ending names)
end_chosen ending names ws e = ap (λ b. cond b (take (path_more ending names)) (take (path_end ending names))) e

-- `::` and a name
pub path_step : (ending : Option Mark) (ms : List Mark) (o : Outcome ruby some_names) (names longer : List (List ℕ))
    (ws mid rest : List Word) (w : Word) →
    next_is is_path (head ws) ≡ true → mid ≡ drop 1 ws → mid ≡ w ∷ rest → is_const w ≡ true →
    longer ≡ names ++ w.text ∷ [] →
    Comes (only (path_rest true ending longer)) ms rest o → Comes (only (path_rest true ending names)) ms ws o
path_step ending ms o names longer ws mid rest w p d f c e h =
    chosen (path_rest true ending names) (path_more ending names) ms ws o (more_chosen ending names ws p)
    (token_skips is_path _ ms ws o p
    (λ _. subst (λ l. Comes (token is_const (λ v. only (path_rest true ending (names ++ v.text ∷ [])))) ms l o)
    (sym f ∙ d) (by_word c (subst (λ m. Comes (only (path_rest true ending m)) ms rest o) e h))))

-- `::` and no name
pub path_breaks : (ending : Option Mark) (ms : List Mark) (names : List (List ℕ)) (ws mid : List Word) →
    next_is is_path (head ws) ≡ true → mid ≡ drop 1 ws → next_is is_const (head mid) ≡ false →
    Comes (only (path_rest true ending names)) ms ws (fault Unexpected mid)
path_breaks ending ms names ws mid p d c =
    chosen (path_rest true ending names) (path_more ending names) ms ws (fault Unexpected mid)
    (more_chosen ending names ws p)
    (token_skips is_path _ ms ws (fault Unexpected mid) p
    (λ _. subst (λ l. Comes (token is_const (λ v. only (path_rest true ending (names ++ v.text ∷ [])))) ms l
    (fault Unexpected mid)) d (token_fails is_const _ ms mid c)))

-- no `::`
pub path_ends : (ending : Option Mark) (ms : List Mark) (o : Outcome ruby some_names) (names : List (List ℕ))
    (ws : List Word) →
    next_is is_path (head ws) ≡ false → Comes (path_end ending names) ms ws o →
    Comes (only (path_rest true ending names)) ms ws o
path_ends ending ms o names ws p h = chosen (path_rest true ending names) (path_end ending names) ms ws o
    (end_chosen ending names ws p) h

abbrev ref_of : Bool → List (List ℕ) → ConstRef
ref_of top path = record { top = top; path = path }

-- the path of a constant, and behind it the mark
with_path : (top : Bool) (ending : Option Mark) (ms : List Mark) (first path : List (List ℕ)) (ws rest : List Word)
    (o : Outcome ruby a_constant) →
    GivesPathRest first ws (Ok path) rest → Comes (with_ending ending (ref_of top path)) ms rest o →
    Comes (call (path_rest true ending first) (λ names. give (ref_of top names))) ms ws o
with_path top None ms first path ws rest o g h = called (path_rest true None first) _ ms ms ws rest path o
    (g None ms (done path ms rest) by_give) h
with_path top (Some m) ms first path ws rest o g (by_mark e h) = called (path_rest true (Some m) first) _ ms
    (m ∷ ms) ws rest path o (g (Some m) ms (done path (m ∷ ms) rest) (by_mark e by_give)) h
with_path top (Some m) ms first path ws rest (fault (Twice m') rest') g (by_clash e) =
    called_fails (path_rest true (Some m) first) _ ms ws rest (Twice m)
    (g (Some m) ms (fault (Twice m) rest) (by_clash e))

-- A constant, and what follows its first name.
pub constant_reads : (top : Bool) (w : Word) (names path : List (List ℕ)) (ws mid rest : List Word) →
    ws ≡ w ∷ mid → is_const w ≡ true → names ≡ w.text ∷ [] → GivesPathRest names mid (Ok path) rest →
    GivesConstantFrom top ws (Ok (ref_of top path)) rest
constant_reads top w names path ws mid rest e c n g = λ ending ms o h.
    subst (λ l. Comes (constant_from top ending) ms l o) (sym e)
    (by_word c (subst (λ l. Comes (call (path_rest true ending l) (λ names. give (ref_of top names))) ms mid o) n
    (with_path top ending ms names path mid rest o g h)))

-- A fault behind the first name of a constant.
pub constant_breaks : (top : Bool) (w : Word) (names : List (List ℕ)) (ws mid rest : List Word) (e : Fault) →
    ws ≡ w ∷ mid → is_const w ≡ true → names ≡ w.text ∷ [] → GivesPathRest names mid (Err e) rest →
    GivesConstantFrom top ws (Err e) rest
constant_breaks top w names ws mid rest e q c n g = λ ending ms.
    subst (λ l. Stops (constant_from top ending) ms l e rest) (sym q)
    (stops_word {s = a_constant} is_const
    (λ v. call (path_rest true ending (v.text ∷ [])) (λ names. give (ref_of top names))) ms w mid rest e c
    (subst (λ l. Stops {s = a_constant} (call (path_rest true ending l) (λ names. give (ref_of top names))) ms
    mid e rest) n (stops_call {s = a_constant} (path_rest true ending names) (λ names. give (ref_of top names))
    ms mid rest e (g ending ms))))

-- ---- a constant, perhaps behind `::`
top_chosen : (ending : Option Mark) (ws : List Word) → next_is is_path (head ws) ≡ true →
    choose ruby_choices (constant ending) ws ≡ take (token is_path (λ _. constant_from true ending))
top_chosen ending ws e =
    ap (λ b. cond b (take (token is_path (λ _. constant_from true ending)))
    (cond (next_is is_const (head ws)) (take (constant_from false ending)) nothing)) e

plain_chosen : (ending : Option Mark) (ws : List Word) → next_is is_path (head ws) ≡ false →
    next_is is_const (head ws) ≡ true → choose ruby_choices (constant ending) ws ≡ take (constant_from false ending)
plain_chosen ending ws e c =
    ap (λ b. cond b (take (token is_path (λ _. constant_from true ending)))
    (cond (next_is is_const (head ws)) (take (constant_from false ending)) nothing)) e
    ∙ ap (λ b. cond b (take (constant_from false ending)) nothing) c

none_chosen : (ending : Option Mark) (ws : List Word) → next_is is_path (head ws) ≡ false →
    next_is is_const (head ws) ≡ false → choose ruby_choices (constant ending) ws ≡ nothing
none_chosen ending ws e c =
    ap (λ b. cond b (take (token is_path (λ _. constant_from true ending)))
    (cond (next_is is_const (head ws)) (take (constant_from false ending)) nothing)) e
    ∙ ap (λ b. cond b (take (constant_from false ending)) nothing) c

-- A constant with `::` before it.
pub top_constant : (ws mid rest : List Word) (r : Result ConstRef Fault) → next_is is_path (head ws) ≡ true →
    mid ≡ drop 1 ws → GivesConstantFrom true mid r rest → GivesConstant ws r rest
top_constant ws mid rest (Ok c) p d g = λ ending ms o h.
    chosen (constant ending) (token is_path (λ _. constant_from true ending)) ms ws o (top_chosen ending ws p)
    (token_skips is_path _ ms ws o p
    (λ _. subst (λ l. Comes (constant_from true ending) ms l o) d (g ending ms o h)))
top_constant ws mid rest (Err e) p d g = λ ending ms.
    stops_chosen (constant ending) (token is_path (λ _. constant_from true ending)) ms ws rest e
    (top_chosen ending ws p)
    (stops_skips is_path _ ms ws rest e p
    (λ _. subst (λ l. Stops (constant_from true ending) ms l e rest) d (g ending ms)))

-- A constant without `::` before it.
pub plain_constant : (ws rest : List Word) (r : Result ConstRef Fault) → next_is is_path (head ws) ≡ false →
    next_is is_const (head ws) ≡ true → GivesConstantFrom false ws r rest → GivesConstant ws r rest
plain_constant ws rest (Ok c) p k g = λ ending ms o h. chosen (constant ending) (constant_from false ending) ms ws o
    (plain_chosen ending ws p k) (g ending ms o h)
plain_constant ws rest (Err e) p k g = λ ending ms. stops_chosen (constant ending) (constant_from false ending) ms ws
    rest e (plain_chosen ending ws p k) (g ending ms)

-- No constant is at hand.
pub no_constant : (ws : List Word) → next_is is_path (head ws) ≡ false → next_is is_const (head ws) ≡ false →
    GivesConstant ws (Err f.Unexpected) ws
no_constant ws p k = λ ending ms. by_nothing (none_chosen ending ws p k)

-- ---- lengths, and faults as functions answer them
-- Behind two words no more words are left than before.
pub shorter_rest : (ws mid rest : List Word) (w : Word) (n : ℕ) → mid ≡ drop 1 ws → mid ≡ w ∷ rest → length ws ≤ n →
    length rest ≤ n
shorter_rest ws mid rest w n d e h =
    let a : length mid ≡ length ws - 1 = ap length d ∙ length-drop 1 ws in
    let b : length mid ≡ length (w ∷ rest) = ap length e in
    omega (arith, a, b, h)

-- Behind two words fewer words are left.
pub smaller_rest : (ws mid rest : List Word) (w : Word) → mid ≡ drop 1 ws → mid ≡ w ∷ rest → length rest < length ws
smaller_rest ws mid rest w d e =
    let a : length mid ≡ length ws - 1 = ap length d ∙ length-drop 1 ws in
    let b : length mid ≡ length (w ∷ rest) = ap length e in
    omega (arith, a, b)

-- A `::` with no constant behind it.
pub path_fails : (first names : List (List ℕ)) (start ws mid rest : List Word) (e : Fault) →
    ((ending : Option Mark) (ms : List Mark) (o : Outcome ruby some_names) →
    Comes (only (path_rest true ending names)) ms ws o → Comes (only (path_rest true ending first)) ms start o) →
    next_is is_path (head ws) ≡ true → mid ≡ drop 1 ws → rest ≡ mid → next_is is_const (head mid) ≡ false →
    e ≡ f.Unexpected → GivesPathRest first start (Err e) rest
path_fails first names start ws mid rest e go p d s c u =
    subst (λ x. GivesPathRest first start (Err x) rest) (sym u)
    (subst (λ l. GivesPathRest first start (Err f.Unexpected) l) (sym s)
    (λ ending ms. go ending ms (fault Unexpected mid) (path_breaks ending ms names ws mid p d c)))

-- No constant is at hand where one must stand.
pub constant_fails : (top : Bool) (ws rest : List Word) (e : Fault) → rest ≡ ws →
    next_is is_const (head ws) ≡ false → e ≡ f.Unexpected → GivesConstantFrom top ws (Err e) rest
constant_fails top ws rest e s c u =
    subst (λ x. GivesConstantFrom top ws (Err x) rest) (sym u)
    (subst (λ l. GivesConstantFrom top ws (Err f.Unexpected) l) (sym s)
    (λ ending ms. token_fails is_const
    (λ v. call (path_rest true ending (v.text ∷ [])) (λ names. give (ref_of top names))) ms ws c))

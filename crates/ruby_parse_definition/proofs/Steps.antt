-- Steps of the reading of what has no marks.
use Rattle.std.proofs.Common.{◌≡◌, ℕ, Bool, true, false, ◌==◌, ◌≤◌, ◌<◌, ◌-◌, List, [], ◌∷◌, drop, length, refl, sym}
use Rattle.std.proofs.Common.{ap, ◌∙◌, subst, arith, Result, Ok, Err}
use Rattle.std.proofs.lemmas.Bool.Decides.{nat_tests}
use Rattle.std.proofs.lemmas.List.{length-drop}
use Rattle.descent.specs.Grammar.{Prod, give, token, call, only}
use Rattle.descent.specs.Reading.{take, too_deep, nothing, head, choose, done, fault, Unexpected, Deep, Barred, Twice}
use Rattle.descent.specs.Reading.{by_give, by_word, by_depth, by_nothing}
use Rattle.ruby_grammar.specs.Words.{Word}
use Rattle.ruby_grammar.specs.Marks.{Mark}
use Rattle.ruby_grammar.specs.Terminals.{is, terminal}
use Rattle.ruby_grammar.specs.Rules.{ruby, Sort, Val, Rule}
use Rattle.ruby_grammar.specs.Choices.{ruby_choices, next_is}
use Rattle.ruby_parse_cursor.specs.declared.fault.Fault.{Fault}
use Rattle.ruby_parse_cursor.specs.declared.fault.Fault.TheVariants as f
use Rattle.ruby_parse_steps.specs.Gives.{Comes, Stops, Gives, GivesRule}
use Rattle.ruby_parse_steps.proofs.Descent.{token_fails, token_skips, chosen, called, stops_call}
use Rattle.ruby_parse_definition.specs.Answers.{LeadsQuietly}

-- ---- one step
-- no step leads from each production to itself
pub stays : {s : Sort} (p : Prod ruby s) (ms : List Mark) (ws : List Word) → LeadsQuietly p ms ws p ms ws
stays p ms ws = λ o h. h

-- a word that passes the test is taken, and what is read goes on by it
pub word : {s : Sort} (test : Word → Bool) (next : Word → Prod ruby s) (w : Word) (ms : List Mark)
    (ws mid : List Word) → ws ≡ w ∷ mid → test w ≡ true → LeadsQuietly (token test next) ms ws (next w) ms mid
word test next w ms ws mid e p = λ o h. subst (λ l. Comes (token test next) ms l o) (sym e) (by_word p h)

-- a word that passes the test is passed, where what follows doesn't depend on it
pub skip : {s : Sort} (test : Word → Bool) (p : Prod ruby s) (ms : List Mark) (ws mid : List Word) →
    next_is test (head ws) ≡ true → mid ≡ drop 1 ws → LeadsQuietly (token test λ _. p) ms ws p ms mid
skip test p ms ws mid t d = λ o h. token_skips test (λ _. p) ms ws o t (λ _. subst (λ l. Comes p ms l o) d h)

-- what is read of a rule is what is read of the alternative that is chosen
pub picked : {s : Sort} (rule : Rule s) (p : Prod ruby s) (ms : List Mark) (ws : List Word) →
    choose ruby_choices rule ws ≡ take p → LeadsQuietly (only rule) ms ws p ms ws
picked rule p ms ws c = λ o h. chosen rule p ms ws o c h

-- a part without marks is read, and what is read goes on by its value
pub quietly : {s v : Sort} (rule : Rule v) (next : Val v → Prod ruby s) (y : Val v) (ms : List Mark)
    (ws rest : List Word) → GivesRule {s = v} rule ws (Ok y) rest → LeadsQuietly (call rule next) ms ws (next y) ms rest
quietly rule next y ms ws rest g = λ o h. called rule next ms ms ws rest y o (g ms) h

-- two steps after one another are one
pub then : {s : Sort} {p q r : Prod ruby s} {ms ns os : List Mark} {ws mid rest : List Word} →
    LeadsQuietly p ms ws q ns mid → LeadsQuietly q ns mid r os rest → LeadsQuietly p ms ws r os rest
then a b = λ o h. a o (b o h)

-- ---- the end
-- where what is read goes on to a value, that value is what is read
pub finish : {s : Sort} (p : Prod ruby s) (x : Val s) (ms ns : List Mark) (ws rest : List Word) →
    LeadsQuietly {s = s} p ms ws (give x) ns rest → Comes {s = s} p ms ws (done x ns rest)
finish p x ms ns ws rest a = a (done x ns rest) by_give

-- a fault behind a step is a fault of the whole
pub stop : {s : Sort} (p q : Prod ruby s) (ms ns : List Mark) (ws mid rest : List Word) (e : Fault) →
    LeadsQuietly p ms ws q ns mid → Stops q ns mid e rest → Stops p ms ws e rest
stop p q ms ns ws mid rest f.Unexpected a h = a (fault Unexpected rest) h
stop p q ms ns ws mid rest f.Deep a h = a (fault Deep rest) h
stop p q ms ns ws mid rest f.Barred a h = a (fault Barred rest) h
stop p q ms ns ws mid rest (f.Twice at) a h = (h.0, a (fault (Twice h.0) rest) h.1, h.2)
stop p q ms ns ws mid rest f.Memory a h = tt

unexpected : {s : Sort} (p : Prod ruby s) (ms : List Mark) (ws rest : List Word) (e : Fault) → rest ≡ ws →
    e ≡ f.Unexpected → Comes p ms ws (fault Unexpected ws) → Stops p ms ws e rest
unexpected p ms ws rest e d u h = subst (λ x. Stops p ms ws x rest) (sym u)
    (subst (λ l. Comes p ms ws (fault Unexpected l)) (sym d) h)

-- a word that fails the test is unexpected, and is left
pub lacks : {s : Sort} (test : Word → Bool) (next : Word → Prod ruby s) (ms : List Mark) (ws rest : List Word)
    (e : Fault) → rest ≡ ws → next_is test (head ws) ≡ false → e ≡ f.Unexpected → Stops (token test next) ms ws e rest
lacks test next ms ws rest e d t u = unexpected (token test next) ms ws rest e d u (token_fails test next ms ws t)

-- where no alternative of a rule is chosen, the word at hand is unexpected, and is left
pub none : {s : Sort} (rule : Rule s) (ms : List Mark) (ws rest : List Word) (e : Fault) → rest ≡ ws →
    choose ruby_choices rule ws ≡ nothing → e ≡ f.Unexpected → Stops (only rule) ms ws e rest
none rule ms ws rest e d c u = unexpected (only rule) ms ws rest e d u (by_nothing c)

-- a rule that needs a level, where none is left, finds the words nested too deep
pub deep : {s : Sort} (rule : Rule s) (ms : List Mark) (ws : List Word) (e : Fault) →
    choose ruby_choices rule ws ≡ too_deep → e ≡ f.Deep → Stops (only rule) ms ws e ws
deep rule ms ws e c u = subst (λ x. Stops (only rule) ms ws x ws) (sym u) (by_depth c)

-- a fault in a part without marks is a fault of the whole
pub breaks_quietly : {s v : Sort} (rule : Rule v) (next : Val v → Prod ruby s) (ms : List Mark) (ws rest : List Word)
    (e : Fault) → GivesRule {s = v} rule ws (Err e) rest → Stops (call rule next) ms ws e rest
breaks_quietly rule next ms ws rest e g = stops_call rule next ms ws rest e (g ms)

-- ---- words of two terminals
is_same : (m n : ℕ) → (m == n) ≡ true → m ≡ n
is_same m n h = grind (arith, nat_tests)

-- a word of one terminal is of no other: it parts alternatives by their first words
pub apart : (m n : ℕ) (ws : List Word) → (m == n) ≡ false → next_is (is m) (head ws) ≡ true →
    next_is (is n) (head ws) ≡ false
apart m n [] d p = refl
apart m n (w ∷ ws) d p = subst (λ k. (k == n) ≡ false) (sym (is_same (terminal w) m p)) d

-- ---- lengths
-- behind a word that passes a test there are fewer words than before it
pub skip_falls : (test : Word → Bool) (ws mid : List Word) → next_is test (head ws) ≡ true → mid ≡ drop 1 ws →
    length mid < length ws
skip_falls test [] mid t d = absurd (cc)
skip_falls test (w ∷ ws) mid t d = let a : length mid ≡ length (w ∷ ws) - 1 = ap length d ∙ length-drop 1 (w ∷ ws) in
    omega (arith, a)

-- behind a word there are no more words than before it
pub drop_shorter : (ws mid : List Word) → mid ≡ drop 1 ws → length mid ≤ length ws
drop_shorter ws mid d = let a : length mid ≡ length ws - 1 = ap length d ∙ length-drop 1 ws in omega (arith, a)

-- behind a word that was taken there are no more words than before it
pub word_shorter : (ws mid : List Word) (w : Word) → ws ≡ w ∷ mid → length mid ≤ length ws
word_shorter ws mid w e = let a : length ws ≡ length (w ∷ mid) = ap length e in omega (arith, a)

-- ---- what functions answer
-- what is returned behind a step is what the whole reads, a fault too
pub led : {s : Sort} (p q : Prod ruby s) (ws mid rest : List Word) (r : Result (Val s) Fault) →
    ((ms : List Mark) → LeadsQuietly p ms ws q ms mid) → Gives {s = s} q mid r rest → Gives {s = s} p ws r rest
led p q ws mid rest (Ok x) a g = λ ms. a ms (done x ms rest) (g ms)
led p q ws mid rest (Err e) a g = λ ms. stop p q ms ms ws mid rest e (a ms) (g ms)

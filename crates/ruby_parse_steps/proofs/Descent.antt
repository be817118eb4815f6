-- Steps of the reading by descent, as the functions of the parser take them.
use Rattle.std.proofs.Common.{◌≡◌, Bool, true, false, List, [], ◌∷◌, drop, refl, sym, ap, ◌∙◌, subst, Result, Ok, Err}
use Rattle.std.proofs.lemmas.Bool.{false≢true}
use Rattle.descent.specs.Grammar.{Prod, give, token, call, only}
use Rattle.descent.specs.Reading.{take, too_deep, nothing, head, choose, Outcome, done, fault, Why, Unexpected, Deep}
use Rattle.descent.specs.Reading.{Barred, Twice, by_give, by_word, by_other, by_end, by_call, by_fault, by_depth}
use Rattle.descent.specs.Reading.{by_bar, by_nothing}
use Rattle.ruby_grammar.specs.Words.{Word}
use Rattle.ruby_grammar.specs.Marks.{Mark}
use Rattle.ruby_grammar.specs.Rules.{ruby, Sort, Val, Rule}
use Rattle.ruby_grammar.specs.Choices.{ruby_choices, next_is}
use Rattle.ruby_parse_cursor.specs.declared.fault.Fault.{Fault}
use Rattle.ruby_parse_cursor.specs.declared.fault.Fault.TheVariants as f
use Rattle.ruby_parse_steps.specs.Gives.{Comes, Stops, Gives, GivesRule}

-- a word that doesn't pass
pub token_fails : {s : Sort} (test : Word → Bool) (next : Word → Prod ruby s) (ms : List Mark) (ws : List Word) →
    next_is test (head ws) ≡ false → Comes (token test next) ms ws (fault Unexpected ws)
token_fails test next ms [] e = by_end
token_fails test next ms (w ∷ ws) e = by_other e

-- a word that passes, whatever it is
pub token_skips : {s : Sort} (test : Word → Bool) (next : Word → Prod ruby s) (ms : List Mark) (ws : List Word)
    (o : Outcome ruby s) →
    next_is test (head ws) ≡ true → ((w : Word) → Comes (next w) ms (drop 1 ws) o) → Comes (token test next) ms ws o
token_skips test next ms [] o e go = absurd (false≢true e)
token_skips test next ms (w ∷ ws) o e go = by_word e (go w)

-- a rule whose production is chosen
pub chosen : {s : Sort} (rule : Rule s) (p : Prod ruby s) (ms : List Mark) (ws : List Word) (o : Outcome ruby s) →
    choose ruby_choices rule ws ≡ take p → Comes p ms ws o → Comes (only rule) ms ws o
chosen rule p ms ws (done y ns rest) e r = by_call e r by_give
chosen rule p ms ws (fault why rest) e r = by_fault e r

-- what follows a rule
pub called : {s v : Sort} (rule : Rule v) (next : Val v → Prod ruby s) (ms ns : List Mark) (ws rest : List Word)
    (y : Val v) (o : Outcome ruby s) →
    Comes (only rule) ms ws (done y ns rest) → Comes (next y) ns rest o → Comes (call rule next) ms ws o
called rule next ms ns ws rest y o (by_call e r by_give) h = by_call e r h

-- a fault inside a rule
pub called_fails : {s v : Sort} (rule : Rule v) (next : Val v → Prod ruby s) (ms : List Mark) (ws rest : List Word)
    (why : Why ruby) →
    Comes (only rule) ms ws (fault why rest) → Comes (call rule next) ms ws (fault why rest)
called_fails rule next ms ws rest why (by_call _ _ x) = elim x [ ]
called_fails rule next ms ws rest why (by_fault e r) = by_fault e r
called_fails rule next ms ws rest why (by_depth e) = by_depth e
called_fails rule next ms ws rest why (by_bar e) = by_bar e
called_fails rule next ms ws rest why (by_nothing e) = by_nothing e

-- ---- faults, as functions answer them
-- A fault inside a rule.
pub stops_call : {s v : Sort} (rule : Rule v) (next : Val v → Prod ruby s) (ms : List Mark) (ws rest : List Word)
    (e : Fault) →
    Stops (only rule) ms ws e rest → Stops (call rule next) ms ws e rest
stops_call rule next ms ws rest f.Unexpected h = called_fails rule next ms ws rest Unexpected h
stops_call rule next ms ws rest f.Deep h = called_fails rule next ms ws rest Deep h
stops_call rule next ms ws rest f.Barred h = called_fails rule next ms ws rest Barred h
stops_call rule next ms ws rest (f.Twice at) h = (h.0, called_fails rule next ms ws rest (Twice h.0) h.1, h.2)
stops_call rule next ms ws rest f.Memory h = tt

-- A fault behind a rule.
pub stops_behind : {s v : Sort} (rule : Rule v) (next : Val v → Prod ruby s) (ms ns : List Mark)
    (ws mid rest : List Word) (y : Val v) (e : Fault) →
    Comes (only rule) ms ws (done y ns mid) → Stops (next y) ns mid e rest → Stops (call rule next) ms ws e rest
stops_behind rule next ms ns ws mid rest y f.Unexpected a h =
    called rule next ms ns ws mid y (fault Unexpected rest) a h
stops_behind rule next ms ns ws mid rest y f.Deep a h = called rule next ms ns ws mid y (fault Deep rest) a h
stops_behind rule next ms ns ws mid rest y f.Barred a h = called rule next ms ns ws mid y (fault Barred rest) a h
stops_behind rule next ms ns ws mid rest y (f.Twice at) a h =
    (h.0, called rule next ms ns ws mid y (fault (Twice h.0) rest) a h.1, h.2)
stops_behind rule next ms ns ws mid rest y f.Memory a h = tt

-- A fault behind a word.
pub stops_word : {s : Sort} (test : Word → Bool) (next : Word → Prod ruby s) (ms : List Mark) (w : Word)
    (ws rest : List Word) (e : Fault) →
    test w ≡ true → Stops (next w) ms ws e rest → Stops (token test next) ms (w ∷ ws) e rest
stops_word test next ms w ws rest f.Unexpected p h = by_word p h
stops_word test next ms w ws rest f.Deep p h = by_word p h
stops_word test next ms w ws rest f.Barred p h = by_word p h
stops_word test next ms w ws rest (f.Twice at) p h = (h.0, by_word p h.1, h.2)
stops_word test next ms w ws rest f.Memory p h = tt

-- A fault behind a word, whatever it is.
pub stops_skips : {s : Sort} (test : Word → Bool) (next : Word → Prod ruby s) (ms : List Mark) (ws rest : List Word)
    (e : Fault) →
    next_is test (head ws) ≡ true → ((w : Word) → Stops (next w) ms (drop 1 ws) e rest) →
    Stops (token test next) ms ws e rest
stops_skips test next ms [] rest e p go = absurd (false≢true p)
stops_skips test next ms (w ∷ ws) rest e p go = stops_word test next ms w ws rest e p (go w)

-- A fault of the production that is chosen.
pub stops_chosen : {s : Sort} (rule : Rule s) (p : Prod ruby s) (ms : List Mark) (ws rest : List Word) (e : Fault) →
    choose ruby_choices rule ws ≡ take p → Stops p ms ws e rest → Stops (only rule) ms ws e rest
stops_chosen rule p ms ws rest f.Unexpected c h = chosen rule p ms ws (fault Unexpected rest) c h
stops_chosen rule p ms ws rest f.Deep c h = chosen rule p ms ws (fault Deep rest) c h
stops_chosen rule p ms ws rest f.Barred c h = chosen rule p ms ws (fault Barred rest) c h
stops_chosen rule p ms ws rest (f.Twice at) c h = (h.0, chosen rule p ms ws (fault (Twice h.0) rest) c h.1, h.2)
stops_chosen rule p ms ws rest f.Memory c h = tt

-- a level too much
pub too_deep_here : {s : Sort} (rule : Rule s) (ms : List Mark) (ws : List Word) →
    choose ruby_choices rule ws ≡ too_deep → Comes (only rule) ms ws (fault Deep ws)
too_deep_here rule ms ws c = by_depth c

-- nothing goes on here
pub nothing_here : {s : Sort} (rule : Rule s) (ms : List Mark) (ws : List Word) →
    choose ruby_choices rule ws ≡ nothing → Comes (only rule) ms ws (fault Unexpected ws)
nothing_here rule ms ws c = by_nothing c

-- ---- what functions answer, step by step
-- A value is given at once.
pub g_give : {s : Sort} (x : Val s) (ws : List Word) → Gives {s = s} (give x) ws (Ok x) ws
g_give x ws = λ ms. by_give

-- What the chosen production reads, the rule reads.
pub g_chosen : {s : Sort} (rule : Rule s) (p : Prod ruby s) (ws rest : List Word) (r : Result (Val s) Fault) →
    choose ruby_choices rule ws ≡ take p → Gives p ws r rest → GivesRule rule ws r rest
g_chosen rule p ws rest (Ok x) c g = λ ms. chosen rule p ms ws (done x ms rest) c (g ms)
g_chosen rule p ws rest (Err e) c g = λ ms. stops_chosen rule p ms ws rest e c (g ms)

-- A word that passes, and what follows it.
pub g_word : {s : Sort} (test : Word → Bool) (next : Word → Prod ruby s) (w : Word) (ws mid rest : List Word)
    (r : Result (Val s) Fault) →
    ws ≡ w ∷ mid → test w ≡ true → Gives (next w) mid r rest → Gives (token test next) ws r rest
g_word test next w ws mid rest (Ok x) e p g = λ ms. subst (λ l. Comes (token test next) ms l (done x ms rest))
    (sym e) (by_word p (g ms))
g_word test next w ws mid rest (Err d) e p g = λ ms. subst (λ l. Stops (token test next) ms l d rest) (sym e)
    (stops_word test next ms w mid rest d p (g ms))

front : (test : Word → Bool) (ws : List Word) → next_is test (head ws) ≡ true → (w : Word) × (ws ≡ w ∷ drop 1 ws)
    × (test w ≡ true)
front test [] p = absurd (false≢true p)
front test (w ∷ ws) p = (w, refl, p)

-- A word that passes, whatever it is, and what follows it.
pub g_skip : {s : Sort} (test : Word → Bool) (next : Word → Prod ruby s) (ws mid rest : List Word)
    (r : Result (Val s) Fault) →
    next_is test (head ws) ≡ true → mid ≡ drop 1 ws → ((w : Word) → Gives (next w) mid r rest) →
    Gives (token test next) ws r rest
g_skip test next ws mid rest r p d go =
    let w = front test ws p in
    g_word test next w.0 ws mid rest r (w.1 ∙ ap (λ l. w.0 ∷ l) (sym d)) w.2 (go w.0)

-- A word that does not pass is a fault.
pub g_lacks : {s : Sort} (test : Word → Bool) (next : Word → Prod ruby s) (ws : List Word) →
    next_is test (head ws) ≡ false → Gives {s = s} (token test next) ws (Err f.Unexpected) ws
g_lacks test next ws p = λ ms. token_fails test next ms ws p

-- What a rule reads, and what follows it.
pub g_then : {s v : Sort} (rule : Rule v) (next : Val v → Prod ruby s) (y : Val v) (ws mid rest : List Word)
    (r : Result (Val s) Fault) →
    GivesRule rule ws (Ok y) mid → Gives (next y) mid r rest → Gives (call rule next) ws r rest
g_then rule next y ws mid rest (Ok x) a g = λ ms. called rule next ms ms ws mid y (done x ms rest) (a ms) (g ms)
g_then rule next y ws mid rest (Err e) a g = λ ms. stops_behind rule next ms ms ws mid rest y e (a ms) (g ms)

-- A fault of a rule stops what calls it.
pub g_fails : {s v : Sort} (rule : Rule v) (next : Val v → Prod ruby s) (ws rest : List Word) (e : Fault) →
    GivesRule rule ws (Err e) rest → Gives {s = s} (call rule next) ws (Err e) rest
g_fails rule next ws rest e g = λ ms. stops_call rule next ms ws rest e (g ms)

-- No level is left for what is chosen.
pub g_deep : {s : Sort} (rule : Rule s) (ws : List Word) → choose ruby_choices rule ws ≡ too_deep →
    GivesRule rule ws (Err f.Deep) ws
g_deep rule ws c = λ ms. by_depth c

-- Nothing begins with the word at hand.
pub g_nothing : {s : Sort} (rule : Rule s) (ws : List Word) → choose ruby_choices rule ws ≡ nothing →
    GivesRule rule ws (Err f.Unexpected) ws
g_nothing rule ws c = λ ms. by_nothing c

-- Want of memory is free.
pub g_memory : {s : Sort} (p : Prod ruby s) (ws rest : List Word) → Gives {s = s} p ws (Err f.Memory) rest
g_memory p ws rest = λ ms. tt

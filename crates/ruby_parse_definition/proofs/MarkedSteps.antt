-- Steps of the reading of definitions, with what is noted.
use Rattle.std.proofs.Common.{◌≡◌, Bool, true, false, ◌||◌, List, ◌∷◌, drop, sym, ap, ◌∙◌, Result, Ok, Err}
use Rattle.descent.specs.Grammar.{Prod, give, token, call, mark, only}
use Rattle.descent.specs.Reading.{take, too_deep, nothing, head, choose, done}
use Rattle.descent.specs.Reading.{by_give, by_mark, by_clash}
use Rattle.ruby_grammar.specs.Words.{Word}
use Rattle.ruby_grammar.specs.Marks.{Mark, clash}
use Rattle.ruby_grammar.specs.Rules.{ruby, Sort, Val, Rule}
use Rattle.ruby_grammar.specs.Choices.{ruby_choices, next_is}
use Rattle.ruby_parse_cursor.specs.declared.fault.Fault.{Fault}
use Rattle.ruby_parse_cursor.specs.declared.fault.Fault.TheVariants as f
use Rattle.ruby_parse_steps.specs.Gives.{GivesRule}
use Rattle.ruby_parse_steps.proofs.Descent.{called, stops_call}
use Rattle.ruby_parse_marks.specs.Views.{Noted, Tells, Adds, Refused}
use Rattle.ruby_parse_definition.specs.Answers.{StopsAt, GivesMarked, GivesMarkedRule, LeadsQuietly, Leads, Counted}
use Rattle.ruby_parse_definition.proofs.Steps as quiet

-- ---- one step
-- nothing is noted between
pub any : {s : Sort} (p q : Prod ruby s) (v : Noted) (ws mid : List Word) →
    ((ms : List Mark) → LeadsQuietly p ms ws q ms mid) → Leads p v ws q v mid
any p q v ws mid h = λ ms t. (ms, t, h ms)

-- nothing is read
pub stays : {s : Sort} (p : Prod ruby s) (v : Noted) (ws : List Word) → Leads p v ws p v ws
stays p v ws = λ ms t. (ms, t, λ o h. h)

-- a word is passed
pub word : {s : Sort} (test : Word → Bool) (next : Word → Prod ruby s) (w : Word) (v : Noted)
    (ws mid : List Word) → ws ≡ w ∷ mid → test w ≡ true → Leads (token test next) v ws (next w) v mid
word test next w v ws mid e p = any (token test next) (next w) v ws mid (λ ms. quiet.word test next w ms ws mid e p)

-- a word is passed that says no more
pub skip : {s : Sort} (test : Word → Bool) (p : Prod ruby s) (v : Noted) (ws mid : List Word) →
    next_is test (head ws) ≡ true → mid ≡ drop 1 ws → Leads (token test λ _. p) v ws p v mid
skip test p v ws mid t d = any (token test λ _. p) p v ws mid (λ ms. quiet.skip test p ms ws mid t d)

-- an alternative is chosen
pub picked : {s : Sort} (rule : Rule s) (p : Prod ruby s) (v : Noted) (ws : List Word) →
    choose ruby_choices rule ws ≡ take p → Leads (only rule) v ws p v ws
picked rule p v ws c = any (only rule) p v ws ws (λ ms. quiet.picked rule p ms ws c)

-- a part is read
pub after : {s u : Sort} (rule : Rule u) (next : Val u → Prod ruby s) (y : Val u) (v w : Noted)
    (ws rest : List Word) → GivesMarkedRule rule v ws (Ok y) w rest → Leads (call rule next) v ws (next y) w rest
after rule next y v w ws rest a = λ ms t.
    let r = a ms t in
    (r.0, r.1, λ o h. called rule next ms r.0 ws rest y o r.2 h)

-- a part without marks is read
pub quietly : {s u : Sort} (rule : Rule u) (next : Val u → Prod ruby s) (y : Val u) (v : Noted)
    (ws rest : List Word) → GivesRule {s = u} rule ws (Ok y) rest → Leads (call rule next) v ws (next y) v rest
quietly rule next y v ws rest g = any (call rule next) (next y) v ws rest
    (λ ms. quiet.quietly rule next y ms ws rest g)

-- what is noted tells one mark more
pub tells_more : (v w : Noted) (m : Mark) (ms : List Mark) → Adds v m w → Tells v ms → Tells w (m ∷ ms)
tells_more v w m ms a t = record { tells = λ x. a x ∙ ap (λ b. clash x m || b) (t.tells x) }

-- a mark counts
pub counted : {s : Sort} (m : Mark) (p : Prod ruby s) (v w : Noted) (ws : List Word) (u : Unit {0}) →
    Counted v m (Ok u) w → Leads (mark m p) v ws p w ws
counted m p v w ws u c = λ ms t. (m ∷ ms, tells_more v w m ms c.1 t, λ o h. by_mark (sym (t.tells m) ∙ c.0) h)

-- one step, and then another
pub then : {s : Sort} {p q r : Prod ruby s} {u v w : Noted} {ws mid rest : List Word} →
    Leads p u ws q v mid → Leads q v mid r w rest → Leads p u ws r w rest
then a b = λ ms t.
    let k = a ms t in
    let l = b k.0 k.1 in
    (l.0, l.1, λ o h. k.2 o (l.2 o h))

-- the same is noted
pub noted_as : {s : Sort} (p q : Prod ruby s) (u v w : Noted) (ws mid : List Word) →
    ((ms : List Mark) → Tells v ms → Tells w ms) → Leads p u ws q v mid → Leads p u ws q w mid
noted_as p q u v w ws mid k a = λ ms t. let r = a ms t in (r.0, k r.0 r.1, r.2)

-- ---- the end
-- a value is read
pub finish : {s : Sort} (p : Prod ruby s) (x : Val s) (v w : Noted) (ws rest : List Word) →
    Leads {s = s} p v ws (give x) w rest → GivesMarked {s = s} p v ws (Ok x) w rest
finish p x v w ws rest a = λ ms t. let r = a ms t in (r.0, r.1, r.2 (done x r.0 rest) by_give)

-- a fault stands behind what was read
pub stop : {s : Sort} (p q : Prod ruby s) (v w : Noted) (ws mid rest : List Word) (e : Fault) →
    Leads p v ws q w mid → StopsAt q w mid e rest → StopsAt p v ws e rest
stop p q v w ws mid rest e a h = λ ms t.
    let r = a ms t in
    quiet.stop p q ms r.0 ws mid rest e r.2 (h r.0 r.1)

-- a word lacks
pub lacks : {s : Sort} (test : Word → Bool) (next : Word → Prod ruby s) (v : Noted) (ws rest : List Word)
    (e : Fault) → rest ≡ ws → next_is test (head ws) ≡ false → e ≡ f.Unexpected → StopsAt (token test next) v ws e rest
lacks test next v ws rest e d t u = λ ms _. quiet.lacks test next ms ws rest e d t u

-- no alternative is chosen
pub none : {s : Sort} (rule : Rule s) (v : Noted) (ws rest : List Word) (e : Fault) → rest ≡ ws →
    choose ruby_choices rule ws ≡ nothing → e ≡ f.Unexpected → StopsAt (only rule) v ws e rest
none rule v ws rest e d c u = λ ms _. quiet.none rule ms ws rest e d c u

-- a level too much
pub deep : {s : Sort} (rule : Rule s) (v : Noted) (ws : List Word) (e : Fault) →
    choose ruby_choices rule ws ≡ too_deep → e ≡ f.Deep → StopsAt (only rule) v ws e ws
deep rule v ws e c u = λ ms _. quiet.deep rule ms ws e c u

-- a part has a fault
pub breaks : {s u : Sort} (rule : Rule u) (next : Val u → Prod ruby s) (v : Noted) (ws rest : List Word)
    (e : Fault) → StopsAt (only rule) v ws e rest → StopsAt (call rule next) v ws e rest
breaks rule next v ws rest e h = λ ms t. stops_call rule next ms ws rest e (h ms t)

-- a part without marks has a fault
pub breaks_quietly : {s u : Sort} (rule : Rule u) (next : Val u → Prod ruby s) (v : Noted) (ws rest : List Word)
    (e : Fault) → GivesRule {s = u} rule ws (Err e) rest → StopsAt (call rule next) v ws e rest
breaks_quietly rule next v ws rest e g = λ ms _. stops_call rule next ms ws rest e (g ms)

-- a mark clashes
pub clashes : {s : Sort} (m : Mark) (p : Prod ruby s) (v : Noted) (ws : List Word) (e : Fault) →
    Refused v m e → StopsAt (mark m p) v ws e ws
clashes m p v ws f.Unexpected h = absurd h
clashes m p v ws f.Deep h = absurd h
clashes m p v ws f.Barred h = absurd h
clashes m p v ws (f.Twice at) h = λ ms t. (m, by_clash (sym (t.tells m) ∙ h.0), h.1)
clashes m p v ws f.Memory h = λ ms t. tt

-- ---- what functions answer
-- a step before what a function reads
pub led_marked : {s : Sort} (p q : Prod ruby s) (u v w : Noted) (ws mid rest : List Word)
    (r : Result (Val s) Fault) → Leads p u ws q v mid → GivesMarked {s = s} q v mid r w rest →
    GivesMarked {s = s} p u ws r w rest
led_marked p q u v w ws mid rest (Ok x) a g = λ ms t.
    let k = a ms t in
    let l = g k.0 k.1 in
    (l.0, l.1, k.2 (done x l.0 rest) l.2)
led_marked p q u v w ws mid rest (Err e) a g = stop p q u v ws mid rest e a g

-- What a grammar and the choices of its reader owe, so that reading by descent is exact. Each is a fact of single
-- rules.
use Rattle.std.specs.Prelude.{◌≡◌, ◌⊎◌, ◌<◌, Bool, true, false, List, [], ◌∷◌, ◌++◌, Option, Some, length}
use Rattle.descent.specs.Grammar.{Signs, Grammar, Prod, give, token, call, mark, Item, word, marked, Is, Among, only}
use Rattle.descent.specs.Grammar.{words}
use Rattle.descent.specs.Reading.{Choices, take, too_deep, barred, nothing, head, choose, Outcome, done, fault, Reads}

-- Which word, or the end, may follow what a rule says; whether the choice looks at the second word, given the first;
-- whether a sentence of a rule may begin with a mark, or have one at all.
pub record Follow (g : Signs) : Type 0 where
  pub fits : {s : g.Sort} → g.Rule s → Option g.Word → Bool
  pub looks : {s : g.Sort} → g.Rule s → Option g.Word → Bool
  pub plain : {s : g.Sort} → g.Rule s → Bool
  pub quiet : {s : g.Sort} → g.Rule s → Bool

-- the words that an outcome leaves
abbrev pub left : {g : Signs} {s : g.Sort} → Outcome g s → List g.Word
left (done x ms ws) = ws
left (fault why ws) = ws

-- Each test passes some word.
abbrev pub Goes : {g : Signs} {s : g.Sort} → Prod g s → Type 0
Goes (give x) = Unit {0}
Goes {g} (token test next) = ((w : g.Word) × (test w ≡ true)) × ((w : g.Word) → test w ≡ true → Goes (next w))
Goes {g} (call {v} rule next) = (y : g.Val v) → Goes (next y)
Goes (mark m p) = Goes p

-- No sentence begins with a mark.
abbrev pub Plain : {g : Signs} → Follow g → {s : g.Sort} → Prod g s → Type 0
Plain follow (give x) = Unit {0}
Plain follow (token test next) = Unit {0}
Plain {g} follow (call {v} rule next) = (follow.plain rule ≡ true) × ((y : g.Val v) → Plain follow (next y))
Plain follow (mark m p) = ⊥

-- What follows each call fits the called rule, where what follows the production fits, and doesn't begin with a mark.
abbrev pub Follows : {g : Signs} → Grammar g → Follow g → {s : g.Sort} → (Option g.Word → Bool) → Prod g s → Type 0
Follows grammar follow fit (give x) = Unit {0}
Follows {g} grammar follow fit (token test next) = (w : g.Word) → test w ≡ true → Follows grammar follow fit (next w)
Follows {g} grammar follow {s} fit (call {v} rule next) = (y : g.Val v) →
    (Follows grammar follow fit (next y) × Plain follow (next y)
    × ((ts : List (Item g)) (x : g.Val s) (rest : List g.Word) → Is grammar s (next y) ts x →
    fit (head rest) ≡ true → follow.fits rule (head (words ts ++ rest)) ≡ true))
Follows grammar follow fit (mark m p) = Follows grammar follow fit p

-- No sentence has a mark.
abbrev pub Quiet : {g : Signs} → Follow g → {s : g.Sort} → Prod g s → Type 0
Quiet follow (give x) = Unit {0}
Quiet {g} follow (token test next) = (w : g.Word) → test w ≡ true → Quiet follow (next w)
Quiet {g} follow (call {v} rule next) = (follow.quiet rule ≡ true) × ((y : g.Val v) → Quiet follow (next y))
Quiet follow (mark m p) = ⊥

-- Some sentence of the rule begins with this word.
abbrev pub BeginsWith : {g : Signs} → Grammar g → {s : g.Sort} → g.Rule s → g.Word → Type 0
BeginsWith {g} grammar {s} rule w = (more : List (Item g)) × (x : g.Val s) × Is grammar s (only rule) (word w ∷ more) x

-- The next word begins some sentence of the rule.
abbrev pub CanBegin : {g : Signs} → Grammar g → {s : g.Sort} → g.Rule s → List g.Word → Type 0
CanBegin grammar rule [] = ⊥
CanBegin grammar rule (w ∷ ws) = BeginsWith grammar rule w

-- the first word passes over, and the next one is at fault: something goes on from the first
abbrev pub BarredAt : {g : Signs} → Grammar g → {s : g.Sort} → g.Rule s → List g.Word → Type 0
BarredAt grammar rule [] = Unit {0}
BarredAt grammar rule (w ∷ ws) = BeginsWith grammar rule w

pub record Lawful {g : Signs} (grammar : Grammar g) (choices : Choices g) (follow : Follow g) : Type 0 where
  -- what is chosen is an alternative
  pub chosen : {s : g.Sort} (rule : g.Rule s) (a b : Option g.Word) (p : Prod g s) → choices.pick rule a b ≡ take p →
      Among p (grammar.alternatives rule)
  -- the choice looks at one word, or at two where the first is then passed
  pub one_word : {s : g.Sort} (rule : g.Rule s) (a b c : Option g.Word) → follow.looks rule a ≡ false →
      choices.pick rule a b ≡ choices.pick rule a c
  pub passes : {s : g.Sort} (rule : g.Rule s) (w : g.Word) (ws : List g.Word) (p : Prod g s) (ms : List g.Mark)
      (o : Outcome g s) →
      follow.looks rule (Some w) ≡ true → choose choices rule (w ∷ ws) ≡ take p →
      Reads grammar choices s p ms (w ∷ ws) o → length (left o) < length (w ∷ ws)
  pub one_word_stops : {s : g.Sort} (rule : g.Rule s) (w : g.Word) (b : Option g.Word) →
      follow.looks rule (Some w) ≡ true →
      (choices.pick rule (Some w) b ≡ too_deep → ⊥) × (choices.pick rule (Some w) b ≡ nothing → ⊥)
  -- an alternative that says something, before what may follow the rule, is the one chosen
  pub chooses : {s : g.Sort} (rule : g.Rule s) (p : Prod g s) (ts : List (Item g)) (x : g.Val s) (rest : List g.Word) →
      Among p (grammar.alternatives rule) → Is grammar s p ts x → follow.fits rule (head rest) ≡ true →
      choose choices rule (words ts ++ rest) ≡ take p
  -- what follows each call fits the called rule
  pub follows : {s : g.Sort} (rule : g.Rule s) (p : Prod g s) → Among p (grammar.alternatives rule) →
      Follows grammar follow (follow.fits rule) p
  -- each rule has a sentence, each test passes some word, and what is barred begins some sentence
  pub ends : {s : g.Sort} (rule : g.Rule s) → (ts : List (Item g)) × (x : g.Val s) × Is grammar s (only rule) ts x
  pub goes : {s : g.Sort} (rule : g.Rule s) (p : Prod g s) → Among p (grammar.alternatives rule) → Goes p
  pub bars : {s : g.Sort} (rule : g.Rule s) (w : g.Word) (b : Option g.Word) →
      choices.pick rule (Some w) b ≡ barred → (follow.looks rule (Some w) ≡ true) × BeginsWith grammar rule w
  -- a sentence that begins with a mark has nothing else, and is chosen before each word that doesn't begin another
  -- sentence
  pub plain_rule : {s : g.Sort} (rule : g.Rule s) (p : Prod g s) → Among p (grammar.alternatives rule) →
      follow.plain rule ≡ true → Plain follow p
  pub marked_rule : {s : g.Sort} (rule : g.Rule s) (p : Prod g s) (m : g.Mark) (ts : List (Item g)) (x : g.Val s) →
      Among p (grammar.alternatives rule) → follow.plain rule ≡ false →
      Is grammar s p (marked m ∷ ts) x → (ts ≡ [])
      × ((ws : List g.Word) → (choose choices rule ws ≡ take p) ⊎ CanBegin grammar rule ws)
  pub quiet_rule : {s : g.Sort} (rule : g.Rule s) (p : Prod g s) → Among p (grammar.alternatives rule) →
      follow.quiet rule ≡ true → Quiet follow p
  pub looks_quiet : {s : g.Sort} (rule : g.Rule s) (a : Option g.Word) → follow.looks rule a ≡ true →
      (follow.quiet rule ≡ true) × (follow.plain rule ≡ true)

-- Grammars whose rules give values, and their sentences. Nothing here knows how a text is read.
use Rattle.std.specs.Prelude.{◌≡◌, Bool, true, false, List, [], ◌∷◌, ◌++◌}

-- What a grammar speaks of: the words of its texts; marks, which stand between words where a text makes something
-- count;
-- sorts of values; and rules, each with the sort of its value. A rule carries its context in itself.
pub record Signs : Type 1 where
  pub Word : Type 0
  pub Mark : Type 0
  pub Sort : Type 0
  pub Val : Sort → Type 0
  pub Rule : Sort → Type 0

-- A production: it gives a value; or reads a word that passes a test, or what a rule says, and goes on with what was
-- read;
-- or stands at a mark and goes on.
pub data Prod (g : Signs) (s : g.Sort) : Type 0 where
  give : g.Val s → Prod g s
  token : (g.Word → Bool) → (g.Word → Prod g s) → Prod g s
  call : {v : g.Sort} → g.Rule v → (g.Val v → Prod g s) → Prod g s
  mark : g.Mark → Prod g s → Prod g s

-- The alternatives of each rule; and whether a mark clashes with the marks before it, the last of which comes first.
pub record Grammar (g : Signs) : Type 0 where
  pub alternatives : {s : g.Sort} → g.Rule s → List (Prod g s)
  pub clashes : List g.Mark → g.Mark → Bool

-- What sentences are made of.
pub data Item (g : Signs) : Type 0 where
  word : g.Word → Item g
  marked : g.Mark → Item g

-- a production is one of these
pub data Among {A : Type 0} (p : A) : List A → Type 0 where
  first : {ps : List A} → Among p (p ∷ ps)
  later : {q : A} {ps : List A} → Among p ps → Among p (q ∷ ps)

-- These items are a sentence of the production, and this is its value.
pub data Is {g : Signs} (grammar : Grammar g) : (s : g.Sort) → Prod g s → List (Item g) → g.Val s → Type 0 where
  is_given : {s : g.Sort} {x : g.Val s} → Is grammar s (give x) [] x
  is_word : {s : g.Sort} {test : g.Word → Bool} {next : g.Word → Prod g s} {w : g.Word} {ts : List (Item g)}
      {x : g.Val s} →
      test w ≡ true → Is grammar s (next w) ts x → Is grammar s (token test next) (word w ∷ ts) x
  is_marked : {s : g.Sort} {m : g.Mark} {p : Prod g s} {ts : List (Item g)} {x : g.Val s} →
      Is grammar s p ts x → Is grammar s (mark m p) (marked m ∷ ts) x
  is_called : {s v : g.Sort} {rule : g.Rule v} {next : g.Val v → Prod g s} {p : Prod g v} {ts us vs : List (Item g)}
      {y : g.Val v} {x : g.Val s} →
      Among p (grammar.alternatives rule) → Is grammar v p us y → Is grammar s (next y) vs x → ts ≡ us ++ vs →
      Is grammar s (call rule next) ts x

-- what a rule says, alone
abbrev pub only : {g : Signs} {s : g.Sort} → g.Rule s → Prod g s
only rule = call rule (λ x. give x)

-- these items are a sentence of the rule, and this is its value; clashes of marks aside
abbrev pub Says : {g : Signs} → Grammar g → {s : g.Sort} → g.Rule s → List (Item g) → g.Val s → Type 0
Says grammar {s} rule ts x = Is grammar s (only rule) ts x

-- the words of a sentence, without its marks
abbrev pub words : {g : Signs} → List (Item g) → List g.Word
words [] = []
words (word w ∷ ts) = w ∷ words ts
words (marked m ∷ ts) = words ts

-- the marks up to its end, behind those before it
abbrev pub marks_after : {g : Signs} → List g.Mark → List (Item g) → List g.Mark
marks_after ms [] = ms
marks_after ms (word w ∷ ts) = marks_after ms ts
marks_after ms (marked m ∷ ts) = marks_after (m ∷ ms) ts

-- no mark of the sentence clashes with one before it
abbrev pub Clear : {g : Signs} → Grammar g → List g.Mark → List (Item g) → Type 0
Clear grammar ms [] = Unit {0}
Clear grammar ms (word w ∷ ts) = Clear grammar ms ts
Clear grammar ms (marked m ∷ ts) = (grammar.clashes ms m ≡ false) × Clear grammar (m ∷ ms) ts

-- These words are a text of the rule, and this is its value: with some marks they are a sentence without a clash.
pub record Spells {g : Signs} (grammar : Grammar g) {s : g.Sort} (rule : g.Rule s) (ws : List g.Word)
    (x : g.Val s) : Type 0 where
  pub items : List (Item g)
  pub spelled : words items ≡ ws
  pub says : Says grammar rule items x
  pub clear : Clear grammar [] items

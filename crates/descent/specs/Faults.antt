-- The first fault of a text, by what sentences can begin with.
use Rattle.std.specs.Prelude.{◌≡◌, true, List, [], ◌∷◌, ◌++◌}
use Rattle.descent.specs.Grammar.{Signs, Grammar, Item, word, marked, Says, words, marks_after, Clear}

-- some sentence begins with these items
abbrev pub Viable : {g : Signs} → Grammar g → {s : g.Sort} → g.Rule s → List (Item g) → Type 0
Viable {g} grammar {s} rule ts = (more : List (Item g)) × (x : g.Val s) × Says grammar rule (ts ++ more) x

-- some sentence begins with these words, whatever its marks
abbrev pub Begins : {g : Signs} → Grammar g → {s : g.Sort} → g.Rule s → List g.Word → Type 0
Begins {g} grammar rule ws = (ts : List (Item g)) × (words ts ≡ ws) × Viable grammar rule ts

-- no sentence has these words
abbrev pub Unfinished : {g : Signs} → Grammar g → {s : g.Sort} → g.Rule s → List g.Word → Type 0
Unfinished {g} grammar {s} rule ws = (ts : List (Item g)) (x : g.Val s) → words ts ≡ ws → Says grammar rule ts x → ⊥

-- no sentence goes on with the word at hand, or the sentence can't end here
abbrev pub Stuck : {g : Signs} → Grammar g → {s : g.Sort} → g.Rule s → List g.Word → List g.Word → Type 0
Stuck grammar rule used [] = Unfinished grammar rule used
Stuck grammar rule used (w ∷ rest) = Begins grammar rule (used ++ w ∷ []) → ⊥

-- The words split so where the first fault is: up to there some sentence goes on, and none with what stands there.
pub record Stops {g : Signs} (grammar : Grammar g) {s : g.Sort} (rule : g.Rule s) (ws rest : List g.Word) : Type 0 where
  pub used : List g.Word
  pub whole : ws ≡ used ++ rest
  pub begins : Begins grammar rule used
  pub stuck : Stuck grammar rule used rest

-- the word at hand, if there is one, can't come next
abbrev pub Due : {g : Signs} → Grammar g → {s : g.Sort} → g.Rule s → List (Item g) → List g.Word → Type 0
Due grammar rule ts [] = Unit {0}
Due grammar rule ts (w ∷ rest) = Viable grammar rule (ts ++ word w ∷ []) → ⊥

-- Something counts a second time: behind these items comes a mark that clashes, the first that does, and the word at
-- hand
-- can come only behind it, if at all.
pub record Clashes {g : Signs} (grammar : Grammar g) {s : g.Sort} (rule : g.Rule s) (ws : List g.Word)
    (m : g.Mark) : Type 0 where
  pub before : List (Item g)
  pub rest : List g.Word
  pub whole : ws ≡ words before ++ rest
  pub viable : Viable grammar rule (before ++ marked m ∷ [])
  pub due : Due grammar rule before rest
  pub clear : Clear grammar [] before
  pub clash : grammar.clashes (marks_after [] before) m ≡ true

-- nothing counts twice as far as the words can be read
abbrev pub NoClash : {g : Signs} → Grammar g → {s : g.Sort} → g.Rule s → List g.Word → Type 0
NoClash {g} grammar rule ws = (m : g.Mark) → Clashes grammar rule ws m → ⊥

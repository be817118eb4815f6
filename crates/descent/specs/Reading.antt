-- What a reader by recursive descent does: it chooses a rule's production by the next word, or the next two, and
-- never goes back.
use Rattle.std.specs.Prelude.{◌≡◌, Bool, true, false, List, [], ◌∷◌, Option, Some, None}
use Rattle.descent.specs.Grammar.{Signs, Grammar, Prod, give, token, call, mark}

-- What is chosen: a production; or none, since it would open a level too much at the next word; or none, since what
-- begins with
-- the next word is barred at the one behind it; or none, since nothing begins with the next word.
pub data Choice (g : Signs) (s : g.Sort) : Type 0 where
  take : Prod g s → Choice g s
  too_deep : Choice g s
  barred : Choice g s
  nothing : Choice g s

-- how a rule's production is chosen, by the next two words
pub record Choices (g : Signs) : Type 0 where
  pub pick : {s : g.Sort} → g.Rule s → Option g.Word → Option g.Word → Choice g s

-- the next word, or none at the end
abbrev pub head : {A : Type 0} → List A → Option A
head [] = None
head (a ∷ as') = Some a

-- the word behind the next one, or none where at most one is left
abbrev pub second : {A : Type 0} → List A → Option A
second [] = None
second (a ∷ as') = head as'

-- what the reader chooses for a rule before these words, of which it sees the first two
abbrev pub choose : {g : Signs} → Choices g → {s : g.Sort} → g.Rule s → List g.Word → Choice g s
choose choices rule ws = choices.pick rule (head ws) (second ws)

-- why the reading stops
pub data Why (g : Signs) : Type 0 where
  Unexpected : Why g
  Deep : Why g
  Barred : Why g
  Twice : g.Mark → Why g

-- a value, the marks met so far and the words that are left; or a fault, and the words from there on
pub data Outcome (g : Signs) (s : g.Sort) : Type 0 where
  done : g.Val s → List g.Mark → List g.Word → Outcome g s
  fault : Why g → List g.Word → Outcome g s

-- Behind these marks, this production reads these words so.
pub data Reads {g : Signs} (grammar : Grammar g) (choices : Choices g) : (s : g.Sort) → Prod g s → List g.Mark →
    List g.Word → Outcome g s → Type 0 where
  by_give : {s : g.Sort} {x : g.Val s} {ms : List g.Mark} {ws : List g.Word} →
      Reads grammar choices s (give x) ms ws (done x ms ws)
  by_word : {s : g.Sort} {test : g.Word → Bool} {next : g.Word → Prod g s} {ms : List g.Mark} {w : g.Word}
      {ws : List g.Word} {o : Outcome g s} →
      test w ≡ true → Reads grammar choices s (next w) ms ws o → Reads grammar choices s (token test next) ms (w ∷ ws) o
  by_other : {s : g.Sort} {test : g.Word → Bool} {next : g.Word → Prod g s} {ms : List g.Mark} {w : g.Word}
      {ws : List g.Word} →
      test w ≡ false → Reads grammar choices s (token test next) ms (w ∷ ws) (fault Unexpected (w ∷ ws))
  by_end : {s : g.Sort} {test : g.Word → Bool} {next : g.Word → Prod g s} {ms : List g.Mark} →
      Reads grammar choices s (token test next) ms [] (fault Unexpected [])
  by_mark : {s : g.Sort} {m : g.Mark} {p : Prod g s} {ms : List g.Mark} {ws : List g.Word} {o : Outcome g s} →
      grammar.clashes ms m ≡ false → Reads grammar choices s p (m ∷ ms) ws o →
      Reads grammar choices s (mark m p) ms ws o
  by_clash : {s : g.Sort} {m : g.Mark} {p : Prod g s} {ms : List g.Mark} {ws : List g.Word} →
      grammar.clashes ms m ≡ true → Reads grammar choices s (mark m p) ms ws (fault (Twice m) ws)
  by_call : {s v : g.Sort} {rule : g.Rule v} {next : g.Val v → Prod g s} {p : Prod g v} {ms ns : List g.Mark}
      {ws rest : List g.Word} {y : g.Val v} {o : Outcome g s} →
      choose choices rule ws ≡ take p → Reads grammar choices v p ms ws (done y ns rest) →
      Reads grammar choices s (next y) ns rest o → Reads grammar choices s (call rule next) ms ws o
  by_fault : {s v : g.Sort} {rule : g.Rule v} {next : g.Val v → Prod g s} {p : Prod g v} {ms : List g.Mark}
      {ws rest : List g.Word} {why : Why g} →
      choose choices rule ws ≡ take p → Reads grammar choices v p ms ws (fault why rest) →
      Reads grammar choices s (call rule next) ms ws (fault why rest)
  by_depth : {s v : g.Sort} {rule : g.Rule v} {next : g.Val v → Prod g s} {ms : List g.Mark} {ws : List g.Word} →
      choose choices rule ws ≡ too_deep → Reads grammar choices s (call rule next) ms ws (fault Deep ws)
  by_bar : {s v : g.Sort} {rule : g.Rule v} {next : g.Val v → Prod g s} {ms : List g.Mark} {w : g.Word}
      {ws : List g.Word} →
      choose choices rule (w ∷ ws) ≡ barred → Reads grammar choices s (call rule next) ms (w ∷ ws) (fault Barred ws)
  by_nothing : {s v : g.Sort} {rule : g.Rule v} {next : g.Val v → Prod g s} {ms : List g.Mark} {ws : List g.Word} →
      choose choices rule ws ≡ nothing → Reads grammar choices s (call rule next) ms ws (fault Unexpected ws)

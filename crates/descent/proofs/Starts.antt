-- What a rule's sentences begin with.
use Rattle.std.proofs.Common.{◌≡◌, Bool, true, List, ◌∷◌, ◌++◌, refl, ap, ◌∙◌}
use Rattle.descent.specs.Grammar.{Signs, Grammar, Prod, give, token, call, mark, Item, Is, is_given, is_word, is_marked}
use Rattle.descent.specs.Grammar.{is_called, Among, words}
use Rattle.descent.proofs.Lists.{words_append}

-- The first words of rules, and whether each sentence of a rule has a word.
pub record Firsts (g : Signs) : Type 0 where
  pub first : {s : g.Sort} → g.Rule s → g.Word → Bool
  pub solid : {s : g.Sort} → g.Rule s → Bool

-- Each sentence of the production has a first word, which passes.
abbrev pub Starts : {g : Signs} → Firsts g → {s : g.Sort} → (g.Word → Bool) → Prod g s → Type 0
Starts firsts q (give x) = ⊥
Starts {g} firsts q (token test next) = (w : g.Word) → test w ≡ true → q w ≡ true
Starts {g} firsts q (call {v} rule next) = (firsts.solid rule ≡ true)
    × ((w : g.Word) → firsts.first rule w ≡ true → q w ≡ true)
Starts firsts q (mark m p) = Starts firsts q p

-- The first word of a sentence, and the others.
pub record Begun {g : Signs} (q : g.Word → Bool) (ts : List (Item g)) : Type 0 where
  pub word_at : g.Word
  pub others : List g.Word
  pub spelled : words ts ≡ word_at ∷ others
  pub passes : q word_at ≡ true

module _ {g : Signs} (grammar : Grammar g) (firsts : Firsts g)
    (laws : (s : g.Sort) (rule : g.Rule s) (p : Prod g s) → Among p (grammar.alternatives rule) →
    firsts.solid rule ≡ true → Starts firsts (firsts.first rule) p) where
  -- where each sentence of a production has a first word, a given sentence does, and that word passes the test
  pub starts : {s : g.Sort} {p : Prod g s} {ts : List (Item g)} {x : g.Val s} (q : g.Word → Bool) →
      Is grammar s p ts x → Starts firsts q p → Begun q ts
  starts q is_given h = absurd h
  starts q (is_word {w = w} {ts = ts} t a) h = record { word_at = w; others = words ts; spelled = refl; passes = h w t }
  starts q (is_marked a) h =
      let b = starts q a h in
      record { word_at = b.word_at; others = b.others; spelled = b.spelled; passes = b.passes }
  starts q (is_called {v = v} {rule = rule} {p = p} {us = us} {vs = vs} am a a' e) h =
      let b = starts (firsts.first rule) a (laws v rule p am h.0) in
      record {
        word_at = b.word_at;
        others = b.others ++ words vs;
        spelled = ap (λ l. words l) e ∙ words_append us vs
            ∙ ap (λ l. l ++ words vs) b.spelled;
        passes = h.1 b.word_at b.passes;
      }

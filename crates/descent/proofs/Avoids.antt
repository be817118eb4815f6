-- Words that stand in no sentence of some rules.
use Rattle.std.proofs.Common.{◌≡◌, Bool, true, false, List, [], ◌∷◌, ◌++◌, sym, ap, ◌∙◌, subst}
use Rattle.descent.specs.Grammar.{Signs, Grammar, Prod, give, token, call, mark, Item, Is, is_given, is_word, is_marked}
use Rattle.descent.specs.Grammar.{is_called, Among, words}
use Rattle.descent.proofs.Lists.{words_append}

-- Words that are avoided, and rules that avoid them.
pub record Avoided (g : Signs) : Type 0 where
  pub bad : g.Word → Bool
  pub clean : {s : g.Sort} → g.Rule s → Bool

-- no such word stands in a sentence
abbrev pub Avoids : {g : Signs} → Avoided g → {s : g.Sort} → Prod g s → Type 0
Avoids avoided (give x) = Unit {0}
Avoids {g} avoided (token test next) = (w : g.Word) → test w ≡ true → (avoided.bad w ≡ false) × Avoids avoided (next w)
Avoids {g} avoided (call {v} rule next) = (avoided.clean rule ≡ true) × ((y : g.Val v) → Avoids avoided (next y))
Avoids avoided (mark m p) = Avoids avoided p

-- none of these words is such
abbrev pub NoneBad : {g : Signs} → Avoided g → List g.Word → Type 0
NoneBad avoided [] = Unit {0}
NoneBad avoided (w ∷ ws) = (avoided.bad w ≡ false) × NoneBad avoided ws

both_good : {g : Signs} (avoided : Avoided g) (us vs : List g.Word) → NoneBad avoided us → NoneBad avoided vs →
    NoneBad avoided (us ++ vs)
both_good avoided [] vs h k = k
both_good avoided (w ∷ us) vs h k = (h.0, both_good avoided us vs h.1 k)

module _ {g : Signs} (grammar : Grammar g) (avoided : Avoided g)
    (laws : (s : g.Sort) (rule : g.Rule s) (p : Prod g s) → Among p (grammar.alternatives rule) →
    avoided.clean rule ≡ true → Avoids avoided p) where
  -- a sentence of a production that avoids the bad words has none of them, so no text of the rule has one
  pub avoids : {s : g.Sort} {p : Prod g s} {ts : List (Item g)} {x : g.Val s} → Is grammar s p ts x →
      Avoids avoided p → NoneBad avoided (words ts)
  avoids is_given h = tt
  avoids (is_word {w = w} t a) h = ((h w t).0, avoids a (h w t).1)
  avoids (is_marked a) h = avoids a h
  avoids (is_called {v = v} {rule = rule} {p = p} {us = us} {vs = vs} {y = y} am a b e) h =
      subst (λ l. NoneBad avoided l) (sym (ap (λ l. words l) e ∙ words_append us vs))
      (both_good avoided (words us) (words vs) (avoids a (laws v rule p am h.0)) (avoids b (h.1 y)))

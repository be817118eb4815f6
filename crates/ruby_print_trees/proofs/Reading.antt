-- What each sentence means, where each alternative of each rule is fine: one induction over sentences.
use Rattle.std.proofs.Common.{◌≡◌, Bool, true, false, List, [], ◌∷◌, ◌++◌, Option, Some, refl, sym, ap, ◌∙◌, subst}
use Rattle.std.proofs.Common.{append_assoc, append-nil}
use Rattle.descent.specs.Grammar.{Prod, Item, word, marked, Is, is_given, is_word, is_marked, is_called, Among, words}
use Rattle.descent.specs.Lawful.{Quiet}
use Rattle.ruby_grammar.specs.Words.{Word}
use Rattle.ruby_grammar.specs.Rules.{ruby, Val, Sort, Rule}
use Rattle.ruby_grammar.specs.Language.{forms, ruby_grammar}
use Rattle.ruby_grammar.specs.Follow.{ruby_follow, is_quiet}
use Rattle.ruby_grammar.proofs.Marking.{quiet_rule}
use Rattle.ruby_print_pieces.specs.FormedFiles.{Deed}
use Rattle.ruby_print_trees.proofs.Meaning.{SoundWords, Meaning, Serves, Fine, deed_of, deeds_in, met}

-- the last word of these, or the one before them
abbrev last_word : Option Word → List (Item ruby) → Option Word
last_word a [] = a
last_word a (word w ∷ ts) = last_word (Some w) ts
last_word a (marked m ∷ ts) = last_word a ts

sound_first : (a : Option Word) (us vs : List (Item ruby)) → SoundWords a (words (us ++ vs)) → SoundWords a (words us)
sound_first a [] vs h = tt
sound_first a (word w ∷ us) vs h = (h.0, h.1, sound_first (Some w) us vs h.2)
sound_first a (marked m ∷ us) vs h = sound_first a us vs h

sound_second : (a : Option Word) (us vs : List (Item ruby)) → SoundWords a (words (us ++ vs)) →
    SoundWords (last_word a us) (words vs)
sound_second a [] vs h = h
sound_second a (word w ∷ us) vs h = sound_second (Some w) us vs h.2
sound_second a (marked m ∷ us) vs h = sound_second a us vs h

deeds_append : (us vs : List (Item ruby)) → deeds_in (us ++ vs) ≡ deeds_in us ++ deeds_in vs
deeds_append [] vs = refl
deeds_append (word w ∷ us) vs = deeds_append us vs
deeds_append (marked m ∷ us) vs = ap (λ l. deed_of m ∷ l) (deeds_append us vs)

both_none : (ms ns : List Deed) → ms ≡ [] → ns ≡ [] → ms ++ ns ≡ []
both_none ms ns e f = rw (e, f) refl

-- a quiet production does nothing
quiet_deeds : {s : Sort} {p : Prod ruby s} {ts : List (Item ruby)} {x : Val s} → Is ruby_grammar s p ts x →
    Quiet ruby_follow p → deeds_in ts ≡ []
quiet_deeds is_given q = refl
quiet_deeds (is_word {w = w} t i) q = quiet_deeds i (q w t)
quiet_deeds (is_marked i) q = absurd q
quiet_deeds (is_called {rule = rule} {p = p} {us = us} {vs = vs} {y = y} am i j e) q =
    ap deeds_in e ∙ deeds_append us vs
    ∙ both_none (deeds_in us) (deeds_in vs) (quiet_deeds i (quiet_rule rule p am q.0)) (quiet_deeds j (q.1 y))

all_met : (b : Bool) (n : List Deed) → (b ≡ true → n ≡ []) → met b n ≡ n
all_met true n h = sym (h refl)
all_met false n h = refl

-- the deeds of both parts, behind others
in_a_row : (m n : List Deed) (ts us vs : List (Item ruby)) → n ≡ deeds_in us → ts ≡ us ++ vs →
    (m ++ n) ++ deeds_in vs ≡ m ++ deeds_in ts
in_a_row m n ts us vs e f = append_assoc m n (deeds_in vs)
    ∙ ap (λ l. m ++ l) (ap (λ l. l ++ deeds_in vs) e ∙ sym (deeds_append us vs) ∙ ap deeds_in (sym f))

module _ (fine : (s : Sort) (rule : Rule s) (p : Prod ruby s) → Among p (forms rule) → Fine rule p) where
  -- One induction over sentences: what each production keeps, each sentence has.
  pub serves : {s : Sort} {p : Prod ruby s} {ts : List (Item ruby)} {x : Val s} → Is ruby_grammar s p ts x →
      (Q : Val s → List Deed → Type 0) (m : List Deed) (a : Option Word) →
      SoundWords a (words ts) → Serves p Q m a → Q x (m ++ deeds_in ts)
  serves (is_given {x = x}) Q m a h k = subst (λ l. Q x l) (sym (append-nil m)) k
  serves (is_word {w = w} t i) Q m a h k = serves i Q m (Some w) h.2 (k w t h.0 h.1)
  serves (is_marked {m = n} {ts = ts} {x = x} i) Q m a h k =
      subst (λ l. Q x l) (append_assoc m (deed_of n ∷ []) (deeds_in ts)) (serves i Q (m ++ deed_of n ∷ []) a h k)
  serves (is_called {rule = rule} {p = p} {ts = ts} {us = us} {vs = vs} {y = y} {x = x} am i j e) Q m a h k =
      let g = subst (λ l. SoundWords a (words l)) e h in
      let y_means = serves i (λ z n. Meaning rule a z n) [] a (sound_first a us vs g) (fine _ rule p am a) in
      let r = serves j Q (m ++ met (is_quiet rule) (deeds_in us)) (last_word a us) (sound_second a us vs g)
      (k y (deeds_in us) (last_word a us) y_means) in
      subst (λ l. Q x l) (in_a_row m (met (is_quiet rule) (deeds_in us)) ts us vs
      (all_met (is_quiet rule) (deeds_in us) (λ q. quiet_deeds i (quiet_rule rule p am q))) e) r

-- What is a sentence is read, up to its first clash.
use Rattle.std.proofs.Common.{◌≡◌, Bool, true, List, [], ◌∷◌, ◌++◌, Option, sym, ap, ◌∙◌, append-nil, subst}
use Rattle.descent.specs.Grammar.{Signs, Grammar, Prod, give, token, call, mark, Item, word, marked, Is, is_given}
use Rattle.descent.specs.Grammar.{is_word, is_marked, is_called, Among, only, words, marks_after, Clear}
use Rattle.descent.specs.Reading.{Choices, head, done, Reads, by_give, by_word, by_mark, by_call}
use Rattle.descent.specs.Lawful.{Follow, Follows, Goes, Plain, Lawful}
use Rattle.descent.proofs.Lists.{words_before, marks_append, clear_first, clear_second}

module _ {g : Signs} (grammar : Grammar g) where
  -- ---- sentences

  -- a sentence of the called rule and then one of what goes on make a sentence of the call
  pub extend : {s v : g.Sort} {rule : g.Rule v} {next : g.Val v → Prod g s} {us vs : List (Item g)} {y : g.Val v}
      {x : g.Val s} →
      Is grammar v (only rule) us y → Is grammar s (next y) vs x → Is grammar s (call rule next) (us ++ vs) x
  extend {vs = vs} (is_called {us = us} am a is_given e) b = is_called am a b (rw e (ap (λ l. l ++ vs) (append-nil us)))

  -- a sentence of one of a rule's alternatives is a sentence of the rule
  pub alone : {v : g.Sort} {rule : g.Rule v} {p : Prod g v} {us : List (Item g)} {y : g.Val v} →
      Among p (grammar.alternatives rule) → Is grammar v p us y → Is grammar v (only rule) us y
  alone {us = us} am a = is_called am a is_given (sym (append-nil us))

module _ {g : Signs} (grammar : Grammar g) (choices : Choices g) (follow : Follow g)
    (laws : Lawful grammar choices follow) where
  -- each production that goes has a sentence
  pub has_end : {s : g.Sort} (p : Prod g s) → Goes p → (ts : List (Item g)) × (x : g.Val s) × Is grammar s p ts x
  has_end (give x) h = ([], x, is_given)
  has_end (token test next) h =
      let w = h.0.0 in
      let e = has_end (next w) (h.1 w h.0.1) in
      (word w ∷ e.0, e.1, is_word h.0.1 e.2)
  has_end (call rule next) h =
      let a = laws.ends rule in
      let e = has_end (next a.1) (h a.1) in
      (a.0 ++ e.0, e.1, extend grammar a.2 e.2)
  has_end (mark m p) h =
      let e = has_end p h in
      (marked m ∷ e.0, e.1, is_marked e.2)

  -- a sentence of a plain production doesn't begin with a mark
  pub no_mark_first : {s : g.Sort} {p : Prod g s} {ts : List (Item g)} {x : g.Val s} (m : g.Mark)
      (us : List (Item g)) → Is grammar s p ts x → Plain follow p → ts ≡ marked m ∷ us → ⊥
  no_mark_first m us is_given h e = cc
  no_mark_first m us (is_word t a) h e = cc
  no_mark_first m us (is_marked a) h e = h
  no_mark_first m us (is_called {rule = rule} {us = []} {y = y} am a b e') h e =
      no_mark_first m us b (h.1 y) (sym e' ∙ e)
  no_mark_first m us (is_called {rule = rule} {p = p} {us = t ∷ ts} am a b e') h e =
      no_mark_first m ts a (laws.plain_rule rule p am h.0) (ap (λ z. z ∷ ts) (first_is t m _ _ (sym e' ∙ e)))
    where
      first_is : (t : Item g) (m : g.Mark) (xs ys : List (Item g)) → t ∷ xs ≡ marked m ∷ ys → t ≡ marked m
      first_is t m xs ys e = cc

  -- a sentence without a clash, before a word that may follow, is read whole and with its own value
  pub complete : {s : g.Sort} {p : Prod g s} {ts : List (Item g)} {x : g.Val s} (fit : Option g.Word → Bool)
      (ms : List g.Mark) (rest : List g.Word) →
      Is grammar s p ts x → Follows grammar follow fit p → Clear grammar ms ts → fit (head rest) ≡ true →
      Reads grammar choices s p ms (words ts ++ rest) (done x (marks_after ms ts) rest)
  complete fit ms rest is_given f c h = by_give
  complete fit ms rest (is_word {w = w} t a) f c h = by_word t (complete fit ms rest a (f w t) c h)
  complete fit ms rest (is_marked {m = m} a) f c h = by_mark c.0 (complete fit (m ∷ ms) rest a f c.1 h)
  complete {s} {x = x} fit ms rest
      (is_called {rule = rule} {next = next} {p = p} {us = us} {vs = vs} {y = y} am a b e) f c h =
      let c' = subst (λ l. Clear grammar ms l) e c in
      let r = words vs ++ rest in
      let fits = (f y).2 vs x rest b h in
      let part = complete (follow.fits rule) ms r a (laws.follows rule p am) (clear_first grammar ms us vs c') fits in
      let others = complete fit (marks_after ms us) rest b (f y).0 (clear_second grammar ms us vs c') h in
      let whole : Reads grammar choices s (call rule next) ms (words us ++ r)
      (done x (marks_after (marks_after ms us) vs) rest) =
      by_call (laws.chooses rule p us y r am a fits) part others in
      subst (λ l. Reads grammar choices s (call rule next) ms (words l ++ rest) (done x (marks_after ms l) rest))
      (sym e)
      (subst (λ l. Reads grammar choices s (call rule next) ms l (done x (marks_after ms (us ++ vs)) rest))
      (sym (words_before us vs rest))
      (subst (λ l. Reads grammar choices s (call rule next) ms (words us ++ r) (done x l rest))
      (sym (marks_append ms us vs)) whole))

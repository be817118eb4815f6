-- A sentence is read up to its first clash, whatever stands there that could not come before the mark.
use Rattle.std.proofs.Common.{◌≡◌, ◌⊎◌, inl, inr, Bool, true, false, List, [], ◌∷◌, ◌++◌, Option, Some, refl, sym, ap}
use Rattle.std.proofs.Common.{◌∙◌, append_assoc, subst}
use Rattle.descent.specs.Grammar.{Signs, Grammar, Prod, token, call, mark, Item, word, marked, Is, is_given, is_word}
use Rattle.descent.specs.Grammar.{is_marked, is_called, Among, only, words, marks_after, Clear}
use Rattle.descent.specs.Reading.{Choices, take, head, choose, fault, Twice, Reads, by_word, by_mark, by_clash, by_call}
use Rattle.descent.specs.Reading.{by_fault}
use Rattle.descent.specs.Lawful.{Follow, Follows, Goes, Plain, Quiet, Lawful, CanBegin}
use Rattle.descent.proofs.Lists.{split, same_first, same_others, words_before, marks_append, clear_first, clear_second}
use Rattle.descent.proofs.Complete.{extend, alone, has_end, no_mark_first, complete}

-- the word at hand, if there is one, can't come next
abbrev pub DueIn : {g : Signs} → Grammar g → {s : g.Sort} → Prod g s → List (Item g) → List g.Word → Type 0
DueIn grammar p ts [] = Unit {0}
DueIn {g} grammar {s} p ts (w ∷ rest) = (more : List (Item g)) (x : g.Val s) →
    Is grammar s p (ts ++ word w ∷ more) x → ⊥

-- what stands behind the mark is the rest of the sentence, or can't come before the mark
abbrev pub Ready : {g : Signs} → Grammar g → {s : g.Sort} → Prod g s → List (Item g) → List (Item g) → List g.Word →
    List g.Word → Type 0
Ready grammar p before more r rest = (rest ≡ words more ++ r) ⊎ DueIn grammar p before rest

ready_by : {g : Signs} (grammar : Grammar g) {s v : g.Sort} (p : Prod g s) (q : Prod g v)
    (before before' more more' : List (Item g)) (r r' rest : List g.Word) →
    words more ++ r ≡ words more' ++ r' → (DueIn grammar p before rest → DueIn grammar q before' rest) →
    Ready grammar p before more r rest → Ready grammar q before' more' r' rest
ready_by grammar p q before before' more more' r r' rest e f (inl h) = inl (h ∙ e)
ready_by grammar p q before before' more more' r r' rest e f (inr h) = inr (f h)

due_by : {g : Signs} (grammar : Grammar g) {s v : g.Sort} (p : Prod g s) (q : Prod g v) (ts us : List (Item g))
    (rest : List g.Word) →
    ((w : g.Word) (more : List (Item g)) (x : g.Val v) → Is grammar v q (us ++ word w ∷ more) x →
    (others : List (Item g)) × (y : g.Val s) × Is grammar s p (ts ++ word w ∷ others) y) →
    DueIn grammar p ts rest → DueIn grammar q us rest
due_by grammar p q ts us [] f d = tt
due_by grammar p q ts us (w ∷ rest) f d = λ more x a. d (f w more x a).0 (f w more x a).1 (f w more x a).2

-- no item is both a word and a mark: closes the cases of a split at the wrong kind of item
pub not_marked : {g : Signs} (w : g.Word) (m : g.Mark) (t : Item g) → t ≡ word w → t ≡ marked m → ⊥
not_marked w m t e e' = cc

abbrev in_items : (g : Signs) → g.Word → Item g
in_items g w = word w

abbrev in_marks : (g : Signs) → g.Mark → Item g
in_marks g m = marked m

words_same : {g : Signs} (v w : g.Word) → in_items g v ≡ in_items g w → v ≡ w
words_same v w e = cc

marks_same : {g : Signs} (v w : g.Mark) → in_marks g v ≡ in_marks g w → v ≡ w
marks_same v w e = cc

module _ {g : Signs} (grammar : Grammar g) (choices : Choices g) (follow : Follow g)
    (laws : Lawful grammar choices follow) where
  -- a quiet production's sentence has no mark
  pub no_mark : {s : g.Sort} {p : Prod g s} {ts : List (Item g)} {x : g.Val s} (b c : List (Item g)) (m : g.Mark) →
      Is grammar s p ts x → Quiet follow p → ts ≡ b ++ marked m ∷ c → ⊥
  no_mark [] c m is_given q e = cc
  no_mark (t ∷ b) c m is_given q e = cc
  no_mark [] c m (is_word {w = w} {ts = ts} t a) q e =
      not_marked w m (word w) refl (same_first (word w) (marked m) ts c e)
  no_mark (u ∷ b) c m (is_word {w = w} {ts = ts} t a) q e =
      no_mark b c m a (q w t) (same_others (word w) u ts (b ++ marked m ∷ c) e)
  no_mark b c m (is_marked a) q e = q
  no_mark b c m (is_called {rule = rule} {p = p} {us = us} {vs = vs} {y = y} am a a' e') q e =
      elim (split us vs b c (marked m) (sym e' ∙ e)) [
        | inl d ↦ no_mark b d.0 m a (laws.quiet_rule rule p am q.0) d.1
        | inr d ↦ no_mark d.0 c m a' (q.1 y) d.2
      ]

  -- no words: marks alone, or nothing
  pub plain_part : {s : g.Sort} {p : Prod g s} {vs : List (Item g)} {x : g.Val s} (d c : List (Item g))
      (m : g.Mark) → Is grammar s p vs x → Plain follow p → vs ≡ d ++ marked m ∷ c →
      (w : g.Word) × (d' : List g.Word) × (words d ≡ w ∷ d')
  plain_part [] c m a h e = absurd (no_mark_first grammar choices follow laws m c a h e)
  plain_part (marked n ∷ d) c m a h e = absurd (no_mark_first grammar choices follow laws n (d ++ marked m ∷ c) a h e)
  plain_part (word w ∷ d) c m a h e = (w, words d, refl)

  head_of : (l rest r : List g.Word) (w : g.Word) (l' : List g.Word) → l ≡ w ∷ l' → head (l ++ rest) ≡ head (l ++ r)
  head_of l rest r w l' e = rw e refl

  -- the same alternative is chosen where the words before the mark are the same
  choose_before : {s : g.Sort} (rule : g.Rule s) (p : Prod g s) (before u : List (Item g)) (m : g.Mark) (x : g.Val s)
      (rest r : List g.Word) →
      Among p (grammar.alternatives rule) → Is grammar s p (before ++ marked m ∷ u) x →
      choose choices rule (words (before ++ marked m ∷ u) ++ r) ≡ take p →
      Ready grammar (only rule) before u r rest → choose choices rule (words before ++ rest) ≡ take p
  choose_before rule p [] u m x rest r am a c (inl same) = subst (λ l. choose choices rule l ≡ take p) (sym same) c
  choose_before rule p [] u m x rest r am a c (inr due) =
      by_plain (follow.plain rule) refl
    where
      begins : (ws : List g.Word) → DueIn grammar (only rule) [] ws → CanBegin grammar rule ws → ⊥
      begins [] d b = b
      begins (w ∷ ws) d b = d b.0 b.1 b.2

      by_plain : (b : Bool) → follow.plain rule ≡ b → choose choices rule rest ≡ take p
      by_plain true e = absurd (no_mark_first grammar choices follow laws m u a (laws.plain_rule rule p am e) refl)
      by_plain false e = elim ((laws.marked_rule rule p m u x am e a).1 rest) [
        | inl h ↦ h
        | inr h ↦ absurd (begins rest due h)
      ]
  choose_before rule p (marked n ∷ before) u m x rest r am a c due =
      by_plain (follow.plain rule) refl
    where
      not_empty : (l : List (Item g)) (t : Item g) (k : List (Item g)) → l ++ t ∷ k ≡ [] → ⊥
      not_empty [] t k e = cc
      not_empty (z ∷ l) t k e = cc

      by_plain : (b : Bool) → follow.plain rule ≡ b → choose choices rule (words before ++ rest) ≡ take p
      by_plain true e = absurd (no_mark_first grammar choices follow laws n _ a (laws.plain_rule rule p am e) refl)
      by_plain false e = absurd (not_empty before (marked m) u (laws.marked_rule rule p n _ x am e a).0)
  choose_before rule p (word w ∷ before) u m x rest r am a c due =
      by_looks (follow.looks rule (Some w)) refl
    where
      by_looks : (b : Bool) → follow.looks rule (Some w) ≡ b → choose choices rule (w ∷ (words before ++ rest)) ≡ take p
      by_looks true e = absurd
          (no_mark (word w ∷ before) u m a (laws.quiet_rule rule p am (laws.looks_quiet rule (Some w) e).0) refl)
      by_looks false e = laws.one_word rule (Some w) (head (words before ++ rest))
          (head (words (before ++ marked m ∷ u) ++ r)) e ∙ c

  due_word : {s : g.Sort} (test : g.Word → Bool) (next : g.Word → Prod g s) (w : g.Word) (before : List (Item g))
      (rest : List g.Word) → test w ≡ true →
      DueIn grammar (token test next) (word w ∷ before) rest → DueIn grammar (next w) before rest
  due_word test next w before rest t = due_by grammar (token test next) (next w) (word w ∷ before) before rest
      (λ v more x a. (more, x, is_word t a))

  due_mark : {s : g.Sort} (p : Prod g s) (m : g.Mark) (before : List (Item g)) (rest : List g.Word) →
      DueIn grammar (mark m p) (marked m ∷ before) rest → DueIn grammar p before rest
  due_mark p m before rest = due_by grammar (mark m p) p (marked m ∷ before) before rest
      (λ v more x a. (more, x, is_marked a))

  due_part : {s v : g.Sort} (rule : g.Rule v) (next : g.Val v → Prod g s) (before : List (Item g))
      (rest : List g.Word) → ((y : g.Val v) → Goes (next y)) →
      DueIn grammar (call rule next) before rest → DueIn grammar (only rule) before rest
  due_part rule next before rest go = due_by grammar (call rule next) (only rule) before before rest
      (λ w more y a.
      let e = has_end grammar choices follow laws (next y) (go y) in (
        more ++ e.0,
        e.1,
        subst (λ l. Is grammar _ (call rule next) l e.1) (append_assoc before (word w ∷ more) e.0)
            (extend grammar a e.2),
      ))

  due_only : {v : g.Sort} (rule : g.Rule v) (p : Prod g v) (before : List (Item g)) (rest : List g.Word) →
      Among p (grammar.alternatives rule) → DueIn grammar (only rule) before rest → DueIn grammar p before rest
  due_only rule p before rest am = due_by grammar (only rule) p before before rest
      (λ w more y a. (more, y, alone grammar am a))

  due_next : {s v : g.Sort} (rule : g.Rule v) (next : g.Val v → Prod g s) (p : Prod g v)
      (us d before : List (Item g)) (y : g.Val v) (rest : List g.Word) → Among p (grammar.alternatives rule) →
      Is grammar v p us y →
      before ≡ us ++ d → DueIn grammar (call rule next) before rest → DueIn grammar (next y) d rest
  due_next rule next p us d before y rest am a e = due_by grammar (call rule next) (next y) before d rest
      (λ w more x b. (
        more,
        x,
        subst (λ l. Is grammar _ (call rule next) l x)
            (sym (ap (λ l. l ++ word w ∷ more) e ∙ append_assoc us d (word w ∷ more)))
            (extend grammar (alone grammar am a) b),
      ))

  same_fit : {v : g.Sort} (rule : g.Rule v) (vs d more : List (Item g)) (m : g.Mark) (r rest : List g.Word)
      (w : g.Word) (d' : List g.Word) → vs ≡ d ++ marked m ∷ more → words d ≡ w ∷ d' →
      follow.fits rule (head (words vs ++ r)) ≡ true → follow.fits rule (head (words d ++ rest)) ≡ true
  same_fit rule vs d more m r rest w d' e e' h =
      let first : words vs ++ r ≡ (w ∷ d') ++ (words more ++ r) =
      ap (λ l. words l ++ r) e ∙ words_before d (marked m ∷ more) r ∙ ap (λ l. l ++ (words more ++ r)) e' in
      subst (λ l. follow.fits rule (head (l ++ rest)) ≡ true) (sym e')
      (subst (λ l. follow.fits rule (head l) ≡ true) first h)

  -- what stands behind the mark: the rest of the part and what follows the part
  same_behind : (us vs before d more : List (Item g)) (m : g.Mark) (r : List g.Word) → us ≡ before ++ marked m ∷ d →
      us ++ vs ≡ before ++ marked m ∷ more → words more ++ r ≡ words d ++ (words vs ++ r)
  same_behind us vs before d more m r e e' =
      let k : before ++ marked m ∷ (d ++ vs) ≡ before ++ marked m ∷ more =
      sym (append_assoc before (marked m ∷ d) vs) ∙ sym (ap (λ l. l ++ vs) e) ∙ e' in
      ap (λ l. words l ++ r) (sym (same_others (marked m) (marked m) (d ++ vs) more (cancel before _ _ k)))
      ∙ words_before d vs r
    where
      cancel : (b x y : List (Item g)) → b ++ x ≡ b ++ y → x ≡ y
      cancel [] x y e = e
      cancel (t ∷ b) x y e = cancel b x y (same_others t t _ _ e)

  -- a sentence is read up to its first clash
  pub clashing : {s : g.Sort} {p : Prod g s} {ts : List (Item g)} {x : g.Val s} (fit : Option g.Word → Bool)
      (ms : List g.Mark) (before more : List (Item g)) (m : g.Mark) (r rest : List g.Word) →
      Is grammar s p ts x → Follows grammar follow fit p → Goes p → ts ≡ before ++ marked m ∷ more →
      Clear grammar ms before → grammar.clashes (marks_after ms before) m ≡ true →
      fit (head r) ≡ true → Ready grammar p before more r rest →
      Reads grammar choices s p ms (words before ++ rest) (fault (Twice m) rest)
  clashing fit ms [] more m r rest is_given f go e c k h due = cc
  clashing fit ms (t ∷ before) more m r rest is_given f go e c k h due = cc
  clashing fit ms [] more m r rest (is_word {w = w} {ts = ts} t a) f go e c k h due =
      absurd (not_marked w m (word w) refl (same_first (word w) (marked m) ts more e))
  clashing fit ms (marked n ∷ before) more m r rest (is_word {w = w} {ts = ts} t a) f go e c k h due =
      absurd (not_marked w n (word w) refl (same_first (word w) (marked n) ts (before ++ marked m ∷ more) e))
  clashing {s} fit ms (word w' ∷ before) more m r rest (is_word {test = test} {next = next} {w = w} {ts = ts} t a) f
      go e c k h due =
      let same : w ≡ w' = words_same w w' (same_first (word w) (word w') ts (before ++ marked m ∷ more) e) in
      let due' = subst (λ z. Ready grammar (token test next) (word z ∷ before) more r rest) (sym same) due in
      subst (λ z. Reads grammar choices s (token test next) ms (z ∷ (words before ++ rest)) (fault (Twice m) rest)) same
      (by_word t (clashing fit ms before more m r rest a (f w t) (go.1 w t)
      (same_others (word w) (word w') ts (before ++ marked m ∷ more) e) c k h
      (ready_by grammar (token test next) (next w) (word w ∷ before) before more more r r rest refl
      (due_word test next w before rest t) due')))
  clashing {s} fit ms [] more m r rest (is_marked {m = m'} {p = p} {ts = ts} a) f go e c k h due =
      subst (λ z. Reads grammar choices s (mark z p) ms rest (fault (Twice m) rest))
      (sym (marks_same m' m (same_first (marked m') (marked m) ts more e))) (by_clash k)
  clashing fit ms (word w ∷ before) more m r rest (is_marked {m = m'} {ts = ts} a) f go e c k h due =
      absurd (not_marked w m' (marked m') (same_first (marked m') (word w) ts (before ++ marked m ∷ more) e) refl)
  clashing {s} fit ms (marked n ∷ before) more m r rest (is_marked {m = m'} {p = p} {ts = ts} a) f go e c k h due =
      let same : m' ≡ n = marks_same m' n (same_first (marked m') (marked n) ts (before ++ marked m ∷ more) e) in
      let due' = subst (λ z. Ready grammar (mark z p) (marked n ∷ before) more r rest) same due in
      subst (λ z. Reads grammar choices s (mark z p) ms (words before ++ rest) (fault (Twice m) rest)) (sym same)
      (by_mark c.0 (clashing fit (n ∷ ms) before more m r rest a f go
      (same_others (marked m') (marked n) ts (before ++ marked m ∷ more) e) c.1 k h
      (ready_by grammar (mark n p) p (marked n ∷ before) before more more r r rest refl
      (due_mark p n before rest) due')))
  clashing {s} {x = x} fit ms before more m r rest
      (is_called {v = v} {rule = rule} {next = next} {p = p} {us = us} {vs = vs} {y = y} am a a' e') f go e c k h due =
      let fits = (f y).2 vs x r a' h in
      elim (split us vs before more (marked m) (sym e' ∙ e)) [
        | inl d ↦
            let behind = same_behind us vs before d.0 more m r d.1 (sym e' ∙ e) in
            let due_rule = ready_by grammar (call rule next) (only rule) before before more d.0 r
            (words vs ++ r) rest behind (due_part rule next before rest go) due in
            let choice = choose_before rule p before d.0 m y rest (words vs ++ r) am
            (subst (λ l. Is grammar v p l y) d.1 a)
            (subst (λ l. choose choices rule (words l ++ (words vs ++ r)) ≡ take p) d.1
            (laws.chooses rule p us y (words vs ++ r) am a fits)) due_rule in
            by_fault choice (clashing (follow.fits rule) ms before d.0 m (words vs ++ r) rest a
            (laws.follows rule p am) (laws.goes rule p am) d.1 c k fits
            (ready_by grammar (only rule) p before before d.0 d.0 (words vs ++ r) (words vs ++ r) rest refl
            (due_only rule p before rest am) due_rule))
        | inr d ↦
            let c' = subst (λ l. Clear grammar ms l) d.1 c in
            let k' = subst (λ l. grammar.clashes l m ≡ true) (ap (λ l. marks_after ms l) d.1
            ∙ marks_append ms us d.0) k in
            let n = plain_part d.0 more m a' (f y).1 d.2 in
            let fits' = same_fit rule vs d.0 more m r rest n.0 n.1 d.2 n.2 fits in
            let part = complete grammar choices follow laws (follow.fits rule) ms (words d.0 ++ rest) a
            (laws.follows rule p am) (clear_first grammar ms us d.0 c') fits' in
            let others = clashing fit (marks_after ms us) d.0 more m r rest a' (f y).0 (go y) d.2
            (clear_second grammar ms us d.0 c') k' h
            (ready_by grammar (call rule next) (next y) before d.0 more more r r rest refl
            (due_next rule next p us d.0 before y rest am a d.1) due) in
            subst (λ l. Reads grammar choices s (call rule next) ms l (fault (Twice m) rest))
            (sym (ap (λ l. words l ++ rest) d.1 ∙ words_before us d.0 rest))
            (by_call (laws.chooses rule p us y (words d.0 ++ rest) am a fits') part others)
      ]

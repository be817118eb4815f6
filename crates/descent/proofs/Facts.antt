-- What is read is a sentence, or goes on as one from where the fault stands; and one word more is looked at, at most.
use Rattle.std.proofs.Common.{◌≡◌, ◌<◌, Bool, true, false, List, [], ◌∷◌, ◌++◌, Option, Some, length, refl, sym, ap}
use Rattle.std.proofs.Common.{◌∙◌, append_assoc, subst, arith}
use Rattle.descent.specs.Grammar.{Signs, Grammar, Prod, token, call, mark, Item, word, marked, Is, is_given, is_word}
use Rattle.descent.specs.Grammar.{is_marked, is_called, words, marks_after, Clear}
use Rattle.descent.specs.Reading.{Choice, Choices, take, too_deep, barred, nothing, head, choose, Outcome, done, fault}
use Rattle.descent.specs.Reading.{Why, Unexpected, Deep, Barred, Twice, Reads, by_give, by_word, by_other, by_end}
use Rattle.descent.specs.Reading.{by_mark, by_clash, by_call, by_fault, by_depth, by_bar, by_nothing}
use Rattle.descent.specs.Lawful.{Follow, Goes, Lawful, left}
use Rattle.descent.proofs.Lists.{SameHead, same_end, same_word, heads, words_before, marks_append, clear_both}
use Rattle.descent.proofs.Complete.{extend, has_end}

-- what is behind the fault of something that counts twice
abbrev pub Reason : {g : Signs} → Grammar g → Why g → List g.Mark → List (Item g) → Type 0
Reason {g} grammar (Twice m) ms more = ((others : List (Item g)) × (more ≡ marked m ∷ others))
    × (grammar.clashes ms m ≡ true)
Reason grammar Unexpected ms more = Unit {0}
Reason grammar Deep ms more = Unit {0}
Reason grammar Barred ms more = Unit {0}

module _ {g : Signs} (grammar : Grammar g) (choices : Choices g) where
  -- a value is read from the front
  pub record Took {s : g.Sort} (p : Prod g s) (ms : List g.Mark) (ws : List g.Word) (x : g.Val s) (ns : List g.Mark)
      (rest : List g.Word) : Type 0 where
    pub items : List (Item g)
    pub whole : ws ≡ words items ++ rest
    pub after : ns ≡ marks_after ms items
    pub clear : Clear grammar ms items
    pub says : Is grammar s p items x
    -- whatever follows the next word
    pub again : (r : List g.Word) → SameHead rest r → Reads grammar choices s p ms (words items ++ r) (done x ns r)

  -- the reading stops at a fault
  pub record Failed {s : g.Sort} (p : Prod g s) (ms : List g.Mark) (ws : List g.Word) (why : Why g)
      (rest : List g.Word) : Type 0 where
    pub items : List (Item g)
    pub whole : ws ≡ words items ++ rest
    pub clear : Clear grammar ms items
    -- something goes on from there
    pub more : List (Item g)
    pub value : g.Val s
    pub says : Is grammar s p (items ++ more) value
    pub reason : Reason grammar why (marks_after ms items) more
    pub again : (r : List g.Word) → SameHead rest r → Reads grammar choices s p ms (words items ++ r) (fault why r)

  -- what an outcome says of the words: a sentence in front with this value, or the front of one up to the fault
  abbrev pub Front : {s : g.Sort} → Prod g s → List g.Mark → List g.Word → Outcome g s → Type 0
  Front p ms ws (done x ns rest) = Took p ms ws x ns rest
  Front p ms ws (fault why rest) = Failed p ms ws why rest

  -- ---- a word, or a mark, and then the rest

  word_front : {s : g.Sort} (test : g.Word → Bool) (next : g.Word → Prod g s) (w : g.Word) (ms : List g.Mark)
      (ws : List g.Word) (o : Outcome g s) → test w ≡ true →
      Front (next w) ms ws o → Front (token test next) ms (w ∷ ws) o
  word_front test next w ms ws (done x ns rest) t f = record {
    items = word w ∷ f.items;
    whole = ap (λ l. w ∷ l) f.whole;
    after = f.after;
    clear = f.clear;
    says = is_word t f.says;
    again = λ r h. by_word t (f.again r h);
  }
  word_front test next w ms ws (fault why rest) t f = record {
    items = word w ∷ f.items;
    whole = ap (λ l. w ∷ l) f.whole;
    clear = f.clear;
    more = f.more;
    value = f.value;
    says = is_word t f.says;
    reason = f.reason;
    again = λ r h. by_word t (f.again r h);
  }

  mark_front : {s : g.Sort} (m : g.Mark) (p : Prod g s) (ms : List g.Mark) (ws : List g.Word) (o : Outcome g s) →
      grammar.clashes ms m ≡ false →
      Front p (m ∷ ms) ws o → Front (mark m p) ms ws o
  mark_front m p ms ws (done x ns rest) c f = record {
    items = marked m ∷ f.items;
    whole = f.whole;
    after = f.after;
    clear = (c, f.clear);
    says = is_marked f.says;
    again = λ r h. by_mark c (f.again r h);
  }
  mark_front m p ms ws (fault why rest) c f = record {
    items = marked m ∷ f.items;
    whole = f.whole;
    clear = (c, f.clear);
    more = f.more;
    value = f.value;
    says = is_marked f.says;
    reason = f.reason;
    again = λ r h. by_mark c (f.again r h);
  }

module _ {g : Signs} (grammar : Grammar g) (choices : Choices g) (follow : Follow g)
    (laws : Lawful grammar choices follow) where
  longer : {A : Type 0} (l : List A) → length l < length l → ⊥
  longer l h = omega (arith, h)

  -- a choice is made again
  choose_again : {s : g.Sort} (rule : g.Rule s) (c : Choice g s) (us ws rest r : List g.Word) →
      choose choices rule ws ≡ c → ws ≡ us ++ rest → SameHead rest r →
      ((w : g.Word) → head ws ≡ Some w → follow.looks rule (Some w) ≡ true → length rest < length ws) →
      choose choices rule (us ++ r) ≡ c
  choose_again rule c [] ws rest r d e same_end p = subst (λ l. choose choices rule l ≡ c) e d
  choose_again rule c [] ws rest r d e (same_word {w = w} {xs = xs} {ys = ys}) p =
      by_looks (follow.looks rule (Some w)) refl
    where
      by_looks : (b : Bool) → follow.looks rule (Some w) ≡ b → choose choices rule (w ∷ ys) ≡ c
      by_looks true q = absurd
          (longer (w ∷ xs) (subst (λ l. length (w ∷ xs) < length l) e (p w (ap (λ l. head l) e) q)))
      by_looks false q = laws.one_word rule (Some w) (head ys) (head xs) q ∙ subst (λ l. choose choices rule l ≡ c) e d
  choose_again rule c (u ∷ []) ws rest r d e same_end p = subst (λ l. choose choices rule l ≡ c) e d
  choose_again rule c (u ∷ []) ws rest r d e same_word p = subst (λ l. choose choices rule l ≡ c) e d
  choose_again rule c (u ∷ v ∷ us) ws rest r d e h p = subst (λ l. choose choices rule l ≡ c) e d

  -- the same where nothing is read, and nothing chosen
  stays : {s : g.Sort} (rule : g.Rule s) (c : Choice g s) (ws r : List g.Word) → choose choices rule ws ≡ c →
      SameHead ws r →
      ((w : g.Word) (b : Option g.Word) → follow.looks rule (Some w) ≡ true → choices.pick rule (Some w) b ≡ c → ⊥) →
      choose choices rule r ≡ c
  stays rule c ws r d same_end p = d
  stays rule c ws r d (same_word {w = w} {xs = xs} {ys = ys}) p = by_looks (follow.looks rule (Some w)) refl
    where
      by_looks : (b : Bool) → follow.looks rule (Some w) ≡ b → choose choices rule (w ∷ ys) ≡ c
      by_looks true q = absurd (p w (head xs) q d)
      by_looks false q = laws.one_word rule (Some w) (head ys) (head xs) q ∙ d

  same_heads : (us r r' ws : List g.Word) → ws ≡ us ++ r → SameHead r r' → SameHead ws (us ++ r')
  same_heads us r r' ws e h = subst (λ l. SameHead l (us ++ r')) (sym e) (heads us h)

  passes_by : {s : g.Sort} (rule : g.Rule s) (p : Prod g s) (ms : List g.Mark) (ws : List g.Word) (o : Outcome g s) →
      choose choices rule ws ≡ take p → Reads grammar choices s p ms ws o →
      (w : g.Word) → head ws ≡ Some w → follow.looks rule (Some w) ≡ true → length (left o) < length ws
  passes_by rule p ms [] o c a w e q = cc
  passes_by rule p ms (v ∷ ws) o c a w e q =
      let same : v ≡ w = cc in
      laws.passes rule v ws p ms o (subst (λ z. follow.looks rule (Some z) ≡ true) (sym same) q) c a

  -- ---- a part, and then the rest

  fails_here : {s : g.Sort} (p : Prod g s) (ms : List g.Mark) (ws : List g.Word) (why : Why g) → Goes p →
      ((ns : List g.Mark) (more : List (Item g)) → Reason grammar why ns more) →
      ((r : List g.Word) → SameHead ws r → Reads grammar choices s p ms r (fault why r)) →
      Failed grammar choices p ms ws why ws
  fails_here p ms ws why go reason again =
      let e = has_end grammar choices follow laws p go in
      record {
        items = [];
        whole = refl;
        clear = tt;
        more = e.0;
        value = e.1;
        says = e.2;
        reason = reason ms e.0;
        again = again;
      }

  call_front : {s v : g.Sort} (rule : g.Rule v) (next : g.Val v → Prod g s) (p : Prod g v) (ms ns : List g.Mark)
      (ws rest : List g.Word) (y : g.Val v) (o : Outcome g s) →
      choose choices rule ws ≡ take p → Reads grammar choices v p ms ws (done y ns rest) →
      Took grammar choices p ms ws y ns rest → Front grammar choices (next y) ns rest o →
      Front grammar choices (call rule next) ms ws o
  call_front rule next p ms ns ws rest y (done x ks rest') c a f b = record {
    items = f.items ++ b.items;
    whole = f.whole ∙ ap (λ l. words f.items ++ l) b.whole ∙ sym (words_before f.items b.items rest');
    after = b.after ∙ ap (λ l. marks_after l b.items) f.after ∙ sym (marks_append ms f.items b.items);
    clear = clear_both grammar ms f.items b.items f.clear (subst (λ l. Clear grammar l b.items) f.after b.clear);
    says = is_called (laws.chosen rule _ _ p c) f.says b.says refl;
    again = λ r h.
        let h' = same_heads (words b.items) rest' r rest b.whole h in
        subst (λ l. Reads grammar choices _ (call rule next) ms l (done x ks r)) (sym (words_before f.items b.items r))
        (by_call (choose_again rule (take p) (words f.items) ws rest (words b.items ++ r) c f.whole h'
        (passes_by rule p ms ws _ c a)) (f.again (words b.items ++ r) h') (b.again r h));
  }
  call_front rule next p ms ns ws rest y (fault why rest') c a f b = record {
    items = f.items ++ b.items;
    whole = f.whole ∙ ap (λ l. words f.items ++ l) b.whole ∙ sym (words_before f.items b.items rest');
    clear = clear_both grammar ms f.items b.items f.clear (subst (λ l. Clear grammar l b.items) f.after b.clear);
    more = b.more;
    value = b.value;
    says = is_called (laws.chosen rule _ _ p c) f.says b.says (append_assoc f.items b.items b.more);
    reason = subst (λ l. Reason grammar why l b.more) (ap (λ l. marks_after l b.items) f.after
        ∙ sym (marks_append ms f.items b.items)) b.reason;
    again = λ r h.
        let h' = same_heads (words b.items) rest' r rest b.whole h in
        subst (λ l. Reads grammar choices _ (call rule next) ms l (fault why r)) (sym (words_before f.items b.items r))
        (by_call (choose_again rule (take p) (words f.items) ws rest (words b.items ++ r) c f.whole h'
        (passes_by rule p ms ws _ c a)) (f.again (words b.items ++ r) h') (b.again r h));
  }

  more_reason : (why : Why g) (ns : List g.Mark) (more others : List (Item g)) → Reason grammar why ns more →
      Reason grammar why ns (more ++ others)
  more_reason (Twice m) ns more others h = ((h.0.0 ++ others, ap (λ l. l ++ others) h.0.1), h.1)
  more_reason Unexpected ns more others h = tt
  more_reason Deep ns more others h = tt
  more_reason Barred ns more others h = tt

  part_front : {s v : g.Sort} (rule : g.Rule v) (next : g.Val v → Prod g s) (p : Prod g v) (ms : List g.Mark)
      (ws rest : List g.Word) (why : Why g) → ((y : g.Val v) → Goes (next y)) →
      choose choices rule ws ≡ take p → Reads grammar choices v p ms ws (fault why rest) →
      Failed grammar choices p ms ws why rest → Failed grammar choices (call rule next) ms ws why rest
  part_front rule next p ms ws rest why go c a f =
      let e = has_end grammar choices follow laws (next f.value) (go f.value) in
      record {
        items = f.items;
        whole = f.whole;
        clear = f.clear;
        more = f.more ++ e.0;
        value = e.1;
        says = is_called (laws.chosen rule _ _ p c) f.says e.2 (sym (append_assoc f.items f.more e.0));
        reason = more_reason why (marks_after ms f.items) f.more e.0 f.reason;
        again = λ r h. by_fault (choose_again rule (take p) (words f.items) ws rest r c f.whole h
            (passes_by rule p ms ws _ c a)) (f.again r h);
      }

  end_again : {s : g.Sort} (test : g.Word → Bool) (next : g.Word → Prod g s) (ms : List g.Mark) (r : List g.Word) →
      SameHead [] r → Reads grammar choices s (token test next) ms r (fault Unexpected r)
  end_again test next ms r same_end = by_end

  other_again : {s : g.Sort} (test : g.Word → Bool) (next : g.Word → Prod g s) (ms : List g.Mark) (w : g.Word)
      (ws r : List g.Word) → test w ≡ false → SameHead (w ∷ ws) r →
      Reads grammar choices s (token test next) ms r (fault Unexpected r)
  other_again test next ms w ws r t same_word = by_other t

  bar_front : {s v : g.Sort} (rule : g.Rule v) (next : g.Val v → Prod g s) (ms : List g.Mark) (w : g.Word)
      (ws : List g.Word) → ((y : g.Val v) → Goes (next y)) →
      choose choices rule (w ∷ ws) ≡ barred → Failed grammar choices (call rule next) ms (w ∷ ws) Barred ws
  bar_front rule next ms w ws go c =
      let b = (laws.bars rule w (head ws) c).1 in
      let e = has_end grammar choices follow laws (next b.1) (go b.1) in
      record {
        items = word w ∷ [];
        whole = refl;
        clear = tt;
        more = b.0 ++ e.0;
        value = e.1;
        says = extend grammar b.2 e.2;
        reason = tt;
        again = λ r h. by_bar (again r h);
      }
    where
      again : (r : List g.Word) → SameHead ws r → choose choices rule (w ∷ r) ≡ barred
      again r h = same ws r h c
        where
          same : (xs ys : List g.Word) → SameHead xs ys → choose choices rule (w ∷ xs) ≡ barred →
              choose choices rule (w ∷ ys) ≡ barred
          same xs ys same_end c = c
          same xs ys same_word c = c

  -- reading is sound: each outcome tells what it says of the words, by induction over the reading
  pub facts : {s : g.Sort} {p : Prod g s} {ms : List g.Mark} {ws : List g.Word} {o : Outcome g s} →
      Reads grammar choices s p ms ws o → Goes p → Front grammar choices p ms ws o
  facts by_give go = record {
    items = [];
    whole = refl;
    after = refl;
    clear = tt;
    says = is_given;
    again = λ r h.
        by_give;
  }
  facts (by_word {test = test} {next = next} {ms = ms} {w = w} {ws = ws} {o = o} t a) go =
      word_front grammar choices test next w ms ws o t (facts a (go.1 w t))
  facts (by_other {test = test} {next = next} {ms = ms} {w = w} {ws = ws} t) go =
      fails_here (token test next) ms (w ∷ ws) Unexpected go (λ ns more. tt)
      (λ r h. other_again test next ms w ws r t h)
  facts (by_end {test = test} {next = next} {ms = ms}) go = fails_here (token test next) ms [] Unexpected go
      (λ ns more. tt) (λ r h. end_again test next ms r h)
  facts (by_mark {m = m} {p = p} {ms = ms} {ws = ws} {o = o} c a) go = mark_front grammar choices m p ms ws o c
      (facts a go)
  facts (by_clash {m = m} {p = p} {ms = ms} {ws = ws} c) go =
      let e = has_end grammar choices follow laws p go in
      record {
        items = [];
        whole = refl;
        clear = tt;
        more = marked m ∷ e.0;
        value = e.1;
        says = is_marked e.2;
        reason = ((e.0, refl), c);
        again = λ r h. by_clash c;
      }
  facts (by_call {rule = rule} {next = next} {p = p} {ms = ms} {ns = ns} {ws = ws} {rest = rest} {y = y} {o = o} c a
      b) go =
      call_front rule next p ms ns ws rest y o c a (facts a (laws.goes rule p (laws.chosen rule _ _ p c)))
      (facts b (go y))
  facts (by_fault {rule = rule} {next = next} {p = p} {ms = ms} {ws = ws} {rest = rest} {why = why} c a) go =
      part_front rule next p ms ws rest why go c a (facts a (laws.goes rule p (laws.chosen rule _ _ p c)))
  facts (by_depth {rule = rule} {next = next} {ms = ms} {ws = ws} c) go =
      fails_here (call rule next) ms ws Deep go (λ ns more. tt)
      (λ r h. by_depth (stays rule too_deep ws r c h (λ w b q d. (laws.one_word_stops rule w b q).0 d)))
  facts (by_bar {rule = rule} {next = next} {ms = ms} {w = w} {ws = ws} c) go = bar_front rule next ms w ws go c
  facts (by_nothing {rule = rule} {next = next} {ms = ms} {ws = ws} c) go =
      fails_here (call rule next) ms ws Unexpected go (λ ns more. tt)
      (λ r h. by_nothing (stays rule nothing ws r c h (λ w b q d. (laws.one_word_stops rule w b q).1 d)))

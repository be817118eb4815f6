-- What reading a whole text says: its value, or its first fault.
use Rattle.std.proofs.Common.{◌≡◌, ◌⊎◌, inl, inr, Bool, true, false, List, [], ◌∷◌, ◌++◌, Option, None, length, refl}
use Rattle.std.proofs.Common.{sym, ap, ◌∙◌, append_assoc, append-nil, subst, arith}
use Rattle.std.proofs.lemmas.List.{length-append}
use Rattle.descent.specs.Grammar.{Signs, Grammar, give, Item, word, marked, Is, is_given, only, words, marks_after}
use Rattle.descent.specs.Grammar.{Clear, Says, Spells}
use Rattle.descent.specs.Faults.{Stuck, Stops, Due, Clashes, NoClash}
use Rattle.descent.specs.Reading.{Choices, head, Outcome, done, fault, Why, Unexpected, Deep, Barred, Twice, Reads}
use Rattle.descent.specs.Lawful.{Follow, Follows, Goes, Lawful}
use Rattle.descent.proofs.Laws.{det, fault_in}
use Rattle.descent.proofs.Lists.{SameHead, same_end, same_word, split, same_first, same_others, words_append}
use Rattle.descent.proofs.Lists.{words_before}
use Rattle.descent.proofs.Complete.{complete}
use Rattle.descent.proofs.Clashing.{DueIn, clashing, not_marked}
use Rattle.descent.proofs.Facts.{Failed, facts}

-- the reading stops where no text goes on: at a fault, but not one of a name that counts twice, or before a word
abbrev pub IsStop : {g : Signs} {s : g.Sort} → Outcome g s → Type 0
IsStop (done x ms []) = ⊥
IsStop (done x ms (w ∷ ws)) = Unit {0}
IsStop (fault Unexpected ws) = Unit {0}
IsStop (fault Deep ws) = Unit {0}
IsStop (fault Barred ws) = Unit {0}
IsStop (fault (Twice m) ws) = ⊥

abbrev done_in : (g : Signs) (s : g.Sort) → g.Val s → List g.Mark → List g.Word → Outcome g s
done_in g s x ms ws = done x ms ws

-- the words from where the reading stopped on, be it at a value or at a fault
abbrev pub rest_of : {g : Signs} {s : g.Sort} → Outcome g s → List g.Word
rest_of (done x ms ws) = ws
rest_of (fault why ws) = ws

-- the first clash of a sentence
pub record FirstClash {g : Signs} (grammar : Grammar g) (ms : List g.Mark) (ts : List (Item g)) : Type 0 where
  pub before : List (Item g)
  pub at : g.Mark
  pub behind : List (Item g)
  pub whole : ts ≡ before ++ marked at ∷ behind
  pub clear : Clear grammar ms before
  pub clash : grammar.clashes (marks_after ms before) at ≡ true

module _ {g : Signs} (grammar : Grammar g) where
  mark_clash : (ms : List g.Mark) (m : g.Mark) (ts : List (Item g)) (b : Bool) → grammar.clashes ms m ≡ b →
      Clear grammar (m ∷ ms) ts ⊎ FirstClash grammar (m ∷ ms) ts → Clear grammar ms (marked m ∷ ts)
      ⊎ FirstClash grammar ms (marked m ∷ ts)
  mark_clash ms m ts true e h = inr (record { before = []; at = m; behind = ts; whole = refl; clear = tt; clash = e })
  mark_clash ms m ts false e (inl c) = inl (e, c)
  mark_clash ms m ts false e (inr f) =
      inr (record {
        before = marked m ∷ f.before;
        at = f.at;
        behind = f.behind;
        whole =
            ap (λ l. marked m ∷ l) f.whole;
        clear = (e, f.clear);
        clash = f.clash;
      })

  first_clash : (ms : List g.Mark) (ts : List (Item g)) → Clear grammar ms ts ⊎ FirstClash grammar ms ts
  first_clash ms [] = inl tt
  first_clash ms (word w ∷ ts) = elim (first_clash ms ts) [
    | inl c ↦ inl c
    | inr f ↦ inr (record {
      before = word w ∷ f.before;
      at = f.at;
      behind = f.behind;
      whole =
          ap (λ l. word w ∷ l) f.whole;
      clear = f.clear;
      clash = f.clash;
    })
  ]
  first_clash ms (marked m ∷ ts) = mark_clash ms m ts (grammar.clashes ms m) refl (first_clash (m ∷ ms) ts)

  -- a clear beginning holds no clash
  no_clash_in : (ms : List g.Mark) (b d : List (Item g)) (m : g.Mark) → Clear grammar ms (b ++ marked m ∷ d) →
      grammar.clashes (marks_after ms b) m ≡ true → ⊥
  no_clash_in ms [] d m c k = cc
  no_clash_in ms (word w ∷ b) d m c k = no_clash_in ms b d m c k
  no_clash_in ms (marked n ∷ b) d m c k = no_clash_in (n ∷ ms) b d m c.1 k

module _ {g : Signs} (grammar : Grammar g) (choices : Choices g) (follow : Follow g)
    (laws : Lawful grammar choices follow) {s : g.Sort} (rule : g.Rule s) (ends : follow.fits rule None ≡ true) where
  abbrev fit : Option g.Word → Bool
  fit = follow.fits rule

  given_follows : (y : g.Val s) (ts : List (Item g)) (x : g.Val s) (rest : List g.Word) →
      Is grammar s (give y) ts x → fit (head rest) ≡ true → fit (head (words ts ++ rest)) ≡ true
  given_follows y [] x rest a h = h
  given_follows y (t ∷ ts) x rest a h = absurd (nothing_given y (t ∷ ts) x t ts a refl)
    where
      nothing_given : (y : g.Val s) (us : List (Item g)) (x : g.Val s) (t : Item g) (ts : List (Item g)) →
          Is grammar s (give y) us x → us ≡ t ∷ ts → ⊥
      nothing_given y us x t ts is_given e = cc

  only_follows : Follows grammar follow {s = s} fit (only {g = g} {s = s} rule)
  only_follows = λ y. (tt, tt, given_follows y)

  only_goes : Goes {g = g} {s = s} (only {g = g} {s = s} rule)
  only_goes = λ y. tt

  -- what a sentence is read as
  said : (ts : List (Item g)) (x : g.Val s) → Says grammar rule ts x → (o : Outcome g s)
      × (Reads grammar choices s (only rule) [] (words ts ++ []) o) × (IsStop o → ⊥)
  said ts x a = elim (first_clash grammar [] ts) [
    | inl c ↦ (
      done x (marks_after [] ts) [],
      complete grammar choices follow laws fit [] [] a only_follows c ends,
      λ h. h,
    )
    | inr f ↦ (
      fault (Twice f.at) (words f.behind ++ []),
      subst (λ l. Reads grammar choices s (only rule) [] l (fault (Twice f.at) (words f.behind ++ [])))
          (sym (ap (λ l. words l ++ []) f.whole ∙ words_before f.before (marked f.at ∷ f.behind) []))
          (clashing grammar choices follow laws fit [] f.before f.behind f.at []
          (words f.behind ++ []) a only_follows only_goes f.whole f.clear f.clash ends (inl refl)),
      λ h. h,
    )
  ]

  -- ---- a text is read, in one way

  -- each text of the rule is read whole, with its value (completeness)
  pub read : (ws : List g.Word) (x : g.Val s) → Spells grammar rule ws x → (ns : List g.Mark)
      × Reads grammar choices s (only rule) [] ws (done x ns [])
  read ws x a = (
    marks_after [] a.items,
    subst (λ l. Reads grammar choices s (only rule) [] l (done x (marks_after [] a.items) []))
        (append-nil (words a.items) ∙ a.spelled)
        (complete grammar choices follow laws fit [] [] a.says only_follows a.clear ends),
  )

  -- words that are read whole are a text of the rule with that value (soundness)
  pub found : (ws : List g.Word) (x : g.Val s) (ns : List g.Mark) →
      Reads grammar choices s (only rule) [] ws (done x ns []) → Spells grammar rule ws x
  found ws x ns a =
      let f = facts grammar choices follow laws a only_goes in
      record { items = f.items; spelled = sym (f.whole ∙ append-nil (words f.items)); says = f.says; clear = f.clear }

  same_value : (x y : g.Val s) (ms ns : List g.Mark) (r : List g.Word) → done_in g s x ms [] ≡ done y ns r → x ≡ y
  same_value x y ms ns r e = cc

  -- a text has one value: the grammar is unambiguous, since reading is a function
  pub one_tree : (ws : List g.Word) (x y : g.Val s) → Spells grammar rule ws x → Spells grammar rule ws y → x ≡ y
  one_tree ws x y a b = same_value x y _ _ [] (det grammar choices (read ws x a).1 (read ws y b).1)

  -- words at which the reading stops before their end, or at a fault of no mark, are no text of the rule
  pub stop_spells_none : (ws : List g.Word) (x : g.Val s) (o : Outcome g s) →
      Reads grammar choices s (only rule) [] ws o → IsStop o → Spells grammar rule ws x → ⊥
  stop_spells_none ws x o a h b = subst (λ o. IsStop o) (sym (det grammar choices (read ws x b).1 a)) h

  -- words whose reading ends at a mark that clashes are no text of the rule
  pub twice_spells_none : (ws rest : List g.Word) (x : g.Val s) (m : g.Mark) →
      Reads grammar choices s (only rule) [] ws (fault (Twice m) rest) → Spells grammar rule ws x → ⊥
  twice_spells_none ws rest x m a b = apart (det grammar choices (read ws x b).1 a)
    where
      apart : {x : g.Val s} {ns : List g.Mark} → done_in g s x ns [] ≡ fault_in g s (Twice m) rest → ⊥
      apart e = cc

  -- ---- where the reading stops

  -- it stops so whatever follows the next word
  record Stopped (ws rest : List g.Word) : Type 0 where
    items : List (Item g)
    whole : ws ≡ words items ++ rest
    more : List (Item g)
    value : g.Val s
    says : Says grammar rule (items ++ more) value
    again : (r : List g.Word) → SameHead rest r → (o : Outcome g s)
        × Reads grammar choices s (only rule) [] (words items ++ r) o × IsStop o

  stop_again : (x : g.Val s) (ns : List g.Mark) (rest r : List g.Word) → SameHead rest r →
      IsStop (done_in g s x ns rest) → IsStop (done_in g s x ns r)
  stop_again x ns rest r same_end h = h
  stop_again x ns rest r same_word h = h

  why_again : (why : Why g) (rest r : List g.Word) → IsStop (fault_in g s why rest) → IsStop (fault_in g s why r)
  why_again Unexpected rest r h = h
  why_again Deep rest r h = h
  why_again Barred rest r h = h
  why_again (Twice m) rest r h = h

  stopped : (ws : List g.Word) (o : Outcome g s) → Reads grammar choices s (only rule) [] ws o → IsStop o →
      Stopped ws (rest_of o)
  stopped ws (done x ns rest) a h =
      let f = facts grammar choices follow laws a only_goes in
      record {
        items = f.items;
        whole = f.whole;
        more = [];
        value = x;
        says = subst (λ l. Says grammar rule l x) (sym (append-nil f.items)) f.says;
        again = λ r e. (done x ns r, f.again r e, stop_again x ns rest r e h);
      }
  stopped ws (fault why rest) a h =
      let f = facts grammar choices follow laws a only_goes in
      record {
        items = f.items;
        whole = f.whole;
        more = f.more;
        value = f.value;
        says = f.says;
        again = λ r e. (fault why r, f.again r e, why_again why rest r h);
      }

  stuck : (ws rest : List g.Word) (f : Stopped ws rest) → Stuck grammar rule (words f.items) rest
  stuck ws [] f = λ ts x e a.
      let t = said ts x a in
      let b = f.again [] same_end in
      let c = subst (λ l. Reads grammar choices s (only rule) [] (l ++ []) t.0) e t.1 in
      t.2 (subst (λ o. IsStop o) (det grammar choices b.1 c) b.2)
  stuck ws (w ∷ rest) f = λ h.
      let t = said (h.0 ++ h.2.0) h.2.1 h.2.2 in
      let b = f.again (w ∷ (words h.2.0 ++ [])) same_word in
      let e : words (h.0 ++ h.2.0) ++ [] ≡ words f.items ++ w ∷ (words h.2.0 ++ []) =
      words_before h.0 h.2.0 [] ∙ ap (λ l. l ++ (words h.2.0 ++ [])) h.1
      ∙ append_assoc (words f.items) (w ∷ []) (words h.2.0 ++ []) in
      let c = subst (λ l. Reads grammar choices s (only rule) [] l t.0) e t.1 in
      t.2 (subst (λ o. IsStop o) (det grammar choices b.1 c) b.2)

  -- the first fault is there
  pub stops : (ws : List g.Word) (o : Outcome g s) → Reads grammar choices s (only rule) [] ws o → IsStop o →
      Stops grammar rule ws (rest_of o)
  stops ws o a h =
      let f = stopped ws o a h in
      record {
        used = words f.items;
        whole = f.whole;
        begins = (f.items, refl, (f.more, f.value, f.says));
        stuck =
            stuck ws (rest_of o) f;
      }

  due_in : (before : List (Item g)) (rest : List g.Word) → Due grammar rule before rest →
      DueIn grammar (only rule) before rest
  due_in before [] d = tt
  due_in before (w ∷ rest) d = λ more x a.
      d (more, x, subst (λ l. Says grammar rule l x) (sym (append_assoc before (word w ∷ []) more)) a)

  read_clash : (ws : List g.Word) (m : g.Mark) (k : Clashes grammar rule ws m) →
      Reads grammar choices s (only rule) [] ws (fault (Twice m) k.rest)
  read_clash ws m k =
      let a = subst (λ l. Says grammar rule l k.viable.1) (append_assoc k.before (marked m ∷ []) k.viable.0)
      k.viable.2 in
      subst (λ l. Reads grammar choices s (only rule) [] l (fault (Twice m) k.rest)) (sym k.whole)
      (clashing grammar choices follow laws fit [] k.before k.viable.0 m [] k.rest a only_follows only_goes refl
      k.clear k.clash ends (inr (due_in k.before k.rest k.due)))

  -- where the reading stops at no mark, nothing in front of that place counts twice
  pub no_clash : (ws : List g.Word) (o : Outcome g s) → Reads grammar choices s (only rule) [] ws o → IsStop o →
      NoClash grammar rule ws
  no_clash ws o a h = λ m k. subst (λ o. IsStop o) (det grammar choices a (read_clash ws m k)) h

  -- one thing counts twice first
  pub one_clash : (ws : List g.Word) (m n : g.Mark) → Clashes grammar rule ws m → Clashes grammar rule ws n → m ≡ n
  one_clash ws m n k l = same_mark m n k.rest l.rest (det grammar choices (read_clash ws m k) (read_clash ws n l))
    where
      same_mark : (m n : g.Mark) (r r' : List g.Word) → fault_in g s (Twice m) r ≡ fault (Twice n) r' → m ≡ n
      same_mark m n r r' e = cc

  -- words in which something counts twice are no text of the rule
  pub clash_spells_none : (ws : List g.Word) (x : g.Val s) (m : g.Mark) → Clashes grammar rule ws m →
      Spells grammar rule ws x → ⊥
  clash_spells_none ws x m k b = twice_spells_none ws k.rest x m (read_clash ws m k) b

  -- ---- something counts twice

  not_shorter : (w : g.Word) (a b c : List g.Word) → c ≡ a ++ b → w ∷ (c ++ []) ≡ b ++ [] → ⊥
  not_shorter w a b c e e' =
      let x = ap (λ l. length l) e' in
      omega (arith, x, ap (λ l. length l) e, length-append a b, length-append c [], length-append b [])

  twice_due : (ws rest : List g.Word) (m : g.Mark) (f : Failed grammar choices (only rule) [] ws (Twice m) rest) →
      Due grammar rule f.items rest
  twice_due ws [] m f = tt
  twice_due ws (w ∷ rest) m f = λ v.
      let a = subst (λ l. Says grammar rule l v.1) (append_assoc f.items (word w ∷ []) v.0) v.2 in
      let b = f.again (w ∷ (words v.0 ++ [])) same_word in
      elim (first_clash grammar [] (f.items ++ word w ∷ v.0)) [
        | inl c ↦ apart _ _ _ _ (det grammar choices
            (subst (λ l. Reads grammar choices s (only rule) [] l
            (done v.1 (marks_after [] (f.items ++ word w ∷ v.0)) [])) (words_before f.items (word w ∷ v.0) [])
            (complete grammar choices follow laws fit [] [] a only_follows c ends)) b)
        | inr k ↦
            let d = clashing grammar choices follow laws fit [] k.before k.behind k.at []
            (words k.behind ++ []) a only_follows only_goes k.whole k.clear k.clash ends (inl refl) in
            let e = ap (λ l. words l ++ []) k.whole ∙ words_before k.before (marked k.at ∷ k.behind) [] in
            let d' = subst (λ l. Reads grammar choices s (only rule) [] l
            (fault (Twice k.at) (words k.behind ++ []))) (sym e ∙ words_before f.items (word w ∷ v.0) []) d in
            let same = same_rest _ _ _ _ (det grammar choices b d') in
            elim (split f.items (word w ∷ v.0) k.before k.behind (marked k.at) k.whole) [
              | inl j ↦ no_clash_in grammar [] k.before j.0 k.at (subst (λ l. Clear grammar [] l) j.1 f.clear) k.clash
              | inr j ↦ inside w v.0 j.0 k.behind k.at j.2 same
            ]
      ]
    where
      apart : (x : g.Val s) (ns : List g.Mark) (m : g.Mark) (r : List g.Word) →
          done_in g s x ns [] ≡ fault_in g s (Twice m) r → ⊥
      apart x ns m r e = cc

      same_rest : (m n : g.Mark) (r r' : List g.Word) → fault_in g s (Twice m) r ≡ fault (Twice n) r' → r ≡ r'
      same_rest m n r r' e = cc

      inside : (w : g.Word) (more d behind : List (Item g)) (n : g.Mark) → word w ∷ more ≡ d ++ marked n ∷ behind →
          w ∷ (words more ++ []) ≡ words behind ++ [] → ⊥
      inside w more [] behind n e e' = not_marked w n (word w) refl (same_first (word w) (marked n) more behind e)
      inside w more (t ∷ d) behind n e e' =
          not_shorter w (words d) (words behind) (words more)
          (ap (λ l. words l) (same_others (word w) t more (d ++ marked n ∷ behind) e)
          ∙ words_append d (marked n ∷ behind)) e'

  -- a reading that ends at a mark that clashes has found the first thing that counts twice
  pub twice : (ws rest : List g.Word) (m : g.Mark) →
      Reads grammar choices s (only rule) [] ws (fault (Twice m) rest) → Clashes grammar rule ws m
  twice ws rest m a =
      let f = facts grammar choices follow laws a only_goes in
      record {
        before = f.items;
        rest = rest;
        whole = f.whole;
        viable = (
          f.reason.0.0,
          f.value,
          subst (λ l. Says grammar rule l f.value)
              (ap (λ l. f.items ++ l) f.reason.0.1 ∙ sym (append_assoc f.items (marked m ∷ []) f.reason.0.0)) f.says,
        );
        due = twice_due ws rest m f;
        clear = f.clear;
        clash = f.reason.1;
      }

-- Grammars of more: rules beside which others stand that have all their alternatives, and perhaps more.
use Rattle.std.proofs.Common.{◌≡◌, Bool, true, false, List, [], ◌∷◌, ◌++◌, Option, Some, refl, sym, ap, ◌∙◌}
use Rattle.std.proofs.Common.{append_assoc, subst}
use Rattle.descent.specs.Grammar.{Signs, Grammar, Prod, give, token, call, mark, Item, word, marked, Is, is_given}
use Rattle.descent.specs.Grammar.{is_word, is_marked, is_called, Among, only, words}
use Rattle.descent.specs.Reading.{Choices, take, too_deep, barred, nothing, head, Outcome, done, fault, Why, Unexpected}
use Rattle.descent.specs.Reading.{Deep, Barred, Twice, Reads, by_give, by_word, by_other, by_end, by_mark, by_clash}
use Rattle.descent.specs.Reading.{by_call, by_fault, by_depth, by_bar, by_nothing}
use Rattle.descent.specs.Lawful.{Follow, Goes, Lawful, BeginsWith}
use Rattle.descent.proofs.Laws.{fault_in}
use Rattle.descent.proofs.Lists.{words_before}
use Rattle.descent.proofs.Complete.{extend, has_end}
use Rattle.descent.proofs.Facts.{facts}

-- the rule beside each rule; and whether it keeps what is too deep, and what is barred
pub record Lift (g : Signs) : Type 0 where
  pub up : {s : g.Sort} → g.Rule s → g.Rule s
  pub keeps_depth : Bool
  pub keeps_bars : Bool

-- the same production of the rules beside
pub data Up {g : Signs} (lift : Lift g) (s : g.Sort) : Prod g s → Prod g s → Type 0 where
  up_give : {x : g.Val s} → Up lift s (give x) (give x)
  up_token : {test : g.Word → Bool} {next next' : g.Word → Prod g s} →
      ((w : g.Word) → test w ≡ true → Up lift s (next w) (next' w)) → Up lift s (token test next) (token test next')
  up_call : {v : g.Sort} {rule : g.Rule v} {next next' : g.Val v → Prod g s} →
      ((y : g.Val v) → Up lift s (next y) (next' y)) → Up lift s (call rule next) (call (lift.up rule) next')
  up_mark : {m : g.Mark} {p p' : Prod g s} → Up lift s p p' → Up lift s (mark m p) (mark m p')

-- where it isn't kept, what is too deep begins a sentence beside, and so do the two words of what is barred
pub record Lifts {g : Signs} (grammar : Grammar g) (choices : Choices g) (lift : Lift g) : Type 0 where
  pub among : {s : g.Sort} (rule : g.Rule s) (p : Prod g s) → Among p (grammar.alternatives rule) → (p' : Prod g s)
      × Among p' (grammar.alternatives (lift.up rule)) × Up lift s p p'
  pub takes : {s : g.Sort} (rule : g.Rule s) (a b : Option g.Word) (p : Prod g s) → choices.pick rule a b ≡ take p →
      (p' : Prod g s) × (choices.pick (lift.up rule) a b ≡ take p') × Up lift s p p'
  pub nothing_beside : {s : g.Sort} (rule : g.Rule s) (a b : Option g.Word) → choices.pick rule a b ≡ nothing →
      choices.pick (lift.up rule) a b ≡ nothing
  pub depth_beside : {s : g.Sort} (rule : g.Rule s) (a b : Option g.Word) → choices.pick rule a b ≡ too_deep →
      lift.keeps_depth ≡ true → choices.pick (lift.up rule) a b ≡ too_deep
  pub bar_beside : {s : g.Sort} (rule : g.Rule s) (a b : Option g.Word) → choices.pick rule a b ≡ barred →
      lift.keeps_bars ≡ true → choices.pick (lift.up rule) a b ≡ barred
  pub opens : {s : g.Sort} (rule : g.Rule s) (a b : Option g.Word) → choices.pick rule a b ≡ too_deep →
      lift.keeps_depth ≡ false → (w : g.Word) × (a ≡ Some w) × BeginsWith grammar (lift.up rule) w
  pub unbars : {s : g.Sort} (rule : g.Rule s) (a b : Option g.Word) → choices.pick rule a b ≡ barred →
      lift.keeps_bars ≡ false →
      (w v : g.Word) × (a ≡ Some w) × (b ≡ Some v) × (more : List (Item g)) × (x : g.Val s)
      × Is grammar s (only (lift.up rule)) (word w ∷ word v ∷ more) x

-- a fault that the lift keeps
abbrev pub Kept : {g : Signs} → Lift g → {s : g.Sort} → Outcome g s → Type 0
Kept lift (done x ms ws) = Unit {0}
Kept lift (fault Unexpected ws) = Unit {0}
Kept lift (fault Deep ws) = lift.keeps_depth ≡ true
Kept lift (fault Barred ws) = lift.keeps_bars ≡ true
Kept lift (fault (Twice m) ws) = Unit {0}

-- a fault that it doesn't keep
abbrev pub Lost : {g : Signs} → Lift g → Why g → Type 0
Lost lift Unexpected = ⊥
Lost lift Deep = lift.keeps_depth ≡ false
Lost lift Barred = lift.keeps_bars ≡ false
Lost lift (Twice m) = ⊥

module _ {g : Signs} (grammar : Grammar g) (choices : Choices g) (lift : Lift g) (lifts : Lifts grammar choices lift)
  where
    -- a sentence of a production is a sentence, with the same value, of the production beside it
    pub lift_is : {s : g.Sort} {p : Prod g s} {ts : List (Item g)} {x : g.Val s} (q : Prod g s) → Is grammar s p ts x →
        Up lift s p q → Is grammar s q ts x
    lift_is q is_given up_give = is_given
    lift_is q (is_word {w = w} t a) (up_token {next' = next'} u) = is_word t (lift_is (next' w) a (u w t))
    lift_is q (is_marked a) (up_mark {p' = p'} u) = is_marked (lift_is p' a u)
    lift_is q (is_called {rule = rule} {p = p} {y = y} am a b e) (up_call {next' = next'} u) =
        let h = lifts.among rule p am in
        is_called h.1 (lift_is h.0 a h.2) (lift_is (next' y) b (u y)) e

    kept_part : (s v : g.Sort) (why : Why g) (rest : List g.Word) → Kept lift (fault_in g s why rest) →
        Kept lift (fault_in g v why rest)
    kept_part s v Unexpected rest h = h
    kept_part s v Deep rest h = h
    kept_part s v Barred rest h = h
    kept_part s v (Twice m) rest h = h

    -- the production beside reads words with the same outcome, unless the lift doesn't keep the outcome's fault
    pub lift_reads : {s : g.Sort} {p : Prod g s} {ms : List g.Mark} {ws : List g.Word} {o : Outcome g s}
        (q : Prod g s) → Reads grammar choices s p ms ws o → Up lift s p q → Kept lift o →
        Reads grammar choices s q ms ws o
    lift_reads q by_give up_give h = by_give
    lift_reads q (by_word {w = w} t a) (up_token {next' = next'} u) h = by_word t (lift_reads (next' w) a (u w t) h)
    lift_reads q (by_other t) (up_token u) h = by_other t
    lift_reads q by_end (up_token u) h = by_end
    lift_reads q (by_mark c a) (up_mark {p' = p'} u) h = by_mark c (lift_reads p' a u h)
    lift_reads q (by_clash c) (up_mark u) h = by_clash c
    lift_reads q (by_call {rule = rule} {p = p} {y = y} c a b) (up_call {next' = next'} u) h =
        let k = lifts.takes rule _ _ p c in
        by_call k.1 (lift_reads k.0 a k.2 tt) (lift_reads (next' y) b (u y) h)
    lift_reads {s} q (by_fault {v = v} {rule = rule} {p = p} {rest = rest} {why = why} c a) (up_call u) h =
        let k = lifts.takes rule _ _ p c in
        by_fault k.1 (lift_reads k.0 a k.2 (kept_part s v why rest h))
    lift_reads q (by_depth {rule = rule} c) (up_call u) h = by_depth (lifts.depth_beside rule _ _ c h)
    lift_reads q (by_bar {rule = rule} c) (up_call u) h = by_bar (lifts.bar_beside rule _ _ c h)
    lift_reads q (by_nothing {rule = rule} c) (up_call u) h = by_nothing (lifts.nothing_beside rule _ _ c)

    -- a sentence beside goes on with the word at the fault
    pub record GoesOn {s : g.Sort} (q : Prod g s) (ws rest : List g.Word) : Type 0 where
      pub items : List (Item g)
      pub whole : ws ≡ words items ++ rest
      pub at : g.Word
      pub behind : List g.Word
      pub here : rest ≡ at ∷ behind
      pub more : List (Item g)
      pub value : g.Val s
      pub says : Is grammar s q (items ++ word at ∷ more) value

    -- one of the words that are there
    first_word : (ws : List g.Word) (w : g.Word) → head ws ≡ Some w → (others : List g.Word) × (ws ≡ w ∷ others)
    first_word [] w e = cc
    first_word (v ∷ ws) w e = (ws, ap (λ z. z ∷ ws) (same v w e))
      where
        same : (v w : g.Word) → Some v ≡ Some w → v ≡ w
        same v w e = cc

    module _ (follow : Follow g) (laws : Lawful grammar choices follow) where
      behind_word : {s : g.Sort} (test : g.Word → Bool) (next : g.Word → Prod g s) (w : g.Word)
          (ws rest : List g.Word) → test w ≡ true → GoesOn (next w) ws rest → GoesOn (token test next) (w ∷ ws) rest
      behind_word test next w ws rest t f = record {
        items = word w ∷ f.items;
        whole = ap (λ l. w ∷ l) f.whole;
        at = f.at;
        behind = f.behind;
        here = f.here;
        more = f.more;
        value = f.value;
        says = is_word t f.says;
      }

      behind_mark : {s : g.Sort} (m : g.Mark) (p : Prod g s) (ws rest : List g.Word) → GoesOn p ws rest →
          GoesOn (mark m p) ws rest
      behind_mark m p ws rest f = record {
        items = marked m ∷ f.items;
        whole = f.whole;
        at = f.at;
        behind = f.behind;
        here = f.here;
        more = f.more;
        value = f.value;
        says = is_marked f.says;
      }

      behind_part : {s v : g.Sort} (rule : g.Rule v) (next : g.Val v → Prod g s) (p : Prod g v) (us : List (Item g))
          (y : g.Val v) (ws ws' rest : List g.Word) → ws ≡ words us ++ ws' →
          Among p (grammar.alternatives rule) → Is grammar v p us y → GoesOn (next y) ws' rest →
          GoesOn (call rule next) ws rest
      behind_part rule next p us y ws ws' rest e am a f = record {
        items = us ++ f.items;
        whole = e ∙ ap (λ l. words us ++ l) f.whole ∙ sym (words_before us f.items rest);
        at = f.at;
        behind = f.behind;
        here = f.here;
        more = f.more;
        value = f.value;
        says = is_called am a f.says (append_assoc us f.items (word f.at ∷ f.more));
      }

      in_part : {s v : g.Sort} (rule : g.Rule v) (next : g.Val v → Prod g s) (p : Prod g v) (ws rest : List g.Word) →
          ((y : g.Val v) → Goes (next y)) →
          Among p (grammar.alternatives rule) → GoesOn p ws rest → GoesOn (call rule next) ws rest
      in_part rule next p ws rest go am f =
          let e = has_end grammar choices follow laws (next f.value) (go f.value) in
          record {
            items = f.items;
            whole = f.whole;
            at = f.at;
            behind = f.behind;
            here = f.here;
            more = f.more ++ e.0;
            value = e.1;
            says = is_called am f.says e.2 (sym (append_assoc f.items (word f.at ∷ f.more) e.0));
          }

      opened : {s v : g.Sort} (rule : g.Rule v) (next : g.Val v → Prod g s) (ws : List g.Word) →
          ((y : g.Val v) → Goes (next y)) →
          (w : g.Word) → head ws ≡ Some w → BeginsWith grammar rule w → GoesOn (call rule next) ws ws
      opened rule next ws go w h b =
          let e = has_end grammar choices follow laws (next b.1) (go b.1) in
          let k = first_word ws w h in
          record {
            items = [];
            whole = refl;
            at = w;
            behind = k.0;
            here = k.1;
            more = b.0 ++ e.0;
            value = e.1;
            says = extend grammar b.2 e.2;
          }

      unbarred : {s v : g.Sort} (rule : g.Rule v) (next : g.Val v → Prod g s) (w z : g.Word) (ws : List g.Word) →
          ((y : g.Val v) → Goes (next y)) →
          head ws ≡ Some z → (more : List (Item g)) (x : g.Val v) →
          Is grammar v (only rule) (word w ∷ word z ∷ more) x → GoesOn (call rule next) (w ∷ ws) ws
      unbarred rule next w z ws go h more x a =
          let e = has_end grammar choices follow laws (next x) (go x) in
          let k = first_word ws z h in
          record {
            items = word w ∷ [];
            whole = refl;
            at = z;
            behind = k.0;
            here = k.1;
            more = more ++ e.0;
            value = e.1;
            says = extend grammar a e.2;
          }

      some_same : (v w : g.Word) → Some v ≡ Some w → w ≡ v
      some_same v w e = cc

      some_first : (z : g.Word) (ws : List g.Word) → head (z ∷ ws) ≡ Some z
      some_first z ws = refl

      -- where the fault is lost, a sentence beside goes on with the word there
      pub goes_on : {s : g.Sort} {p : Prod g s} {ms : List g.Mark} {ws rest : List g.Word} {why : Why g}
          (q : Prod g s) →
          Reads grammar choices s p ms ws (fault why rest) → Lost lift why → Up lift s p q → Goes p → Goes q →
          GoesOn q ws rest
      goes_on {rest = rest} q (by_word {test = test} {w = w} {ws = ws} t a) l (up_token {next' = next'} u) go go' =
          behind_word test next' w ws rest t (goes_on (next' w) a l (u w t) (go.1 w t) (go'.1 w t))
      goes_on q (by_other t) l u go go' = absurd l
      goes_on q by_end l u go go' = absurd l
      goes_on {rest = rest} q (by_mark {m = m} {ws = ws} c a) l (up_mark {p' = p'} u) go go' =
          behind_mark m p' ws rest (goes_on p' a l u go go')
      goes_on q (by_clash c) l u go go' = absurd l
      goes_on {rest = rest} q (by_call {rule = rule} {p = p} {ws = ws} {rest = ws'} {y = y} c a b) l
          (up_call {next' = next'} u) go go' =
          let am = laws.chosen rule _ _ p c in
          let f = facts grammar choices follow laws a (laws.goes rule p am) in
          let h = lifts.among rule p am in
          behind_part (lift.up rule) next' h.0 f.items y ws ws' rest f.whole h.1 (lift_is h.0 f.says h.2)
          (goes_on (next' y) b l (u y) (go y) (go' y))
      goes_on {rest = rest} q (by_fault {rule = rule} {p = p} {ws = ws} c a) l (up_call {next' = next'} u) go go' =
          let am = laws.chosen rule _ _ p c in
          let h = lifts.among rule p am in
          in_part (lift.up rule) next' h.0 ws rest go' h.1
          (goes_on h.0 a l h.2 (laws.goes rule p am) (laws.goes (lift.up rule) h.0 h.1))
      goes_on q (by_depth {rule = rule} {ws = ws} c) l (up_call {next' = next'} u) go go' =
          let o = lifts.opens rule _ _ c l in
          opened (lift.up rule) next' ws go' o.0 o.1 o.2
      goes_on q (by_bar {rule = rule} {w = w} {ws = ws} c) l (up_call {next' = next'} u) go go' =
          let o = lifts.unbars rule _ _ c l in
          unbarred (lift.up rule) next' w o.1 ws go' o.3 o.4 o.5
          (subst (λ z. Is grammar _ (only (lift.up rule)) (word z ∷ word o.1 ∷ o.4) o.5) (some_same w o.0 o.2) o.6)
      goes_on q (by_nothing c) l u go go' = absurd l

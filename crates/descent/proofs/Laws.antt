-- The laws of reading by descent.
use Rattle.std.proofs.Common.{◌≡◌, List, refl, sym, subst}
use Rattle.descent.specs.Grammar.{Signs, Grammar, Prod, call}
use Rattle.descent.specs.Reading.{Choice, Choices, take, choose, Outcome, done, fault, Why, Reads, by_give, by_word}
use Rattle.descent.specs.Reading.{by_other, by_end, by_mark, by_clash, by_call, by_fault, by_depth, by_bar, by_nothing}

-- one choice takes one production, so two readings of a call go on with the same alternative
pub take_is : {g : Signs} {s : g.Sort} {p q : Prod g s} (c : Choice g s) → c ≡ take p → c ≡ take q → p ≡ q
take_is c a b = cc

-- a fault as an outcome at a named sort, where equations between outcomes leave the sort open
abbrev pub fault_in : (g : Signs) (s : g.Sort) → Why g → List g.Word → Outcome g s
fault_in g s why ws = fault why ws

same_fault : {g : Signs} {v : g.Sort} {why why' : Why g} {ws ws' : List g.Word} (s : g.Sort) →
    fault_in g v why ws ≡ fault_in g v why' ws' → fault_in g s why ws ≡ fault_in g s why' ws'
same_fault s e = cc

module _ {g : Signs} (grammar : Grammar g) (choices : Choices g) where
  -- how the reading goes on behind an outcome of a part
  abbrev Then : {s v : g.Sort} → (g.Val v → Prod g s) → Outcome g v → Outcome g s → Type 0
  Then {s} next (done y ms ws) o = Reads grammar choices s (next y) ms ws o
  Then next (fault why ws) o = ⊥

  by_call_to : {s v : g.Sort} {rule : g.Rule v} {next : g.Val v → Prod g s} {p : Prod g v} {ms : List g.Mark}
      {ws : List g.Word} (m : Outcome g v) {o : Outcome g s} →
      choose choices rule ws ≡ take p → Reads grammar choices v p ms ws m → Then next m o →
      Reads grammar choices s (call rule next) ms ws o
  by_call_to (done y ms ws) c a b = by_call c a b
  by_call_to (fault why ws) c a b = absurd b

  -- words are read in one way
  pub det : {s : g.Sort} {p : Prod g s} {ms : List g.Mark} {ws : List g.Word} {o o' : Outcome g s} →
      Reads grammar choices s p ms ws o → Reads grammar choices s p ms ws o' → o ≡ o'
  det by_give by_give = refl
  det (by_word t a) (by_word t' b) = det a b
  det (by_word t a) (by_other t') = cc
  det (by_other t) (by_word t' b) = cc
  det (by_other t) (by_other t') = refl
  det by_end by_end = refl
  det (by_mark c a) (by_mark c' b) = det a b
  det (by_mark c a) (by_clash c') = cc
  det (by_clash c) (by_mark c' b) = cc
  det (by_clash c) (by_clash c') = refl
  det (by_call {v = v} {next = next} {ms = ms} {ws = ws} {o = o} c a b)
      (by_call {ns = ns'} {rest = rest'} {y = y'} {o = o'} c' a' b') =
      let e = take_is _ c c' in
      let d = det a (subst (λ q. Reads grammar choices v q ms ws (done y' ns' rest')) (sym e) a') in
      det b (subst (λ x. Then next x o') (sym d) b')
  det (by_call {v = v} {next = next} {ms = ms} {ws = ws} {o = o} c a b) (by_fault {rest = rest'} {why = why} c' a') =
      let e = take_is _ c c' in
      let d = det a (subst (λ q. Reads grammar choices v q ms ws (fault why rest')) (sym e) a') in
      cc
  det (by_call c a b) (by_depth c') = cc
  det (by_call c a b) (by_bar c') = cc
  det (by_call c a b) (by_nothing c') = cc
  det (by_fault {v = v} {next = next} {ms = ms} {ws = ws} c a)
      (by_call {ns = ns'} {rest = rest'} {y = y'} {o = o'} c' a' b') =
      let e = take_is _ c c' in
      let d = det a (subst (λ q. Reads grammar choices v q ms ws (done y' ns' rest')) (sym e) a') in
      cc
  det (by_fault {s = s} {v = v} {next = next} {ms = ms} {ws = ws} c a) (by_fault {rest = rest'} {why = why} c' a') =
      let e = take_is _ c c' in
      let d = det a (subst (λ q. Reads grammar choices v q ms ws (fault why rest')) (sym e) a') in
      same_fault s d
  det (by_fault c a) (by_depth c') = cc
  det (by_fault c a) (by_bar c') = cc
  det (by_fault c a) (by_nothing c') = cc
  det (by_depth c) (by_call c' a' b') = cc
  det (by_depth c) (by_fault c' a') = cc
  det (by_depth c) (by_depth c') = refl
  det (by_depth c) (by_bar c') = cc
  det (by_depth c) (by_nothing c') = cc
  det (by_bar c) (by_call c' a' b') = cc
  det (by_bar c) (by_fault c' a') = cc
  det (by_bar c) (by_depth c') = cc
  det (by_bar c) (by_bar c') = refl
  det (by_bar c) (by_nothing c') = cc
  det (by_nothing c) (by_call c' a' b') = cc
  det (by_nothing c) (by_fault c' a') = cc
  det (by_nothing c) (by_depth c') = cc
  det (by_nothing c) (by_bar c') = cc
  det (by_nothing c) (by_nothing c') = refl

-- Reading leaves no more words than there were, and fewer where a word is passed.
use Rattle.std.proofs.Common.{◌≡◌, ◌<◌, ◌≤◌, Bool, true, List, ◌∷◌, length, subst, arith}
use Rattle.descent.specs.Grammar.{Signs, Grammar, Prod, token, call}
use Rattle.descent.specs.Reading.{Choices, take, choose, Outcome, done, fault, Reads, by_give, by_word, by_other}
use Rattle.descent.specs.Reading.{by_end, by_mark, by_clash, by_call, by_fault, by_depth, by_bar, by_nothing}
use Rattle.descent.specs.Lawful.{left}
use Rattle.descent.proofs.Laws.{take_is}

module _ {g : Signs} (grammar : Grammar g) (choices : Choices g) where
  -- a reader never puts words back: what an outcome leaves is no longer than what was there
  pub shrinks : {s : g.Sort} {p : Prod g s} {ms : List g.Mark} {ws : List g.Word} {o : Outcome g s} →
      Reads grammar choices s p ms ws o → length (left o) ≤ length ws
  shrinks by_give = omega arith
  shrinks (by_word {ws = ws} t a) = omega (arith, shrinks a)
  shrinks (by_other t) = omega arith
  shrinks by_end = omega arith
  shrinks (by_mark c a) = shrinks a
  shrinks (by_clash c) = omega arith
  shrinks (by_call c a b) = omega (arith, shrinks a, shrinks b)
  shrinks (by_fault c a) = shrinks a
  shrinks (by_depth c) = omega arith
  shrinks (by_bar c) = omega arith
  shrinks (by_nothing c) = omega arith

  -- the production passes a word of these
  abbrev pub Moves : {s : g.Sort} → Prod g s → List g.Word → Type 0
  Moves {s} p ws = (ms : List g.Mark) (o : Outcome g s) → Reads grammar choices s p ms ws o →
      length (left o) < length ws

  -- reading a word that passes its test leaves fewer words than there were
  pub moves_token : {s : g.Sort} (test : g.Word → Bool) (next : g.Word → Prod g s) (w : g.Word) (ws : List g.Word) →
      test w ≡ true → Moves (token test next) (w ∷ ws)
  moves_token test next w ws h ms o (by_word t a) = omega (arith, shrinks a)
  moves_token test next w ws h ms o (by_other t) = cc

  taken : {s : g.Sort} (p q : Prod g s) (ws : List g.Word) → p ≡ q → Moves p ws → Moves q ws
  taken p q ws e m = subst (λ r. Moves r ws) e m

  -- a call passes a word where the alternative that it chooses does; serves the law of choices by two words
  pub moves_call : {s v : g.Sort} (rule : g.Rule v) (next : g.Val v → Prod g s) (p : Prod g v) (ws : List g.Word) →
      choose choices rule ws ≡ take p → Moves p ws → Moves (call rule next) ws
  moves_call rule next p ws c m ms o (by_call {p = q} {ns = ns} {rest = rest} {y = y} c' a b) =
      omega (arith, taken p q ws (take_is _ c c') m ms (done y ns rest) a, shrinks b)
  moves_call rule next p ws c m ms o (by_fault {p = q} {rest = rest} {why = why} c' a) =
      taken p q ws (take_is _ c c') m ms (fault why rest) a
  moves_call rule next p ws c m ms o (by_depth c') = cc
  moves_call rule next p ws c m ms o (by_bar c') = cc
  moves_call rule next p ws c m ms o (by_nothing c') = cc

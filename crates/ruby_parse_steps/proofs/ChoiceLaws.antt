-- How choices are read with a stack.
use Rattle.std.proofs.Common.{◌≡◌, ℕ, ◌-◌, length, arith, true, false, cond, List, [], ◌∷◌, ◌++◌, drop, refl, sym, ap}
use Rattle.std.proofs.Common.{◌∙◌, subst, Result, Ok, Err}
use Rattle.std.specs.Prelude.{reverse}
use Rattle.std.proofs.lemmas.List.{reverse-append}
use Rattle.descent.specs.Grammar.{give}
use Rattle.std.proofs.Common.{take as front}
use Rattle.descent.specs.Reading.{take, head, choose}
use Rattle.ruby_types.specs.declared.tree.Expr.{Expr}
use Rattle.ruby_types.specs.declared.tree.Expr.TheVariants as expr
use Rattle.ruby_grammar.specs.Words.{Word}
use Rattle.ruby_grammar.specs.Terminals.{disjunctions, is_ask, is_colon}
use Rattle.ruby_grammar.specs.Rules.{Scope, an_expression, expression, choice_rest, operators}
use Rattle.ruby_grammar.specs.Expressions.{expression_from, choice_more}
use Rattle.ruby_grammar.specs.Choices.{ruby_choices, next_is}
use Rattle.ruby_parse_cursor.specs.declared.fault.Fault.{Fault}
use Rattle.ruby_parse_cursor.specs.declared.fault.Fault.TheVariants as f
use Rattle.ruby_parse_steps.specs.declared.choices.Open.{Open}
use Rattle.ruby_parse_steps.specs.declared.choices.Open.TheVariants as begun
use Rattle.ruby_parse_steps.specs.Gives.{Gives, GivesRule}
use Rattle.ruby_parse_steps.specs.Opens.{other_value, Behind, BehindLast, GivesEnded}
use Rattle.ruby_parse_steps.proofs.Descent.{g_give, g_chosen, g_skip, g_lacks, g_then, g_fails, g_memory}

-- ---- an expression and what may follow its first value
module _ (here : Scope) where
  -- The first operands, and what follows them.
  pub expression_begins : (x : Expr) (ws mid rest : List Word) (r : Result Expr Fault) →
      GivesRule (operators disjunctions here) ws (Ok x) mid → GivesRule (choice_rest here x) mid r rest →
      GivesRule (expression here) ws r rest
  expression_begins x ws mid rest r a g = g_chosen {s = an_expression} (expression here)
      (expression_from here) ws rest r refl
      (g_then {s = an_expression} (operators disjunctions here) _ x ws mid rest r a g)

  -- A fault in the first operands.
  pub expression_breaks : (e : Fault) (ws rest : List Word) →
      GivesRule (operators disjunctions here) ws (Err e) rest → GivesRule (expression here) ws (Err e) rest
  expression_breaks e ws rest a = g_chosen {s = an_expression} (expression here) (expression_from here) ws rest
      (Err e) refl (g_fails {s = an_expression} (operators disjunctions here) _ ws rest e a)

  ask_chosen : (x : Expr) (ws : List Word) → next_is is_ask (head ws) ≡ true →
      choose ruby_choices (choice_rest here x) ws ≡ take (choice_more here x)
  ask_chosen x ws p = ap (λ b. cond b (take (choice_more here x)) (take (give x))) p

  no_ask_chosen : (x : Expr) (ws : List Word) → next_is is_ask (head ws) ≡ false →
      choose ruby_choices (choice_rest here x) ws ≡ take (give x)
  no_ask_chosen x ws p = ap (λ b. cond b (take (choice_more here x)) (take (give x))) p

  -- no choice
  pub plain_expression : (x : Expr) (ws mid : List Word) → GivesRule (operators disjunctions here) ws (Ok x) mid →
      next_is is_ask (head mid) ≡ false → GivesRule (expression here) ws (Ok x) mid
  plain_expression x ws mid a p = expression_begins x ws mid mid (Ok x) a
      (g_chosen {s = an_expression} (choice_rest here x) (give x) mid mid (Ok x) (no_ask_chosen x mid p)
      (g_give {s = an_expression} x mid))

  -- a choice whose first value was read
  pub choice_reads : (test b : Expr) (ws mid inside behind rest : List Word) (r : Result Expr Fault) →
      GivesRule (operators disjunctions here) ws (Ok test) mid → next_is is_ask (head mid) ≡ true →
      inside ≡ drop 1 mid →
      GivesRule (expression here) inside (Ok b) behind → Gives (other_value here test b) behind r rest →
      GivesRule (expression here) ws r rest
  choice_reads test b ws mid inside behind rest r a p d v g =
      expression_begins test ws mid rest r a
      (g_chosen {s = an_expression} (choice_rest here test) (choice_more here test) mid rest r (ask_chosen test mid p)
      (g_skip {s = an_expression} is_ask _ mid inside rest r p d
      (λ _. g_then {s = an_expression} (expression here) _ b inside behind rest r v g)))

  -- A fault in the first value of a choice.
  pub choice_breaks : (test : Expr) (e : Fault) (ws mid inside rest : List Word) →
      GivesRule (operators disjunctions here) ws (Ok test) mid → next_is is_ask (head mid) ≡ true →
      inside ≡ drop 1 mid →
      GivesRule (expression here) inside (Err e) rest → GivesRule (expression here) ws (Err e) rest
  choice_breaks test e ws mid inside rest a p d v =
      expression_begins test ws mid rest (Err e) a
      (g_chosen {s = an_expression} (choice_rest here test) (choice_more here test) mid rest (Err e)
      (ask_chosen test mid p)
      (g_skip {s = an_expression} is_ask _ mid inside rest (Err e) p d
      (λ _. g_fails {s = an_expression} (expression here) _ inside rest e v)))

  -- ---- the stack
  -- Want of memory answers whatever choices were begun.
  pub behind_memory : (opens : List Open) (value : Expr) (ws rest : List Word) →
      Behind here opens value ws (Err f.Memory) rest
  behind_memory [] value ws rest = g_memory {s = an_expression} (give value) ws rest
  behind_memory (begun.Other test first ∷ opens) value ws rest = behind_memory opens _ ws rest
  behind_memory (begun.Test test ∷ opens) value ws rest = (
    Err f.Memory,
    rest,
    g_memory {s = an_expression} (other_value here test value) ws rest,
    (λ c e. absurd (cc)),
    (λ e q. (q, refl)),
  )

  last_first : (opens : List Open) (x : Open) → reverse (opens ++ x ∷ []) ≡ x ∷ reverse opens
  last_first opens x = reverse-append opens (x ∷ [])

  behind_to : (opens all : List Open) (x : Open) (value : Expr) (ws end : List Word) (r : Result Expr Fault) →
      all ≡ opens ++ x ∷ [] → Behind here (x ∷ reverse opens) value ws r end → BehindLast here all value ws r end
  behind_to opens all x value ws end r e h = subst (λ l. Behind here l value ws r end)
      (sym (ap reverse e ∙ last_first opens x)) h

  behind_from : (opens all : List Open) (x : Open) (value : Expr) (ws end : List Word) (r : Result Expr Fault) →
      all ≡ opens ++ x ∷ [] → BehindLast here all value ws r end → Behind here (x ∷ reverse opens) value ws r end
  behind_from opens all x value ws end r e h = subst (λ l. Behind here l value ws r end)
      (ap reverse e ∙ last_first opens x) h

  -- a choice that ends with this value
  pub other_ends : (opens all : List Open) (test first value whole : Expr) (ws end : List Word)
      (r : Result Expr Fault) → all ≡ opens ++ begun.Other test first ∷ [] → whole ≡ expr.Choose test first value →
      BehindLast here opens whole ws r end → BehindLast here all value ws r end
  other_ends opens all test first value whole ws end r e w h =
      behind_to opens all (begun.Other test first) value ws end r e
      (subst (λ v. Behind here (reverse opens) v ws r end) w h)

  -- a choice that goes on behind its `:`
  pub test_goes_on : (opens all left : List Open) (test value c : Expr) (ws rest mid end : List Word)
      (r : Result Expr Fault) → all ≡ opens ++ begun.Test test ∷ [] → left ≡ opens ++ begun.Other test value ∷ [] →
      next_is is_colon (head ws) ≡ true → rest ≡ drop 1 ws → GivesRule (expression here) rest (Ok c) mid →
      BehindLast here left c mid r end → BehindLast here all value ws r end
  test_goes_on opens all left test value c ws rest mid end r e l p d g h =
      behind_to opens all (begun.Test test) value ws end r e (
        Ok (expr.Choose test value c),
        mid,
        g_skip {s = an_expression} is_colon _ ws rest mid (Ok (expr.Choose test value c)) p d
            (λ _. g_then {s = an_expression} (expression here) _ c rest mid mid (Ok (expr.Choose test value c)) g
            (g_give {s = an_expression} (expr.Choose test value c) mid)),
        (λ v q. subst (λ x. Behind here (reverse opens) x mid r end) (ok_same _ _ q)
            (behind_from opens left (begun.Other test value) c mid end r l h)),
        (λ v q. absurd (cc)),
      )
    where
      ok_same : (x y : Expr) → ◌≡◌ {A = Result Expr Fault} (Ok x) (Ok y) → x ≡ y
      ok_same x y q = cc

  -- A fault behind the `:` of the choice that was begun last.
  pub test_breaks_behind : (opens all : List Open) (test value : Expr) (e : Fault) (ws rest end : List Word) →
      all ≡ opens ++ begun.Test test ∷ [] →
      next_is is_colon (head ws) ≡ true → rest ≡ drop 1 ws → GivesRule (expression here) rest (Err e) end →
      BehindLast here all value ws (Err e) end
  test_breaks_behind opens all test value e ws rest end q p d g =
      behind_to opens all (begun.Test test) value ws end (Err e) q (
        Err e,
        end,
        g_skip {s = an_expression} is_colon _ ws rest end (Err e) p d
            (λ _. g_fails {s = an_expression} (expression here) _ rest end e g),
        (λ v q. absurd (cc)),
        (λ v q. (q, refl)),
      )

  -- The choice that was begun last lacks its `:`.
  pub test_lacks_colon : (opens all : List Open) (test value : Expr) (ws : List Word) →
      all ≡ opens ++ begun.Test test ∷ [] → next_is is_colon (head ws) ≡ false →
      BehindLast here all value ws (Err f.Unexpected) ws
  test_lacks_colon opens all test value ws q p =
      behind_to opens all (begun.Test test) value ws ws (Err f.Unexpected) q (
        Err f.Unexpected,
        ws,
        g_lacks {s = an_expression} is_colon _ ws p,
        (λ v q. absurd (cc)),
        (λ v q. (q, refl)),
      )

  -- a choice that was begun
  pub test_begins : (opens all : List Open) (test c : Expr) (ws mid inside behind end start : List Word)
      (r : Result Expr Fault) → all ≡ opens ++ begun.Test test ∷ [] →
      GivesRule (operators disjunctions here) ws (Ok test) mid → next_is is_ask (head mid) ≡ true →
      inside ≡ drop 1 mid → GivesRule (expression here) inside (Ok c) behind → BehindLast here all c behind r end →
      ((v : Expr) (m : List Word) (s : Result Expr Fault) (z : List Word) → GivesRule (expression here) ws (Ok v) m →
      BehindLast here opens v m s z → GivesRule (expression here) start s z) →
      ((e : Fault) (z : List Word) → GivesRule (expression here) ws (Err e) z →
      GivesRule (expression here) start (Err e) z) →
      GivesRule (expression here) start r end
  test_begins opens all test c ws mid inside behind end start r q a p d g h ok err =
      let b = behind_from opens all (begun.Test test) c behind end r q h in
      go b.0 b.1 (choice_reads test c ws mid inside behind b.1 b.0 a p d g b.2) b.3 b.4
    where
      go : (m : Result Expr Fault) (z : List Word) → GivesRule (expression here) ws m z →
          ((v : Expr) → m ≡ Ok v → Behind here (reverse opens) v z r end) →
          ((e : Fault) → m ≡ Err e → (r ≡ Err e) × (end ≡ z)) → GivesRule (expression here) start r end
      go (Ok v) z w x y = ok v z r end w (x v refl)
      go (Err e) z w x y = let s = y e refl in
          subst (λ t. GivesRule (expression here) start t end) (sym s.0)
          (subst (λ l. GivesRule (expression here) start (Err e) l) (sym s.1) (err e z w))

-- ---- what ending the choices answers
-- Without a begun choice the value is the whole.
pub none_begun : (here : Scope) (opens : List Open) (value : Expr) (ws : List Word) → length opens ≡ 0 →
    BehindLast here opens value ws (Ok value) ws
none_begun here [] value ws e = g_give {s = an_expression} value ws
none_begun here (x ∷ xs) value ws e = absurd (omega (arith, e))

-- A missing `:` as the answer of ending choices.
pub ended_fails : (here : Scope) (opens left : List Open) (value : Expr) (start ws rest : List Word) (e : Fault) →
    rest ≡ ws → e ≡ f.Unexpected → BehindLast here opens value start (Err f.Unexpected) ws →
    GivesEnded here opens value start (Err e) left rest
ended_fails here opens left value start ws rest e s u h =
    subst (λ x. GivesEnded here opens value start (Err x) left rest) (sym u)
    (subst (λ l. GivesEnded here opens value start (Err f.Unexpected) left l) (sym s) h)

-- Want of memory as the answer of ending choices.
pub ended_without_memory : (here : Scope) (opens left : List Open) (value : Expr) (start rest : List Word)
    (e : Fault) → e ≡ f.Memory → GivesEnded here opens value start (Err e) left rest
ended_without_memory here opens left value start rest e u =
    subst (λ x. GivesEnded here opens value start (Err x) left rest) (sym u)
    (behind_memory here (reverse opens) value start rest)

-- nothing was taken, so nothing was there
pub none_left : {A : Type 0} (old new : List A) (n : ℕ) → old ≡ new ++ [] → new ≡ front (n - 1) old → n ≡ 0 →
    length old ≡ 0
none_left old new n e t z =
    let none : new ≡ [] = t ∙ ap (λ m. front (m - 1) old) z in
    ap length (e ∙ ap (λ l. l ++ []) none)

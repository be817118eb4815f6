-- What follows a call, by what comes next in a production.
use Rattle.std.proofs.Common.{◌≡◌, Bool, true, List, [], ◌++◌, Option, Some, refl, sym, ap, ◌∙◌, subst}
use Rattle.descent.specs.Grammar.{Signs, Grammar, Prod, give, token, call, mark, Item, Is, is_given, is_called, Among}
use Rattle.descent.specs.Grammar.{only, words}
use Rattle.descent.specs.Reading.{head}
use Rattle.descent.proofs.Lists.{words_before}
use Rattle.descent.proofs.Starts.{Firsts, Starts, starts}

-- the production gives at once, or each sentence of it has a first word, which passes
abbrev pub Opening : {g : Signs} → Firsts g → {s : g.Sort} → (g.Word → Bool) → Prod g s → Type 0
Opening firsts q (give x) = Unit {0}
Opening firsts q (token test next) = Starts firsts q (token test next)
Opening firsts q (call rule next) = Starts firsts q (call rule next)
Opening firsts q (mark m p) = ⊥

-- What follows, given what may follow behind.
abbrev pub Fitting : {g : Signs} → Grammar g → {s : g.Sort} → (Option g.Word → Bool) → (Option g.Word → Bool) →
    Prod g s → Type 0
Fitting {g} grammar {s} fit fit' p = (ts : List (Item g)) (x : g.Val s) (rest : List g.Word) → Is grammar s p ts x →
    fit (head rest) ≡ true → fit' (head (words ts ++ rest)) ≡ true

module _ {g : Signs} (grammar : Grammar g) (firsts : Firsts g)
    (laws : (s : g.Sort) (rule : g.Rule s) (p : Prod g s) → Among p (grammar.alternatives rule) →
    firsts.solid rule ≡ true → Starts firsts (firsts.first rule) p) where
  given_nothing : {s : g.Sort} {y x : g.Val s} {ts : List (Item g)} → Is grammar s (give y) ts x → ts ≡ []
  given_nothing is_given = refl

  -- behind a call that gives at once stands what follows the production: it fits where that fits
  pub before_give : {s : g.Sort} (fit fit' : Option g.Word → Bool) (y : g.Val s) →
      ((a : Option g.Word) → fit a ≡ true → fit' a ≡ true) → Fitting grammar fit fit' (give y)
  before_give fit fit' y f ts x rest a h = subst (λ l. fit' (head (words l ++ rest)) ≡ true) (sym (given_nothing a))
      (f (head rest) h)

  -- behind a call stands a first word of what goes on: it fits where each word that passes the test fits
  pub before_start : {s : g.Sort} (fit fit' : Option g.Word → Bool) (q : g.Word → Bool) (p : Prod g s) →
      Starts firsts q p → ((w : g.Word) → q w ≡ true → fit' (Some w) ≡ true) → Fitting grammar fit fit' p
  before_start fit fit' q p h f ts x rest a k =
      let b = starts grammar firsts laws q a h in
      subst (λ l. fit' (head (l ++ rest)) ≡ true) (sym b.spelled) (f b.word_at b.passes)

  -- behind a call stands a word that passes a test: it fits where each such word fits
  pub before_token : {s : g.Sort} (fit fit' : Option g.Word → Bool) (test : g.Word → Bool) (next : g.Word →
      Prod g s) → ((w : g.Word) → test w ≡ true → fit' (Some w) ≡ true) → Fitting grammar fit fit' (token test next)
  before_token fit fit' test next f = before_start fit fit' test (token test next) (λ w t. t) f

  -- behind a call stands nothing more or a first word: it fits where both what follows and such words fit
  pub before_open : {s : g.Sort} (fit fit' : Option g.Word → Bool) (q : g.Word → Bool) (p : Prod g s) →
      Opening firsts q p → ((w : g.Word) → q w ≡ true → fit' (Some w) ≡ true) →
      ((a : Option g.Word) → fit a ≡ true → fit' a ≡ true) → Fitting grammar fit fit' p
  before_open fit fit' q (give y) h f k = before_give fit fit' y k
  before_open fit fit' q (token test next) h f k = before_start fit fit' q (token test next) h f
  before_open fit fit' q (call rule next) h f k = before_start fit fit' q (call rule next) h f
  before_open fit fit' q (mark m p) h f k = absurd h

  -- a rule that says nothing, or something with such a first word, and then the rest
  pub before_perhaps : {s v : g.Sort} (fit fit' : Option g.Word → Bool) (q : g.Word → Bool) (rule : g.Rule v)
      (next : g.Val v → Prod g s) →
      ((p : Prod g v) → Among p (grammar.alternatives rule) → Opening firsts q p) →
      ((w : g.Word) → q w ≡ true → fit' (Some w) ≡ true) → ((y : g.Val v) → Fitting grammar fit fit' (next y)) →
      Fitting grammar fit fit' (call rule next)
  before_perhaps fit fit' q rule next o f k ts x rest (is_called {p = p} {us = us} {vs = vs} {y = y} am a b e) h =
      let behind = k y vs x rest b h in
      let all = before_open (λ c. fit' c) fit' q p (o p am) f (λ c d. d) us y (words vs ++ rest) a behind in
      subst (λ l. fit' (head l) ≡ true) (sym (ap (λ l. words l ++ rest) e ∙ words_before us vs rest)) all

  -- the rule alone
  pub before_only : {v : g.Sort} (fit fit' : Option g.Word → Bool) (q : g.Word → Bool) (rule : g.Rule v) →
      ((p : Prod g v) → Among p (grammar.alternatives rule) → Opening firsts q p) →
      ((w : g.Word) → q w ≡ true → fit' (Some w) ≡ true) → ((a : Option g.Word) → fit a ≡ true → fit' a ≡ true) →
      Fitting grammar fit fit' (only rule)
  before_only fit fit' q rule o f k = before_perhaps fit fit' q rule (λ x. give x) o f (λ y. before_give fit fit' y k)

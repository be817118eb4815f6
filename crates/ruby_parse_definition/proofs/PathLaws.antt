-- How paths of modules and classes are read.
use Rattle.std.proofs.Common.{◌≡◌, ℕ, Bool, true, false, List, [], ◌∷◌, ◌++◌, refl, sym, subst}
use Rattle.std.proofs.Common.{None, Result, Ok, Err}
use Rattle.std.proofs.lemmas.Bool.{cond-true, cond-false}
use Rattle.descent.specs.Grammar.{Prod, give, token, call, only}
use Rattle.descent.specs.Reading.{Outcome, take, head, choose, done, fault, Unexpected, Deep, Barred}
use Rattle.descent.specs.Reading.{Twice}
use Rattle.descent.specs.Reading.{by_give, by_word, by_other, by_end, by_mark, by_clash, by_call, by_fault, by_depth}
use Rattle.descent.specs.Reading.{by_bar, by_nothing}
use Rattle.descent.proofs.Laws.{take_is}
use Rattle.ruby_grammar.specs.Words.{Word}
use Rattle.ruby_grammar.specs.Marks.{Mark, Act}
use Rattle.ruby_grammar.specs.Terminals.{is_path, is_const}
use Rattle.ruby_grammar.specs.Rules.{ruby, Path, PathOpening, Sort, Rule, some_names, path_rest}
use Rattle.ruby_grammar.specs.Rules.{opened_path}
use Rattle.ruby_grammar.specs.Expressions.{path_more}
use Rattle.ruby_grammar.specs.Definitions.{body, at_top, opened_from, opened_path_more, opened_path_end}
use Rattle.ruby_grammar.specs.Choices.{ruby_choices, next_is}
use Rattle.ruby_parse_cursor.specs.declared.fault.Fault.{Fault}
use Rattle.ruby_parse_cursor.specs.declared.fault.Fault.TheVariants as f
use Rattle.ruby_parse_steps.specs.Gives.{Comes, Stops, GivesPathRest}
use Rattle.ruby_parse_steps.proofs.Descent.{chosen, called, called_fails, stops_call, stops_word, token_fails}
use Rattle.ruby_parse_definition.specs.Parts.{GivesOpenedRest, GivesWritten, path_then, marked_then}

-- ---- what was read, the other way round
-- a rule reads what its chosen alternative reads
of_rule : {s : Sort} (rule : Rule s) (q : Prod ruby s) (ms : List Mark) (ws : List Word) (o : Outcome ruby s) →
    choose ruby_choices rule ws ≡ take q → Comes (only rule) ms ws o → Comes q ms ws o
of_rule rule q ms ws o c (by_call {ns = ns} {rest = rest} {y = y} d a by_give) =
    subst (λ r. Comes r ms ws (done y ns rest)) (take_is _ d c) a
of_rule rule q ms ws o c (by_fault {rest = rest} {why = why} d a) =
    subst (λ r. Comes r ms ws (fault why rest)) (take_is _ d c) a
of_rule rule q ms ws o c (by_depth d) = cc
of_rule rule q ms ws o c (by_bar d) = cc
of_rule rule q ms ws o c (by_nothing d) = cc

of_word : {s : Sort} (test : Word → Bool) (next : Word → Prod ruby s) (ms : List Mark) (w : Word) (ws : List Word)
    (o : Outcome ruby s) → test w ≡ true → Comes (token test next) ms (w ∷ ws) o → Comes (next w) ms ws o
of_word test next ms w ws o t (by_word u a) = a
of_word test next ms w ws o t (by_other u) = cc

of_other : {s : Sort} (test : Word → Bool) (next : Word → Prod ruby s) (ms : List Mark) (w : Word) (ws : List Word)
    (o : Outcome ruby s) → test w ≡ false → Comes (token test next) ms (w ∷ ws) o → o ≡ fault Unexpected (w ∷ ws)
of_other test next ms w ws o t (by_word u a) = cc
of_other test next ms w ws o t (by_other u) = refl

of_end : {s : Sort} (test : Word → Bool) (next : Word → Prod ruby s) (ms : List Mark) (o : Outcome ruby s) →
    Comes (token test next) ms [] o → o ≡ fault Unexpected []
of_end test next ms o by_end = refl

of_give : {s : Sort} (x : _) (ms : List Mark) (ws : List Word) (o : Outcome ruby s) →
    Comes {s = s} (give x) ms ws o → o ≡ done x ms ws
of_give x ms ws o by_give = refl

-- ---- the rest of a path that is opened is read as that of another path
-- what comes behind the path, or the same fault
abbrev Behind : PathOpening → List Mark → Outcome ruby some_names → Outcome ruby some_names → Type 0
Behind how ms (done path ns rest) o = Comes (opened_path_end how path) ms rest o
Behind how ms (fault why rest) o = o ≡ fault why rest

module _ (how : PathOpening) (ms : List Mark) (o : Outcome ruby some_names) where
  ends : (names : Path) (ws : List Word) (r : Outcome ruby some_names) → next_is is_path (head ws) ≡ false →
      Comes (only (path_rest true None names)) ms ws r → Behind how ms r o →
      Comes (only (opened_path true how names)) ms ws o
  ends names ws r p a b =
      let e = of_give {s = some_names} names ms ws r
      (of_rule {s = some_names} (path_rest true None names) (give names) ms ws r (cond-false _ _ _ p) a) in
      chosen {s = some_names} (opened_path true how names) (opened_path_end how names) ms ws o (cond-false _ _ _ p)
      (subst (λ k. Behind how ms k o) e b)

  abbrev Moves : List Word → Type 0
  Moves ws = (names : Path) (r : Outcome ruby some_names) → Comes (only (path_rest true None names)) ms ws r →
      Behind how ms r o → Comes (only (opened_path true how names)) ms ws o

  goes_on : (w v : Word) (ws : List Word) → is_path w ≡ true → Moves ws → Moves (w ∷ v ∷ ws)
  goes_on w v ws p h names r a b =
      let k = of_word {s = some_names} is_path _ ms w (v ∷ ws) r p
      (of_rule {s = some_names} (path_rest true None names) (path_more None names) ms (w ∷ v ∷ ws) r
      (cond-true _ _ _ p) a) in
      chosen {s = some_names} (opened_path true how names) (opened_path_more how names) ms (w ∷ v ∷ ws) o
      (cond-true _ _ _ p) (by_word p (by_const (is_const v) refl k))
    where
      by_const : (b : Bool) → is_const v ≡ b →
          Comes (token is_const λ x. only (path_rest true None (names ++ x.text ∷ []))) ms (v ∷ ws) r →
          Comes (token is_const λ x. only (opened_path true how (names ++ x.text ∷ []))) ms (v ∷ ws) o
      by_const true q k = by_word q (h (names ++ v.text ∷ []) r (of_word {s = some_names} is_const _ ms v ws r q k) b)
      by_const false q k =
          subst (λ l. Comes {s = some_names} (token is_const λ x. only (opened_path true how (names ++ x.text ∷ [])))
          ms (v ∷ ws) l)
          (sym (subst (λ l. Behind how ms l o) (of_other {s = some_names} is_const _ ms v ws r q k) b)) (by_other q)

  breaks_off : (w : Word) → is_path w ≡ true → Moves (w ∷ [])
  breaks_off w p names r a b =
      let k = of_word {s = some_names} is_path _ ms w [] r p
      (of_rule {s = some_names} (path_rest true None names) (path_more None names) ms (w ∷ []) r
      (cond-true _ _ _ p) a) in
      chosen {s = some_names} (opened_path true how names) (opened_path_more how names) ms (w ∷ []) o
      (cond-true _ _ _ p) (by_word p
      (subst (λ l. Comes {s = some_names} (token is_const λ x. only (opened_path true how (names ++ x.text ∷ [])))
      ms [] l) (sym (subst (λ l. Behind how ms l o) (of_end {s = some_names} is_const _ ms r k) b)) by_end))

  -- whatever stands there
  pub moves : (ws : List Word) → Moves ws
  moves [] names r a b = ends names [] r refl a b
  moves (w ∷ []) names r a b = by (is_path w) refl
    where
      by : (c : Bool) → is_path w ≡ c → Comes (only (opened_path true how names)) ms (w ∷ []) o
      by true p = breaks_off w p names r a b
      by false p = ends names (w ∷ []) r p a b
  moves (w ∷ v ∷ ws) names r a b = by (is_path w) refl (λ p. goes_on w v ws p (moves ws) names r a b)
    where
      by : (c : Bool) → is_path w ≡ c →
          (is_path w ≡ true → Comes (only (opened_path true how names)) ms (w ∷ v ∷ ws) o) →
          Comes (only (opened_path true how names)) ms (w ∷ v ∷ ws) o
      by true p h = h p
      by false p h = ends names (w ∷ v ∷ ws) r p a b

module _ (first : Path) where
  -- the rest of a path is read
  pub rest_reads : (ws rest : List Word) (r : Result Path Fault) → GivesPathRest first ws r rest →
      GivesOpenedRest true first ws r rest
  rest_reads ws rest (Ok path) g = λ how ms o h.
      moves how ms o ws first (done path ms rest) (g None ms (done path ms rest) by_give) h
  rest_reads ws rest (Err f.Unexpected) g = λ how ms.
      moves how ms (fault Unexpected rest) ws first (fault Unexpected rest) (g None ms) refl
  rest_reads ws rest (Err f.Deep) g = λ how ms.
      moves how ms (fault Deep rest) ws first (fault Deep rest) (g None ms) refl
  rest_reads ws rest (Err f.Barred) g = λ how ms.
      moves how ms (fault Barred rest) ws first (fault Barred rest) (g None ms) refl
  rest_reads ws rest (Err (f.Twice at)) g = λ how ms.
      let k = g None ms in
      (k.0, moves how ms (fault (Twice k.0) rest) ws first (fault (Twice k.0) rest) k.1 refl, k.2)
  rest_reads ws rest (Err f.Memory) g = λ how ms. tt

  -- nothing follows where nothing may
  pub none_follows : (ws : List Word) → GivesOpenedRest false first ws (Ok first) ws
  none_follows ws = λ how ms o h.
      chosen {s = some_names} (opened_path false how first) (opened_path_end how first) ms ws o refl h

-- ---- a path as it is written
module _ (may_go_on : Bool) where
  rest_then : {s : Sort} (outer : Path) (act : Act) (next : Path → ℕ → Prod ruby s) → Word → Prod ruby s
  rest_then outer act next w = call (opened_from (body 0 false outer) act w) λ path. next path w.at

  abbrev how_of : Path → Act → Word → PathOpening
  how_of outer act w = record { outer = outer; act = act; at = w.at }

  module _ (w : Word) (first : Path) (ws mid : List Word) (e : ws ≡ w ∷ mid) (k : is_const w ≡ true)
      (n : first ≡ w.text ∷ []) where
    -- a constant and the rest of a path are the path as it is written, which stands where the constant does
    pub path_reads : (path : Path) (rest : List Word) → GivesOpenedRest may_go_on first mid (Ok path) rest →
        GivesWritten may_go_on ws (Ok (record { path = path; at = w.at })) rest
    path_reads path rest g = λ outer act s next ms o t h.
        subst (λ l. Comes (path_then (body 0 false outer) act next) ms l o) (sym e)
        (by_word k (behind outer act s next ms o t h))
      where
        in_rule : (outer : Path) (act : Act) (ms : List Mark) (o : Outcome ruby some_names) → at_top outer ≡ may_go_on →
            Comes (opened_path_end (how_of outer act w) path) ms rest o →
            Comes (only (opened_from (body 0 false outer) act w)) ms mid o
        in_rule outer act ms o t h =
            subst (λ b. Comes {s = some_names} (only (opened_path b (how_of outer act w) (w.text ∷ []))) ms mid o)
            (sym t)
            (subst (λ l. Comes {s = some_names} (only (opened_path may_go_on (how_of outer act w) l)) ms mid o) n
            (g (how_of outer act w) ms o h))

        behind : (outer : Path) (act : Act) (s : Sort) (next : Path → ℕ → Prod ruby s) (ms : List Mark)
            (o : Outcome ruby s) → at_top outer ≡ may_go_on →
            Comes (marked_then outer act next (record { path = path; at = w.at })) ms rest o →
            Comes (call (opened_from (body 0 false outer) act w) λ path. next path w.at) ms mid o
        behind outer act s next ms o t (by_mark c a) =
            called {v = some_names} (opened_from (body 0 false outer) act w) (λ path. next path w.at) ms _ mid rest
            path o
            (in_rule outer act ms (done path _ rest) t (by_mark c by_give)) a
        behind outer act s next ms o t (by_clash c) =
            called_fails {v = some_names} (opened_from (body 0 false outer) act w)
            (λ path. next path w.at) ms mid rest _
            (in_rule outer act ms (fault (Twice _) rest) t (by_clash c))

    -- behind a path's first constant, a fault of its rest is the path's fault
    pub path_breaks : (e : Fault) (rest : List Word) → GivesOpenedRest may_go_on first mid (Err e) rest →
        GivesWritten may_go_on ws (Err e) rest
    path_breaks d rest g = λ outer act s next ms t.
        subst (λ l. Stops (path_then (body 0 false outer) act next) ms l d rest) (sym e)
        (stops_word is_const _ ms w mid rest d k
        (stops_call {v = some_names} (opened_from (body 0 false outer) act w) (λ path. next path w.at) ms mid rest d
        (subst (λ b. Stops {s = some_names} (only (opened_path b (how_of outer act w) (w.text ∷ []))) ms mid d rest)
        (sym t)
        (subst (λ l. Stops {s = some_names} (only (opened_path may_go_on (how_of outer act w) l)) ms mid d rest) n
        (g (how_of outer act w) ms)))))

  -- a path begins with a constant: any other word is unexpected
  pub path_lacks : (e : Fault) (ws rest : List Word) → rest ≡ ws → next_is is_const (head ws) ≡ false →
      e ≡ f.Unexpected → GivesWritten may_go_on ws (Err e) rest
  path_lacks e ws rest d t u = λ outer act s next ms _.
      subst (λ x. Stops (path_then (body 0 false outer) act next) ms ws x rest) (sym u)
      (subst (λ l. Comes (path_then (body 0 false outer) act next) ms ws (fault Unexpected l)) (sym d)
      (token_fails is_const _ ms ws t))

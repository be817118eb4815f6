-- How definitions are read that hold no other definitions.
use Rattle.std.proofs.Common.{◌≡◌, ℕ, suc, true, false, List, [], ◌∷◌, ◌++◌, drop, refl, sym, ap, ◌∙◌, subst, None}
use Rattle.std.proofs.Common.{Result, Ok, Err}
use Rattle.std.proofs.lemmas.Bool.{cond-true, cond-false}
use Rattle.descent.specs.Grammar.{Prod, give, token, call, mark, only}
use Rattle.descent.specs.Reading.{take, head, choose, done, by_give}
use Rattle.ruby_types.specs.declared.tree.ConstRef.{ConstRef}
use Rattle.ruby_types.specs.declared.tree.Def.{Def}
use Rattle.ruby_types.specs.declared.tree.Def.TheVariants as def
use Rattle.ruby_types.specs.declared.tree.Expr.{Expr}
use Rattle.ruby_grammar.specs.Words.{Word}
use Rattle.ruby_grammar.specs.Marks.{Mark, assigns, defines}
use Rattle.ruby_grammar.specs.Terminals.{is_const, is_module, is_class, is_assign, is_include, is_attr_reader, is_def}
use Rattle.ruby_grammar.specs.Terminals.{is_sym, is_comma}
use Rattle.ruby_grammar.specs.Rules.{ruby, Name, Path, Body, Sort, a_def, a_constant, an_expression, some_names}
use Rattle.ruby_grammar.specs.Rules.{definition, constant, expression, more_readers}
use Rattle.ruby_grammar.specs.Values.{behind_sign}
use Rattle.ruby_grammar.specs.Statements.{scope}
use Rattle.ruby_grammar.specs.Definitions.{body, counts, at_top, reader, assign_from, include_from, readers_from}
use Rattle.ruby_grammar.specs.Definitions.{reader_more, method_from}
use Rattle.ruby_grammar.specs.Choices.{ruby_choices, next_is, deepen, pick_member}
use Rattle.ruby_parse_cursor.specs.declared.fault.Fault.{Fault}
use Rattle.ruby_parse_cursor.specs.declared.fault.Fault.TheVariants as f
use Rattle.ruby_parse_steps.specs.Gives.{GivesRule, GivesConstant}
use Rattle.ruby_parse_marks.specs.Views.{Noted}
use Rattle.ruby_parse_definition.specs.Answers.{StopsAt, GivesMarked, GivesMarkedRule, Leads, Counted}
use Rattle.ruby_parse_definition.specs.Parts.{reader_then, GivesReader}
use Rattle.ruby_parse_definition.proofs.MarkedSteps.{word, skip, picked, after, quietly, counted, then, finish, stop}
use Rattle.ruby_parse_definition.proofs.MarkedSteps.{lacks}
use Rattle.ruby_parse_definition.proofs.MarkedSteps.{none, deep, breaks, breaks_quietly, clashes, led_marked}

-- ---- an assigned constant
module _ (n : ℕ) (outer : Path) (ms : Noted) (ws : List Word) where
  abbrev here : Body
  here = body n false outer

  abbrev value_of : Name → Prod ruby a_def
  value_of name = call (expression (scope n [])) λ x. give (def.Assign name x)

  abbrev counted_value : Path → Word → Prod ruby a_def
  counted_value full w = mark (counts full assigns w.at) (value_of w.text)

  abbrev assign_then : Word → Prod ruby a_def
  assign_then w = token is_assign λ _. counted_value (outer ++ w.text ∷ []) w

  -- an assignment begins with a constant: any other word is unexpected
  pub no_const : (e : Fault) (ns : Noted) (rest : List Word) → rest ≡ ws → next_is is_const (head ws) ≡ false →
      e ≡ f.Unexpected → GivesMarked {s = a_def} (assign_from here) ms ws (Err e) ns rest
  no_const e ns rest d t u = lacks {s = a_def} is_const assign_then ms ws rest e d t u

  module _ (w : Word) (mid : List Word) (e : ws ≡ w ∷ mid) (t : is_const w ≡ true) where
    to_assign : Leads {s = a_def} (assign_from here) ms ws (assign_then w) ms mid
    to_assign = word {s = a_def} is_const assign_then w ms ws mid e t

    -- behind the constant of an assignment any word but `=` is unexpected
    pub assign_lacks_terminal : (e : Fault) (ns : Noted) (rest : List Word) → rest ≡ mid →
        next_is is_assign (head mid) ≡ false → e ≡ f.Unexpected →
        GivesMarked {s = a_def} (assign_from here) ms ws (Err e) ns rest
    assign_lacks_terminal e ns rest s q u = stop {s = a_def} _ _ ms ms ws mid rest e to_assign
        (lacks {s = a_def} is_assign (λ _. counted_value (outer ++ w.text ∷ []) w) ms mid rest e s q u)

    module _ (behind : List Word) (q : next_is is_assign (head mid) ≡ true) (d : behind ≡ drop 1 mid) (full : Path)
        (l : full ≡ outer ++ w.text ∷ []) where
      to_mark : Leads {s = a_def} (assign_from here) ms ws (counted_value full w) ms behind
      to_mark = subst (λ v. Leads {s = a_def} (assign_from here) ms ws (counted_value v w) ms behind) (sym l)
          (then to_assign (skip {s = a_def} is_assign (counted_value (outer ++ w.text ∷ []) w) ms mid behind q d))

      -- an assignment whose mark is refused stops behind `=`, as that of a constant that is assigned already
      pub assign_clashes : (e : Fault) (ns : Noted) → Counted ms (counts full assigns w.at) (Err e) ns →
          GivesMarked {s = a_def} (assign_from here) ms ws (Err e) ns behind
      assign_clashes e ns h = stop {s = a_def} _ _ ms ms ws behind behind e to_mark
          (clashes {s = a_def} (counts full assigns w.at) (value_of w.text) ms behind e h)

      module _ (ns : Noted) (u : Unit {0}) (h : Counted ms (counts full assigns w.at) (Ok u) ns) where
        to_value : Leads {s = a_def} (assign_from here) ms ws (value_of w.text) ns behind
        to_value = then to_mark (counted {s = a_def} (counts full assigns w.at) (value_of w.text) ms ns behind u h)

        -- behind `=`, a fault of the value is the assignment's fault
        pub assign_breaks : (e : Fault) (rest : List Word) →
            GivesRule {s = an_expression} (expression (scope n [])) behind (Err e) rest →
            GivesMarked {s = a_def} (assign_from here) ms ws (Err e) ns rest
        assign_breaks e rest g = stop {s = a_def} _ _ ms ns ws behind rest e to_value
            (breaks_quietly {s = a_def} {u = an_expression} (expression (scope n []))
            (λ x. give (def.Assign w.text x)) ns behind rest e g)

        -- a constant whose mark counts, `=` and an expression without local variables are an assignment
        pub assign_reads : (x : Expr) (name : Name) (rest : List Word) → name ≡ w.text →
            GivesRule {s = an_expression} (expression (scope n [])) behind (Ok x) rest →
            GivesMarked {s = a_def} (assign_from here) ms ws (Ok (def.Assign name x)) ns rest
        assign_reads x name rest k g =
            subst (λ v. GivesMarked {s = a_def} (assign_from here) ms ws (Ok (def.Assign v x)) ns rest) (sym k)
            (finish {s = a_def} (assign_from here) (def.Assign w.text x) ms ns ws rest
            (then to_value (quietly {s = a_def} {u = an_expression} (expression (scope n []))
            (λ x. give (def.Assign w.text x)) x ns behind rest g)))

-- ---- `include`
module _ (ms : Noted) (ws : List Word) where
  -- an inclusion begins with `include`: any other word is unexpected
  pub no_include : (e : Fault) (ns : Noted) (rest : List Word) → rest ≡ ws →
      next_is is_include (head ws) ≡ false → e ≡ f.Unexpected →
      GivesMarked {s = a_def} include_from ms ws (Err e) ns rest
  no_include e ns rest d t u = lacks {s = a_def} is_include (λ _. call (constant None) λ c. give (def.Include c)) ms
      ws rest e d t u

  module _ (mid : List Word) (t : next_is is_include (head ws) ≡ true) (d : mid ≡ drop 1 ws) where
    to_constant : Leads {s = a_def} include_from ms ws (call (constant None) λ c. give (def.Include c)) ms mid
    to_constant = skip {s = a_def} is_include (call (constant None) λ c. give (def.Include c)) ms ws mid t d

    -- behind `include`, a fault of the constant is the inclusion's fault
    pub include_breaks : (e : Fault) (ns : Noted) (rest : List Word) → GivesConstant mid (Err e) rest →
        GivesMarked {s = a_def} include_from ms ws (Err e) ns rest
    include_breaks e ns rest g = stop {s = a_def} _ _ ms ms ws mid rest e to_constant
        (breaks {s = a_def} {u = a_constant} (constant None) (λ c. give (def.Include c)) ms mid rest e
        (λ ks _. g None ks))

    -- `include` and a constant are an inclusion, which adds no mark
    pub include_reads : (c : ConstRef) (rest : List Word) → GivesConstant mid (Ok c) rest →
        GivesMarked {s = a_def} include_from ms ws (Ok (def.Include c)) ms rest
    include_reads c rest g = finish {s = a_def} include_from (def.Include c) ms ms ws rest
        (then to_constant (after {s = a_def} {u = a_constant} (constant None) (λ c. give (def.Include c)) c ms ms mid
        rest (λ ks t. (ks, t, g None ks (done c ks rest) by_give))))

-- ---- readers
module _ (path : Path) (ms : Noted) (ws : List Word) where
  -- a reader is named by a symbol: any other word is unexpected
  pub no_symbol : (e : Fault) (ns : Noted) (rest : List Word) → rest ≡ ws → next_is is_sym (head ws) ≡ false →
      e ≡ f.Unexpected → GivesReader path ms ws (Err e) ns rest
  no_symbol e ns rest d t u = λ s next. lacks is_sym (λ w. mark (reader path w) (next (behind_sign w.text))) ms ws
      rest e d t u

  module _ (w : Word) (mid : List Word) (e : ws ≡ w ∷ mid) (t : is_sym w ≡ true) (name copied : Name)
      (l : name ≡ behind_sign w.text) (k : copied ≡ name) where
    abbrev counting : Mark
    counting = counts path (defines false copied) w.at

    to_reader : {s : Sort} (next : Name → Prod ruby s) →
        Leads (reader_then path next) ms ws (mark counting (next name)) ms mid
    to_reader next = subst (λ v. Leads (reader_then path next) ms ws
        (mark (counts path (defines false v) w.at) (next name)) ms mid) (sym (k ∙ l))
        (subst (λ v. Leads (reader_then path next) ms ws (mark (reader path w) (next v)) ms mid) (sym l)
        (word is_sym (λ w. mark (reader path w) (next (behind_sign w.text))) w ms ws mid e t))

    -- a reader whose mark is refused isn't read, as that of a method that is defined already
    pub reader_clashes : (e : Fault) (ns : Noted) → Counted ms counting (Err e) ns →
        GivesReader path ms ws (Err e) ns mid
    reader_clashes e ns h = λ s next. stop _ _ ms ms ws mid mid e (to_reader next)
        (clashes counting (next name) ms mid e h)

    -- a symbol whose mark counts names a reader
    pub reader_reads : (ns : Noted) (u : Unit {0}) → Counted ms counting (Ok u) ns →
        GivesReader path ms ws (Ok name) ns mid
    reader_reads ns u h = λ s next. then (to_reader next) (counted counting (next name) ms ns mid u h)

  module _ (names : List Name) where
    abbrev next_reader : Name → Prod ruby some_names
    next_reader name = only (more_readers path (names ++ name ∷ []))

    module _ (mid : List Word) (t : next_is is_comma (head ws) ≡ true) (d : mid ≡ drop 1 ws) where
      to_symbol : Leads {s = some_names} (only (more_readers path names)) ms ws (reader_then path next_reader) ms mid
      to_symbol = then (picked {s = some_names} (more_readers path names) (reader_more path names) ms ws
          (cond-true _ _ _ t)) (skip {s = some_names} is_comma (reader_then path next_reader) ms ws mid t d)

      -- behind a comma, a fault of the next reader stops the readers
      pub reader_lacks : (e : Fault) (ns : Noted) (rest : List Word) → GivesReader path ms mid (Err e) ns rest →
          StopsAt {s = some_names} (only (more_readers path names)) ms ws e rest
      reader_lacks e ns rest g = stop {s = some_names} _ _ ms ms ws mid rest e to_symbol (g some_names next_reader)

      -- behind a comma, a reader joins those before it, and the readers go on
      pub reader_goes_on : (name : Name) (longer : List Name) (ns : Noted) (rest : List Word) →
          GivesReader path ms mid (Ok name) ns rest → longer ≡ names ++ name ∷ [] →
          Leads {s = some_names} (only (more_readers path names)) ms ws (only (more_readers path longer)) ns rest
      reader_goes_on name longer ns rest g l =
          then to_symbol (subst (λ k. Leads {s = some_names} (reader_then path next_reader) ms mid
          (only (more_readers path k)) ns rest) (sym l) (g some_names next_reader))

    -- where no comma follows, the readers that were read are all
    pub readers_end : next_is is_comma (head ws) ≡ false →
        Leads {s = some_names} (only (more_readers path names)) ms ws (give names) ms ws
    readers_end t = picked {s = some_names} (more_readers path names) (give names) ms ws (cond-false _ _ _ t)

module _ (n : ℕ) (path : Path) (ms : Noted) (ws : List Word) where
  abbrev all_readers : Name → Prod ruby a_def
  all_readers name = call (more_readers path (name ∷ [])) λ names. give (def.Readers names)

  -- a definition of readers begins with `attr_reader`: any other word is unexpected
  pub no_attr_reader : (e : Fault) (ns : Noted) (rest : List Word) → rest ≡ ws → next_is is_attr_reader (head ws)
      ≡ false → e ≡ f.Unexpected → GivesMarked {s = a_def} (readers_from (body n false path)) ms ws (Err e) ns rest
  no_attr_reader e ns rest d t u = lacks {s = a_def} is_attr_reader (λ _. reader_then path all_readers) ms ws rest e
      d t u

  module _ (mid : List Word) (t : next_is is_attr_reader (head ws) ≡ true) (d : mid ≡ drop 1 ws) where
    to_first : Leads {s = a_def} (readers_from (body n false path)) ms ws (reader_then path all_readers) ms mid
    to_first = skip {s = a_def} is_attr_reader (reader_then path all_readers) ms ws mid t d

    -- behind `attr_reader`, a fault of the first reader is the definition's fault
    pub first_reader_lacks : (e : Fault) (ns : Noted) (rest : List Word) →
        GivesReader path ms mid (Err e) ns rest → GivesMarked {s = a_def} (readers_from (body n false path)) ms ws
        (Err e) ns rest
    first_reader_lacks e ns rest g = stop {s = a_def} _ _ ms ms ws mid rest e to_first (g a_def all_readers)

    module _ (name : Name) (ns : Noted) (behind : List Word) (g : GivesReader path ms mid (Ok name) ns behind)
        (empty first : List Name) (z : empty ≡ []) (l : first ≡ empty ++ name ∷ []) where
      to_more : Leads {s = a_def} (readers_from (body n false path)) ms ws
          (call (more_readers path first) λ names. give (def.Readers names)) ns behind
      to_more = subst (λ k. Leads {s = a_def} (readers_from (body n false path)) ms ws
          (call (more_readers path k) λ names. give (def.Readers names)) ns behind)
          (sym (l ∙ ap (λ k. k ++ name ∷ []) z)) (then to_first (g a_def all_readers))

      -- behind the first reader, a fault of a further one is the definition's fault
      pub more_readers_break : (e : Fault) (os : Noted) (rest : List Word) →
          GivesMarkedRule {s = some_names} (more_readers path first) ns behind (Err e) os rest →
          GivesMarked {s = a_def} (readers_from (body n false path)) ms ws (Err e) os rest
      more_readers_break e os rest h = stop {s = a_def} _ _ ms ns ws behind rest e to_more
          (breaks {s = a_def} {u = some_names} (more_readers path first) (λ names. give (def.Readers names)) ns
          behind rest e h)

      -- `attr_reader` with a first reader and the further ones is a definition of readers
      pub readers_read : (names : List Name) (os : Noted) (rest : List Word) →
          GivesMarkedRule {s = some_names} (more_readers path first) ns behind (Ok names) os rest →
          GivesMarked {s = a_def} (readers_from (body n false path)) ms ws (Ok (def.Readers names)) os rest
      readers_read names os rest h = finish {s = a_def} (readers_from (body n false path))
          (def.Readers names) ms os ws rest
          (then to_more (after {s = a_def} {u = some_names} (more_readers path first)
          (λ names. give (def.Readers names)) names ns os behind rest h))

-- ---- which of them is chosen
module _ (n : ℕ) (path : Path) (ms : Noted) (ws : List Word) where
  abbrev around : Body
  around = body n false path

  chosen_definition : (p : Prod ruby a_def) (ns : Noted) (rest : List Word) (r : Result Def Fault) →
      choose ruby_choices (definition around) ws ≡ take p → GivesMarked {s = a_def} p ms ws r ns rest →
      GivesMarkedRule {s = a_def} (definition around) ms ws r ns rest
  chosen_definition p ns rest r c g = led_marked {s = a_def} (only (definition around)) p ms ms ns ws ws rest r
      (picked {s = a_def} (definition around) p ms ws c) g

  -- at a constant, a definition is what is read of an assignment
  pub assigned_chosen : (ns : Noted) (rest : List Word) (r : Result Def Fault) →
      next_is is_const (head ws) ≡ true → GivesMarked {s = a_def} (assign_from around) ms ws r ns rest →
      GivesMarkedRule {s = a_def} (definition around) ms ws r ns rest
  assigned_chosen ns rest r t g = chosen_definition (assign_from around) ns rest r (cond-true _ _ _ t) g

  module _ (t : next_is is_const (head ws) ≡ false) (k : next_is is_module (head ws) ≡ false)
      (l : next_is is_class (head ws) ≡ false) where
    -- at the top, a definition begins with a constant, `module` or `class`: any other word is unexpected
    pub nothing_at_top : (ns : Noted) → at_top path ≡ true →
        GivesMarkedRule {s = a_def} (definition around) ms ws (Err f.Unexpected) ns ws
    nothing_at_top ns p = none {s = a_def} (definition around) ms ws ws f.Unexpected refl (cond-false _ _ _ t
        ∙ cond-false _ _ _ k ∙ cond-false _ _ _ l ∙ ap (λ b. pick_member b around (head ws)) p) refl

    module _ (p : at_top path ≡ false) where
      member_chosen : choose ruby_choices (definition around) ws ≡ pick_member false around (head ws)
      member_chosen = cond-false _ _ _ t ∙ cond-false _ _ _ k ∙ cond-false _ _ _ l
          ∙ ap (λ b. pick_member b around (head ws)) p

      -- inside a module or class, at `include`, a definition is what is read of an inclusion
      pub included_chosen : (ns : Noted) (rest : List Word) (r : Result Def Fault) →
          next_is is_include (head ws) ≡ true → GivesMarked {s = a_def} include_from ms ws r ns rest →
          GivesMarkedRule {s = a_def} (definition around) ms ws r ns rest
      included_chosen ns rest r i g = chosen_definition include_from ns rest r (member_chosen ∙ cond-true _ _ _ i) g

      module _ (i : next_is is_include (head ws) ≡ false) where
        -- inside a module or class, at `attr_reader`, a definition is what is read of readers
        pub readers_chosen : (ns : Noted) (rest : List Word) (r : Result Def Fault) →
            next_is is_attr_reader (head ws) ≡ true → GivesMarked {s = a_def} (readers_from around) ms ws r ns rest →
            GivesMarkedRule {s = a_def} (definition around) ms ws r ns rest
        readers_chosen ns rest r a g = chosen_definition (readers_from around) ns rest r
            (member_chosen ∙ cond-false _ _ _ i ∙ cond-true _ _ _ a) g

        module _ (a : next_is is_attr_reader (head ws) ≡ false) where
          -- inside a module or class, at `def` and with a level left, a definition is what is read of a method
          pub method_chosen : (levels : ℕ) (ns : Noted) (rest : List Word) (r : Result Def Fault) →
              next_is is_def (head ws) ≡ true → n ≡ suc levels →
              GivesMarked {s = a_def} (method_from around levels) ms ws r ns rest →
              GivesMarkedRule {s = a_def} (definition around) ms ws r ns rest
          method_chosen levels ns rest r d m g = chosen_definition (method_from around levels) ns rest r
              (member_chosen ∙ cond-false _ _ _ i ∙ cond-false _ _ _ a ∙ cond-true _ _ _ d
              ∙ ap (λ v. deepen v (method_from around)) m) g

          -- where no level is left, a method is nested too deep
          pub method_deep : (e : Fault) (ns : Noted) → next_is is_def (head ws) ≡ true → n ≡ 0 → e ≡ f.Deep →
              GivesMarkedRule {s = a_def} (definition around) ms ws (Err e) ns ws
          method_deep e ns d z u = deep {s = a_def} (definition around) ms ws e (member_chosen ∙ cond-false _ _ _ i
              ∙ cond-false _ _ _ a ∙ cond-true _ _ _ d ∙ ap (λ v. deepen v (method_from around)) z) u

          -- inside a module or class, a word that begins none of its definitions is unexpected
          pub no_member : (ns : Noted) → next_is is_def (head ws) ≡ false →
              GivesMarkedRule {s = a_def} (definition around) ms ws (Err f.Unexpected) ns ws
          no_member ns d = none {s = a_def} (definition around) ms ws ws f.Unexpected refl
              (member_chosen ∙ cond-false _ _ _ i ∙ cond-false _ _ _ a ∙ cond-false _ _ _ d) refl

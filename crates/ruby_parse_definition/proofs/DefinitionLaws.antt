-- How definitions and whole files are read.
use Rattle.std.proofs.Common.{◌≡◌, ℕ, suc, Bool, true, false, List, [], ◌∷◌, ◌++◌, drop, refl, sym, ap, ◌∙◌, subst}
use Rattle.std.proofs.Common.{Option}
use Rattle.std.proofs.Common.{Result, Ok, Err}
use Rattle.std.proofs.lemmas.Bool.{cond-true, cond-false}
use Rattle.descent.specs.Grammar.{Prod, give, token, call, only}
use Rattle.descent.specs.Reading.{head, choose, done}
use Rattle.ruby_types.specs.declared.tree.ConstRef.{ConstRef}
use Rattle.ruby_types.specs.declared.tree.Def.{Def}
use Rattle.ruby_types.specs.declared.tree.Def.TheVariants as def
use Rattle.ruby_types.specs.declared.tree.FileTree.{FileTree}
use Rattle.ruby_grammar.specs.Words.{Word}
use Rattle.ruby_grammar.specs.Terminals.{is_module, is_class, is_end, is_line}
use Rattle.ruby_grammar.specs.Rules.{ruby, Path, Body, a_tree, a_def, some_defs, file, definitions, more_definitions}
use Rattle.ruby_grammar.specs.Rules.{definition}
use Rattle.ruby_grammar.specs.Definitions.{body, file_from, definition_then, module_from, class_from}
use Rattle.ruby_grammar.specs.Language.{most_levels}
use Rattle.ruby_grammar.specs.Choices.{ruby_choices, next_is, deepen, starts_definition}
use Rattle.ruby_parse_cursor.specs.declared.fault.Fault.{Fault}
use Rattle.ruby_parse_cursor.specs.declared.fault.Fault.TheVariants as f
use Rattle.ruby_parse_marks.specs.Views.{Noted, Tells, outside}
use Rattle.ruby_parse_definition.specs.Answers.{StopsAt, GivesMarked, GivesMarkedRule, GivesFile, GivesFileFrom}
use Rattle.ruby_parse_definition.specs.Answers.{LeadsQuietly, Leads, IsInside}
use Rattle.ruby_parse_definition.specs.Parts.{body_then, GivesBody, GivesModule, GivesClass}
use Rattle.ruby_parse_definition.proofs.MarkedSteps.{skip, picked, after, then, finish, stop, lacks, deep, breaks}
use Rattle.ruby_parse_definition.proofs.MarkedSteps.{led_marked, noted_as}
use Rattle.ruby_parse_definition.proofs.CountLaws.{tells_outside}
use Rattle.ruby_parse_definition.proofs.Steps as quiet
use Rattle.ruby_parse_definition.proofs.Steps.{apart}

-- ---- all definitions of a body
module _ (n : ℕ) (path : Path) (ds : List Def) (ms : Noted) (k : ms.here ≡ path) (ws : List Word) where
  abbrev here : Body
  here = body n false path

  abbrev next_definition : Def → Prod ruby some_defs
  next_definition d = only (more_definitions here (ds ++ d ∷ []))

  begins : (b : Bool) → next_is (starts_definition ms.here) (head ws) ≡ b → next_is (starts_definition path) (head ws)
      ≡ b
  begins b p = subst (λ q. next_is (starts_definition q) (head ws) ≡ b) k p

  as_here : (r : Result Def Fault) (ns : Noted) (rest : List Word) →
      GivesMarkedRule {s = a_def} (definition (body n false ms.here)) ms ws r ns rest →
      GivesMarkedRule {s = a_def} (definition here) ms ws r ns rest
  as_here r ns rest g = subst (λ q. GivesMarkedRule {s = a_def} (definition (body n false q)) ms ws r ns rest) k g

  to_definition : next_is (starts_definition ms.here) (head ws) ≡ true →
      Leads {s = some_defs} (only (definitions here ds)) ms ws (call (definition here) next_definition) ms ws
  to_definition p = picked {s = some_defs} (definitions here ds) (definition_then here ds) ms ws
      (cond-true _ _ _ (begins true p))

  -- a fault in the next definition stops the definitions of a body
  pub definitions_break : (e : Fault) (ns : Noted) (rest : List Word) →
      next_is (starts_definition ms.here) (head ws) ≡ true →
      GivesMarkedRule {s = a_def} (definition (body n false ms.here)) ms ws (Err e) ns rest →
      StopsAt {s = some_defs} (only (definitions here ds)) ms ws e rest
  definitions_break e ns rest p g = stop {s = some_defs} _ _ ms ms ws ws rest e (to_definition p)
      (breaks {s = some_defs} {u = a_def} (definition here) next_definition ms ws rest e (as_here (Err e) ns rest g))

  -- where no definition begins, those that were read are all of the body's
  pub definitions_end : next_is (starts_definition ms.here) (head ws) ≡ false →
      Leads {s = some_defs} (only (definitions here ds)) ms ws (give ds) ms ws
  definitions_end p = picked {s = some_defs} (definitions here ds) (give ds) ms ws
      (cond-false _ _ _ (begins false p))

  module _ (d : Def) (longer : List Def) (ns : Noted) (mid : List Word)
      (p : next_is (starts_definition ms.here) (head ws) ≡ true)
      (g : GivesMarkedRule {s = a_def} (definition (body n false ms.here)) ms ws (Ok d) ns mid)
      (l : longer ≡ ds ++ d ∷ []) where
    to_more : Leads {s = some_defs} (only (definitions here ds)) ms ws (only (more_definitions here longer)) ns mid
    to_more = subst (λ k. Leads {s = some_defs} (only (definitions here ds)) ms ws (only (more_definitions here k))
        ns mid) (sym l) (then (to_definition p)
        (after {s = some_defs} {u = a_def} (definition here) next_definition d ms ns ws mid (as_here (Ok d) ns mid g)))

    -- behind a definition and a Line the body goes on, with one definition more
    pub definition_and_line : (rest : List Word) → next_is is_line (head mid) ≡ true → rest ≡ drop 1 mid →
        Leads {s = some_defs} (only (definitions here ds)) ms ws (only (definitions here longer)) ns rest
    definition_and_line rest q k =
        then to_more (then (picked {s = some_defs} (more_definitions here longer)
        (token is_line λ _. only (definitions here longer)) ns mid (cond-true _ _ _ q))
        (skip {s = some_defs} is_line (only (definitions here longer)) ns mid rest q k))

    -- a definition without a Line behind it is the last one of its body
    pub definition_without_line : next_is is_line (head mid) ≡ false →
        Leads {s = some_defs} (only (definitions here ds)) ms ws (give longer) ns mid
    definition_without_line q =
        then to_more (picked {s = some_defs} (more_definitions here longer) (give longer) ns mid (cond-false _ _ _ q))

-- ---- which definition is chosen
module _ (n : ℕ) (path : Path) (ms ns : Noted) (ws : List Word) where
  abbrev around : Body
  around = body n false path

  module_choice : next_is is_module (head ws) ≡ true → choose ruby_choices (definition around) ws
      ≡ deepen n (module_from around)
  module_choice t = cond-false _ _ _ (apart 1 51 ws refl t) ∙ cond-true _ _ _ t

  class_choice : next_is is_class (head ws) ≡ true → choose ruby_choices (definition around) ws
      ≡ deepen n (class_from around)
  class_choice t = cond-false _ _ _ (apart 2 51 ws refl t) ∙ cond-false _ _ _ (apart 2 1 ws refl t) ∙ cond-true _ _ _ t

  -- where no level is left, a module is nested too deep
  pub module_deep : (e : Fault) → next_is is_module (head ws) ≡ true → n ≡ 0 → e ≡ f.Deep →
      GivesMarkedRule {s = a_def} (definition around) ms ws (Err e) ns ws
  module_deep e t z u = deep {s = a_def} (definition around) ms ws e (module_choice t
      ∙ ap (λ v. deepen v (module_from around)) z) u

  -- where no level is left, a class is nested too deep
  pub class_deep : (e : Fault) → next_is is_class (head ws) ≡ true → n ≡ 0 → e ≡ f.Deep →
      GivesMarkedRule {s = a_def} (definition around) ms ws (Err e) ns ws
  class_deep e t z u = deep {s = a_def} (definition around) ms ws e
      (class_choice t ∙ ap (λ v. deepen v (class_from around)) z) u

  module _ (levels : ℕ) (r : Result Def Fault) (rest : List Word) (l : n ≡ suc levels) where
    -- at `module`, with a level left, a definition is what is read of a module
    pub module_chosen : next_is is_module (head ws) ≡ true →
        GivesMarked {s = a_def} (module_from around levels) ms ws r ns rest →
        GivesMarkedRule {s = a_def} (definition around) ms ws r ns rest
    module_chosen t g = led_marked {s = a_def} (only (definition around)) (module_from around levels) ms ms ns ws ws
        rest r (picked {s = a_def} (definition around) (module_from around levels) ms ws (module_choice t
        ∙ ap (λ v. deepen v (module_from around)) l)) g

    -- at `class`, with a level left, a definition is what is read of a class
    pub class_chosen : next_is is_class (head ws) ≡ true →
        GivesMarked {s = a_def} (class_from around levels) ms ws r ns rest →
        GivesMarkedRule {s = a_def} (definition around) ms ws r ns rest
    class_chosen t g = led_marked {s = a_def} (only (definition around)) (class_from around levels) ms ms ns ws ws
        rest r (picked {s = a_def} (definition around) (class_from around levels) ms ws
        (class_choice t ∙ ap (λ v. deepen v (class_from around)) l)) g

-- ---- the definitions inside a module or class
module _ (here : Body) (ms : Noted) (ws : List Word) where
  abbrev end_then : (List Def → Def) → List Def → Prod ruby a_def
  end_then made ds = token is_end λ _. give (made ds)

  -- a fault in the definitions of a module or class is the body's fault
  pub body_breaks : (e : Fault) (ns : Noted) (rest : List Word) →
      GivesMarkedRule {s = some_defs} (definitions here []) ms ws (Err e) ns rest → GivesBody here ms ws (Err e) ns rest
  body_breaks e ns rest g = λ made. breaks {s = a_def} {u = some_defs} (definitions here [])
      (end_then made) ms ws rest e g

  module _ (ds : List Def) (ns : Noted) (mid : List Word)
      (g : GivesMarkedRule {s = some_defs} (definitions here []) ms ws (Ok ds) ns mid) where
    to_end : (made : List Def → Def) → Leads {s = a_def} (body_then here made) ms ws (end_then made ds) ns mid
    to_end made = after {s = a_def} {u = some_defs} (definitions here []) (end_then made) ds ms ns ws mid g

    -- behind the definitions of a module or class any word but `end` is unexpected
    pub body_lacks_end : (e : Fault) (rest : List Word) → rest ≡ mid → next_is is_end (head mid) ≡ false →
        e ≡ f.Unexpected → GivesBody here ms ws (Err e) ns rest
    body_lacks_end e rest s q u = λ made. stop {s = a_def} _ _ ms ns ws mid rest e (to_end made)
        (lacks {s = a_def} is_end (λ _. give (made ds)) ns mid rest e s q u)

    -- definitions with `end` behind them are the body of a module or class
    pub body_reads : (rest : List Word) → next_is is_end (head mid) ≡ true → rest ≡ drop 1 mid →
        GivesBody here ms ws (Ok ds) ns rest
    body_reads rest q s = λ made. then (to_end made) (skip {s = a_def} is_end (give (made ds)) ns mid rest q s)

-- ---- a module, a class
module _ (levels : ℕ) (ms ns : Noted) (ws mid : List Word) (name : Path) (i : IsInside ms name ns) where
  as_inside : (r : Result (List Def) Fault) (os : Noted) (rest : List Word) →
      GivesBody (body levels false ns.here) ns mid r os rest →
      GivesBody (body levels false (ms.here ++ name)) ns mid r os rest
  as_inside r os rest h = subst (λ p. GivesBody (body levels false p) ns mid r os rest) i.0 h

  module _ (g : GivesModule ms ws (Ok name) ns mid) where
    -- a fault in a module's body, behind what opens the module, is the module's fault
    pub module_breaks : (e : Fault) (os : Noted) (rest : List Word) →
        GivesBody (body levels false ns.here) ns mid (Err e) os rest →
        GivesMarked {s = a_def} (module_from (body 0 false ms.here) levels) ms ws (Err e) os rest
    module_breaks e os rest h = stop {s = a_def} _ _ ms ns ws mid rest e (g levels)
        (as_inside (Err e) os rest h (λ ds. def.Module name ds))

    -- what opens a module and then its body are the module, outside of which reading goes on
    pub module_reads : (ds : List Def) (os : Noted) (rest : List Word) →
        GivesBody (body levels false ns.here) ns mid (Ok ds) os rest →
        GivesMarked {s = a_def} (module_from (body 0 false ms.here) levels) ms ws (Ok (def.Module name ds)) (outside os)
        rest
    module_reads ds os rest h = finish {s = a_def} (module_from (body 0 false ms.here) levels)
        (def.Module name ds) ms (outside os) ws rest
        (noted_as {s = a_def} _ _ ms os (outside os) ws rest (λ ks t. tells_outside os ks t)
        (then (g levels) (as_inside (Ok ds) os rest h (λ ds. def.Module name ds))))

  module _ (parent : Option ConstRef) (g : GivesClass ms ws (Ok (name, parent)) ns mid) where
    -- a fault in a class's body, behind what opens the class, is the class's fault
    pub class_breaks : (e : Fault) (os : Noted) (rest : List Word) →
        GivesBody (body levels false ns.here) ns mid (Err e) os rest →
        GivesMarked {s = a_def} (class_from (body 0 false ms.here) levels) ms ws (Err e) os rest
    class_breaks e os rest h = stop {s = a_def} _ _ ms ns ws mid rest e (g levels)
        (as_inside (Err e) os rest h (λ ds. def.Class name parent ds))

    -- what opens a class and then its body are the class, outside of which reading goes on
    pub class_reads : (ds : List Def) (os : Noted) (rest : List Word) →
        GivesBody (body levels false ns.here) ns mid (Ok ds) os rest →
        GivesMarked {s = a_def} (class_from (body 0 false ms.here) levels) ms ws (Ok (def.Class name parent ds))
        (outside os) rest
    class_reads ds os rest h = finish {s = a_def} (class_from (body 0 false ms.here) levels)
        (def.Class name parent ds) ms (outside os) ws rest
        (noted_as {s = a_def} _ _ ms os (outside os) ws rest (λ ks t. tells_outside os ks t)
        (then (g levels) (as_inside (Ok ds) os rest h (λ ds. def.Class name parent ds))))

-- ---- a whole file
abbrev tree_of : List Def → FileTree
tree_of ds = record { defs = ds }

abbrev nothing_noted : Noted
nothing_noted = record { here = []; around = []; deeds = [] }

nothing_told : Tells nothing_noted []
nothing_told = record { tells = λ m. refl }

module _ (v : Noted) (m : v ≡ nothing_noted) (ws : List Word) where
  abbrev all_definitions : Path → Prod ruby a_tree
  all_definitions path = call (definitions (body most_levels false path) []) λ ds. give (tree_of ds)

  -- a fault in the definitions at the top is the file's fault
  pub file_breaks : (e : Fault) (w : Noted) (rest : List Word) →
      GivesMarkedRule {s = some_defs} (definitions (body most_levels false v.here) []) v ws (Err e) w rest →
      GivesFileFrom ws (Err e) rest
  file_breaks e w rest g =
      subst (λ k. StopsAt {s = a_tree} (all_definitions k.here) k ws e rest) m
      (breaks {s = a_tree} {u = some_defs} (definitions (body most_levels false v.here) [])
      (λ ds. give (tree_of ds)) v ws rest e g) [] nothing_told

  -- the definitions at the top are the file's tree
  pub file_reads : (ds : List Def) (w : Noted) (rest : List Word) →
      GivesMarkedRule {s = some_defs} (definitions (body most_levels false v.here) []) v ws (Ok ds) w rest →
      GivesFileFrom ws (Ok (tree_of ds)) rest
  file_reads ds w rest g =
      let k = subst (λ k. GivesMarked {s = a_tree} (all_definitions k.here) k ws (Ok (tree_of ds)) w rest) m
      (finish {s = a_tree} (all_definitions v.here) (tree_of ds) v w ws rest
      (after {s = a_tree} {u = some_defs} (definitions (body most_levels false v.here) [])
      (λ ds. give (tree_of ds)) ds v w ws rest g)) [] nothing_told in
      (k.0, k.2)

led_file : (ws mid rest : List Word) (r : Result FileTree Fault) →
    LeadsQuietly {s = a_tree} (only (file most_levels false)) [] ws (file_from most_levels false) [] mid →
    GivesFileFrom mid r rest → GivesFile ws r rest
led_file ws mid rest (Ok tree) a g = (g.0, a (done tree g.0 rest) g.1)
led_file ws mid rest (Err e) a g = quiet.stop {s = a_tree} (only (file most_levels false))
    (file_from most_levels false) []
    [] ws mid rest e a g

module _ (ws rest : List Word) (r : Result FileTree Fault) where
  -- a Line at the front of a file says nothing: the file is what stands behind it
  pub line_and_file : (mid : List Word) → next_is is_line (head ws) ≡ true → mid ≡ drop 1 ws →
      GivesFileFrom mid r rest → GivesFile ws r rest
  line_and_file mid t d g = led_file ws mid rest r
      (quiet.then (quiet.picked {s = a_tree} (file most_levels false)
      (token is_line λ _. file_from most_levels false) [] ws
      (cond-true _ _ _ t)) (quiet.skip {s = a_tree} is_line (file_from most_levels false) [] ws mid t d)) g

  -- a file without a Line at its front is read from its first word on
  pub file_alone : next_is is_line (head ws) ≡ false → GivesFileFrom ws r rest → GivesFile ws r rest
  file_alone t g = led_file ws ws rest r
      (quiet.picked {s = a_tree} (file most_levels false) (file_from most_levels false) [] ws (cond-false _ _ _ t)) g

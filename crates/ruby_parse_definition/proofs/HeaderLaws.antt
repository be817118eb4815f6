-- How what stands before the definitions in a module or class is read.
use Rattle.std.proofs.Common.{◌≡◌, ℕ, Bool, true, false, List, ◌++◌, drop, sym, ◌∙◌, subst, Option, Some, None}
use Rattle.std.proofs.Common.{Ok, Err}
use Rattle.std.proofs.lemmas.Bool.{cond-true, cond-false}
use Rattle.descent.specs.Grammar.{Prod, give, token, call, mark, only}
use Rattle.descent.specs.Reading.{head}
use Rattle.ruby_types.specs.declared.tree.ConstRef.{ConstRef}
use Rattle.ruby_types.specs.declared.tree.Def.TheVariants as def
use Rattle.ruby_grammar.specs.Words.{Word}
use Rattle.ruby_grammar.specs.Marks.{Mark, Act, opens_module, opens_class, gives_parent}
use Rattle.ruby_grammar.specs.Terminals.{is_module, is_class, is_line, is_less}
use Rattle.ruby_grammar.specs.Rules.{ruby, Path, Sort, a_def, a_parent, a_constant, parent, constant}
use Rattle.ruby_grammar.specs.Definitions as spec
use Rattle.ruby_grammar.specs.Definitions.{body, counts, at_top, module_from, class_from}
use Rattle.ruby_grammar.specs.Choices.{next_is}
use Rattle.ruby_parse_cursor.specs.declared.fault.Fault.{Fault}
use Rattle.ruby_parse_cursor.specs.declared.fault.Fault.TheVariants as f
use Rattle.ruby_parse_steps.specs.Gives.{GivesConstant}
use Rattle.ruby_parse_marks.specs.Views.{Noted}
use Rattle.ruby_parse_definition.specs.declared.paths.Written.{Written}
use Rattle.ruby_parse_definition.specs.Answers.{GivesMarkedRule, Leads, Counted, IsInside}
use Rattle.ruby_parse_definition.specs.Parts.{path_then, marked_then, body_then, GivesWritten, GivesPath, GivesModule}
use Rattle.ruby_parse_definition.specs.Parts.{GivesClass, GivesParent}
use Rattle.ruby_parse_definition.proofs.MarkedSteps.{any, skip, picked, after, counted, then, finish, stop, lacks, none}
use Rattle.ruby_parse_definition.proofs.MarkedSteps.{breaks, clashes}

-- ---- a path that is opened
module _ (act : Act) (v : Noted) (may_go_on : Bool) (m : may_go_on ≡ at_top v.here) (ws : List Word) where
  -- a fault in a path as it is written is the fault of the path that is opened
  pub path_stops : (e : Fault) (w : Noted) (rest : List Word) → GivesWritten may_go_on ws (Err e) rest →
      GivesPath act v ws (Err e) w rest
  path_stops e w rest g = λ s next ms _. g v.here act s next ms (sym m)

  module _ (p : Written) (rest : List Word) (g : GivesWritten may_go_on ws (Ok p) rest) where
    to_mark : (s : Sort) (next : Path → ℕ → Prod ruby s) →
        Leads (path_then (body 0 false v.here) act next) v ws (marked_then v.here act next p) v rest
    to_mark s next = any (path_then (body 0 false v.here) act next) (marked_then v.here act next p) v ws rest
        (λ ms o h. g v.here act s next ms o (sym m) h)

    module _ (names : Path) (l : names ≡ p.path) where
      -- a path whose mark is refused isn't opened, as a class whose path is a module already
      pub path_clashes : (e : Fault) (w : Noted) → Counted v (counts (v.here ++ names) act p.at) (Err e) w →
          GivesPath act v ws (Err e) w rest
      path_clashes e w h = λ s next. stop _ _ v v ws rest rest e (to_mark s next)
          (clashes (counts (v.here ++ p.path) act p.at) (next p.path p.at) v rest e
          (subst (λ k. Counted v (counts (v.here ++ k) act p.at) (Err e) w) l h))

      -- a path as it is written, whose mark counts, is opened
      pub path_opens : (w : Noted) (u : Unit {0}) → Counted v (counts (v.here ++ names) act p.at) (Ok u) w →
          GivesPath act v ws (Ok p) w rest
      path_opens w u h = λ s next.
          then (to_mark s next) (counted (counts (v.here ++ p.path) act p.at) (next p.path p.at) v w rest u
          (subst (λ k. Counted v (counts (v.here ++ k) act p.at) (Ok u) w) l h))

-- ---- a module
module _ (v : Noted) (ws : List Word) where
  abbrev lined : ℕ → Path → ℕ → Prod ruby a_def
  lined levels path at = token is_line λ _. body_then (body levels false (v.here ++ path)) (λ ds. def.Module path ds)

  -- what opens a module begins with `module`: any other word is unexpected
  pub no_module : (e : Fault) (w : Noted) (rest : List Word) → rest ≡ ws → next_is is_module (head ws) ≡ false →
      e ≡ f.Unexpected → GivesModule v ws (Err e) w rest
  no_module e w rest d t u = λ levels. lacks is_module
      (λ _. path_then (body 0 false v.here) opens_module (lined levels)) v ws rest e d t u

  module _ (mid : List Word) (t : next_is is_module (head ws) ≡ true) (d : mid ≡ drop 1 ws) where
    to_path : (levels : ℕ) → Leads (module_from (body 0 false v.here) levels) v ws
        (path_then (body 0 false v.here) opens_module (lined levels)) v mid
    to_path levels = skip is_module (path_then (body 0 false v.here) opens_module (lined levels)) v ws mid t d

    -- behind `module`, a fault of the path is the module's fault
    pub module_lacks_path : (e : Fault) (w : Noted) (rest : List Word) →
        GivesPath opens_module v mid (Err e) w rest → GivesModule v ws (Err e) w rest
    module_lacks_path e w rest g = λ levels. stop _ _ v v ws mid rest e (to_path levels) (g a_def (lined levels))

    module _ (p : Written) (w : Noted) (behind : List Word) (g : GivesPath opens_module v mid (Ok p) w behind) where
      to_line : (levels : ℕ) → Leads (module_from (body 0 false v.here) levels) v ws (lined levels p.path p.at) w behind
      to_line levels = then (to_path levels) (g a_def (lined levels))

      -- behind a module's path any word but a Line is unexpected
      pub module_lacks_line : (e : Fault) (u : Noted) (rest : List Word) → rest ≡ behind →
          next_is is_line (head behind) ≡ false → e ≡ f.Unexpected → GivesModule v ws (Err e) u rest
      module_lacks_line e u rest s q k = λ levels. stop _ _ v w ws behind rest e (to_line levels)
          (lacks is_line (λ _. body_then (body levels false (v.here ++ p.path)) (λ ds. def.Module p.path ds)) w behind
          rest e s q k)

      -- `module`, a path that is opened and a Line open a module
      pub module_opens : (rest : List Word) → next_is is_line (head behind) ≡ true → rest ≡ drop 1 behind →
          GivesModule v ws (Ok p.path) w rest
      module_opens rest q k = λ levels.
          then (to_line levels) (skip is_line (body_then (body levels false (v.here ++ p.path))
          (λ ds. def.Module p.path ds)) w behind rest q k)

  -- ---- a class
  abbrev parented : ℕ → Path → ℕ → Path → Prod ruby a_def
  parented levels path at full = call (parent full at) λ c.
      body_then (body levels false (v.here ++ path)) (λ ds. def.Class path c ds)

  abbrev class_behind : ℕ → Path → ℕ → Prod ruby a_def
  class_behind levels path at = parented levels path at (v.here ++ path)

  -- what opens a class begins with `class`: any other word is unexpected
  pub no_class : (e : Fault) (w : Noted) (rest : List Word) → rest ≡ ws → next_is is_class (head ws) ≡ false →
      e ≡ f.Unexpected → GivesClass v ws (Err e) w rest
  no_class e w rest d t u = λ levels. lacks is_class
      (λ _. path_then (body 0 false v.here) opens_class (class_behind levels)) v ws rest e d t u

  module _ (mid : List Word) (t : next_is is_class (head ws) ≡ true) (d : mid ≡ drop 1 ws) where
    to_class_path : (levels : ℕ) → Leads (class_from (body 0 false v.here) levels) v ws
        (path_then (body 0 false v.here) opens_class (class_behind levels)) v mid
    to_class_path levels = skip is_class (path_then (body 0 false v.here) opens_class (class_behind levels)) v ws mid
        t d

    -- behind `class`, a fault of the path is the class's fault
    pub class_lacks_path : (e : Fault) (w : Noted) (rest : List Word) →
        GivesPath opens_class v mid (Err e) w rest → GivesClass v ws (Err e) w rest
    class_lacks_path e w rest g = λ levels. stop _ _ v v ws mid rest e (to_class_path levels)
        (g a_def (class_behind levels))

    module _ (p : Written) (w : Noted) (behind : List Word) (g : GivesPath opens_class v mid (Ok p) w behind)
        (i : IsInside v p.path w) where
      to_parent : (levels : ℕ) →
          Leads (class_from (body 0 false v.here) levels) v ws (parented levels p.path p.at w.here) w behind
      to_parent levels = subst (λ k. Leads (class_from (body 0 false v.here) levels) v ws
          (parented levels p.path p.at k) w behind)
          (sym i.0) (then (to_class_path levels) (g a_def (class_behind levels)))

      -- behind a class's path, a fault of its parent is the class's fault
      pub class_breaks : (e : Fault) (u : Noted) (rest : List Word) →
          GivesMarkedRule {s = a_parent} (parent w.here p.at) w behind (Err e) u rest →
          GivesClass v ws (Err e) u rest
      class_breaks e u rest h = λ levels. stop _ _ v w ws behind rest e (to_parent levels)
          (breaks {u = a_parent} (parent w.here p.at)
          (λ c. body_then (body levels false (v.here ++ p.path)) (λ ds. def.Class p.path c ds)) w behind rest e h)

      -- `class`, a path that is opened and its parent, if it has one, open a class
      pub class_opens : (c : Option ConstRef) (u : Noted) (rest : List Word) →
          GivesMarkedRule {s = a_parent} (parent w.here p.at) w behind (Ok c) u rest →
          GivesClass v ws (Ok (p.path, c)) u rest
      class_opens c u rest h = λ levels.
          then (to_parent levels) (after {u = a_parent} (parent w.here p.at)
          (λ c. body_then (body levels false (v.here ++ p.path)) (λ ds. def.Class p.path c ds)) c w u behind rest h)

-- ---- a parent
module _ (path : Path) (at : ℕ) where
  abbrev gives : Mark
  gives = counts path gives_parent at

  abbrev line_then : ConstRef → Prod ruby a_parent
  line_then c = token is_line λ _. give (Some c)

  abbrev constant_then : Prod ruby a_parent
  constant_then = call (constant (Some gives)) line_then

  -- a parent begins with `<`: any other word is unexpected
  pub no_less : (e : Fault) (v w : Noted) (ws rest : List Word) → rest ≡ ws →
      next_is is_less (head ws) ≡ false → e ≡ f.Unexpected → GivesParent path at v ws (Err e) w rest
  no_less e v w ws rest d t u = lacks {s = a_parent} is_less (λ _. constant_then) v ws rest e d t u

  module _ (v : Noted) (ws mid : List Word) (t : next_is is_less (head ws) ≡ true) (d : mid ≡ drop 1 ws) where
    to_constant : Leads {s = a_parent} (spec.some_parent path at) v ws constant_then v mid
    to_constant = skip {s = a_parent} is_less constant_then v ws mid t d

    -- behind `<`, a fault of the constant is the parent's fault
    pub parent_breaks : (e : Fault) (w : Noted) (rest : List Word) → GivesConstant mid (Err e) rest →
        GivesParent path at v ws (Err e) w rest
    parent_breaks e w rest g = stop _ _ v v ws mid rest e to_constant
        (breaks {u = a_constant} (constant (Some gives)) line_then v mid rest e (λ ms _. g (Some gives) ms))

    module _ (c : ConstRef) (behind : List Word) (g : GivesConstant mid (Ok c) behind) where
      to_ending : Leads {s = a_constant} (only (constant (Some gives))) v mid (mark gives (give c)) v behind
      to_ending = any {s = a_constant} (only (constant (Some gives))) (mark gives (give c)) v mid behind
          (λ ms. g (Some gives) ms)

      -- a parent whose mark is refused isn't given, as that of a class that has one already
      pub parent_clashes : (e : Fault) (w : Noted) → Counted v gives (Err e) w →
          GivesParent path at v ws (Err e) w behind
      parent_clashes e w k = stop _ _ v v ws mid behind e to_constant
          (breaks {u = a_constant} (constant (Some gives)) line_then v mid behind e
          (stop {s = a_constant} _ _ v v mid behind behind e to_ending
          (clashes {s = a_constant} gives (give c) v behind e k)))

      module _ (w : Noted) (u : Unit {0}) (k : Counted v gives (Ok u) w) where
        to_parent_line : Leads {s = a_parent} (spec.some_parent path at) v ws (line_then c) w behind
        to_parent_line = then to_constant
            (after {u = a_constant} (constant (Some gives)) line_then c v w mid behind
            (finish {s = a_constant} (only (constant (Some gives))) c v w mid behind
            (then to_ending (counted {s = a_constant} gives (give c) v w behind u k))))

        -- behind a parent any word but a Line is unexpected
        pub parent_lacks_line : (e : Fault) (x : Noted) (rest : List Word) → rest ≡ behind →
            next_is is_line (head behind) ≡ false → e ≡ f.Unexpected → GivesParent path at v ws (Err e) x rest
        parent_lacks_line e x rest s q l = stop _ _ v w ws behind rest e to_parent_line
            (lacks {s = a_parent} is_line (λ _. give (Some c)) w behind rest e s q l)

        -- `<`, a constant whose mark counts and a Line are a parent
        pub parent_read : (rest : List Word) → next_is is_line (head behind) ≡ true → rest ≡ drop 1 behind →
            GivesParent path at v ws (Ok c) w rest
        parent_read rest q s = then to_parent_line (skip {s = a_parent} is_line (give (Some c)) w behind rest q s)

  -- ---- perhaps a parent
  module _ (v w : Noted) (ws : List Word) where
    -- at `<`, a class has the parent that is read there
    pub with_parent : (c : ConstRef) (rest : List Word) → next_is is_less (head ws) ≡ true →
        GivesParent path at v ws (Ok c) w rest →
        GivesMarkedRule {s = a_parent} (parent path at) v ws (Ok (Some c)) w rest
    with_parent c rest t g = finish {s = a_parent} (only (parent path at)) (Some c) v w ws rest
        (then (picked {s = a_parent} (parent path at) (spec.some_parent path at) v ws (cond-true _ _ _ t)) g)

    -- at `<`, a fault of the parent is what is read behind the class's path
    pub parent_fails : (e : Fault) (rest : List Word) → next_is is_less (head ws) ≡ true →
        GivesParent path at v ws (Err e) w rest →
        GivesMarkedRule {s = a_parent} (parent path at) v ws (Err e) w rest
    parent_fails e rest t g =
        stop _ _ v v ws ws rest e
        (picked {s = a_parent} (parent path at) (spec.some_parent path at) v ws (cond-true _ _ _ t)) g

    -- behind a class's path any word but `<` and a Line is unexpected
    pub neither : (e : Fault) (rest : List Word) → next_is is_less (head ws) ≡ false → rest ≡ ws →
        next_is is_line (head ws) ≡ false → e ≡ f.Unexpected →
        GivesMarkedRule {s = a_parent} (parent path at) v ws (Err e) w rest
    neither e rest t d q u = none {s = a_parent} (parent path at) v ws rest e d (cond-false _ _ _ t
        ∙ cond-false _ _ _ q) u

    -- a Line behind a class's path leaves the class without a parent
    pub without_parent : (mid : List Word) → next_is is_less (head ws) ≡ false → next_is is_line (head ws) ≡ true →
        mid ≡ drop 1 ws → GivesMarkedRule {s = a_parent} (parent path at) v ws (Ok None) v mid
    without_parent mid t q d = finish {s = a_parent} (only (parent path at)) None v v ws mid
        (then (picked {s = a_parent} (parent path at) spec.no_parent v ws (cond-false _ _ _ t ∙ cond-true _ _ _ q))
        (skip {s = a_parent} is_line (give None) v ws mid q d))

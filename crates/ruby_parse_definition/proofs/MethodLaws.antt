-- How methods are read.
use Rattle.std.proofs.Common.{◌≡◌, ℕ, suc, Bool, true, false, List, [], drop, refl, sym, ap, ◌∙◌, subst, Result, Ok}
use Rattle.std.proofs.Common.{Err}
use Rattle.std.proofs.lemmas.Bool.{cond-true, cond-false}
use Rattle.descent.specs.Grammar.{Prod, give, token, call, only}
use Rattle.descent.specs.Reading.{head, choose}
use Rattle.ruby_types.specs.declared.tree.Def.{Def}
use Rattle.ruby_types.specs.declared.tree.Def.TheVariants as def
use Rattle.ruby_types.specs.declared.tree.Stmt.{Stmt}
use Rattle.ruby_grammar.specs.Words.{Word}
use Rattle.ruby_grammar.specs.Marks.{Mark}
use Rattle.ruby_grammar.specs.Terminals.{is_def, is_end, is_line, is_open_paren, is_close_paren}
use Rattle.ruby_grammar.specs.Rules.{ruby, Name, Heading, a_def, a_block, a_heading, some_names, heading}
use Rattle.ruby_grammar.specs.Rules.{parameters, parameter_list, statements}
use Rattle.ruby_grammar.specs.Statements.{block, around}
use Rattle.ruby_grammar.specs.Definitions.{body, may_set, method_from, no_parameters, parameters_from}
use Rattle.ruby_grammar.specs.Choices.{ruby_choices, next_is, deepen}
use Rattle.ruby_parse_cursor.specs.declared.fault.Fault.{Fault}
use Rattle.ruby_parse_cursor.specs.declared.fault.Fault.TheVariants as f
use Rattle.ruby_parse_steps.specs.Gives.{Gives, GivesRule}
use Rattle.ruby_parse_steps.proofs.Descent.{g_chosen}
use Rattle.ruby_parse_marks.specs.Views.{Noted}
use Rattle.ruby_parse_statement.specs.declared.blocks.Block.{Block as Held}
use Rattle.ruby_parse_statement.specs.Answers.{block_as}
use Rattle.ruby_parse_definition.specs.declared.headings.Heading.{Heading as HeldHeading}
use Rattle.ruby_parse_definition.specs.declared.methods.Signature.{Signature}
use Rattle.ruby_parse_definition.specs.Answers.{GivesMarkedRule, LeadsQuietly, Leads}
use Rattle.ruby_parse_definition.specs.Parts.{heading_view, heading_as, statements_then, method_behind, GivesStatements}
use Rattle.ruby_parse_definition.specs.Parts.{GivesSignature, GivesMethod}
use Rattle.ruby_parse_definition.proofs.Steps as quiet
use Rattle.ruby_parse_definition.proofs.Steps.{apart}
use Rattle.ruby_parse_definition.proofs.MarkedSteps.{any, skip, after, quietly, then, finish, stop, lacks, breaks}
use Rattle.ruby_parse_definition.proofs.MarkedSteps.{breaks_quietly}

-- ---- parameters in parentheses
abbrev line_then : List Name → Prod ruby some_names
line_then names = token is_line λ _. give names

abbrev close_then : List Name → Prod ruby some_names
close_then names = token is_close_paren λ _. line_then names

abbrev inside : Prod ruby some_names
inside = call parameters close_then

-- the parentheses have no levels of their own in what they say
abbrev enclosed : Prod ruby some_names
enclosed = parameters_from 0

-- parameters in parentheses begin with `(`: any other word is unexpected
pub no_paren : (e : Fault) (ws rest : List Word) → rest ≡ ws → next_is is_open_paren (head ws) ≡ false →
    e ≡ f.Unexpected → Gives {s = some_names} enclosed ws (Err e) rest
no_paren e ws rest d t u = λ ms. quiet.lacks {s = some_names} is_open_paren (λ _. inside) ms ws rest e d t u

module _ (ws mid : List Word) (t : next_is is_open_paren (head ws) ≡ true) (d : mid ≡ drop 1 ws) where
  to_inside : (ms : List Mark) → LeadsQuietly {s = some_names} enclosed ms ws inside ms mid
  to_inside ms = quiet.skip {s = some_names} is_open_paren inside ms ws mid t d

  -- behind `(`, a fault of the parameters is the fault of what is in parentheses
  pub enclosed_breaks : (e : Fault) (rest : List Word) → GivesRule {s = some_names} parameters mid (Err e) rest →
      Gives {s = some_names} enclosed ws (Err e) rest
  enclosed_breaks e rest g = λ ms. quiet.stop {s = some_names} _ _ ms ms ws mid rest e (to_inside ms)
      (quiet.breaks_quietly {s = some_names} {v = some_names} parameters close_then ms mid rest e g)

  module _ (names : List Name) (behind : List Word) (g : GivesRule {s = some_names} parameters mid (Ok names) behind)
    where
      to_close : (ms : List Mark) → LeadsQuietly {s = some_names} enclosed ms ws (close_then names) ms behind
      to_close ms = quiet.then (to_inside ms)
          (quiet.quietly {s = some_names} {v = some_names} parameters close_then names ms mid behind g)

      -- behind the parameters in parentheses any word but `)` is unexpected
      pub enclosed_lacks_close : (e : Fault) (rest : List Word) → rest ≡ behind →
          next_is is_close_paren (head behind) ≡ false → e ≡ f.Unexpected →
          Gives {s = some_names} enclosed ws (Err e) rest
      enclosed_lacks_close e rest s q u = λ ms. quiet.stop {s = some_names} _ _ ms ms ws behind rest e (to_close ms)
          (quiet.lacks {s = some_names} is_close_paren (λ _. line_then names) ms behind rest e s q u)

      module _ (end : List Word) (q : next_is is_close_paren (head behind) ≡ true) (k : end ≡ drop 1 behind) where
        to_line : (ms : List Mark) → LeadsQuietly {s = some_names} enclosed ms ws (line_then names) ms end
        to_line ms = quiet.then (to_close ms)
            (quiet.skip {s = some_names} is_close_paren (line_then names) ms behind end q k)

        -- behind `)` any word but a Line is unexpected
        pub enclosed_lacks_line : (e : Fault) (rest : List Word) → rest ≡ end →
            next_is is_line (head end) ≡ false → e ≡ f.Unexpected → Gives {s = some_names} enclosed ws (Err e) rest
        enclosed_lacks_line e rest s l u = λ ms. quiet.stop {s = some_names} _ _ ms ms ws end rest e (to_line ms)
            (quiet.lacks {s = some_names} is_line (λ _. give names) ms end rest e s l u)

        -- `(`, parameters, `)` and a Line are the parameters of a method
        pub enclosed_reads : (rest : List Word) → next_is is_line (head end) ≡ true → rest ≡ drop 1 end →
            Gives {s = some_names} enclosed ws (Ok names) rest
        enclosed_reads rest l s = λ ms. quiet.finish {s = some_names} enclosed names ms ms ws rest
            (quiet.then (to_line ms) (quiet.skip {s = some_names} is_line (give names) ms end rest l s))

-- ---- perhaps parameters
module _ (levels : ℕ) (ws : List Word) where
  paren_chosen : next_is is_open_paren (head ws) ≡ true → choose ruby_choices (parameter_list levels) ws
      ≡ deepen levels parameters_from
  paren_chosen t = cond-false _ _ _ (apart 91 50 ws refl t) ∙ cond-true _ _ _ t

  -- where no level is left, parameters in parentheses are nested too deep
  pub list_deep : (e : Fault) → next_is is_open_paren (head ws) ≡ true → levels ≡ 0 → e ≡ f.Deep →
      GivesRule {s = some_names} (parameter_list levels) ws (Err e) ws
  list_deep e t l u = λ ms. quiet.deep {s = some_names} (parameter_list levels) ms ws e
      (paren_chosen t ∙ ap (λ n. deepen n parameters_from) l) u

  -- at `(`, with a level left, the parameters of a method are those in parentheses
  pub list_enclosed : (inner : ℕ) (r : Result (List Name) Fault) (rest : List Word) →
      next_is is_open_paren (head ws) ≡ true → levels ≡ suc inner → Gives {s = some_names} enclosed ws r rest →
      GivesRule {s = some_names} (parameter_list levels) ws r rest
  list_enclosed inner r rest t l g = g_chosen {s = some_names} (parameter_list levels) (parameters_from inner) ws rest r
      (paren_chosen t ∙ ap (λ n. deepen n parameters_from) l) g

  -- behind a method's name any word but `(` and a Line is unexpected
  pub list_fails : (e : Fault) (rest : List Word) → next_is is_open_paren (head ws) ≡ false →
      rest ≡ ws → next_is is_line (head ws) ≡ false → e ≡ f.Unexpected →
      GivesRule {s = some_names} (parameter_list levels) ws (Err e) rest
  list_fails e rest t d q u = λ ms. quiet.none {s = some_names} (parameter_list levels) ms ws rest e d
      (cond-false _ _ _ q ∙ cond-false _ _ _ t) u

  -- a Line behind a method's name leaves the method without parameters
  pub list_empty : (mid : List Word) (names : List Name) → next_is is_line (head ws) ≡ true → mid ≡ drop 1 ws →
      names ≡ [] → GivesRule {s = some_names} (parameter_list levels) ws (Ok names) mid
  list_empty mid names q d z =
      subst (λ l. GivesRule {s = some_names} (parameter_list levels) ws (Ok l) mid) (sym z)
      (λ ms. quiet.finish {s = some_names} (only (parameter_list levels)) [] ms ms ws mid
      (quiet.then (quiet.picked {s = some_names} (parameter_list levels) no_parameters ms ws (cond-true _ _ _ q))
      (quiet.skip {s = some_names} is_line (give []) ms ws mid q d)))

-- ---- what stands before the statements
module _ (levels : ℕ) (v : Noted) (ws : List Word) where
  abbrev body_of : Heading → List Name → Prod ruby a_def
  body_of h names = statements_then (around levels (may_set false h) names) (λ ss. def.Method h.single h.name names ss)

  abbrev list_then : Heading → Prod ruby a_def
  list_then h = call (parameter_list levels) λ names. body_of h names

  -- a method begins with `def`: any other word is unexpected
  pub no_def : (e : Fault) (w : Noted) (rest : List Word) → rest ≡ ws → next_is is_def (head ws) ≡ false →
      e ≡ f.Unexpected → GivesSignature levels v ws (Err e) w rest
  no_def e w rest d t u = lacks {s = a_def} is_def (λ _. call (heading v.here) list_then) v ws rest e d t u

  module _ (mid : List Word) (t : next_is is_def (head ws) ≡ true) (d : mid ≡ drop 1 ws) where
    to_heading : Leads {s = a_def} (method_from (body 0 false v.here) levels) v ws (call (heading v.here) list_then) v
        mid
    to_heading = skip {s = a_def} is_def (call (heading v.here) list_then) v ws mid t d

    -- behind `def`, a fault of the method's name is the signature's fault
    pub heading_breaks : (e : Fault) (w : Noted) (rest : List Word) →
        GivesMarkedRule {s = a_heading} (heading v.here) v mid (Err e) w rest →
        GivesSignature levels v ws (Err e) w rest
    heading_breaks e w rest g = stop {s = a_def} _ _ v v ws mid rest e to_heading
        (breaks {s = a_def} {u = a_heading} (heading v.here) list_then v mid rest e g)

    module _ (h : HeldHeading) (w : Noted) (behind : List Word)
        (g : GivesMarkedRule {s = a_heading} (heading v.here) v mid (heading_as (Ok h)) w behind) where
      to_list : Leads {s = a_def} (method_from (body 0 false v.here) levels) v ws (list_then (heading_view h)) w behind
      to_list = then to_heading
          (after {s = a_def} {u = a_heading} (heading v.here) list_then (heading_view h) v w mid behind g)

      -- behind the method's name, a fault of the parameters is the signature's fault
      pub list_breaks : (e : Fault) (x : Noted) (rest : List Word) →
          GivesRule {s = some_names} (parameter_list levels) behind (Err e) rest →
          GivesSignature levels v ws (Err e) x rest
      list_breaks e x rest l = stop {s = a_def} _ _ v w ws behind rest e to_list
          (breaks_quietly {s = a_def} {u = some_names} (parameter_list levels)
          (λ names. body_of (heading_view h) names) w behind rest e l)

      -- `def`, a method's name and its parameters are the signature, behind which the statements come
      pub signature_reads : (names : List Name) (rest : List Word) →
          GivesRule {s = some_names} (parameter_list levels) behind (Ok names) rest →
          GivesSignature levels v ws (Ok (record { heading = h; parameters = names })) w rest
      signature_reads names rest l = then to_list
          (quietly {s = a_def} {u = some_names} (parameter_list levels)
          (λ names. body_of (heading_view h) names) names w behind rest l)

-- ---- the statements
module _ (levels : ℕ) (sets : Bool) (names known : List Name) (z : known ≡ names) (ws : List Word) where
  abbrev end_then : (List Stmt → Def) → List Stmt → Prod ruby a_def
  end_then made ss = token is_end λ _. give (made ss)

  statements_of : (r : Result Held Fault) (behind : List Name) (rest : List Word) →
      GivesRule {s = a_block} (statements (around levels sets known) []) ws (block_as behind r) rest →
      GivesRule {s = a_block} (statements (around levels sets names) []) ws (block_as behind r) rest
  statements_of r behind rest g =
      subst (λ l. GivesRule {s = a_block} (statements (around levels sets l) []) ws (block_as behind r) rest) z g

  -- a fault in the statements of a method is the fault of its body
  pub statements_break : (e : Fault) (behind : List Name) (rest : List Word) →
      GivesRule {s = a_block} (statements (around levels sets known) []) ws (block_as behind (Err e)) rest →
      GivesStatements (around levels sets names) ws (Err e) rest
  statements_break e behind rest g = λ made ms. quiet.breaks_quietly {s = a_def} {v = a_block}
      (statements (around levels sets names) []) (λ b. end_then made b.stmts) ms ws rest e
      (statements_of (Err e) behind rest g)

  module _ (b : Held) (behind : List Name) (mid : List Word)
      (g : GivesRule {s = a_block} (statements (around levels sets known) []) ws (block_as behind (Ok b)) mid) where
    to_last : (made : List Stmt → Def) (ms : List Mark) →
        LeadsQuietly {s = a_def} (statements_then (around levels sets names) made) ms ws
        (end_then made b.statements) ms mid
    to_last made ms = quiet.quietly {s = a_def} {v = a_block} (statements (around levels sets names) [])
        (λ c. end_then made c.stmts) (block b.statements behind b.closed) ms ws mid (statements_of (Ok b) behind mid g)

    -- behind the statements of a method any word but `end` is unexpected
    pub statements_lack_end : (e : Fault) (rest : List Word) → rest ≡ mid → next_is is_end (head mid) ≡ false →
        e ≡ f.Unexpected → GivesStatements (around levels sets names) ws (Err e) rest
    statements_lack_end e rest s q u = λ made ms. quiet.stop {s = a_def} _ _ ms ms ws mid rest e (to_last made ms)
        (quiet.lacks {s = a_def} is_end (λ _. give (made b.statements)) ms mid rest e s q u)

    -- statements that know the parameters, with `end` behind them, are the body of a method
    pub statements_read : (rest : List Word) → next_is is_end (head mid) ≡ true → rest ≡ drop 1 mid →
        GivesStatements (around levels sets names) ws (Ok b.statements) rest
    statements_read rest q s = λ made ms.
        quiet.then (to_last made ms) (quiet.skip {s = a_def} is_end (give (made b.statements)) ms mid rest q s)

-- ---- a whole method
module _ (levels : ℕ) (v w : Noted) (ws mid : List Word) (m : Signature)
    (g : GivesSignature levels v ws (Ok m) w mid) (sets : Bool)
    (k : sets ≡ may_set false (heading_view m.heading)) where
  body_is : (r : Result (List Stmt) Fault) (rest : List Word) →
      GivesStatements (around levels sets m.parameters) mid r rest →
      GivesStatements (around levels (may_set false (heading_view m.heading)) m.parameters) mid r rest
  body_is r rest h = subst (λ b. GivesStatements (around levels b m.parameters) mid r rest) k h

  abbrev made : List Stmt → Def
  made ss = def.Method m.heading.single m.heading.name m.parameters ss

  -- behind the signature, a fault of the statements is the method's fault
  pub method_breaks : (e : Fault) (x : Noted) (rest : List Word) →
      GivesStatements (around levels sets m.parameters) mid (Err e) rest →
      GivesMethod levels v ws (Err e) x rest
  method_breaks e x rest h = stop {s = a_def} _ _ v w ws mid rest e g (λ ms _. body_is (Err e) rest h made ms)

  -- a signature and the statements behind it are a method
  pub method_reads : (ss : List Stmt) (params : List Name) (rest : List Word) → params ≡ m.parameters →
      GivesStatements (around levels sets m.parameters) mid (Ok ss) rest →
      GivesMethod levels v ws (Ok (def.Method m.heading.single m.heading.name params ss)) w rest
  method_reads ss params rest p h =
      subst (λ l. GivesMethod levels v ws (Ok (def.Method m.heading.single m.heading.name l ss)) w rest) (sym p)
      (finish {s = a_def} (method_from (body 0 false v.here) levels) (made ss) v w ws rest
      (then g (any {s = a_def} (method_behind levels m) (give (made ss)) w mid rest
      (λ ms. body_is (Ok ss) rest h made ms))))

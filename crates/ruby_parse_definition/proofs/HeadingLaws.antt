-- How the names of methods are read.
use Rattle.std.proofs.Common.{◌≡◌, ℕ, Bool, true, false, List, ◌∷◌, drop, sym, refl, ◌∙◌, subst, Result, Ok, Err}
use Rattle.std.proofs.lemmas.Bool.{cond-true, cond-false}
use Rattle.descent.specs.Grammar.{Prod, give, token, mark, only}
use Rattle.descent.specs.Reading.{head}
use Rattle.ruby_grammar.specs.Words.{Word}
use Rattle.ruby_grammar.specs.Marks.{Mark, defines}
use Rattle.ruby_grammar.specs.Terminals.{is_name, is_self, is_dot}
use Rattle.ruby_grammar.specs.Rules.{ruby, Name, Path, Heading, a_heading, heading}
use Rattle.ruby_grammar.specs.Definitions.{counts, method_name, singleton_heading}
use Rattle.ruby_grammar.specs.Choices.{next_is}
use Rattle.ruby_parse_cursor.specs.declared.fault.Fault.{Fault}
use Rattle.ruby_parse_cursor.specs.declared.fault.Fault.TheVariants as f
use Rattle.ruby_parse_marks.specs.Views.{Noted}
use Rattle.ruby_parse_definition.specs.Answers.{GivesMarked, GivesMarkedRule, Leads, Counted}
use Rattle.ruby_parse_definition.proofs.MarkedSteps.{word, skip, picked, counted, then, finish, stop, lacks, none}
use Rattle.ruby_parse_definition.proofs.MarkedSteps.{clashes, led_marked}

abbrev named : Bool → Name → Heading
named single name = record { single = single; name = name }

module _ (path : Path) (v : Noted) (ws : List Word) where
  abbrev counting : Bool → Name → ℕ → Mark
  counting single name at = counts path (defines single name) at

  abbrev name_then : Bool → Word → Prod ruby a_heading
  name_then single w = mark (counting single w.text w.at) (give (named single w.text))

  -- where a method's name is wanted, any word but a name is unexpected
  pub name_lacks : (single : Bool) (e : Fault) (w : Noted) (rest : List Word) → rest ≡ ws →
      next_is is_name (head ws) ≡ false → e ≡ f.Unexpected →
      GivesMarked {s = a_heading} (method_name path single) v ws (Err e) w rest
  name_lacks single e w rest d t u = lacks {s = a_heading} is_name (name_then single) v ws rest e d t u

  module _ (single : Bool) (x : Word) (mid : List Word) (q : ws ≡ x ∷ mid) (t : is_name x ≡ true) (name : Name)
      (n : name ≡ x.text) where
    to_mark : Leads {s = a_heading} (method_name path single) v ws
        (mark (counting single name x.at) (give (named single x.text))) v mid
    to_mark = subst (λ l. Leads {s = a_heading} (method_name path single) v ws
        (mark (counting single l x.at) (give (named single x.text))) v mid) (sym n)
        (word {s = a_heading} is_name (name_then single) x v ws mid q t)

    -- a method's name whose mark is refused is not read, as that of a method that is defined already
    pub name_clashes : (e : Fault) (w : Noted) → Counted v (counting single name x.at) (Err e) w →
        GivesMarked {s = a_heading} (method_name path single) v ws (Err e) w mid
    name_clashes e w h = stop {s = a_heading} _ _ v v ws mid mid e to_mark
        (clashes {s = a_heading} (counting single name x.at) (give (named single x.text)) v mid e h)

    -- a name whose mark counts is a method's name
    pub name_reads : (given : Name) (w : Noted) (u : Unit {0}) → given ≡ x.text →
        Counted v (counting single name x.at) (Ok u) w →
        GivesMarked {s = a_heading} (method_name path single) v ws (Ok (named single given)) w mid
    name_reads given w u k h =
        subst (λ l. GivesMarked {s = a_heading} (method_name path single) v ws (Ok (named single l)) w mid) (sym k)
        (finish {s = a_heading} (method_name path single) (named single x.text) v w ws mid
        (then to_mark (counted {s = a_heading} (counting single name x.at) (give (named single x.text)) v w mid u h)))

  -- a singleton method's name begins with `self`: any other word is unexpected
  pub self_lacks : (e : Fault) (w : Noted) (rest : List Word) → rest ≡ ws → next_is is_self (head ws) ≡ false →
      e ≡ f.Unexpected → GivesMarked {s = a_heading} (singleton_heading path) v ws (Err e) w rest
  self_lacks e w rest d t u = lacks {s = a_heading} is_self (λ _. token is_dot λ _. method_name path true) v ws rest e
      d t u

  module _ (mid : List Word) (t : next_is is_self (head ws) ≡ true) (d : mid ≡ drop 1 ws) where
    to_dot : Leads {s = a_heading} (singleton_heading path) v ws (token is_dot λ _. method_name path true) v mid
    to_dot = skip {s = a_heading} is_self (token is_dot λ _. method_name path true) v ws mid t d

    -- behind `self` any word but `.` is unexpected
    pub dot_lacks : (e : Fault) (w : Noted) (rest : List Word) → rest ≡ mid → next_is is_dot (head mid) ≡ false →
        e ≡ f.Unexpected → GivesMarked {s = a_heading} (singleton_heading path) v ws (Err e) w rest
    dot_lacks e w rest s n u = stop {s = a_heading} _ _ v v ws mid rest e to_dot
        (lacks {s = a_heading} is_dot (λ _. method_name path true) v mid rest e s n u)

    -- behind `self.` comes the name of a singleton method
    pub singleton_reads : (behind rest : List Word) (w : Noted) (r : Result Heading Fault) →
        next_is is_dot (head mid) ≡ true → behind ≡ drop 1 mid →
        GivesMarked {s = a_heading} (method_name path true) v behind r w rest →
        GivesMarked {s = a_heading} (singleton_heading path) v ws r w rest
    singleton_reads behind rest w r n b g =
        led_marked {s = a_heading} (singleton_heading path) (method_name path true) v v w ws behind rest r
        (then to_dot (skip {s = a_heading} is_dot (method_name path true) v mid behind n b)) g

  -- at `self`, a method is a singleton method
  pub heading_singleton : (rest : List Word) (w : Noted) (r : Result Heading Fault) →
      next_is is_self (head ws) ≡ true → GivesMarked {s = a_heading} (singleton_heading path) v ws r w rest →
      GivesMarkedRule {s = a_heading} (heading path) v ws r w rest
  heading_singleton rest w r t g = led_marked {s = a_heading} (only (heading path)) (singleton_heading path) v v w ws
      ws rest r (picked {s = a_heading} (heading path) (singleton_heading path) v ws (cond-true _ _ _ t)) g

  -- at a name, a method is one of its module's or class's instances
  pub heading_plain : (rest : List Word) (w : Noted) (r : Result Heading Fault) →
      next_is is_self (head ws) ≡ false → next_is is_name (head ws) ≡ true →
      GivesMarked {s = a_heading} (method_name path false) v ws r w rest →
      GivesMarkedRule {s = a_heading} (heading path) v ws r w rest
  heading_plain rest w r t n g = led_marked {s = a_heading} (only (heading path)) (method_name path false) v v w ws ws
      rest r (picked {s = a_heading} (heading path) (method_name path false) v ws (cond-false _ _ _ t
      ∙ cond-true _ _ _ n)) g

  -- a method's name begins with `self` or a name: any other word is unexpected
  pub no_heading : (w : Noted) → next_is is_self (head ws) ≡ false → next_is is_name (head ws) ≡ false →
      GivesMarkedRule {s = a_heading} (heading path) v ws (Err f.Unexpected) w ws
  no_heading w t n = none {s = a_heading} (heading path) v ws ws f.Unexpected refl (cond-false _ _ _ t
      ∙ cond-false _ _ _ n) refl

-- How parameters are kept and read.
use Rattle.std.proofs.Common.{◌≡◌, ℕ, Bool, true, false, ◌&&◌, ◌||◌, List, [], ◌∷◌, ◌++◌, drop, map, refl, sym, ap, ◌∙◌}
use Rattle.std.proofs.Common.{subst, Result, Ok}
use Rattle.std.specs.Prelude.{bytes_eq}
use Rattle.std.proofs.Common.{◌+◌, ◌<◌, length, get_or}
use Rattle.std.proofs.Common.{take as front}
use Rattle.std.proofs.lemmas.List.{map_more}
use Rattle.std.proofs.lemmas.Bool.{cond-true, cond-false}
use Rattle.descent.specs.Grammar.{Prod, give, token, only}
use Rattle.descent.specs.Reading.{head}
use Rattle.ruby_grammar.specs.Words.{Word}
use Rattle.ruby_grammar.specs.Marks.{Mark}
use Rattle.ruby_grammar.specs.Terminals.{is_comma, is_variable, has, is_new_parameter}
use Rattle.ruby_grammar.specs.Rules.{ruby, Name, some_names, parameters, more_parameters}
use Rattle.ruby_grammar.specs.Definitions.{parameter_more}
use Rattle.ruby_grammar.specs.Choices.{next_is}
use Rattle.ruby_parse_cursor.specs.declared.fault.Fault.{Fault}
use Rattle.ruby_parse_cursor.specs.declared.fault.Fault.TheVariants as f
use Rattle.ruby_parse_steps.specs.Gives.{Stops, GivesRule}
use Rattle.ruby_parse_definition.specs.Names.{HasSame}
use Rattle.ruby_parse_definition.specs.Answers.{LeadsQuietly}
use Rattle.ruby_parse_definition.proofs.Steps.{word, skip, picked, then, finish, stop, lacks, led}

-- ---- the same names, in another order
or_turned : (a b c : Bool) → (a || (b || c)) ≡ (b || (a || c))
or_turned true true c = refl
or_turned true false c = refl
or_turned false b c = refl

has_last : (names : List Name) (n name : Name) → has (names ++ n ∷ []) name ≡ (bytes_eq n name || has names name)
has_last [] n name = refl
has_last (m ∷ names) n name = ap (λ b. bytes_eq m name || b) (has_last names n name)
    ∙ or_turned (bytes_eq m name) (bytes_eq n name) (has names name)

map_last : {A B : Type 0} (g : A → B) (xs : List A) (x : A) → map g (xs ++ x ∷ []) ≡ map g xs ++ g x ∷ []
map_last g [] x = refl
map_last g (y ∷ ys) x = ap (λ l. g y ∷ l) (map_last g ys x)

-- a name added behind the parameters in order and before those to be looked up leaves both with the same names
pub has_same_more : {A : Type 0} (g : A → Name) (xs ys : List A) (x : A) (known longer : List Name) →
    ys ≡ xs ++ x ∷ [] → longer ≡ g x ∷ known → HasSame known (map g xs) → HasSame longer (map g ys)
has_same_more g xs ys x known longer e l h = λ name.
    ap (λ k. has k name) l
    ∙ ap (λ b. bytes_eq (g x) name || b) (h name)
    ∙ sym (has_last (map g xs) (g x) name)
    ∙ ap (λ k. has k name) (sym (map_last g xs x))
    ∙ ap (λ k. has (map g k) name) (sym e)

-- ---- further parameters
module _ (names : List Name) where
  abbrev next_name : Word → Prod ruby some_names
  next_name w = only (more_parameters (names ++ w.text ∷ []))

  module _ (ms : List Mark) (ws mid : List Word) (p : next_is is_comma (head ws) ≡ true) (d : mid ≡ drop 1 ws) where
    to_name : LeadsQuietly {s = some_names} (only (more_parameters names)) ms ws
        (token (is_new_parameter names) next_name)
        ms mid
    to_name = then (picked {s = some_names} (more_parameters names) (parameter_more names) ms ws (cond-true _ _ _ p))
        (skip {s = some_names} is_comma (token (is_new_parameter names) next_name) ms ws mid p d)

    -- behind a comma any word that can't be a new parameter is unexpected
    pub parameter_lacks : (e : Fault) (rest : List Word) → rest ≡ mid → next_is (is_new_parameter names) (head mid)
        ≡ false → e ≡ f.Unexpected → Stops {s = some_names} (only (more_parameters names)) ms ws e rest
    parameter_lacks e rest s n u = stop {s = some_names} _ _ ms ms ws mid rest e to_name
        (lacks {s = some_names} (is_new_parameter names) next_name ms mid rest e s n u)

    -- behind a comma, a new parameter joins those before it, and the parameters go on
    pub parameter_goes_on : (w : Word) (longer : List Name) (rest : List Word) → mid ≡ w ∷ rest →
        is_new_parameter names w ≡ true → longer ≡ names ++ w.text ∷ [] →
        LeadsQuietly {s = some_names} (only (more_parameters names)) ms ws (only (more_parameters longer)) ms rest
    parameter_goes_on w longer rest e n l =
        then to_name (subst (λ k. LeadsQuietly {s = some_names} (token (is_new_parameter names) next_name) ms mid
        (only (more_parameters k)) ms rest) (sym l)
        (word {s = some_names} (is_new_parameter names) next_name w ms mid rest e n))

  -- where no comma follows, the parameters that were read are all
  pub parameters_end : (ms : List Mark) (ws : List Word) → next_is is_comma (head ws) ≡ false →
      LeadsQuietly {s = some_names} (only (more_parameters names)) ms ws (give names) ms ws
  parameters_end ms ws p = picked {s = some_names} (more_parameters names) (give names) ms ws (cond-false _ _ _ p)

-- ---- the first one
and_true : (b : Bool) → (b && true) ≡ b
and_true true = refl
and_true false = refl

first_is : (ws : List Word) → next_is (is_new_parameter []) (head ws) ≡ next_is is_variable (head ws)
first_is [] = refl
first_is (w ∷ ws) = and_true (is_variable w)

abbrev first_name : Prod ruby some_names
first_name = token is_variable λ w. only (more_parameters (w.text ∷ []))

module _ (empty : List Name) (z : empty ≡ []) (ws : List Word) where
  -- a word that can be a parameter is the first one, and the parameters go on behind it
  pub first_reads : (w : Word) (first : List Name) (mid rest : List Word) (r : Result (List Name) Fault) →
      ws ≡ w ∷ mid → is_new_parameter empty w ≡ true → first ≡ empty ++ w.text ∷ [] →
      GivesRule {s = some_names} (more_parameters first) mid r rest →
      GivesRule {s = some_names} parameters ws r rest
  first_reads w first mid rest r e n l g =
      let v : is_variable w ≡ true = sym (and_true (is_variable w)) ∙ subst (λ k. is_new_parameter k w ≡ true) z n in
      let t : next_is is_variable (head ws) ≡ true = subst (λ k. next_is is_variable (head k) ≡ true) (sym e) v in
      let one : first ≡ w.text ∷ [] = l ∙ ap (λ k. k ++ w.text ∷ []) z in
      led {s = some_names} (only parameters) (only (more_parameters (w.text ∷ []))) ws mid rest r
      (λ ms. then (picked {s = some_names} parameters first_name ms ws (cond-true _ _ _ t))
      (word {s = some_names} is_variable (λ w. only (more_parameters (w.text ∷ []))) w ms ws mid e v))
      (subst (λ k. GivesRule {s = some_names} (more_parameters k) mid r rest) one g)

  -- at a word that can't be a parameter there are none
  pub no_parameters : (rest : List Word) → rest ≡ ws → next_is (is_new_parameter empty) (head ws) ≡ false →
      GivesRule {s = some_names} parameters ws (Ok empty) rest
  no_parameters rest d n =
      let t : next_is is_variable (head ws) ≡ false = sym (first_is ws)
      ∙ subst (λ k. next_is (is_new_parameter k) (head ws) ≡ false) z n in
      subst (λ k. GivesRule {s = some_names} parameters ws (Ok k) rest) (sym z)
      (subst (λ l. GivesRule {s = some_names} parameters ws (Ok []) l) (sym d)
      (λ ms. finish {s = some_names} (only parameters) [] ms ms ws ws
      (picked {s = some_names} parameters (give []) ms ws (cond-false _ _ _ t))))

-- one name more was copied
pub copied_more : {A : Type 0} (g : A → Name) (items : List A) (i : ℕ) (d : A) (old longer : List Name) (x : Name) →
    i < length items → old ≡ map g (front i items) → x ≡ g (get_or items i d) → longer ≡ old ++ x ∷ [] →
    longer ≡ map g (front (i + 1) items)
copied_more g items i d old longer x h o e l = l ∙ ap (λ k. k ++ x ∷ []) o
    ∙ ap (λ y. map g (front i items) ++ y ∷ []) e ∙ sym (map_more g items i d h)

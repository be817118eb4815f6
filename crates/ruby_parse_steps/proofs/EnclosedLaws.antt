-- How what stands in brackets is read, one level further in.
use Rattle.std.proofs.Common.{◌≡◌, ℕ, Bool, true, false, List, drop, subst, Result, Ok, Err}
use Rattle.descent.specs.Grammar.{Prod, token, call}
use Rattle.descent.specs.Reading.{take, head, choose}
use Rattle.ruby_grammar.specs.Words.{Word}
use Rattle.ruby_grammar.specs.Rules.{ruby, Sort, Val, Rule, Scope}
use Rattle.ruby_grammar.specs.Expressions.{at_levels}
use Rattle.ruby_grammar.specs.Choices.{ruby_choices, next_is}
use Rattle.ruby_parse_cursor.specs.declared.fault.Fault.{Fault}
use Rattle.ruby_parse_cursor.specs.declared.fault.Fault.TheVariants as f
use Rattle.ruby_parse_steps.specs.Gives.{Gives, GivesRule}
use Rattle.ruby_parse_steps.proofs.Descent.{g_chosen, g_skip, g_lacks, g_then, g_fails}

module _ {s v : Sort} (outer : Rule s) (rule : Scope → Rule v) (next : Val v → Prod ruby s) (opens closes : Word →
    Bool) (here inner : Scope) (n : ℕ) (ws mid : List Word)
    (c : choose ruby_choices outer ws
    ≡ take (token opens λ _. call (rule (at_levels here n)) λ y. token closes λ _. next y))
    (p : next_is opens (head ws) ≡ true) (d : mid ≡ drop 1 ws) (i : inner ≡ at_levels here n) where
  within : (r : Result (Val v) Fault) (rest : List Word) → GivesRule (rule inner) mid r rest →
      GivesRule (rule (at_levels here n)) mid r rest
  within r rest g = subst (λ h. GivesRule (rule h) mid r rest) i g

  -- What stands in brackets, up to the closing one.
  pub enclosed_reads : (y : Val v) (behind rest end : List Word) (r : Result (Val s) Fault) →
      GivesRule (rule inner) mid (Ok y) behind → next_is closes (head behind) ≡ true → rest ≡ drop 1 behind →
      Gives (next y) rest r end → GivesRule outer ws r end
  enclosed_reads y behind rest end r a q e k =
      g_chosen outer _ ws end r c
      (g_skip opens _ ws mid end r p d
      (λ _. g_then (rule (at_levels here n)) _ y mid behind end r (within (Ok y) behind a)
      (g_skip closes _ behind rest end r q e (λ _. k))))

  -- A fault in brackets.
  pub enclosed_breaks : (e : Fault) (rest : List Word) → GivesRule (rule inner) mid (Err e) rest →
      GivesRule outer ws (Err e) rest
  enclosed_breaks e rest a = g_chosen outer _ ws rest (Err e) c
      (g_skip opens _ ws mid rest (Err e) p d
      (λ _. g_fails (rule (at_levels here n)) _ mid rest e (within (Err e) rest a)))

  -- The closing bracket lacks.
  pub enclosed_lacks_close : (y : Val v) (behind : List Word) → GivesRule (rule inner) mid (Ok y) behind →
      next_is closes (head behind) ≡ false → GivesRule outer ws (Err f.Unexpected) behind
  enclosed_lacks_close y behind a q =
      g_chosen outer _ ws behind (Err f.Unexpected) c
      (g_skip opens _ ws mid behind (Err f.Unexpected) p d
      (λ _. g_then (rule (at_levels here n)) _ y mid behind behind (Err f.Unexpected) (within (Ok y) behind a)
      (g_lacks closes _ behind q)))

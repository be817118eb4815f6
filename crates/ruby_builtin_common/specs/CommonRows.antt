-- The rows of every value (the Ruby documentation of Object), of Symbol and of Module, each table in the order of its
-- names' bytes.
use Rattle.std.specs.Prelude.{ℕ, Bool, true, false, List, ◌∷◌, [], codes, length}
use Rattle.ruby_types.specs.Paths.{path_text}
use Rattle.ruby_types.specs.Same.{same}
use Rattle.ruby_types.specs.declared.value.Value.{Value, Value-F, out-Value}
use Rattle.ruby_types.specs.declared.value.Value.TheOpen as layer
use Rattle.ruby_types.specs.declared.value.Value.TheVariants.{True, Str, Sym}
use Rattle.ruby_builtin_base.specs.Answers.{Answer, Gives}
use Rattle.ruby_builtin_base.specs.Arguments.{takes_none, takes_value}
use Rattle.ruby_builtin_base.specs.Characters.{characters}
use Rattle.ruby_builtin_base.specs.Printed.{inspect, to_s}
use Rattle.ruby_builtin_base.specs.Results.{count, truth}

-- Whether one level of a value is nil.
abbrev pub is_nil_layer : Value-F Value → Bool
is_nil_layer layer.Nil = true
is_nil_layer other = false

-- Whether a value is nil.
abbrev pub is_nil : Value → Bool
is_nil on = is_nil_layer (out-Value on)

-- Values never change, so that each is frozen and `freeze` gives the value itself.
abbrev pub value_rows : List (List ℕ × (Value → List Value → Answer))
value_rows =
    (codes "==", λ on. takes_value (λ other. truth (same on other)))
    ∷ (codes "freeze", λ on. takes_none (Gives on))
    ∷ (codes "frozen?", λ on. takes_none (Gives True))
    ∷ (codes "inspect", λ on. takes_none (Gives (Str (inspect on))))
    ∷ (codes "nil?", λ on. takes_none (truth (is_nil on)))
    ∷ (codes "to_s", λ on. takes_none (Gives (Str (to_s on))))
    ∷ []

-- The rows of Symbol.
abbrev pub sym_rows : List (List ℕ × (List ℕ → List Value → Answer))
sym_rows =
    (codes "length", λ name. takes_none (count (length (characters name))))
    ∷ (codes "to_sym", λ name. takes_none (Gives (Sym name)))
    ∷ []

-- The rows of Module.
abbrev pub module_rows : List (List ℕ × (List (List ℕ) → List Value → Answer))
module_rows = (codes "name", λ path. takes_none (Gives (Str (path_text path)))) ∷ []

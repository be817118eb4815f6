-- How large a value is, which built-in methods cost turns by.
use Rattle.std.specs.Prelude.{ℕ, ◌+◌, List, length, map}
use Rattle.std.specs.List.{sum}
use Rattle.ruby_types.specs.Paths.{path_text}
use Rattle.ruby_types.specs.declared.value.Value.{Value, Value-F, fold-Value}
use Rattle.ruby_types.specs.declared.value.Value.TheOpen as layer

-- The bytes of a printed constant path: `A::B` has 4.
abbrev pub path_size : List (List ℕ) → ℕ
path_size path = length (path_text path)

-- what a name inside another adds to it
abbrev pub inner_size : List ℕ → ℕ
inner_size name = 2 + length name

-- one level, with the sizes of what is inside
abbrev pub size_layer : Value-F ℕ → ℕ
size_layer layer.Nil = 16
size_layer layer.True = 16
size_layer layer.False = 16
size_layer (layer.Int number) = 16
size_layer (layer.Str text) = 16 + length text
size_layer (layer.Sym name) = 16 + length name
size_layer (layer.Array sizes) = 16 + sum sizes
size_layer (layer.Hash pairs) = 16 + sum (map (λ p. p.0 + p.1) pairs)
size_layer (layer.Module path) = 16 + path_size path
size_layer (layer.Object class variables) = 16 + (path_size class + sum (map (λ p. p.0 + p.1) variables))

-- The size of a value: 16, and what it holds. `["ab", nil]` has 50.
abbrev pub size : Value → ℕ
size = fold-Value ℕ size_layer

-- The sizes of a key and its value.
abbrev pub pair_size : Value × Value → ℕ
pair_size p = size p.0 + size p.1

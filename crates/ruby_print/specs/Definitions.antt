-- How definitions and a whole file are printed: each item on a line of its own, two spaces deeper than what it stands
-- in.
use Rattle.std.specs.Prelude.{ℕ, Bool, List, [], ◌∷◌, ◌++◌, map, Option, Some, None, codes, if◌then◌else◌}
use Rattle.std.specs.List.{flat_map}
use Rattle.ruby_types.specs.Paths.{path_text}
use Rattle.ruby_types.specs.declared.tree.ConstRef.{ConstRef}
use Rattle.ruby_types.specs.declared.tree.Def.{Def, fold-Def}
use Rattle.ruby_types.specs.declared.tree.Def.TheOpen.{Def-F}
use Rattle.ruby_types.specs.declared.tree.Def.TheOpen as d
use Rattle.ruby_types.specs.declared.tree.FileTree.{FileTree}
use Rattle.ruby_print.specs.Pieces.{joined, constant_text, grouped}
use Rattle.ruby_print.specs.Expressions.{alone}
use Rattle.ruby_print.specs.Statements.{Placed, line, inside, statement}

-- a body between the line that opens it and its `end`
abbrev pub body : List ℕ → List Placed → List ℕ
body indent xs = inside indent xs ++ codes "end"

-- What a class writes of its parent: ` < A::B`, or nothing.
abbrev pub parent_text : Option ConstRef → List ℕ
parent_text None = []
parent_text (Some c) = codes " < " ++ constant_text c

-- parameters have parentheses, where there are any
abbrev pub parameters_text : List (List ℕ) → List ℕ
parameters_text [] = []
parameters_text (n ∷ ns) = grouped (joined (n ∷ ns))

-- a method: `def name(a, b)` or `def self.name(a, b)`, and its body
abbrev pub heading : Bool → List ℕ → List (List ℕ) → List ℕ
heading single name params = (if single then codes "def self." else codes "def ") ++ (name ++ parameters_text params)

-- A name as a symbol: `:name`.
abbrev pub symbol : List ℕ → List ℕ
symbol name = 58 ∷ name

-- One level of a definition, its inner definitions being printed.
abbrev pub definition_step : Def-F Placed → Placed
definition_step (d.Module path xs) indent = codes "module " ++ (path_text path ++ body indent xs)
definition_step (d.Class path parent xs) indent =
    codes "class " ++ (path_text path ++ (parent_text parent ++ body indent xs))
definition_step (d.Assign name value) indent = name ++ (codes " = " ++ alone value)
definition_step (d.Method single name params ss) indent = heading single name params ++ body indent (map statement ss)
definition_step (d.Include c) indent = codes "include " ++ constant_text c
definition_step (d.Readers names) indent = codes "attr_reader " ++ joined (map symbol names)

-- A definition, given the spaces that its line begins with.
abbrev pub definition : Def → Placed
definition = fold-Def Placed definition_step

-- the lines of these definitions
abbrev pub definition_lines : List ℕ → List Def → List ℕ
definition_lines indent ds = flat_map (λ x. line indent (definition x)) ds

-- The printed text of a file's tree.
abbrev pub print : FileTree → List ℕ
print tree = definition_lines [] tree.defs

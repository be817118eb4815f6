-- The rules of definitions, and of a whole file.
use Rattle.std.specs.Prelude.{ℕ, Bool, true, false, ◌&&◌, ◌||◌, not, List, [], ◌∷◌, ◌++◌, Some, None, codes, bytes_eq}
use Rattle.ruby_types.specs.declared.tree.Def.{Def}
use Rattle.ruby_types.specs.declared.tree.Def.TheVariants as def
use Rattle.descent.specs.Grammar.{Prod, give, token, call, mark, only}
use Rattle.ruby_grammar.specs.Words.{Word}
use Rattle.ruby_grammar.specs.Terminals.{is_name, is_module, is_class, is_def, is_end, is_self, is_include}
use Rattle.ruby_grammar.specs.Terminals.{is_attr_reader}
use Rattle.ruby_grammar.specs.Terminals.{is_line, is_const, is_sym, is_less, is_dot, is_comma, is_assign, is_open_paren}
use Rattle.ruby_grammar.specs.Terminals.{is_close_paren, is_path, is_variable, is_new_parameter}
use Rattle.ruby_grammar.specs.Marks.{Mark, Act, assigns, opens_module, opens_class, gives_parent, defines}
use Rattle.ruby_grammar.specs.Rules.{ruby, Name, Path, Body, Heading, PathOpening, Rule, a_tree, some_defs, a_def}
use Rattle.ruby_grammar.specs.Rules.{a_heading, some_names}
use Rattle.ruby_grammar.specs.Rules.{a_parent}
use Rattle.ruby_grammar.specs.Rules.{definitions, more_definitions, definition, opened_path, parent, constant, heading}
use Rattle.ruby_grammar.specs.Rules.{parameter_list, parameters, more_parameters, more_readers, statements, expression}
use Rattle.ruby_grammar.specs.Values.{behind_sign}
use Rattle.ruby_grammar.specs.Expressions.{opening}
use Rattle.ruby_grammar.specs.Statements.{scope, around}

-- the levels left, whether `@x =` may stand in any method, and the path, as what stands around a definition
abbrev pub body : ℕ → Bool → Path → Body
body levels anywhere path = record { levels = levels; anywhere = anywhere; path = path }

-- the mark of what is done to this path by the name at this place
abbrev pub counts : Path → Act → ℕ → Mark
counts path act at = record { path = path; act = act; at = at }

-- no definition stands around the body
abbrev pub at_top : Path → Bool
at_top [] = true
at_top (n ∷ ns) = false

-- file = { top L }: a Line may stand first, and the last one may lack
abbrev pub file_from : ℕ → Bool → Prod ruby a_tree
file_from levels anywhere = call (definitions (body levels anywhere []) []) λ ds. give (record { defs = ds })

-- file = [ L ] { top L }: with a Line first, or without
abbrev pub file_forms : ℕ → Bool → List (Prod ruby a_tree)
file_forms levels anywhere = (token is_line λ _. file_from levels anywhere) ∷ file_from levels anywhere ∷ []

-- { item L }
abbrev pub definition_then : Body → List Def → Prod ruby some_defs
definition_then here ds = call (definition here) λ d. only (more_definitions here (ds ++ d ∷ []))

-- { item L }: one definition more, or no more
abbrev pub definitions_forms : Body → List Def → List (Prod ruby some_defs)
definitions_forms here ds = definition_then here ds ∷ give ds ∷ []

-- behind a definition: a Line and perhaps more definitions, or the end of the body
abbrev pub more_definitions_forms : Body → List Def → List (Prod ruby some_defs)
more_definitions_forms here ds = (token is_line λ _. only (definitions here ds)) ∷ give ds ∷ []

-- dpath = CONST { "::" CONST }, inside another definition CONST alone. The path counts behind its end, whatever stands
-- there: behind `A = 1` and a Line, `module A` counts twice before another word, a fault of the lexer and the end.
abbrev pub opens : PathOpening → List Name → Mark
opens how names = counts (how.outer ++ names) how.act how.at

-- "::" CONST, and perhaps more of the path
abbrev pub opened_path_more : PathOpening → List Name → Prod ruby some_names
opened_path_more how names = token is_path λ _. token is_const λ w. only (opened_path true how (names ++ w.text ∷ []))

-- the path's end, where it counts as opened
abbrev pub opened_path_end : PathOpening → List Name → Prod ruby some_names
opened_path_end how names = mark (opens how names) (give names)

-- the rest of a path that is opened; where the flag is false its first name is all
abbrev pub opened_path_forms : Bool → PathOpening → List Name → List (Prod ruby some_names)
opened_path_forms true how names = opened_path_more how names ∷ opened_path_end how names ∷ []
opened_path_forms false how names = opened_path_end how names ∷ []

-- a path that is opened in this body, whose first name is this word
abbrev pub opened_from : Body → Act → Word → Rule some_names
opened_from here act w =
    opened_path (at_top here.path) (record { outer = here.path; act = act; at = w.at }) (w.text ∷ [])

-- "module" dpath L { item L } "end"
abbrev pub module_from : Body → ℕ → Prod ruby a_def
module_from here levels =
    token is_module λ _. token is_const λ w. call (opened_from here opens_module w) λ path. token is_line λ _.
    call (definitions (body levels here.anywhere (here.path ++ path)) []) λ ds. token is_end λ _.
    give (def.Module path ds)

-- "class" dpath [ "<" cref ] L { item L } "end"
abbrev pub class_from : Body → ℕ → Prod ruby a_def
class_from here levels =
    token is_class λ _. token is_const λ w. call (opened_from here opens_class w) λ path.
    call (parent (here.path ++ path) w.at) λ p.
    call (definitions (body levels here.anywhere (here.path ++ path)) []) λ ds. token is_end λ _.
    give (def.Class path p ds)

-- a Line right behind the class's path: the class gives no parent
abbrev pub no_parent : Prod ruby a_parent
no_parent = token is_line λ _. give None

-- a parent counts behind the end of its path, at the class's path
abbrev pub some_parent : Path → ℕ → Prod ruby a_parent
some_parent path at = token is_less λ _.
    call (constant (Some (counts path gives_parent at))) λ c. token is_line λ _. give (Some c)

-- [ "<" cref ] L
abbrev pub parent_forms : Path → ℕ → List (Prod ruby a_parent)
parent_forms path at = some_parent path at ∷ no_parent ∷ []

-- CONST "=" expr. It counts behind the `=`.
abbrev pub assign_from : Body → Prod ruby a_def
assign_from here =
    token is_const λ w. token is_assign λ _. mark (counts (here.path ++ w.text ∷ []) assigns w.at)
    (call (expression (scope here.levels [])) λ x. give (def.Assign w.text x))

-- `@x =` may stand in a method `initialize` that isn't a singleton's
abbrev pub may_set : Bool → Heading → Bool
may_set anywhere h = anywhere || (not h.single && bytes_eq h.name (codes "initialize"))

-- "def" [ "self" "." ] NAME [ "(" [ NAME { "," NAME } ] ")" ] L { stmt L } "end"
abbrev pub method_from : Body → ℕ → Prod ruby a_def
method_from here levels =
    token is_def λ _. call (heading here.path) λ h. call (parameter_list levels) λ names.
    call (statements (around levels (may_set here.anywhere h) names) []) λ b. token is_end λ _.
    give (def.Method h.single h.name names b.stmts)

-- A method counts behind its name, with which nothing goes on.
abbrev pub method_name : Path → Bool → Prod ruby a_heading
method_name path single = token is_name λ w.
    mark (counts path (defines single w.text) w.at) (give (record { single = single; name = w.text }))

-- "self" "." NAME: a singleton method's name
abbrev pub singleton_heading : Path → Prod ruby a_heading
singleton_heading path = token is_self λ _. token is_dot λ _. method_name path true

-- [ "self" "." ] NAME
abbrev pub heading_forms : Path → List (Prod ruby a_heading)
heading_forms path = singleton_heading path ∷ method_name path false ∷ []

-- a Line right behind the method's name
abbrev pub no_parameters : Prod ruby some_names
no_parameters = token is_line λ _. give []

-- "(" [ NAME { "," NAME } ] ")" L, which stands only where a level is left
abbrev pub parameters_from : ℕ → Prod ruby some_names
parameters_from levels = token is_open_paren λ _.
    call parameters λ names. token is_close_paren λ _. token is_line λ _. give names

-- [ "(" [ NAME { "," NAME } ] ")" ] L
abbrev pub parameter_list_forms : ℕ → List (Prod ruby some_names)
parameter_list_forms levels = no_parameters ∷ opening levels parameters_from

-- [ NAME { "," NAME } ], where a name has no suffix
abbrev pub parameters_forms : List (Prod ruby some_names)
parameters_forms = (token is_variable λ w. only (more_parameters (w.text ∷ []))) ∷ give [] ∷ []

-- parameters of one method are distinct
abbrev pub parameter_more : List Name → Prod ruby some_names
parameter_more names = token is_comma λ _. token (is_new_parameter names) λ w.
    only (more_parameters (names ++ w.text ∷ []))

-- { "," NAME }, behind these names
abbrev pub more_parameters_forms : List Name → List (Prod ruby some_names)
more_parameters_forms names = parameter_more names ∷ give names ∷ []

-- "include" cref
abbrev pub include_from : Prod ruby a_def
include_from = token is_include λ _. call (constant None) λ c. give (def.Include c)

-- "attr_reader" SYM { "," SYM }. A reader is an instance method, and counts behind its symbol.
abbrev pub reader : Path → Word → Mark
reader path w = counts path (defines false (behind_sign w.text)) w.at

-- the first reader's symbol counts, and then the others
abbrev pub readers_from : Body → Prod ruby a_def
readers_from here = token is_attr_reader λ _. token is_sym λ w.
    mark (reader here.path w) (call (more_readers here.path (behind_sign w.text ∷ [])) λ names.
    give (def.Readers names))

-- "," SYM, which counts, and perhaps more readers
abbrev pub reader_more : Path → List Name → Prod ruby some_names
reader_more path names = token is_comma λ _. token is_sym λ w.
    mark (reader path w) (only (more_readers path (names ++ behind_sign w.text ∷ [])))

-- { "," SYM }, behind these names
abbrev pub more_readers_forms : Path → List Name → List (Prod ruby some_names)
more_readers_forms path names = reader_more path names ∷ give names ∷ []

-- top, and inside another definition: item = top | def | "include" cref | "attr_reader" SYM { "," SYM }
abbrev pub top_forms : Body → List (Prod ruby a_def)
top_forms here = assign_from here ∷ (opening here.levels (module_from here) ++ opening here.levels (class_from here))

-- what stands only inside another definition; nothing at the top, where the flag is true
abbrev pub member_forms : Bool → Body → List (Prod ruby a_def)
member_forms true here = []
member_forms false here = include_from ∷ readers_from here ∷ opening here.levels (method_from here)

-- item, in the body of a path: what may stand at the top, and the members inside another definition
abbrev pub definition_forms : Body → List (Prod ruby a_def)
definition_forms here = top_forms here ++ member_forms (at_top here.path) here

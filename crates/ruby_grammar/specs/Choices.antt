-- How the reader chooses: which alternative of a rule the next word begins (of a simple statement, the next two words).
use Rattle.std.specs.Prelude.{ℕ, zero, suc, Bool, true, false, ◌&&◌, ◌||◌, not, List, [], ◌∷◌, Option, Some, None}
use Rattle.std.specs.Prelude.{if◌then◌else◌}
use Rattle.ruby_types.specs.declared.tree.Expr.{Expr}
use Rattle.ruby_types.specs.declared.tree.Expr.TheVariants as expr
use Rattle.ruby_types.specs.declared.tree.Stmt.{Stmt}
use Rattle.descent.specs.Grammar.{Prod, give, token, call, only}
use Rattle.descent.specs.Reading.{Choice, Choices, take, too_deep, barred, nothing}
use Rattle.ruby_grammar.specs.Words.{Word}
use Rattle.ruby_grammar.specs.Terminals.{Level, units, is_operator, is_name, is_module, is_class, is_def, is_end, is_if}
use Rattle.ruby_grammar.specs.Terminals.{is_elsif, is_else, is_unless, is_then, is_return, is_self, is_nil, is_true}
use Rattle.ruby_grammar.specs.Terminals.{is_false, is_raise, is_include, is_attr_reader, is_line, is_const, is_ivar}
use Rattle.ruby_grammar.specs.Terminals.{is_label, is_sym, is_int, is_text_open, is_text_piece, is_inside_open, is_not}
use Rattle.ruby_grammar.specs.Terminals.{is_less, is_minus, is_ask, is_path, is_dot, is_comma, is_assign, is_open_paren}
use Rattle.ruby_grammar.specs.Terminals.{is_open_bracket, is_open_brace, is_tight_paren, is_tight_bracket, is_variable}
use Rattle.ruby_grammar.specs.Marks.{Mark}
use Rattle.ruby_grammar.specs.Rules.{opened_path, PathOpening}
use Rattle.ruby_grammar.specs.Rules.{ruby, Name, Path, Body, Known, Around, Scope, Block, Sort, Rule, a_def, some_names}
use Rattle.ruby_grammar.specs.Rules.{a_statement, an_expression, some_parts, no_value}
use Rattle.ruby_grammar.specs.Rules.{file, definitions, more_definitions, definition, path_rest, parent, constant}
use Rattle.ruby_grammar.specs.Rules.{heading, parameter_list, parameters, more_parameters, more_readers, statements}
use Rattle.ruby_grammar.specs.Rules.{more_statements, statement, simple_statement, condition_behind, then_or_line}
use Rattle.ruby_grammar.specs.Rules.{perhaps_line, arms_rest, perhaps_expression, expression, choice_rest, operators}
use Rattle.ruby_grammar.specs.Rules.{more_operators, unary, postfix, more_postfix, primary, name_rest}
use Rattle.ruby_grammar.specs.Rules.{perhaps_arguments, members, more_members, pairs, more_pairs, pair, text_parts}
use Rattle.ruby_grammar.specs.Values.{number_of, behind_sign, name_alone}
use Rattle.ruby_grammar.specs.Expressions as e
use Rattle.ruby_grammar.specs.Statements as s
use Rattle.ruby_grammar.specs.Definitions as d
use Rattle.ruby_types.specs.declared.tree.Part.{Part}

-- the next word passes
abbrev pub next_is : (Word → Bool) → Option Word → Bool
next_is test None = false
next_is test (Some w) = test w

-- what opens a level is too deep where none is left
abbrev pub deepen : {t : Sort} → ℕ → (ℕ → Prod ruby t) → Choice ruby t
deepen zero inside = too_deep
deepen (suc levels) inside = take (inside levels)

-- what an expression, a statement or a definition begins with
abbrev pub starts_expression : Word → Bool
starts_expression w =
    is_int w || is_text_open w || is_sym w || is_nil w || is_true w || is_false w || is_self w || is_name w ||
    is_ivar w || is_path w || is_const w
    || is_open_bracket w || is_open_brace w || is_open_paren w || is_not w || is_minus w

-- what an expression begins with, `return`, `raise`, `if` or `unless`
abbrev pub starts_statement : Word → Bool
starts_statement w = starts_expression w || is_return w || is_raise w || is_if w || is_unless w

-- a label, or what an expression begins with, which then has `=>` behind it
abbrev pub starts_pair : Word → Bool
starts_pair w = is_label w || starts_expression w

-- a constant that is assigned, `module` or `class`: what may stand at the top of a file
abbrev pub starts_top : Word → Bool
starts_top w = is_const w || is_module w || is_class w

-- `include`, `attr_reader` or `def`: what stands only inside another definition
abbrev pub starts_member : Word → Bool
starts_member w = is_include w || is_attr_reader w || is_def w

-- what a definition begins with in the body of this path, at the top or inside another
abbrev pub starts_definition : Path → Word → Bool
starts_definition path w = starts_top w || (not (d.at_top path) && starts_member w)

-- a member by its first word, unless the body is the top of the file, where the flag is true
abbrev pub pick_member : Bool → Body → Option Word → Choice ruby a_def
pick_member true here a = nothing
pick_member false here a =
    if next_is is_include a then take d.include_from
    else (if next_is is_attr_reader a then take (d.readers_from here)
    else (if next_is is_def a then deepen here.levels (d.method_from here)
    else nothing))

-- a definition by its first word: `X = ..`, `module`, `class`, or a member
abbrev pub pick_definition : Body → Option Word → Choice ruby a_def
pick_definition here a =
    if next_is is_const a then take (d.assign_from here)
    else (if next_is is_module a then deepen here.levels (d.module_from here)
    else (if next_is is_class a then deepen here.levels (d.class_from here)
    else pick_member (d.at_top here.path) here a))

-- `::` goes on with a path, where the flag lets it; any other word stands behind its end
abbrev pub pick_path_rest : Bool → Option Mark → List Name → Option Word → Choice ruby some_names
pick_path_rest true ending names a = if next_is is_path a then take (e.path_more ending names) else take
    (e.path_end ending names)
pick_path_rest false ending names a = take (e.path_end ending names)

-- the same of a path that is opened: inside another definition, `::` never goes on
abbrev pub pick_opened_path : Bool → PathOpening → List Name → Option Word → Choice ruby some_names
pick_opened_path true how names a = if next_is is_path a then take (d.opened_path_more how names) else take
    (d.opened_path_end how names)
pick_opened_path false how names a = take (d.opened_path_end how names)

-- a statement by its first word: `if`, `unless`, or a simple one with perhaps a condition behind it
abbrev pub pick_statement : Around → Option Word → Choice ruby a_statement
pick_statement here a =
    if next_is is_if a then deepen here.levels (s.if_from here)
    else (if next_is is_unless a then deepen here.levels (s.unless_from here)
    else take (call (simple_statement here) λ t. only (condition_behind here.levels t)))

-- `@x =` where it may not stand is barred at the `=`
abbrev pub pick_set_ivar : Bool → Around → Choice ruby a_statement
pick_set_ivar true here = take (s.setting_ivar here)
pick_set_ivar false here = barred

-- `return`, `raise`, `x =`, `@x =` or an expression; `x == 1` is an expression by its second word
abbrev pub pick_simple_statement : Around → Option Word → Option Word → Choice ruby a_statement
pick_simple_statement here a b =
    if next_is is_return a then take (s.returning here)
    else (if next_is is_raise a then take (s.raising here)
    else (if next_is is_variable a && next_is is_assign b then take (s.setting here)
    else (if next_is is_ivar a && next_is is_assign b then pick_set_ivar here.sets here
    else take (s.evaluating here))))

-- behind a simple statement: `if`, `unless`, or any other word, which stands behind the statement
abbrev pub pick_condition_behind : ℕ → Known → Option Word → Choice ruby a_statement
pick_condition_behind levels t a =
    if next_is is_if a then take (s.if_behind levels t)
    else (if next_is is_unless a then take (s.unless_behind levels t)
    else take (give t))

-- what may stand behind a condition: `then` or a Line, and nothing else
abbrev pub pick_then : Option Word → Choice ruby no_value
pick_then a =
    if next_is is_then a then take (token is_then λ _. only perhaps_line)
    else (if next_is is_line a then take (token is_line λ _. give tt)
    else nothing)

-- `elsif`, where the flag lets it: not behind an `unless`
abbrev pub pick_elsif : Bool → ℕ → Bool → List (Expr × List Stmt) → Block → Option Word → Choice ruby a_statement
pick_elsif true levels sets arms b a = if next_is is_elsif a then take (s.elsif_more levels sets arms b) else nothing
pick_elsif false levels sets arms b a = nothing

-- `else` or `elsif`, where the last statement has its Line, which the first flag says
abbrev pub pick_branch : Bool → ℕ → Bool → Bool → List (Expr × List Stmt) → Block → Option Word →
    Choice ruby a_statement
pick_branch true levels sets may_elsif arms b a =
    if next_is is_else a then take (s.else_more levels sets arms b) else pick_elsif may_elsif levels sets arms b a
pick_branch false levels sets may_elsif arms b a = nothing

-- behind an arm's statements: `end`, or a branch more
abbrev pub pick_arms_rest : ℕ → Bool → Bool → List (Expr × List Stmt) → Block → Option Word → Choice ruby a_statement
pick_arms_rest levels sets may_elsif arms b a = if next_is is_end a then take (s.arms_end arms b) else pick_branch
    b.closed levels sets may_elsif arms b a

-- `!`, `-`, or an operand without such an operator
abbrev pub pick_unary : Scope → Option Word → Choice ruby an_expression
pick_unary here a =
    if next_is is_not a then deepen here.levels (e.not_from here)
    else (if next_is is_minus a then deepen here.levels (e.minus_from here)
    else take (only (postfix here)))

-- an operator of the level goes on; any other word stands behind the expression
abbrev pub pick_more_operators : Level → Scope → Expr → Option Word → Choice ruby an_expression
pick_more_operators units here x a = take (give x)
pick_more_operators level here x a = if next_is (is_operator level) a then take (e.operator_more level here x) else
    take (give x)

-- `.` or a `[` with nothing white before it goes on; any other word stands behind the expression
abbrev pub pick_more_postfix : Scope → Expr → Option Word → Choice ruby an_expression
pick_more_postfix here x a =
    if next_is is_dot a then take (e.method_call here x)
    else (if next_is is_tight_bracket a then deepen here.levels (e.index_from here x)
    else take (give x))

-- a constant, or what opens a bracket
abbrev pub pick_other_primary : Scope → Option Word → Choice ruby an_expression
pick_other_primary here a =
    if next_is is_path a || next_is is_const a then take e.constant_alone
    else (if next_is is_open_bracket a then deepen here.levels (e.array_from here)
    else (if next_is is_open_brace a then deepen here.levels (e.hash_from here)
    else (if next_is is_open_paren a then deepen here.levels (e.group_from here)
    else nothing)))

-- a primary by its first word; nothing begins with a word that begins none
abbrev pub pick_primary : Scope → Option Word → Choice ruby an_expression
pick_primary here a =
    if next_is is_int a then take (token is_int λ w. give (expr.Int (number_of w.text)))
    else (if next_is is_text_open a then take (e.text_from here)
    else (if next_is is_sym a then take (token is_sym λ w. give (expr.Sym (behind_sign w.text)))
    else (if next_is is_nil a then take (token is_nil λ _. give expr.Nil)
    else (if next_is is_true a then take (token is_true λ _. give expr.True)
    else (if next_is is_false a then take (token is_false λ _. give expr.False)
    else (if next_is is_self a then take (token is_self λ _. give expr.SelfRef)
    else (if next_is is_name a then take (token is_name λ w. only (name_rest here w.text))
    else (if next_is is_ivar a then take (token is_ivar λ w. give (expr.Ivar (behind_sign w.text)))
    else pick_other_primary here a))))))))

-- a piece of text or `#{` goes on; any other word is to be the closing quote
abbrev pub pick_text_parts : Scope → Bool → List Part → Option Word → Choice ruby some_parts
pick_text_parts here double parts a =
    if next_is is_text_piece a then take (e.piece_from here double parts)
    else (if next_is is_inside_open a then deepen here.levels (e.inside_from here double parts)
    else take (give parts))

-- what the reader chooses for each rule before the next word, or the next two
abbrev pub pick : {t : Sort} → Rule t → Option Word → Option Word → Choice ruby t
pick (file levels anywhere) a b = if next_is is_line a then take (token is_line λ _. d.file_from levels anywhere)
    else take (d.file_from levels anywhere)
pick (definitions here ds) a b = if next_is (starts_definition here.path) a then take
    (d.definition_then here ds) else take (give ds)
pick (more_definitions here ds) a b = if next_is is_line a then take (token is_line λ _. only (definitions here ds))
    else take (give ds)
pick (definition here) a b = pick_definition here a
pick (path_rest more ending names) a b = pick_path_rest more ending names a
pick (opened_path more how names) a b = pick_opened_path more how names a
pick (parent path at) a b = if next_is is_less a then take (d.some_parent path at) else
    (if next_is is_line a then take d.no_parent else nothing)
pick (constant ending) a b = if next_is is_path a then take (token is_path λ _. e.constant_from true ending) else
    (if next_is is_const a then take (e.constant_from false ending) else nothing)
pick (heading path) a b = if next_is is_self a then take (d.singleton_heading path) else
    (if next_is is_name a then take (d.method_name path false) else nothing)
pick (parameter_list levels) a b = if next_is is_line a then take d.no_parameters else
    (if next_is is_open_paren a then deepen levels d.parameters_from else nothing)
pick parameters a b = if next_is is_variable a then take
    (token is_variable λ w. only (more_parameters (w.text ∷ []))) else take (give [])
pick (more_parameters names) a b = if next_is is_comma a then take (d.parameter_more names) else take (give names)
pick (more_readers path names) a b = if next_is is_comma a then take (d.reader_more path names) else take (give names)
pick (statements here ss) a b = if next_is starts_statement a then take (s.statement_then here ss) else take
    (give (s.block ss here.names true))
pick (more_statements here ss) a b = if next_is is_line a then take (token is_line λ _. only (statements here ss))
    else take (give (s.block ss here.names false))
pick (statement here) a b = pick_statement here a
pick (simple_statement here) a b = pick_simple_statement here a b
pick (condition_behind levels t) a b = pick_condition_behind levels t a
pick then_or_line a b = pick_then a
pick perhaps_line a b = if next_is is_line a then take (token is_line λ _. give tt) else take (give tt)
pick (arms_rest levels sets may_elsif arms c) a b = pick_arms_rest levels sets may_elsif arms c a
pick (perhaps_expression here) a b = if next_is starts_expression a then take
    (call (expression here) λ x. give (Some x)) else take (give None)
pick (expression here) a b = take (e.expression_from here)
pick (choice_rest here x) a b = if next_is is_ask a then take (e.choice_more here x) else take (give x)
pick (operators level here) a b = take (e.operators_from level here)
pick (more_operators level here x) a b = pick_more_operators level here x a
pick (unary here) a b = pick_unary here a
pick (postfix here) a b = take (e.postfix_from here)
pick (more_postfix here x) a b = pick_more_postfix here x a
pick (primary here) a b = pick_primary here a
pick (name_rest here name) a b = if next_is is_tight_paren a then deepen here.levels
    (e.call_from here name) else take (give (name_alone here.names name))
pick (perhaps_arguments here) a b = if next_is is_tight_paren a then deepen here.levels
    (e.arguments_from here) else take (give [])
pick (members here xs) a b = if next_is starts_expression a then take (e.member_then here xs) else take (give xs)
pick (more_members here xs) a b = if next_is is_comma a then take (token is_comma λ _. only (members here xs)) else
    take (give xs)
pick (pairs here ps) a b = if next_is starts_pair a then take (e.pair_then here ps) else take (give ps)
pick (more_pairs here ps) a b = if next_is is_comma a then take (token is_comma λ _. only (pairs here ps)) else take
    (give ps)
pick (pair here) a b = if next_is is_label a then take (e.label_pair here) else take (e.arrow_pair here)
pick (text_parts here double parts) a b = pick_text_parts here double parts a

-- the choices of the profile's reader, for the theory of reading by descent
abbrev pub ruby_choices : Choices ruby
ruby_choices = record { pick = pick }

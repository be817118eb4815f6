-- An alternative that says something, before what may follow its rule, is the one chosen.
use Rattle.std.proofs.Common.{◌≡◌, inl, inr, ℕ, zero, suc, Bool, true, false, ◌||◌, not, List, [], ◌∷◌, ◌++◌, Option}
use Rattle.std.proofs.Common.{Some, None, refl, sym, ◌∙◌, subst}
use Rattle.ruby_types.specs.declared.tree.Expr.{Expr}
use Rattle.ruby_types.specs.declared.tree.Stmt.{Stmt}
use Rattle.ruby_types.specs.declared.tree.Def.{Def}
use Rattle.descent.specs.Grammar.{Prod, Among, give, token, call, mark, only, Is, is_marked, is_given, is_word, Item}
use Rattle.descent.specs.Grammar.{words}
use Rattle.descent.specs.Reading.{take, choose, head, second}
use Rattle.descent.proofs.Following.{Fitting}
use Rattle.descent.proofs.Starts.{starts, Starts}
use Rattle.ruby_grammar.specs.Words.{Word}
use Rattle.ruby_grammar.specs.Marks.{Mark}
use Rattle.ruby_grammar.specs.Terminals.{units, products, sums, comparisons, equalities, conjunctions, disjunctions}
use Rattle.ruby_grammar.specs.Terminals.{terminal}
use Rattle.ruby_grammar.specs.Terminals.{is_operator, is_end, is_if, is_elsif, is_else, is_unless, is_then, is_line}
use Rattle.ruby_grammar.specs.Terminals.{is_ask}
use Rattle.ruby_grammar.specs.Terminals.{is_path, is_dot, is_comma, is_const, is_ivar, is_variable, is_name, is_label}
use Rattle.ruby_grammar.specs.Terminals.{is_close_paren, is_close_bracket, is_close_brace, is_text_close}
use Rattle.ruby_grammar.specs.Terminals.{is_tight_paren}
use Rattle.ruby_grammar.specs.Terminals.{is_tight_bracket, is_open_bracket, is_open_paren, is_return, is_raise}
use Rattle.ruby_grammar.specs.Terminals.{is_include}
use Rattle.ruby_grammar.specs.Terminals.{is_attr_reader, is_def, is_module, is_class, is_self, is_less, is_not}
use Rattle.ruby_grammar.specs.Terminals.{is_minus}
use Rattle.ruby_grammar.specs.Terminals.{is_int, is_text_open, is_text_piece, is_inside_open, is_open_brace, is_sym}
use Rattle.ruby_grammar.specs.Terminals.{is_nil}
use Rattle.ruby_grammar.specs.Terminals.{is_true, is_false}
use Rattle.ruby_grammar.specs.Rules.{ruby, Val, Sort, Rule, Path, Body, Around, Scope, Block, a_tree, a_def}
use Rattle.ruby_grammar.specs.Rules.{a_statement, file, definitions, more_definitions, definition, path_rest, parent}
use Rattle.ruby_grammar.specs.Rules.{opened_path}
use Rattle.ruby_grammar.specs.Rules.{constant, heading, parameter_list, parameters, more_parameters, more_readers}
use Rattle.ruby_grammar.specs.Rules.{statements, more_statements, statement, simple_statement, condition_behind}
use Rattle.ruby_grammar.specs.Rules.{then_or_line, perhaps_line, arms_rest, perhaps_expression, expression, choice_rest}
use Rattle.ruby_grammar.specs.Rules.{operators, more_operators, unary, postfix, more_postfix, primary, name_rest}
use Rattle.ruby_grammar.specs.Rules.{perhaps_arguments, members, more_members, pairs, more_pairs, pair, text_parts}
use Rattle.ruby_grammar.specs.Language.{forms, ruby_grammar}
use Rattle.ruby_grammar.specs.Choices.{next_is, pick, ruby_choices, deepen, starts_expression, starts_definition}
use Rattle.ruby_grammar.specs.Choices.{pick_member, pick_branch}
use Rattle.ruby_grammar.specs.Follow.{fits, ends_or, none_is, ends_block, ends_statement, ends_simple, goes_on_primary}
use Rattle.ruby_grammar.specs.Follow.{goes_on_postfix, goes_on, goes_on_expression, ends_members}
use Rattle.ruby_grammar.specs.Expressions as e
use Rattle.ruby_grammar.specs.Statements as s
use Rattle.ruby_grammar.specs.Definitions as d
use Rattle.ruby_grammar.proofs.Tools.{Each, each_among, each_append, terminal_is, and_true, not_true}
use Rattle.ruby_grammar.proofs.First.{ruby_firsts, first_of_rule, is_solid, starts_law, starts_simple, starts_primary}
use Rattle.ruby_grammar.proofs.Passing.{no_keyword}
use Rattle.ruby_grammar.proofs.Fits.{gv, tk, rl, pr, either, block_cases, statement_cases, unless_terminal}
use Rattle.ruby_grammar.proofs.Fits.{simple_not_start}

abbrev Picked : {t : Sort} → Rule t → Prod ruby t → Type 0
Picked {t} rule p = (ts : List (Item ruby)) (x : Val t) (rest : List Word) → Is ruby_grammar t p ts x →
    fits rule (head rest) ≡ true → choose ruby_choices rule (words ts ++ rest) ≡ take p

by_fit : {t : Sort} (rule : Rule t) (p : Prod ruby t) (u : Option Word → Bool) →
    Fitting ruby_grammar (fits rule) u p → ((a b : Option Word) → u a ≡ true → pick rule a b ≡ take p) → Picked rule p
by_fit rule p u f k ts x rest a h = k (head (words ts ++ rest)) (second (words ts ++ rest)) (f ts x rest a h)

-- of the next word
ifs : {t : Sort} (rule : Rule t) (p : Prod ruby t) (q : Word → Bool) →
    ((w : Word) (b : Option Word) → q w ≡ true → pick rule (Some w) b ≡ take p) → (a b : Option Word) →
    next_is q a ≡ true → pick rule a b ≡ take p
ifs rule p q k None b h = cc
ifs rule p q k (Some w) b h = k w b h

ct : {t : Sort} (rule : Rule t) (test : Word → Bool) (next : Word → Prod ruby t) →
    ((w : Word) (b : Option Word) → test w ≡ true → pick rule (Some w) b ≡ take (token test next)) →
    Picked rule (token test next)
ct {t} rule test next k = by_fit rule (token test next) (next_is test)
    (tk t (fits rule) (next_is test) test next (λ w h. h)) (ifs rule (token test next) test k)

cr : {t v : Sort} (rule : Rule t) (called : Rule v) (next : Val v → Prod ruby t) → is_solid called ≡ true →
    ((w : Word) (b : Option Word) → first_of_rule called w ≡ true → pick rule (Some w) b ≡ take (call called next)) →
    Picked rule (call called next)
cr {t} rule called next s k = by_fit rule (call called next) (next_is (first_of_rule called))
    (rl t (fits rule) (next_is (first_of_rule called)) called next s (λ w h. h))
    (ifs rule (call called next) (first_of_rule called) k)

cg : {t : Sort} (rule : Rule t) (y : Val t) →
    ((a b : Option Word) → fits rule a ≡ true → pick rule a b ≡ take (give y)) → Picked rule (give y)
cg {t} rule y k = by_fit rule (give y) (fits rule) (gv t (fits rule) (fits rule) y (λ a h. h)) k

co : {t : Sort} (rule : Rule t) (p : Prod ruby t) → ((a b : Option Word) → pick rule a b ≡ take p) → Picked rule p
co rule p k ts x rest a h = k (head (words ts ++ rest)) (second (words ts ++ rest))

cm : {t : Sort} (rule : Rule t) (m : Mark) (y : Val t) →
    ((a b : Option Word) → fits rule a ≡ true → pick rule a b ≡ take (mark m (give y))) → Picked rule (mark m (give y))
cm rule m y k ts x rest (is_marked is_given) h = k (head rest) (second rest) h

-- what opens a level, where one is left
each_level : {t : Sort} (P : Prod ruby t → Type 0) (levels : ℕ) (f : ℕ → Prod ruby t) →
    ((n : ℕ) → levels ≡ suc n → P (f n)) → Each P (e.opening levels f)
each_level P zero f h = tt
each_level P (suc n) f h = (h n refl, tt)

deepen_is : {t : Sort} (levels n : ℕ) (f : ℕ → Prod ruby t) → levels ≡ suc n → deepen levels f ≡ take (f n)
deepen_is levels n f e = subst (λ l. deepen l f ≡ take (f n)) (sym e) refl

end_no_definition : (path : Path) (w : Word) → terminal w ≡ 4 → starts_definition path w ≡ false
end_no_definition [] w e = rw e refl
end_no_definition (n ∷ ns) w e = rw e refl

no_definition : (here : Body) (a b : Option Word) (ds : List Def) → ends_or is_end a ≡ true →
    pick (definitions here ds) a b ≡ take (give ds)
no_definition here None b ds h = refl
no_definition here (Some w) b ds h = rw (end_no_definition here.path w (terminal_is 4 w h)) refl

definition_no_line : (path : Path) (w : Word) → starts_definition path w ≡ true → is_line w ≡ false
definition_no_line [] w h = unless_terminal 50 (starts_definition []) is_line w (terminal_is 50 w) (λ e. rw e refl) h
definition_no_line (n ∷ ns) w h = unless_terminal 50 (starts_definition (n ∷ ns)) is_line w (terminal_is 50 w)
    (λ e. rw e refl) h

-- where the next word isn't such
other : {t : Sort} (rule : Rule t) (p : Prod ruby t) (q : Word → Bool) →
    ((b : Option Word) → pick rule None b ≡ take p) →
    ((w : Word) (b : Option Word) → q w ≡ false → pick rule (Some w) b ≡ take p) → (a b : Option Word) →
    none_is q a ≡ true → pick rule a b ≡ take p
other rule p q k f None b h = k b
other rule p q k f (Some w) b h = f w b (not_true (q w) h)

two_false : (a b : Bool) → not (a || b) ≡ true → (a ≡ false) × (b ≡ false)
two_false true b h = cc
two_false false b h = (refl, not_true b h)

no_no : (a : Bool) → a ≡ false → not a ≡ true
no_no a h = rw h refl

file_picked : (levels : ℕ) (anywhere : Bool) → Picked (file levels anywhere) (d.file_from levels anywhere)
file_picked levels anywhere = by_fit (file levels anywhere) (d.file_from levels anywhere) (none_is is_line)
    (pr a_tree (fits (file levels anywhere)) (none_is is_line) (starts_definition [])
    (definitions (d.body levels anywhere []) []) _ ((refl, λ w h. h), (tt, tt))
    (λ w h. no_no (is_line w) (definition_no_line [] w h))
    (λ y. gv a_tree (fits (file levels anywhere)) (none_is is_line) _ no_end))
    (other (file levels anywhere) (d.file_from levels anywhere) is_line (λ b. refl) (λ w b h. rw h refl))
  where
    no_end : (a : Option Word) → ends_or (λ w. false) a ≡ true → none_is is_line a ≡ true
    no_end None h = refl
    no_end (Some w) h = cc

no_line : (here : Body) (ds : List Def) (a b : Option Word) → ends_or is_end a ≡ true →
    pick (more_definitions here ds) a b ≡ take (give ds)
no_line here ds None b h = refl
no_line here ds (Some w) b h = rw (terminal_is 4 w h) refl

-- a member begins with its own word
record Member (top : Bool) (here : Body) (p : Prod ruby a_def) : Type 0 where
  test : Word → Bool
  begins : Starts ruby_firsts test p
  chosen : (w : Word) → test w ≡ true → pick_member top here (Some w) ≡ take p
  behind : (w : Word) (b : Option Word) → test w ≡ true → pick (definition here) (Some w) b
      ≡ pick_member (d.at_top here.path) here (Some w)

member_is : (top : Bool) (here : Body) → Each (Member top here) (d.member_forms top here)
member_is true here = tt
member_is false here = (
  record {
    test = is_include;
    begins = λ w t. t;
    chosen = λ w t. rw (terminal_is 16 w t) refl;
    behind = λ w b t.
        rw (terminal_is 16 w t) refl;
  },
  (
    record {
      test = is_attr_reader;
      begins = λ w t. t;
      chosen = λ w t. rw (terminal_is 17 w t) refl;
      behind = λ w b t.
          rw (terminal_is 17 w t) refl;
    },
    each_level (Member false here) here.levels (d.method_from here)
        (λ n q. record {
          test = is_def;
          begins = λ w t. t;
          chosen = λ w t.
              rw (terminal_is 3 w t) (deepen_is here.levels n (d.method_from here) q);
          behind = λ w b t.
              rw (terminal_is 3 w t) refl;
        }),
  ),
)

each_map : {A : Type 0} (P Q : A → Type 0) (ps : List A) → ((p : A) → P p → Q p) → Each P ps → Each Q ps
each_map P Q [] f h = tt
each_map P Q (p ∷ ps) f h = (f p h.0, each_map P Q ps f h.1)

member_picked : (here : Body) (p : Prod ruby a_def) → Member (d.at_top here.path) here p → Picked (definition here) p
member_picked here p m ts x rest a h =
    let b = starts ruby_grammar ruby_firsts (λ t. starts_law) m.test a m.begins in
    subst (λ l. choose ruby_choices (definition here) (l ++ rest) ≡ take p) (sym b.spelled)
    (m.behind b.word_at (head (b.others ++ rest)) b.passes ∙ m.chosen b.word_at b.passes)

simple_no_if : (w : Word) → starts_simple w ≡ true → (is_if w ≡ false) × (is_unless w ≡ false)
simple_no_if w h = (
  unless_terminal 5 starts_simple is_if w (terminal_is 5 w) (λ e. rw e refl) h,
  unless_terminal 8 starts_simple is_unless w (terminal_is 8 w) (λ e. rw e refl) h,
)

two_of : (a b : Bool) → (a || b) ≡ false → (a ≡ false) × (b ≡ false)
two_of true b h = cc
two_of false b h = (refl, h)

tight_no_dot : (w : Word) → is_tight_bracket w ≡ true → is_dot w ≡ false
tight_no_dot w t = rw (terminal_is 93 w (and_true (is_open_bracket w) w.tight t).0) refl

postfix_ends : (w : Word) → goes_on_postfix w ≡ false → (is_dot w ≡ false) × (is_tight_bracket w ≡ false)
postfix_ends w h =
    let f = two_of (is_dot w || is_tight_bracket w) (goes_on_primary w) h in
    two_of (is_dot w) (is_tight_bracket w) f.0

constant_picked : (here : Scope) → Picked (primary here) e.constant_alone
constant_picked here = cr (primary here) (constant None) _ refl
    (λ w b h. either (is_path w) (is_const w) h (λ u. rw (terminal_is 86 w u) refl) (λ u. rw (terminal_is 51 w u) refl))

expression_no_label : (w : Word) → starts_expression w ≡ true → is_label w ≡ false
expression_no_label w h = unless_terminal 53 starts_expression is_label w (terminal_is 53 w) (λ e. rw e refl) h

abbrev Arms : ℕ → Bool → Bool → List (Expr × List Stmt) → Block → Prod ruby a_statement → Type 0
Arms levels sets may_elsif arms b p = Picked (arms_rest levels sets may_elsif arms b) p

-- a branch begins with its own word
record Branch (closed : Bool) (levels : ℕ) (sets may_elsif : Bool) (arms : List (Expr × List Stmt)) (b : Block)
    (p : Prod ruby a_statement) : Type 0 where
  test : Word → Bool
  begins : Starts ruby_firsts test p
  chosen : (w : Word) → test w ≡ true → pick_branch closed levels sets may_elsif arms b (Some w) ≡ take p
  no_end : (w : Word) → test w ≡ true → is_end w ≡ false

elsif_is : (may_elsif : Bool) (levels : ℕ) (sets : Bool) (arms : List (Expr × List Stmt)) (b : Block) →
    Each (Branch true levels sets may_elsif arms b) (s.elsif_forms levels sets may_elsif arms b)
elsif_is true levels sets arms b = (
  record {
    test = is_elsif;
    begins = λ w t. t;
    chosen = λ w t. rw (terminal_is 6 w t) refl;
    no_end = λ w t.
        rw (terminal_is 6 w t) refl;
  },
  tt,
)
elsif_is false levels sets arms b = tt

branch_is : (closed : Bool) (levels : ℕ) (sets may_elsif : Bool) (arms : List (Expr × List Stmt)) (b : Block) →
    Each (Branch closed levels sets may_elsif arms b) (s.branch_forms closed levels sets may_elsif arms b)
branch_is true levels sets may_elsif arms b = (
  record {
    test = is_else;
    begins = λ w t. t;
    chosen = λ w t. rw (terminal_is 7 w t) refl;
    no_end = λ w t.
        rw (terminal_is 7 w t) refl;
  },
  elsif_is may_elsif levels sets arms b,
)
branch_is false levels sets may_elsif arms b = tt

branch_picked : (levels : ℕ) (sets may_elsif : Bool) (arms : List (Expr × List Stmt)) (b : Block)
    (p : Prod ruby a_statement) → Branch b.closed levels sets may_elsif arms b p → Arms levels sets may_elsif arms b p
branch_picked levels sets may_elsif arms b p m ts x rest a h =
    let k = starts ruby_grammar ruby_firsts (λ t. starts_law) m.test a m.begins in
    subst (λ l. choose ruby_choices (arms_rest levels sets may_elsif arms b) (l ++ rest) ≡ take p) (sym k.spelled)
    (rw (m.no_end k.word_at k.passes) (m.chosen k.word_at k.passes))

arms_picked : (levels : ℕ) (sets may_elsif : Bool) (arms : List (Expr × List Stmt)) (b : Block) →
    Each (Arms levels sets may_elsif arms b) (s.arms_rest_forms levels sets may_elsif arms b)
arms_picked levels sets may_elsif arms b = (
  ct (arms_rest levels sets may_elsif arms b) is_end _ (λ w c t. rw t refl),
  each_map (Branch b.closed levels sets may_elsif arms b) (Arms levels sets may_elsif arms b)
      (s.branch_forms b.closed levels sets may_elsif arms b) (branch_picked levels sets may_elsif arms b)
      (branch_is b.closed levels sets may_elsif arms b),
)

primary_no_terminal : (w : Word) → starts_primary w ≡ true → (is_not w ≡ false) × (is_minus w ≡ false)
primary_no_terminal w h = (
  unless_terminal 72 starts_primary is_not w (terminal_is 72 w) (λ e. rw e refl) h,
  unless_terminal 80 starts_primary is_minus w (terminal_is 80 w) (λ e. rw e refl) h,
)

postfix_picked : (here : Scope) → Picked (unary here) (only (postfix here))
postfix_picked here = cr (unary here) (postfix here) _ refl
    (λ w b h. rw ((primary_no_terminal w h).0, (primary_no_terminal w h).1) refl)

set_picked : (here : Around) → Picked (simple_statement here) (s.setting here)
set_picked here ts x rest (is_word {w = w} t (is_word {w = v} u a)) h =
    no_keyword here w (Some v) (inl (terminal_is 0 w (and_true (is_name w) _ t).0)) ∙ rw (t, u) refl

ivar_picked : (sets : Bool) (here : Around) → here.sets ≡ sets →
    Each (Picked (simple_statement here)) (s.where_it_may sets (s.setting_ivar here))
ivar_picked false here e = tt
ivar_picked true here e = (one, tt)
  where
    one : Picked (simple_statement here) (s.setting_ivar here)
    one ts x rest (is_word {w = w} t (is_word {w = v} u a)) h = no_keyword here w (Some v) (inr (terminal_is 52 w t))
        ∙ rw (terminal_is 52 w t, u, e) refl

-- An expression is chosen where no `=` follows its first word.
abbrev pub EvaluatingChosen : Type 0
EvaluatingChosen = (here : Around) → Picked (simple_statement here) (s.evaluating here)

simple_picked : EvaluatingChosen → (here : Around) →
    Each (Picked (simple_statement here)) (s.simple_statement_forms here)
simple_picked evaluates here = (
  ct (simple_statement here) is_return _ (λ w b t. rw (terminal_is 10 w t) refl),
  (
    ct (simple_statement here) is_raise _ (λ w b t. rw (terminal_is 15 w t) refl),
    (
      set_picked here,
      each_append (Picked (simple_statement here)) (s.where_it_may here.sets (s.setting_ivar here)) _
          (ivar_picked here.sets here refl) (evaluates here, tt),
    ),
  ),
)

picked_forms : (evaluates : EvaluatingChosen) (t : Sort) (rule : Rule t) → Each (Picked rule) (forms rule)
picked_forms evaluates _ (file levels anywhere) =
    (ct (file levels anywhere) is_line _ (λ w b t. rw t refl), (file_picked levels anywhere, tt))
picked_forms evaluates _ (definitions here ds) = (
  cr (definitions here ds) (definition here) _ refl (λ w b t. rw t refl),
  (cg (definitions here ds) ds (λ a b h. no_definition here a b ds h), tt),
)
picked_forms evaluates _ (more_definitions here ds) = (
  ct (more_definitions here ds) is_line _ (λ w b t. rw t refl),
  (cg (more_definitions here ds) ds (λ a b h. no_line here ds a b h), tt),
)
picked_forms evaluates _ (definition here) = each_append (Picked (definition here)) (d.top_forms here) _ (
  ct (definition here) is_const _ (λ w b t. rw (terminal_is 51 w t) refl),
  each_append (Picked (definition here))
      (e.opening here.levels (d.module_from here)) _
      (each_level (Picked (definition here)) here.levels (d.module_from here)
      (λ n q. ct (definition here) is_module _
      (λ w b t. rw (terminal_is 1 w t) (deepen_is here.levels n (d.module_from here) q))))
      (each_level (Picked (definition here)) here.levels (d.class_from here)
      (λ n q. ct (definition here) is_class _
      (λ w b t. rw (terminal_is 2 w t) (deepen_is here.levels n (d.class_from here) q)))),
)
    (each_map (Member (d.at_top here.path) here) (Picked (definition here))
    (d.member_forms (d.at_top here.path) here) (member_picked here) (member_is (d.at_top here.path) here))
picked_forms evaluates _ (path_rest true None names) = (
  ct (path_rest true None names) is_path _ (λ w b t. rw t refl),
  (
    cg (path_rest true None names) names
        (other (path_rest true None names) (give names) is_path (λ b. refl) (λ w b h. rw h refl)),
    tt,
  ),
)
picked_forms evaluates _ (path_rest false None names) = (co (path_rest false None names) _ (λ a b. refl), tt)
picked_forms evaluates _ (path_rest true (Some m) names) = (
  ct (path_rest true (Some m) names) is_path _ (λ w b t. rw t refl),
  (
    cm (path_rest true (Some m) names) m names
        (other (path_rest true (Some m) names) (mark m (give names)) is_path (λ b. refl) (λ w b h. rw h refl)),
    tt,
  ),
)
picked_forms evaluates _ (path_rest false (Some m) names) = (co (path_rest false (Some m) names) _ (λ a b. refl), tt)
picked_forms evaluates _ (opened_path true how names) = (
  ct (opened_path true how names) is_path _ (λ w b t. rw t refl),
  (
    cm (opened_path true how names) (d.opens how names) names
        (other (opened_path true how names) (d.opened_path_end how names) is_path (λ b. refl) (λ w b h. rw h refl)),
    tt,
  ),
)
picked_forms evaluates _ (opened_path false how names) = (co (opened_path false how names) _ (λ a b. refl), tt)
picked_forms evaluates _ (parent path at) = (
  ct (parent path at) is_less _ (λ w b t. rw (terminal_is 75 w t) refl),
  (ct (parent path at) is_line _ (λ w b t. rw (terminal_is 50 w t) refl), tt),
)
picked_forms evaluates _ (constant ending) = (
  ct (constant ending) is_path _ (λ w b t. rw (terminal_is 86 w t) refl),
  (ct (constant ending) is_const _ (λ w b t. rw (terminal_is 51 w t) refl), tt),
)
picked_forms evaluates _ (heading path) = (
  ct (heading path) is_self _ (λ w b t. rw (terminal_is 11 w t) refl),
  (ct (heading path) is_name _ (λ w b t. rw (terminal_is 0 w t) refl), tt),
)
picked_forms evaluates _ (parameter_list levels) = (
  ct (parameter_list levels) is_line _ (λ w b t. rw (terminal_is 50 w t) refl),
  each_level (Picked (parameter_list levels)) levels d.parameters_from
      (λ n q. ct (parameter_list levels) is_open_paren _
      (λ w b t. rw (terminal_is 91 w t) (deepen_is levels n d.parameters_from q))),
)
picked_forms evaluates _ parameters = (
  ct (parameters) is_variable _ (λ w b t. rw t refl),
  (cg (parameters) [] (ifs (parameters) (give []) is_close_paren (λ w b t. rw (terminal_is 92 w t) refl)), tt),
)
picked_forms evaluates _ (more_parameters names) = (
  ct (more_parameters names) is_comma _ (λ w b t. rw t refl),
  (
    cg (more_parameters names) names
        (ifs (more_parameters names) (give names) is_close_paren (λ w b t. rw (terminal_is 92 w t) refl)),
    tt,
  ),
)
picked_forms evaluates _ (more_readers path names) = (
  ct (more_readers path names) is_comma _ (λ w b t. rw t refl),
  (
    cg (more_readers path names) names
        (other (more_readers path names) (give names) is_comma (λ b. refl) (λ w b h. rw h refl)),
    tt,
  ),
)
picked_forms evaluates _ (statements here ss) = (
  cr (statements here ss) (statement here) _ refl (λ w b t. rw t refl),
  (
    cg (statements here ss) (s.block ss here.names true)
        (ifs (statements here ss) (give (s.block ss here.names true)) ends_block
        (λ w b h. block_cases w (pick (statements here ss) (Some w) b ≡ take (give (s.block ss here.names true)))
        (λ e. rw e refl) (λ e. rw e refl) (λ e. rw e refl) h)),
    tt,
  ),
)
picked_forms evaluates _ (more_statements here ss) = (
  ct (more_statements here ss) is_line _ (λ w b t. rw t refl),
  (
    cg (more_statements here ss) (s.block ss here.names false)
        (ifs (more_statements here ss) (give (s.block ss here.names false)) ends_block
        (λ w b h. block_cases w (pick (more_statements here ss) (Some w) b ≡ take (give (s.block ss here.names false)))
        (λ e. rw e refl) (λ e. rw e refl) (λ e. rw e refl) h)),
    tt,
  ),
)
picked_forms evaluates _ (statement here) = (
  cr (statement here) (simple_statement here) _ refl
      (λ w b h. rw ((simple_no_if w h).0, (simple_no_if w h).1) refl),
  each_append (Picked (statement here))
      (e.opening here.levels (s.if_from here)) _
      (each_level (Picked (statement here)) here.levels (s.if_from here)
      (λ n q. ct (statement here) is_if _
      (λ w b t. rw (terminal_is 5 w t) (deepen_is here.levels n (s.if_from here) q))))
      (each_level (Picked (statement here)) here.levels (s.unless_from here)
      (λ n q. ct (statement here) is_unless _
      (λ w b t. rw (terminal_is 8 w t) (deepen_is here.levels n (s.unless_from here) q)))),
)
picked_forms evaluates _ (simple_statement here) = simple_picked evaluates here
picked_forms evaluates _ (condition_behind levels t) = (
  ct (condition_behind levels t) is_if _ (λ w b t. rw (terminal_is 5 w t) refl),
  (
    ct (condition_behind levels t) is_unless _ (λ w b t. rw (terminal_is 8 w t) refl),
    (
      cg (condition_behind levels t) t
          (ifs (condition_behind levels t) (give t) ends_statement
          (λ w b h. statement_cases w (pick (condition_behind levels t) (Some w) b ≡ take (give t)) (λ e. rw e refl)
          (λ e. rw e refl) (λ e. rw e refl) (λ e. rw e refl) h)),
      tt,
    ),
  ),
)
picked_forms evaluates _ then_or_line = (
  ct (then_or_line) is_then _ (λ w b t. rw (terminal_is 9 w t) refl),
  (ct (then_or_line) is_line _ (λ w b t. rw (terminal_is 50 w t) refl), tt),
)
picked_forms evaluates _ perhaps_line = (
  ct (perhaps_line) is_line _ (λ w b t. rw t refl),
  (cg (perhaps_line) tt (other (perhaps_line) (give tt) is_line (λ b. refl) (λ w b h. rw h refl)), tt),
)
picked_forms evaluates _ (arms_rest levels sets may_elsif arms b) = arms_picked levels sets may_elsif arms b
picked_forms evaluates _ (perhaps_expression here) = (
  cr (perhaps_expression here) (expression here) _ refl (λ w b t. rw t refl),
  (
    cg (perhaps_expression here) None
        (ifs (perhaps_expression here) (give None) ends_simple (λ w b h. rw (simple_not_start w h) refl)),
    tt,
  ),
)
picked_forms evaluates _ (expression here) = (co (expression here) _ (λ a b. refl), tt)
picked_forms evaluates _ (choice_rest here x) = (
  ct (choice_rest here x) is_ask _ (λ w b t. rw t refl),
  (
    cg (choice_rest here x) x
        (other (choice_rest here x) (give x) goes_on_expression (λ b. refl)
        (λ w b h. rw (two_of (is_ask w) (goes_on disjunctions w) h).0 refl)),
    tt,
  ),
)
picked_forms evaluates _ (operators units here) = (co (operators units here) _ (λ a b. refl), tt)
picked_forms evaluates _ (more_operators units here x) = (co (more_operators units here x) _ (λ a b. refl), tt)
picked_forms evaluates _ (operators products here) = (co (operators products here) _ (λ a b. refl), tt)
picked_forms evaluates _ (more_operators products here x) = (
  ct (more_operators products here x) (is_operator products) _ (λ w b t. rw t refl),
  (
    cg (more_operators products here x) x
        (other (more_operators products here x) (give x) (goes_on products) (λ b. refl)
        (λ w b h. rw (two_of (is_operator products w) (goes_on units w) h).0 refl)),
    tt,
  ),
)
picked_forms evaluates _ (operators sums here) = (co (operators sums here) _ (λ a b. refl), tt)
picked_forms evaluates _ (more_operators sums here x) = (
  ct (more_operators sums here x) (is_operator sums) _ (λ w b t. rw t refl),
  (
    cg (more_operators sums here x) x
        (other (more_operators sums here x) (give x) (goes_on sums) (λ b. refl)
        (λ w b h. rw (two_of (is_operator sums w) (goes_on products w) h).0 refl)),
    tt,
  ),
)
picked_forms evaluates _ (operators comparisons here) = (co (operators comparisons here) _ (λ a b. refl), tt)
picked_forms evaluates _ (more_operators comparisons here x) = (
  ct (more_operators comparisons here x) (is_operator comparisons) _ (λ w b t. rw t refl),
  (
    cg (more_operators comparisons here x) x
        (other (more_operators comparisons here x) (give x) (goes_on comparisons) (λ b. refl)
        (λ w b h. rw (two_of (is_operator comparisons w) (goes_on sums w) h).0 refl)),
    tt,
  ),
)
picked_forms evaluates _ (operators equalities here) = (co (operators equalities here) _ (λ a b. refl), tt)
picked_forms evaluates _ (more_operators equalities here x) = (
  ct (more_operators equalities here x) (is_operator equalities) _ (λ w b t. rw t refl),
  (
    cg (more_operators equalities here x) x
        (other (more_operators equalities here x) (give x) (goes_on equalities) (λ b. refl)
        (λ w b h. rw (two_of (is_operator equalities w) (goes_on comparisons w) h).0 refl)),
    tt,
  ),
)
picked_forms evaluates _ (operators conjunctions here) = (co (operators conjunctions here) _ (λ a b. refl), tt)
picked_forms evaluates _ (more_operators conjunctions here x) = (
  ct (more_operators conjunctions here x) (is_operator conjunctions) _ (λ w b t. rw t refl),
  (
    cg (more_operators conjunctions here x) x
        (other (more_operators conjunctions here x) (give x) (goes_on conjunctions) (λ b. refl)
        (λ w b h. rw (two_of (is_operator conjunctions w) (goes_on equalities w) h).0 refl)),
    tt,
  ),
)
picked_forms evaluates _ (operators disjunctions here) = (co (operators disjunctions here) _ (λ a b. refl), tt)
picked_forms evaluates _ (more_operators disjunctions here x) = (
  ct (more_operators disjunctions here x) (is_operator disjunctions) _ (λ w b t. rw t refl),
  (
    cg (more_operators disjunctions here x) x
        (other (more_operators disjunctions here x) (give x) (goes_on disjunctions) (λ b. refl)
        (λ w b h. rw (two_of (is_operator disjunctions w) (goes_on conjunctions w) h).0 refl)),
    tt,
  ),
)
picked_forms evaluates _ (unary here) = each_append (Picked (unary here)) (e.opening here.levels (e.not_from here)) _
    (each_level (Picked (unary here)) here.levels (e.not_from here)
    (λ n q. ct (unary here) is_not _ (λ w b t. rw (terminal_is 72 w t) (deepen_is here.levels n (e.not_from here) q))))
    (each_append (Picked (unary here)) (e.opening here.levels (e.minus_from here)) _
    (each_level (Picked (unary here)) here.levels (e.minus_from here)
    (λ n q. ct (unary here) is_minus _
    (λ w b t. rw (terminal_is 80 w t) (deepen_is here.levels n (e.minus_from here) q)))) ((postfix_picked here, tt)))
picked_forms evaluates _ (postfix here) = (co (postfix here) _ (λ a b. refl), tt)
picked_forms evaluates _ (more_postfix here x) = (
  ct (more_postfix here x) is_dot _ (λ w b t. rw (terminal_is 87 w t) refl),
  each_append (Picked (more_postfix here x)) (e.opening here.levels (e.index_from here x)) _
      (each_level (Picked (more_postfix here x)) here.levels (e.index_from here x)
      (λ n q. ct (more_postfix here x) is_tight_bracket _
      (λ w b t. rw (tight_no_dot w t, t) (deepen_is here.levels n (e.index_from here x) q))))
      ((
        cg (more_postfix here x) x
            (other (more_postfix here x) (give x) goes_on_postfix (λ b. refl)
            (λ w b h. rw ((postfix_ends w h).0, (postfix_ends w h).1) refl)),
        tt,
      )),
)
picked_forms evaluates _ (primary here) = (
  ct (primary here) is_int _ (λ w b t. rw (terminal_is 55 w t) refl),
  (
    ct (primary here) is_text_open _ (λ w b t. rw (terminal_is 56 w t) refl),
    (
      ct (primary here) is_sym _ (λ w b t. rw (terminal_is 54 w t) refl),
      (
        ct (primary here) is_nil _ (λ w b t. rw (terminal_is 12 w t) refl),
        (
          ct (primary here) is_true _ (λ w b t. rw (terminal_is 13 w t) refl),
          (
            ct (primary here) is_false _ (λ w b t. rw (terminal_is 14 w t) refl),
            (
              ct (primary here) is_self _ (λ w b t. rw (terminal_is 11 w t) refl),
              (
                ct (primary here) is_name _ (λ w b t. rw (terminal_is 0 w t) refl),
                (
                  ct (primary here) is_ivar _ (λ w b t. rw (terminal_is 52 w t) refl),
                  (
                    constant_picked here,
                    each_append (Picked (primary here)) (e.opening here.levels (e.array_from here)) _
                        (each_level (Picked (primary here)) here.levels (e.array_from here)
                        (λ n q. ct (primary here) is_open_bracket _
                        (λ w b t. rw (terminal_is 93 w t) (deepen_is here.levels n (e.array_from here) q))))
                        (each_append (Picked (primary here)) (e.opening here.levels (e.hash_from here)) _
                        (each_level (Picked (primary here)) here.levels (e.hash_from here)
                        (λ n q. ct (primary here) is_open_brace _
                        (λ w b t. rw (terminal_is 95 w t) (deepen_is here.levels n (e.hash_from here) q))))
                        (each_level (Picked (primary here)) here.levels (e.group_from here)
                        (λ n q. ct (primary here) is_open_paren _
                        (λ w b t. rw (terminal_is 91 w t) (deepen_is here.levels n (e.group_from here) q))))),
                  ),
                ),
              ),
            ),
          ),
        ),
      ),
    ),
  ),
)
picked_forms evaluates _ (name_rest here name) = each_append (Picked (name_rest here name))
    (e.opening here.levels (e.call_from here name)) _
    (each_level (Picked (name_rest here name)) here.levels (e.call_from here name)
    (λ n q. ct (name_rest here name) is_tight_paren _
    (λ w b t. rw t (deepen_is here.levels n (e.call_from here name) q))))
    ((
      cg (name_rest here name) _
          (other (name_rest here name) _ goes_on_primary (λ b. refl)
          (λ w b h. rw (two_of (is_tight_paren w) (is_path w) h).0 refl)),
      tt,
    ))
picked_forms evaluates _ (perhaps_arguments here) = each_append (Picked (perhaps_arguments here))
    (e.opening here.levels (e.arguments_from here)) _
    (each_level (Picked (perhaps_arguments here)) here.levels (e.arguments_from here)
    (λ n q. ct (perhaps_arguments here) is_tight_paren _
    (λ w b t. rw t (deepen_is here.levels n (e.arguments_from here) q))))
    ((
      cg (perhaps_arguments here) []
          (other (perhaps_arguments here) (give []) is_tight_paren (λ b. refl) (λ w b h. rw h refl)),
      tt,
    ))
picked_forms evaluates _ (members here xs) = (
  cr (members here xs) (expression here) _ refl (λ w b t. rw t refl),
  (
    cg (members here xs) xs
        (ifs (members here xs) (give xs) ends_members
        (λ w b h. either (is_close_paren w) (is_close_bracket w) h (λ u. rw (terminal_is 92 w u) refl)
        (λ u. rw (terminal_is 94 w u) refl))),
    tt,
  ),
)
picked_forms evaluates _ (more_members here xs) = (
  ct (more_members here xs) is_comma _ (λ w b t. rw t refl),
  (
    cg (more_members here xs) xs
        (ifs (more_members here xs) (give xs) ends_members
        (λ w b h. either (is_close_paren w) (is_close_bracket w) h (λ u. rw (terminal_is 92 w u) refl)
        (λ u. rw (terminal_is 94 w u) refl))),
    tt,
  ),
)
picked_forms evaluates _ (pairs here ps) = (
  cr (pairs here ps) (pair here) _ refl (λ w b t. rw t refl),
  (cg (pairs here ps) ps (ifs (pairs here ps) (give ps) is_close_brace (λ w b t. rw (terminal_is 96 w t) refl)), tt),
)
picked_forms evaluates _ (more_pairs here ps) = (
  ct (more_pairs here ps) is_comma _ (λ w b t. rw t refl),
  (
    cg (more_pairs here ps) ps
        (ifs (more_pairs here ps) (give ps) is_close_brace (λ w b t. rw (terminal_is 96 w t) refl)),
    tt,
  ),
)
picked_forms evaluates _ (pair here) = (
  ct (pair here) is_label _ (λ w b t. rw t refl),
  (cr (pair here) (expression here) _ refl (λ w b h. rw (expression_no_label w h) refl), tt),
)
picked_forms evaluates _ (text_parts here double parts) = (
  ct (text_parts here double parts) is_text_piece _ (λ w b t. rw (terminal_is 57 w t) refl),
  each_append (Picked (text_parts here double parts)) (e.opening here.levels (e.inside_from here double parts)) _
      (each_level (Picked (text_parts here double parts)) here.levels (e.inside_from here double parts)
      (λ n q. ct (text_parts here double parts) is_inside_open _
      (λ w b t. rw (terminal_is 58 w t) (deepen_is here.levels n (e.inside_from here double parts) q))))
      ((
        cg (text_parts here double parts) parts
            (ifs (text_parts here double parts) (give parts) is_text_close (λ w b t. rw (terminal_is 60 w t) refl)),
        tt,
      )),
)

-- the law `chooses`: an alternative that says something before what may follow its rule is the one chosen
pub chooses_rule : (evaluates : EvaluatingChosen) (t : Sort) (rule : Rule t) (p : Prod ruby t)
    (ts : List (Item ruby)) (x : Val t) (rest : List Word) → Among p (forms rule) → Is ruby_grammar t p ts x →
    fits rule (head rest) ≡ true → choose ruby_choices rule (words ts ++ rest) ≡ take p
chooses_rule evaluates t rule p ts x rest am a h = each_among (Picked rule) (picked_forms evaluates t rule) am ts x
    rest a h

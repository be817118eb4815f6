-- Each alternative of the rules of definitions is fine.
use Rattle.std.proofs.Common.{◌≡◌, ℕ, Bool, true, false, not, List, [], ◌∷◌, ◌++◌, Option, Some, None, refl, sym}
use Rattle.std.proofs.Common.{subst, append_assoc, append-nil}
use Rattle.ruby_types.specs.declared.tree.ConstRef.{ConstRef}
use Rattle.ruby_types.specs.declared.tree.Def.{Def}
use Rattle.ruby_types.specs.declared.tree.Def.TheVariants as def
use Rattle.ruby_grammar.specs.Terminals.{has, is_variable}
use Rattle.ruby_grammar.specs.Marks.{opens_class, defines, opens_module}
use Rattle.ruby_grammar.specs.Rules.{Name, Path, Body, Heading, Block, file, definitions, more_definitions, definition}
use Rattle.ruby_grammar.specs.Rules.{parent, heading, parameter_list, parameters, more_parameters, more_readers}
use Rattle.ruby_grammar.specs.Values.{behind_sign}
use Rattle.ruby_grammar.specs.Definitions as r
use Rattle.ruby_grammar.proofs.Tools.{Each, each_append, and_true, not_true}
use Rattle.ruby_print_pieces.specs.Names.{IsPath, IsMethodName}
use Rattle.ruby_print_pieces.specs.FormedStatements as t
use Rattle.ruby_print_pieces.specs.FormedFiles as d
use Rattle.ruby_print_trees.proofs.Meaning.{Fine, EachFine, Parent}
use Rattle.ruby_print_trees.proofs.Lists.{opened, opened_then, no_statements, no_parameters, parameter_more}
use Rattle.ruby_print_trees.proofs.Lists.{parameters_all, first_reader, reader_more, no_definitions, definition_more}
use Rattle.ruby_print_trees.proofs.Lists.{definitions_all}
use Rattle.ruby_print_trees.proofs.Words.{name_of, variable_of, const_of, symbol_of}

-- Each production of the rule of files gives formed trees.
pub fine_file : (levels : ℕ) (anywhere : Bool) → EachFine (file levels anywhere)
fine_file levels anywhere =
    (λ a w v s b y n c h z. h z [] (no_definitions []), (λ a y n c h z. h z [] (no_definitions []), tt))

ended : (path : Path) (ds : List Def) (es : List d.Deed) → d.FormedDef path d.several_definitions ds es →
    d.FormedDef path d.several_definitions ds (es ++ [])
ended path ds es h = subst (λ l. d.FormedDef path d.several_definitions ds l) (sym (append-nil es)) h

-- Each production of the rule of definitions gives formed trees.
pub fine_definitions : (here : Body) (ds : List Def) → EachFine (definitions here ds)
fine_definitions here ds = (
  λ a x n c h y n' c' g z es i. subst (λ l. d.FormedDef here.path d.several_definitions y l) (append_assoc es n n')
      (g z (es ++ n) (definition_more here.path ds es n x i (h z))),
  (λ a z es i. ended here.path ds es (definitions_all here.path ds es i), tt),
)

-- Each production of the rule of further definitions gives formed trees.
pub fine_more_definitions : (here : Body) (ds : List Def) → EachFine (more_definitions here ds)
fine_more_definitions here ds =
    (λ a w v s b y n c g z es i. g z es i, (λ a z es i. ended here.path ds es (definitions_all here.path ds es i), tt))

-- ---- modules and classes

inner : (top : Bool) (path : Path) (n : Name) → (top ≡ false → path ≡ n ∷ []) → d.IsInner top path
inner true path n h = tt
inner false path n h = subst (λ l. d.IsInner false l) (sym (h refl)) tt

path_formed : (around names : Path) (n : Name) → IsPath names → (r.at_top around ≡ false → names ≡ n ∷ []) →
    d.FormedPath around names
path_formed around names n h e = (h, inner (r.at_top around) names n e)

module_formed : (path names : Path) (body : List Def) (ks ds : List d.Deed) → d.FormedPath path names →
    ks ≡ d.deed (path ++ names) opens_module ∷ [] → d.FormedDef (path ++ names) d.several_definitions body ds →
    d.FormedDef path d.definition (def.Module names body) (ks ++ ds)
module_formed path names body ks ds h q i =
    subst (λ l. d.FormedDef path d.definition (def.Module names body) (l ++ ds)) (sym q) (d.is_module h i)

class_formed : (path names : Path) (p : Option ConstRef) (body : List Def) (ks ns ds : List d.Deed) →
    d.FormedPath path names → ks ≡ d.deed (path ++ names) opens_class ∷ [] → Parent (path ++ names) p ns →
    d.FormedDef (path ++ names) d.several_definitions body ds →
    d.FormedDef path d.definition (def.Class names p body) ((ks ++ ns) ++ ds)
class_formed path names None body ks ns ds h q e i =
    subst (λ k. d.FormedDef path d.definition (def.Class names None body) ((k ++ ns) ++ ds)) (sym q)
    (subst (λ l. d.FormedDef path d.definition (def.Class names None body)
    ((d.deed (path ++ names) opens_class ∷ l) ++ ds)) (sym e) (d.is_class h i))
class_formed path names (Some c) body ks ns ds h q e i =
    subst (λ k. d.FormedDef path d.definition (def.Class names (Some c) body) ((k ++ ns) ++ ds)) (sym q)
    (subst (λ l. d.FormedDef path d.definition (def.Class names (Some c) body)
    ((d.deed (path ++ names) opens_class ∷ l) ++ ds)) (sym e.1) (d.is_subclass h e.0 i))

-- Each production of the rule of a class's parent gives formed trees.
pub fine_parent : (path : Path) (at : ℕ) → EachFine (parent path at)
fine_parent path at = (λ a w v s b y n c h w' v' s' b'. h, (λ a w v s b. refl, tt))

-- ---- members

method_formed : (here : Body) (h : Heading) (names : List Name) (n : List d.Deed) (body : Block) →
    r.at_top here.path ≡ false → here.anywhere ≡ false → IsMethodName h.name → d.FormedParameters [] names →
    n ≡ d.deed here.path (defines h.single h.name) ∷ [] →
    t.FormedStmt (r.may_set here.anywhere h) t.several names body.stmts body.names →
    d.FormedDef here.path d.definition (def.Method h.single h.name names body.stmts) ((n ++ []) ++ [])
method_formed here h names n body top z i p e b =
    subst (λ l. d.FormedDef here.path d.definition (def.Method h.single h.name names body.stmts) ((l ++ []) ++ []))
    (sym e)
    (d.is_method top i p (subst (λ v. t.FormedStmt (r.may_set v h) t.several names body.stmts body.names) z b))

member_fine : (here : Body) (top : Bool) → r.at_top here.path ≡ top →
    Each (λ p. Fine (definition here) p) (r.member_forms top here)
member_fine here true e = tt
member_fine here false e = (
  λ a w v s b y n c h z. d.is_include e h.0,
  (
    λ a w v s b w' v' s' b' y n c g z.
        d.is_readers e (g (d.deed here.path (defines false (behind_sign w'.text)) ∷ [])
        (first_reader here.path (behind_sign w'.text) (symbol_of w' v' s'))),
    opened (definition here) here.levels (r.method_from here)
        (λ m a w v s b h n c i names n' c' p l n2 c2 g w' v' s' b' z. method_formed here h names n l e z i.0 p i.1
        (g names (no_statements (r.may_set here.anywhere h) names))),
  ),
)

-- Each production of the rule of one definition gives formed trees.
pub fine_definition : (here : Body) → EachFine (definition here)
fine_definition here = each_append (λ p. Fine (definition here) p) (r.top_forms here) _ (
  λ a w v s b w' v' s' b' x n c h z. d.is_assignment (const_of w v s) h,
  opened_then (definition here) here.levels (r.module_from here) _
      (λ m a w v s b w' v' s' b' path n c h w2 v2 s2 b2 y n' c' g w3 v3 s3 b3 z.
      module_formed here.path path y n n' (path_formed here.path path w'.text (h.0 (const_of w' v' s', tt)) h.1) h.2
      (g z [] (no_definitions (here.path ++ path))))
      (opened (definition here) here.levels (r.class_from here)
      (λ m a w v s b w' v' s' b' path n c h p n' c' i y n2 c2 g w2 v2 s2 b2 z.
      class_formed here.path path p y n n' n2 (path_formed here.path path w'.text (h.0 (const_of w' v' s', tt)) h.1) h.2
      i
      (g z [] (no_definitions (here.path ++ path))))),
)
    (member_fine here (r.at_top here.path) refl)

-- ---- headings, parameters and readers

-- Each production of the rule of a method's heading gives formed trees.
pub fine_heading : (path : Path) → EachFine (heading path)
fine_heading path = (
  λ a w v s b w' v' s' b' w2 v2 s2 b2. (name_of w2 v2 s2, refl),
  (λ a w v s b. (name_of w v s, refl), tt),
)

-- Each production of the rule of parameters in parentheses gives formed trees.
pub fine_parameter_list : (levels : ℕ) → EachFine (parameter_list levels)
fine_parameter_list levels = (
  λ a w v s b. tt,
  opened (parameter_list levels) levels r.parameters_from (λ n a w v s b y k c h w' v' s' b' w2 v2 s2 b2. h),
)

-- Each production of the rule of parameters gives formed trees.
pub fine_parameters : EachFine parameters
fine_parameters = (
  λ a w v s b y n c g. g (parameter_more [] w.text no_parameters (variable_of w v s) refl),
  (λ a. tt, tt),
)

-- Each production of the rule of further parameters gives formed trees.
pub fine_more_parameters : (names : List Name) → EachFine (more_parameters names)
fine_more_parameters names = (
  λ a w v s b w' v' s' b' y n c g i. let p = and_true (is_variable w') (not (has names w'.text)) v' in
      g (parameter_more names w'.text i (variable_of w' p.0 s') (not_true (has names w'.text) p.1)),
  (λ a i. parameters_all names i, tt),
)

-- Each production of the rule of further readers gives formed trees.
pub fine_readers : (path : Path) (names : List Name) → EachFine (more_readers path names)
fine_readers path names = (
  λ a w v s b w' v' s' b' y n c g es i.
      let e = d.deed path (defines false (behind_sign w'.text)) in
      subst (λ l. d.FormedReaders path y l) (append_assoc es (e ∷ []) n)
      (g (es ++ e ∷ []) (reader_more path names es (behind_sign w'.text) i (symbol_of w' v' s'))),
  (λ a es i. subst (λ l. d.FormedReaders path names l) (sym (append-nil es)) i.0, tt),
)

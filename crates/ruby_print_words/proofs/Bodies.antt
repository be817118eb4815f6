-- Definitions, of what they are made of.
use Rattle.std.proofs.Common.{subst, ◌∙◌}
use Rattle.std.proofs.Common.{◌≡◌, ℕ, zero, suc, Bool, true, false, not, ◌&&◌, List, [], ◌∷◌, ◌++◌, map, refl, sym, ap}
use Rattle.std.proofs.Common.{append_assoc, append-nil, codes, Some, None}
use Rattle.ruby_types.specs.declared.tree.ConstRef.{ConstRef}
use Rattle.ruby_types.specs.declared.tree.Expr.{Expr}
use Rattle.ruby_types.specs.declared.tree.Stmt.{Stmt}
use Rattle.ruby_types.specs.declared.tree.Def.{Def}
use Rattle.ruby_types.specs.declared.tree.Def.TheVariants as def
use Rattle.descent.specs.Grammar.{Prod, Among, first, later}
use Rattle.ruby_token.specs.declared.token.TokenKind.TheVariants as k
use Rattle.ruby_token.specs.declared.token.Op.TheVariants as op
use Rattle.ruby_print.specs.Statements.{deeper}
use Rattle.ruby_print.specs.Definitions.{symbol}
use Rattle.ruby_grammar.specs.Terminals.{has, name_terminal}
use Rattle.ruby_grammar.specs.Marks.{Mark, assigns, opens_module, opens_class, gives_parent, defines}
use Rattle.ruby_grammar.specs.Rules.{PathOpening, opened_path}
use Rattle.ruby_grammar.specs.Rules.{ruby, Name, Path, Body, Heading, a_def, path_rest, parameter_list, more_parameters}
use Rattle.ruby_grammar.specs.Rules.{more_readers}
use Rattle.ruby_grammar.specs.Rules as rule
use Rattle.ruby_grammar.specs.Definitions.{body, at_top, counts, top_forms, member_forms}
use Rattle.ruby_grammar.proofs.Tools.{among_behind}
use Rattle.ruby_print_pieces.specs.Pieces.{mark, name, newline, space, close_paren, path, path_more, listed}
use Rattle.ruby_print_pieces.specs.Pieces.{listed_more}
use Rattle.ruby_print_pieces.specs.Names.{IsPath}
use Rattle.ruby_print_pieces.specs.Formed.{IsConstant}
use Rattle.ruby_print_pieces.specs.FormedFiles.{Deed, deed, IsInner, FormedPath, FormedParameters, FormedReaders}
use Rattle.ruby_print_pieces.specs.FormedFiles.{last_reader, reader_more, sets_in}
use Rattle.ruby_print_pieces.specs.Expressions.{constant}
use Rattle.ruby_print_pieces.specs.Statements.{lines}
use Rattle.ruby_print_pieces.specs.Definitions.{definition, heading, parameters}
use Rattle.ruby_print_words.proofs.Building.{Reads, reads, given, takes, says, valued, Under}
use Rattle.ruby_print_pieces.proofs.Folds.{pieces_of_definition}
use Rattle.ruby_print_words.proofs.Lifting.{Ready}
use Rattle.ruby_print_words.proofs.Primaries.{is_free, constant_reads}
use Rattle.ruby_print_words.proofs.Branches.{Several, variable_passes}
use Rattle.ruby_print_words.proofs.Marked.{Tells, tells, tells_of, tells_over, m_given, m_takes, m_mark, m_then}
use Rattle.ruby_print_words.proofs.Marked.{m_then_plain, m_ends, m_says, m_over, m_valued, deed_of}

pub record One (around_it : Path) (d : Def) (ds : List Deed) (l : ℕ) : Type 0 where
  pub read : (n : ℕ) (indent : List ℕ) → Tells n (rule.definition (body l false around_it)) (definition d indent) ds d

pub record Lot (around_it : Path) (body_of : List Def) (ds : List Deed) (l : ℕ) : Type 0 where
  pub read : (n : ℕ) (indent : List ℕ) (before : List Def) →
      Tells n (rule.definitions (body l false around_it) before) (lines indent (map definition body_of)) ds
      (before ++ body_of)

-- ---- several definitions

-- No definitions are read of nothing.
pub no_definitions : (path : Path) (l : ℕ) → Lot path [] [] l
no_definitions path l = record {
  read = λ n indent before.
      tells (later first) (m_valued (sym (append-nil before)) m_given);
}

-- A definition before others is read before them.
pub definitions_more : (path : Path) (d : Def) (xs : List Def) (ds es : List Deed) (l : ℕ) → One path d ds l →
    Lot path xs es l → Lot path (d ∷ xs) (ds ++ es) l
definitions_more path d xs ds es l h k = record {
  read = λ n indent before.
      tells_over (append_assoc (definition d indent) (newline ∷ []) (lines indent (map definition xs)))
      (tells first (m_then (h.read n indent)
      (m_says (tells first (m_takes refl
      (m_valued (append_assoc before (d ∷ []) xs) (m_says (k.read _ indent (before ++ d ∷ [])))))))));
}

-- ---- modules and classes

-- the rest of a definition's path, and its deed
opened_told : (how : PathOpening) (before names all : List Name) (n : ℕ) → all ≡ before ++ names →
    Tells n (opened_path true how before) (path_more names) (deed (how.outer ++ all) how.act ∷ []) all
opened_told how before [] all n e =
    subst (λ l. Tells n (opened_path true how before) [] (deed (how.outer ++ l) how.act ∷ []) l)
    (sym (e ∙ append-nil before)) (tells (later first) (m_mark m_given))
opened_told how before (o ∷ names) all n e =
    tells first (m_takes refl (m_takes refl
    (m_says (opened_told how (before ++ o ∷ []) names all _ (e ∙ sym (append_assoc before (o ∷ []) names))))))

opened_in : (many : Bool) (how : PathOpening) (m : Name) (names : List Name) (n : ℕ) → IsInner many (m ∷ names) →
    Tells n (opened_path many how (m ∷ [])) (path_more names) (deed (how.outer ++ m ∷ names) how.act ∷ []) (m ∷ names)
opened_in true how m names n h = opened_told how (m ∷ []) names (m ∷ names) n refl
opened_in false how m [] n h = tells first (m_mark m_given)
opened_in false how m (o ∷ names) n h = absurd h

-- A printed module is read as it is.
pub module_read : (path : Path) (names : List Name) (xs : List Def) (ds : List Deed) (l : ℕ) →
    FormedPath path names → Under (Lot (path ++ names) xs ds) l →
    One path (def.Module names xs) (deed (path ++ names) opens_module ∷ ds) l
module_read path [] xs ds l f h = absurd f.0
module_read path (m ∷ names) xs ds zero f h = absurd h
module_read path (m ∷ names) xs ds (suc l) f h = record {
  read = λ n indent.
      tells_over (pieces_of_definition (def.Module (m ∷ names) xs) (def.outs-Module (m ∷ names) xs) indent)
      (tells (later first) (m_takes refl
      (m_takes refl (m_then (opened_in (at_top path) _ m names _ f.1)
      (m_takes refl (m_then_plain (h.read _ (deeper indent) []) (m_takes refl m_given)))))));
}

-- A printed class without a parent is read as it is.
pub class_read : (path : Path) (names : List Name) (xs : List Def) (ds : List Deed) (l : ℕ) → FormedPath path names →
    Under (Lot (path ++ names) xs ds) l → One path (def.Class names None xs) (deed (path ++ names) opens_class ∷ ds) l
class_read path [] xs ds l f h = absurd f.0
class_read path (m ∷ names) xs ds zero f h = absurd h
class_read path (m ∷ names) xs ds (suc l) f h = record {
  read = λ n indent.
      tells_over (pieces_of_definition (def.Class (m ∷ names) None xs) (def.outs-Class (m ∷ names) None xs) indent)
      (tells (later (later first))
      (m_takes refl (m_takes refl (m_then (opened_in (at_top path) _ m names _ f.1)
      (m_then {us = newline ∷ []} (tells (later first) (m_takes refl m_given))
      (m_then_plain (h.read _ (deeper indent) []) (m_takes refl m_given)))))));
}

-- a constant at whose end a mark stands
path_marked : (m : Mark) (before names : List Name) (n : ℕ) →
    Tells n (path_rest true (Some m) before) (path_more names) (deed_of m ∷ []) (before ++ names)
path_marked m before [] n = tells (later first) (m_mark (m_valued (sym (append-nil before)) m_given))
path_marked m before (o ∷ names) n =
    tells first (m_takes refl
    (m_takes refl (m_valued (append_assoc before (o ∷ []) names) (m_says (path_marked m (before ++ o ∷ []) names _)))))

constant_told : (m : Mark) (top : Bool) (names : List Name) (gap : List ℕ) (n : ℕ) → IsPath names →
    Tells n (rule.constant (Some m)) (constant gap (record { top = top; path = names })) (deed_of m ∷ [])
    (record { top = top; path = names })
constant_told m top [] gap n h = absurd h
constant_told m true (o ∷ names) gap n h =
    tells first (m_takes refl (m_takes refl (m_ends (path_marked m (o ∷ []) names _) m_given)))
constant_told m false (o ∷ names) gap n h =
    tells (later first) (m_takes refl (m_ends (path_marked m (o ∷ []) names _) m_given))

constant_marked : (m : Mark) (c : ConstRef) (gap : List ℕ) (n : ℕ) → IsConstant c →
    Tells n (rule.constant (Some m)) (constant gap c) (deed_of m ∷ []) c
constant_marked m c gap n h = constant_told m c.top c.path gap n h

parent_told : (path : Path) (at : ℕ) (c : ConstRef) (n : ℕ) → IsConstant c →
    Tells n (rule.parent path at) (mark space op.Less (codes "<") ∷ (constant space c ++ newline ∷ []))
    (deed path gives_parent ∷ []) (Some c)
parent_told path at c n h =
    tells first (m_takes refl
    (m_then_plain (constant_marked (counts path gives_parent at) c space _ h) (m_takes refl m_given)))

-- A printed class with a parent is read as it is.
pub subclass_read : (path : Path) (names : List Name) (c : ConstRef) (xs : List Def) (ds : List Deed) (l : ℕ) →
    FormedPath path names → IsConstant c → Under (Lot (path ++ names) xs ds) l →
    One path (def.Class names (Some c) xs) (deed (path ++ names) opens_class ∷ deed (path ++ names) gives_parent ∷ ds) l
subclass_read path [] c xs ds l f i h = absurd f.0
subclass_read path (m ∷ names) c xs ds zero f i h = absurd h
subclass_read path (m ∷ names) c xs ds (suc l) f i h = record {
  read = λ n indent.
      tells_over (pieces_of_definition (def.Class (m ∷ names) (Some c) xs) (def.outs-Class (m ∷ names) (Some c) xs)
      indent)
      (tells (later (later first))
      (m_takes refl (m_takes refl (m_then (opened_in (at_top path) _ m names _ f.1)
      (m_over (ap (λ t. mark space op.Less (codes "<") ∷ t) (sym (append_assoc (constant space c) (newline ∷ []) _)))
      (m_then (parent_told (path ++ m ∷ names) _ c _ i)
      (m_then_plain (h.read _ (deeper indent) []) (m_takes refl m_given))))))));
}

-- ---- assignments

-- A printed constant's assignment is read as it is.
pub assignment_read : (path : Path) (t : Name) (x : Expr) (l : ℕ) → Ready [] x l →
    One path (def.Assign t x) (deed (path ++ t ∷ []) assigns ∷ []) l
assignment_read path t x l r = record {
  read = λ n indent.
      tells_over (pieces_of_definition (def.Assign t x) (def.outs-Assign t x) indent)
      (tells first (m_takes refl (m_takes refl (m_mark (m_ends (tells_of (r.alone space)) m_given)))));
}

-- ---- what stands in the body of a definition

among_member : (b : Bool) (here : Body) {p : Prod ruby a_def} → b ≡ false → Among p (member_forms false here) →
    Among p (member_forms b here)
among_member true here e am = cc
among_member false here e am = am

in_body : (path : Path) (l : ℕ) {p : Prod ruby a_def} → at_top path ≡ false →
    Among p (member_forms false (body l false path)) →
    Among p (top_forms (body l false path) ++ member_forms (at_top path) (body l false path))
in_body path l e am = among_behind (top_forms (body l false path)) (among_member (at_top path) (body l false path) e am)

-- A printed `include` is read as it is.
pub include_read : (path : Path) (c : ConstRef) (l : ℕ) → at_top path ≡ false → IsConstant c →
    One path (def.Include c) [] l
include_read path c l e h = record {
  read = λ n indent.
      tells_over (pieces_of_definition (def.Include c) (def.outs-Include c) indent)
      (tells (in_body path l e first) (m_takes refl (m_ends (tells_of (constant_reads c space h)) m_given)));
}

-- ---- readers

readers_more : {path : Path} {names : List Name} {ds : List Deed} → FormedReaders path names ds →
    (before : List Name) (n : ℕ) →
    Tells n (more_readers path before) (listed_more k.Sym (map symbol names)) ds (before ++ names)
readers_more (last_reader h) before n =
    tells first (m_takes refl (m_takes refl (m_mark (m_says (tells (later first) m_given)))))
readers_more (reader_more {n = o} {ns} h rest) before n =
    tells first (m_takes refl
    (m_takes refl (m_mark (m_valued (append_assoc before (o ∷ []) ns)
    (m_says (readers_more rest (before ++ o ∷ []) _))))))

readers_told : {path : Path} {names : List Name} {ds : List Deed} (l : ℕ) → at_top path ≡ false →
    FormedReaders path names ds → (n : ℕ) (indent : List ℕ) →
    Tells n (rule.definition (body l false path))
    (name indent (codes "attr_reader") ∷ listed k.Sym space (map symbol names)) ds (def.Readers names)
readers_told {path} l e (last_reader h) n indent = tells (in_body path l e (later first))
    (m_takes refl (m_takes refl (m_mark (m_ends (tells (later first) m_given) m_given))))
readers_told {path} l e (reader_more {n = o} h rest) n indent = tells (in_body path l e (later first))
    (m_takes refl (m_takes refl (m_mark (m_ends (readers_more rest (o ∷ []) _) m_given))))

-- Printed readers are read as they are.
pub readers_read : (path : Path) (names : List Name) (ds : List Deed) (l : ℕ) → at_top path ≡ false →
    FormedReaders path names ds → One path (def.Readers names) ds l
readers_read path names ds l e h =
    record {
      read = λ n indent. tells_over (pieces_of_definition (def.Readers names) (def.outs-Readers names) indent)
          (readers_told l e h n indent);
    }

-- ---- methods

heading_told : (path : Path) (single : Bool) (called : Name) → name_terminal called ≡ 0 → (n : ℕ) →
    Tells n (rule.heading path) (heading single called) (deed path (defines single called) ∷ [])
    (record { single = single; name = called })
heading_told path true called free n =
    tells first (m_takes refl (m_takes refl (m_takes (is_free called [] free 0) (m_mark m_given))))
heading_told path false called free n = tells (later first) (m_takes (is_free called space free 0) (m_mark m_given))

both_pass : (a b : Bool) → a ≡ true → b ≡ false → (a && not b) ≡ true
both_pass true true h e = cc
both_pass true false h e = refl
both_pass false b h e = cc

parameters_more : (before params : List Name) → FormedParameters before params →
    Reads (more_parameters before) (listed_more k.Name params) (before ++ params)
parameters_more before [] h = reads (later first) (valued (sym (append-nil before)) given)
parameters_more before (o ∷ params) h = reads first (takes (λ n. refl) (λ n. refl)
    (takes (λ n. both_pass _ (has before o) (variable_passes o space h.0 n) h.1) (λ n. refl)
    (valued (append_assoc before (o ∷ []) params) (says (parameters_more (before ++ o ∷ []) params h.2)))))

parameters_told : (l : ℕ) (params : List Name) → FormedParameters [] params → Under (λ l. Unit {0}) l →
    (n : ℕ) → Tells n (parameter_list l) (parameters params ++ newline ∷ []) [] params
parameters_told zero params h u n = absurd u
parameters_told (suc l) [] h u n = tells first (m_takes refl m_given)
parameters_told (suc l) (o ∷ params) h u n =
    tells (later first) (m_takes refl
    (m_over (append_assoc (listed k.Name [] (o ∷ params)) (close_paren ∷ []) (newline ∷ []))
    (m_then (tells_of
    (reads first (takes (variable_passes o [] h.0) (λ i. refl) (says (parameters_more (o ∷ []) params h.2)))))
    (m_takes refl (m_takes refl m_given)))))

-- A printed method is read as it is.
pub method_read : (path : Path) (single : Bool) (t : Name) (params after : List Name) (ss : List Stmt) (l : ℕ) →
    at_top path ≡ false → name_terminal t ≡ 0 → FormedParameters [] params →
    Under (λ l. Under (λ l. Unit {0}) l × Several (sets_in single t) params ss after l) l →
    One path (def.Method single t params ss) (deed path (defines single t) ∷ []) l
method_read path single t params after ss zero e free f h = absurd h
method_read path single t params after ss (suc l) e free f h = record {
  read = λ n indent.
      tells_over (pieces_of_definition (def.Method single t params ss) (def.outs-Method single t params ss) indent)
      (tells (in_body path (suc l) e (later (later first)))
      (m_takes refl (m_then_plain (heading_told path single t free _)
      (m_over (sym (append_assoc (parameters params) (newline ∷ []) _))
      (m_then (parameters_told l params f h.0 _)
      (m_then (tells_of (h.1.read (deeper indent) [])) (m_takes refl m_given)))))));
}

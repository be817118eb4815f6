-- Statements, lists of statements and the arms of an `if`, of what they are made of.
use Rattle.std.proofs.Common.{◌≡◌, ℕ, zero, suc, Bool, true, false, not, ◌==◌, ◌&&◌, List, [], ◌∷◌, ◌++◌, map, refl}
use Rattle.std.proofs.Common.{sym, ap, ◌∙◌, append_assoc, append-nil, codes, Option, Some, None, subst, arith}
use Rattle.std.proofs.lemmas.Bool.Decides.{nat_tests}
use Rattle.ruby_types.specs.declared.tree.Expr.{Expr}
use Rattle.ruby_types.specs.declared.tree.Stmt.{Stmt}
use Rattle.ruby_types.specs.declared.tree.Stmt.TheVariants as stmt
use Rattle.descent.specs.Grammar.{Among, first, later}
use Rattle.ruby_token.specs.Bytes.{Every, is_word, is_lower, is_suffix}
use Rattle.ruby_print.specs.Statements.{deeper}
use Rattle.ruby_grammar.specs.Terminals.{name_terminal, is_variable, ends_in_suffix}
use Rattle.ruby_grammar.specs.Rules.{ruby, Name, Around, Known, a_statement, then_or_line, perhaps_line, arms_rest}
use Rattle.ruby_grammar.specs.Rules.{condition_behind, perhaps_expression}
use Rattle.ruby_grammar.specs.Rules as rule
use Rattle.ruby_grammar.specs.Statements.{scope, around, known, block, where_it_may, setting_ivar, arm_from}
use Rattle.ruby_print_pieces.specs.Pieces.{Piece, name, newline, space, word_at}
use Rattle.ruby_print_pieces.specs.Names.{IsPlainName, plain_name, IsVariableName}
use Rattle.ruby_print_pieces.specs.Expressions.{alone}
use Rattle.ruby_print_pieces.specs.Statements.{Placed, statement, lines, inside, arms, otherwise, perhaps}
use Rattle.ruby_print_words.proofs.Building.{Sent, Reads, reads, given, takes, then_, ends, says, over_rule, valued}
use Rattle.ruby_print_words.proofs.Building.{Under}
use Rattle.ruby_print_pieces.proofs.Folds.{pieces_of_statement}
use Rattle.ruby_print_words.proofs.Lifting.{Ready}

-- ---- simple statements

pub record Simple (sets : Bool) (names : List Name) (s : Stmt) (after : List Name) (l : ℕ) : Type 0 where
  pub read : (indent : List ℕ) → Reads (rule.simple_statement (around l sets names)) (statement s indent)
      (known s after)

-- A printed expression is read as a statement.
pub evaluates_read : (sets : Bool) (names : List Name) (x : Expr) (l : ℕ) → Ready names x l →
    Simple sets names (stmt.Expr x) names l
evaluates_read sets names x l r = record {
  read = λ indent. over_rule (pieces_of_statement (stmt.Expr x) (stmt.outs-Expr x) indent)
      (reads (later (later (later (among_last sets (setting_ivar (around l sets names))))))
      (ends (r.alone indent) given));
}
  where
    among_last : {A : Type 0} {p : A} (b : Bool) (q : A) → Among p (where_it_may b q ++ p ∷ [])
    among_last true q = later first
    among_last false q = first

-- a name with no suffix
no_suffix_byte : (b : ℕ) → is_word b ≡ true → is_suffix b ≡ false
no_suffix_byte b h = grind (arith, nat_tests)

lower_is_word : (b : ℕ) → is_lower b ≡ true → is_word b ≡ true
lower_is_word b h = grind (arith, nat_tests)

no_suffix : (b : ℕ) (bs : List ℕ) → is_word b ≡ true → Every is_word bs → ends_in_suffix (b ∷ bs) ≡ false
no_suffix b [] h e = no_suffix_byte b h
no_suffix b (c ∷ cs) h e = no_suffix c cs e.0 e.1

plain_ends : (n : List ℕ) → IsPlainName n → ends_in_suffix n ≡ false
plain_ends n (plain_name {b} {t} h e) = no_suffix b t (lower_is_word b h) e

both_true : (a b : Bool) → a ≡ true → b ≡ false → (a && not b) ≡ true
both_true true true h e = cc
both_true true false h e = refl
both_true false b h e = cc

-- A printed name of a variable passes the test for one.
pub variable_passes : (n gap : List ℕ) → IsVariableName n → (at : ℕ) → is_variable (word_at at (name gap n)) ≡ true
variable_passes n gap h at = both_true (name_terminal n == 0) (ends_in_suffix n) (ap (λ m. m == 0) h.free)
    (plain_ends n h.spelled)

-- A printed assignment is read as it is.
pub assigns_read : (sets : Bool) (names : List Name) (n : Name) (x : Expr) (l : ℕ) → IsVariableName n →
    Ready (n ∷ names) x l → Simple sets names (stmt.Set n x) (n ∷ names) l
assigns_read sets names n x l h r = record {
  read = λ indent. over_rule (pieces_of_statement (stmt.Set n x) (stmt.outs-Set n x) indent)
      (reads (later (later first))
      (takes (variable_passes n indent h) (λ m. refl)
      (takes (λ m. refl) (λ m. refl) (ends (r.alone space) given))));
}

-- A printed instance variable's assignment is read where it may stand.
pub assigns_ivar_read : (sets : Bool) (names : List Name) (n : Name) (x : Expr) (l : ℕ) → sets ≡ true →
    Ready names x l → Simple sets names (stmt.SetIvar n x) names l
assigns_ivar_read false names n x l e r = cc
assigns_ivar_read true names n x l e r = record {
  read = λ indent. over_rule (pieces_of_statement (stmt.SetIvar n x) (stmt.outs-SetIvar n x) indent)
      (reads (later (later (later first)))
      (takes (λ m. refl) (λ m. refl) (takes (λ m. refl) (λ m. refl) (ends (r.alone space) given))));
}

returned : (names : List Name) (o : Option Expr) (l : ℕ) → Reads (perhaps_expression (scope l names)) (perhaps o) o →
    (sets : Bool) → Simple sets names (stmt.Return o) names l
returned names o l h sets =
    record {
      read = λ indent. over_rule (pieces_of_statement (stmt.Return o) (stmt.outs-Return o) indent)
          (reads first (takes (λ m. refl) (λ m. refl) (ends h given)));
    }

-- A printed `return` alone is read as it is.
pub returns_read : (sets : Bool) (names : List Name) (l : ℕ) → Simple sets names (stmt.Return None) names l
returns_read sets names l = returned names None l (reads (later first) given) sets

-- A printed `return` with its value is read as it is.
pub returns_value_read : (sets : Bool) (names : List Name) (x : Expr) (l : ℕ) → Ready names x l →
    Simple sets names (stmt.Return (Some x)) names l
returns_value_read sets names x l r = returned names (Some x) l (reads first (ends (r.alone space) given)) sets

-- A printed `raise` is read as it is.
pub raises_read : (sets : Bool) (names : List Name) (x : Expr) (l : ℕ) → Ready names x l →
    Simple sets names (stmt.Raise x) names l
raises_read sets names x l r = record {
  read = λ indent. over_rule (pieces_of_statement (stmt.Raise x) (stmt.outs-Raise x) indent)
      (reads (later first) (takes (λ m. refl) (λ m. refl) (ends (r.alone space) given)));
}

-- ---- statements

pub record Whole (sets : Bool) (names : List Name) (s : Stmt) (after : List Name) (l : ℕ) : Type 0 where
  pub read : (indent : List ℕ) → Reads (rule.statement (around l sets names)) (statement s indent) (known s after)

-- A simple statement without a condition is a whole one.
pub plain_read : (sets : Bool) (names : List Name) (s : Stmt) (after : List Name) (l : ℕ) →
    Simple sets names s after l → Whole sets names s after l
plain_read sets names s after l h =
    record { read = λ indent. reads first (ends (h.read indent) (says (reads (later (later first)) given))) }

-- A printed `if` behind its statement is read as it is.
pub conditional_read : (sets : Bool) (names : List Name) (s : Stmt) (x : Expr) (after : List Name) (l : ℕ) →
    Simple sets names s after l → Ready after x l → Whole sets names (stmt.If ((x, s ∷ []) ∷ []) [] true) after l
conditional_read sets names s x after l h r = record {
  read = λ indent.
      over_rule (pieces_of_statement (stmt.If ((x, s ∷ []) ∷ []) [] true) (stmt.outs-If ((x, s ∷ []) ∷ []) [] true)
      indent ∙ append-nil _ ∙ ap (λ t. t ++ (name space (codes "if") ∷ alone x)) (append-nil (statement s indent)))
      (reads first (then_ (h.read indent)
      (says (reads first (takes (λ m. refl) (λ m. refl) (ends (r.alone space) given))))));
}

-- ---- several statements

pub record Several (sets : Bool) (names : List Name) (ss : List Stmt) (after : List Name) (l : ℕ) : Type 0 where
  pub read : (indent : List ℕ) (before : List Stmt) →
      Reads (rule.statements (around l sets names) before) (lines indent (map statement ss))
      (block (before ++ ss) after true)

-- No statements are read of nothing.
pub no_statements : (sets : Bool) (names : List Name) (l : ℕ) → Several sets names [] names l
no_statements sets names l =
    record {
      read = λ indent before.
          reads (later first) (valued (ap (λ t. block t names true) (sym (append-nil before))) given);
    }

-- A statement before others is read before them.
pub statements_more : (sets : Bool) (names mid after : List Name) (s : Stmt) (ss : List Stmt) (l : ℕ) →
    Whole sets names s mid l → Several sets mid ss after l → Several sets names (s ∷ ss) after l
statements_more sets names mid after s ss l h k = record {
  read = λ indent before.
      over_rule (append_assoc (statement s indent) (newline ∷ []) (lines indent (map statement ss)))
      (reads first (then_ (h.read indent) (says (reads first (takes (λ m. refl) (λ m. refl)
      (valued (ap (λ t. block t after true) (append_assoc before (s ∷ []) ss))
      (says (k.read indent (before ++ s ∷ [])))))))));
}

-- ---- the arms of an `if`

-- An arm with its statements' layout.
abbrev pub laid_arm : Expr × List Stmt → Expr × List Placed
laid_arm a = (a.0, map statement a.1)

-- What stands behind the word of the first arm, where these pieces follow the last: a sentence, if they are one of
-- what follows these arms.
pub record Tail (sets : Bool) (names : List Name) (before as' : List (Expr × List Stmt)) (indent : List ℕ)
    (qs : List Piece) (y : Known) (l : ℕ) : Type 0 where
  pub pieces : List Piece
  pub whole : (word : List ℕ) → arms indent word (map laid_arm as') ++ qs ≡ name indent word ∷ pieces
  pub sent : Sent (arm_from l sets true (λ x. x) names before) pieces y

pub record Arms (sets : Bool) (names : List Name) (as' : List (Expr × List Stmt)) (after : List Name)
    (l : ℕ) : Type 0 where
  pub tail : (indent : List ℕ) (before : List (Expr × List Stmt)) (qs : List Piece) (y : Known) →
      ((ss : List Stmt) → Reads (arms_rest l sets true (before ++ as') (block ss after true)) qs y) →
      Tail sets names before as' indent qs y l

-- a condition with its statements, and what follows
arm_sent : (sets : Bool) (names mid : List Name) (before : List (Expr × List Stmt)) (x : Expr) (ss : List Stmt)
    (l : ℕ) → Ready names x l → Several sets names ss mid l →
    (indent : List ℕ) (qs : List Piece) (y : Known) →
    Reads (arms_rest l sets true (before ++ (x, ss) ∷ []) (block ss mid true)) qs y →
    Sent (arm_from l sets true (λ x. x) names before) (alone x ++ (inside indent (map statement ss) ++ qs)) y
arm_sent sets names mid before x ss l r h indent qs y k =
    then_ (r.alone space) (then_ {us = newline ∷ []} (reads (later first) (takes (λ m. refl) (λ m. refl) given))
    (then_ (h.read (deeper indent) []) (says k)))

arm_whole : (c i t qs : List Piece) → (c ++ (i ++ t)) ++ qs ≡ c ++ (i ++ (t ++ qs))
arm_whole c i t qs = append_assoc c (i ++ t) qs ∙ ap (λ u. c ++ u) (append_assoc i t qs)

-- The last arm is read as it is.
pub last_arm_tail : (sets : Bool) (names after : List Name) (x : Expr) (ss : List Stmt) (l : ℕ) → Ready names x l →
    Several sets names ss after l → Arms sets names ((x, ss) ∷ []) after l
last_arm_tail sets names after x ss l r h = record {
  tail = λ indent before qs y k. record {
    pieces = alone x ++ (inside indent (map statement ss) ++ qs);
    whole = λ word. ap (λ t. name indent word ∷ t) (arm_whole (alone x) (inside indent (map statement ss)) [] qs);
    sent = arm_sent sets names after before x ss l r h indent qs y (k ss);
  };
}

-- An arm before others is read before them.
pub arm_more_tail : (sets : Bool) (names mid after : List Name) (x : Expr) (ss : List Stmt)
    (as' : List (Expr × List Stmt)) (l : ℕ) → Ready names x l → Several sets names ss mid l →
    Arms sets mid as' after l →
    Arms sets names ((x, ss) ∷ as') after l
arm_more_tail sets names mid after x ss as' l r h a = record {
  tail = λ indent before qs y k.
      let t = a.tail indent (before ++ (x, ss) ∷ []) qs y
      (λ us. subst (λ v. Reads (arms_rest l sets true v (block us after true)) qs y)
      (sym (append_assoc before ((x, ss) ∷ []) as')) (k us)) in
      record {
        pieces = alone x ++ (inside indent (map statement ss) ++ (name indent (codes "elsif") ∷ t.pieces));
        whole = λ word. ap (λ u. name indent word ∷ u)
            (arm_whole (alone x) (inside indent (map statement ss)) (arms indent (codes "elsif") (map laid_arm as'))
            qs ∙ ap (λ u. alone x ++ (inside indent (map statement ss) ++ u)) (t.whole (codes "elsif")));
        sent = arm_sent sets names mid before x ss l r h indent (name indent (codes "elsif") ∷ t.pieces) y
            (reads (later (later first)) (takes (λ m. refl) (λ m. refl) t.sent));
      };
}

-- ---- what follows the arms

-- Arms without `else` end at `end`.
pub no_else : (sets : Bool) (names : List Name) (as' : List (Expr × List Stmt)) (ss : List Stmt) (indent : List ℕ)
    (l : ℕ) →
    Reads (arms_rest l sets true as' (block ss names true)) (otherwise indent [] ++ name indent (codes "end") ∷ [])
    (known (stmt.If as' [] false) names)
no_else sets names as' ss indent l = reads first (takes (λ m. refl) (λ m. refl) given)

-- Arms with `else` are read with its statements.
pub else_read : (sets : Bool) (names after : List Name) (as' : List (Expr × List Stmt)) (ss : List Stmt) (s : Stmt)
    (other : List Stmt) (indent : List ℕ) (l : ℕ) → Several sets names (s ∷ other) after l →
    Reads (arms_rest l sets true as' (block ss names true))
    (otherwise indent (map statement (s ∷ other)) ++ name indent (codes "end") ∷ [])
    (known (stmt.If as' (s ∷ other) false) after)
else_read sets names after as' ss s other indent l h =
    reads (later first) (takes (λ m. refl) (λ m. refl)
    (then_ {us = newline ∷ []} (reads first (takes (λ m. refl) (λ m. refl) given))
    (then_ (h.read (deeper indent) []) (takes (λ m. refl) (λ m. refl) given))))

pub record Rest (sets : Bool) (names : List Name) (other : List Stmt) (after : List Name) (l : ℕ) : Type 0 where
  pub read : (as' : List (Expr × List Stmt)) (ss : List Stmt) (indent : List ℕ) →
      Reads (arms_rest l sets true as' (block ss names true))
      (otherwise indent (map statement other) ++ name indent (codes "end") ∷ [])
      (known (stmt.If as' other false) after)

-- A printed block `if` is read as it is.
pub block_read : (sets : Bool) (names mid after : List Name) (as' : List (Expr × List Stmt)) (other : List Stmt)
    (l : ℕ) → Under (λ l. Arms sets names as' mid l × Rest sets mid other after l) l →
    Whole sets names (stmt.If as' other false) after l
block_read sets names mid after as' other zero h = absurd h
block_read sets names mid after as' other (suc l) h = record {
  read = λ indent.
      let t = h.0.tail indent [] (otherwise indent (map statement other) ++ name indent (codes "end") ∷ [])
      (known (stmt.If as' other false) after) (λ ss. h.1.read as' ss indent) in
      over_rule (pieces_of_statement (stmt.If as' other false) (stmt.outs-If as' other false) indent
      ∙ t.whole (codes "if"))
      (reads (later first) (takes (λ m. refl) (λ m. refl) t.sent));
}

-- Lists that grow at their end, and alternatives in lists.
use Rattle.std.proofs.Common.{◌≡◌, ◌≢◌, ℕ, Bool, true, false, List, [], ◌∷◌, ◌++◌, Option, Some, None, refl, sym, subst}
use Rattle.std.proofs.Common.{append_assoc, append-nil, IsUtf8}
use Rattle.ruby_types.specs.declared.tree.Expr.{Expr}
use Rattle.ruby_types.specs.declared.tree.Part.{Part}
use Rattle.ruby_types.specs.declared.tree.Part.TheVariants as part
use Rattle.ruby_types.specs.declared.tree.Stmt.{Stmt}
use Rattle.ruby_types.specs.declared.tree.Def.{Def}
use Rattle.descent.specs.Grammar.{Prod}
use Rattle.ruby_grammar.specs.Words.{Word}
use Rattle.ruby_grammar.specs.Terminals.{has, is_text_piece}
use Rattle.ruby_grammar.specs.Marks.{defines}
use Rattle.ruby_grammar.specs.Rules.{ruby, Name, Path, Sort, Rule}
use Rattle.ruby_grammar.specs.Expressions.{opening}
use Rattle.ruby_grammar.proofs.Tools.{Each, each_append, each_opening}
use Rattle.ruby_print_pieces.specs.Names.{IsConstName, EachConst, IsPath, IsSymbolName, IsVariableName}
use Rattle.ruby_print_pieces.specs.Formed as f
use Rattle.ruby_print_pieces.specs.FormedStatements as t
use Rattle.ruby_print_pieces.specs.FormedFiles as d
use Rattle.ruby_print_trees.proofs.Meaning.{Fine, Beside, Members, Pairs, Parts, Statements, ArmsBefore, Arms}
use Rattle.ruby_print_trees.proofs.Meaning.{Definitions, Readers, Parameters, PerhapsPiece}

-- ---- alternatives

-- A rule with one production a level is fine where each of them is.
pub opened : {s : Sort} (rule : Rule s) (levels : ℕ) (g : ℕ → Prod ruby s) → ((n : ℕ) → Fine rule (g n)) →
    Each (λ p. Fine rule p) (opening levels g)
opened rule levels g h = each_opening (λ p. Fine rule p) levels g h

-- The same where other productions follow.
pub opened_then : {s : Sort} (rule : Rule s) (levels : ℕ) (g : ℕ → Prod ruby s) (qs : List (Prod ruby s)) →
    ((n : ℕ) → Fine rule (g n)) → Each (λ p. Fine rule p) qs → Each (λ p. Fine rule p) (opening levels g ++ qs)
opened_then rule levels g qs h i = each_append (λ p. Fine rule p) (opening levels g) qs (opened rule levels g h) i

-- ---- one more at the end

-- what is so of all with one more before the rest, is so of all and one more, and the rest
push : {A : Type 0} (P : List A → Type 0) (xs : List A) (x : A) (ys : List A) → P (xs ++ x ∷ ys) →
    P ((xs ++ x ∷ []) ++ ys)
push P xs x ys h = subst P (sym (append_assoc xs (x ∷ []) ys)) h

whole : {A : Type 0} (P : List A → Type 0) (xs : List A) → P (xs ++ []) → P xs
whole P xs h = subst P (append-nil xs) h

module _ (names : List Name) where
  -- No members are formed members.
  pub no_members : Members names []
  no_members ys h = h

  -- A list of formed members stays so with one more at its end.
  pub member_more : (xs : List Expr) (x : Expr) → Members names xs → f.Formed names f.one x →
      Members names (xs ++ x ∷ [])
  member_more xs x h i = λ ys g. push (λ l. f.Formed names f.some l) xs x ys (h (x ∷ ys) (f.one_more i g))

  -- Formed members make a formed list.
  pub members_all : (xs : List Expr) → Members names xs → f.Formed names f.some xs
  members_all xs h = whole (λ l. f.Formed names f.some l) xs (h [] f.no_more)

  -- No pairs are formed pairs.
  pub no_pairs : Pairs names []
  no_pairs qs h = h

  -- A list of formed pairs stays so with one more at its end.
  pub pair_more : (ps : List (Expr × Expr)) (p : Expr × Expr) → Pairs names ps → f.Formed names f.one p.0
      × f.Formed names f.one p.1 → Pairs names (ps ++ p ∷ [])
  pair_more ps p h i = λ qs g. push (λ l. f.Formed names f.pairs l) ps p qs (h (p ∷ qs) (f.pair_more i.0 i.1 g))

  -- Formed pairs make a formed list of pairs.
  pub pairs_all : (ps : List (Expr × Expr)) → Pairs names ps → f.Formed names f.pairs ps
  pairs_all ps h = whole (λ l. f.Formed names f.pairs l) ps (h [] f.no_pairs)

  -- A text without parts is formed.
  pub no_parts : Parts names false []
  no_parts qs h = h

  -- A formed text stays so with an inside part at its end.
  pub inside_more : (plain : Bool) (ps : List Part) (x : Expr) → Parts names plain ps → f.Formed names f.one x →
      Parts names false (ps ++ part.Inside x ∷ [])
  inside_more plain ps x h i = λ qs g. push (λ l. f.Formed names (f.parts true) l) ps (part.Inside x) qs
      (h (part.Inside x ∷ qs) (f.inside_part i g))

  -- A formed text that ends in no plain part stays so with one at its end.
  pub plain_more : (ps : List Part) (text : List ℕ) → Parts names false ps → (text ≢ []) × IsUtf8 text →
      Parts names true (ps ++ part.Plain text ∷ [])
  plain_more ps text h i = λ qs g. push (λ l. f.Formed names (f.parts true) l) ps (part.Plain text) qs
      (h (part.Plain text ∷ qs) (f.plain_part i.0 i.1 g))

  -- Formed parts make a formed text.
  pub parts_all : (plain : Bool) (ps : List Part) → Parts names plain ps → f.Formed names (f.parts true) ps
  parts_all plain ps h = whole (λ l. f.Formed names (f.parts true) l) ps (h [] f.no_parts)

-- the part before a piece is no plain one
pub no_plain_before : (plain : Bool) (a : Option Word) (w : Word) → PerhapsPiece plain a → Beside a w →
    is_text_piece w ≡ true → plain ≡ false
no_plain_before false a w p b h = refl
no_plain_before true None w p b h = absurd p
no_plain_before true (Some v) w p b h = absurd (b p h)

module _ (sets : Bool) where
  -- No statements are formed statements.
  pub no_statements : (names : List Name) → Statements sets names [] names
  no_statements names = λ rest after h. h

  -- Formed statements stay so with one more at their end.
  pub statement_more : (names mid next : List Name) (ss : List Stmt) (s : Stmt) → Statements sets names ss mid →
      t.FormedStmt sets t.whole mid s next → Statements sets names (ss ++ s ∷ []) next
  statement_more names mid next ss s h i = λ rest after g.
      push (λ l. t.FormedStmt sets t.several names l after) ss s rest (h (s ∷ rest) after (t.one_more i g))

  -- Formed statements make a formed body.
  pub statements_all : (names mid : List Name) (ss : List Stmt) → Statements sets names ss mid →
      t.FormedStmt sets t.several names ss mid
  statements_all names mid ss h = whole (λ l. t.FormedStmt sets t.several names l mid) ss (h [] mid t.no_more)

  -- No arms are formed arms.
  pub no_arms : (names : List Name) → ArmsBefore sets names [] names
  no_arms names = λ rest after h. h

  -- Formed arms stay so with one more at their end.
  pub arm_more : (names mid next : List Name) (arms : List (Expr × List Stmt)) (x : Expr) (ss : List Stmt) →
      ArmsBefore sets names arms mid → f.Formed mid f.one x → t.FormedStmt sets t.several mid ss next →
      Arms sets names (arms ++ (x, ss) ∷ []) next
  arm_more names mid next arms x ss h i j = (
    h ((x, ss) ∷ []) next (t.last_arm i j),
    λ rest after g.
        push (λ l. t.FormedStmt sets t.branches names l after) arms (x, ss) rest
        (h ((x, ss) ∷ rest) after (t.arm_more i j g)),
  )

-- ---- names and definitions

each_push : (ns : List Name) (n : Name) → EachConst ns → IsConstName n → EachConst (ns ++ n ∷ [])
each_push [] n h i = (i, tt)
each_push (m ∷ ns) n h i = (h.0, each_push ns n h.1 i)

-- A path stays one with a constant name at its end.
pub path_push : (ns : List Name) (n : Name) → IsPath ns → IsConstName n → IsPath (ns ++ n ∷ [])
path_push [] n h i = absurd h
path_push (m ∷ ns) n h i = (h.0, each_push ns n h.1 i)

-- No parameters are formed parameters.
pub no_parameters : Parameters []
no_parameters = λ rest h. h

-- Parameters stay distinct with one more that they lack.
pub parameter_more : (names : List Name) (n : Name) → Parameters names → IsVariableName n → has names n ≡ false →
    Parameters (names ++ n ∷ [])
parameter_more names n h i e = λ rest g. push (λ l. d.FormedParameters [] l) names n rest (h (n ∷ rest) (i, e, g))

-- Such parameters are those of a formed method.
pub parameters_all : (names : List Name) → Parameters names → d.FormedParameters [] names
parameters_all names h = whole (λ l. d.FormedParameters [] l) names (h [] tt)

module _ (path : Path) where
  -- One reader is a list of readers with its deed.
  pub first_reader : (n : Name) → IsSymbolName n → Readers path (n ∷ []) (d.deed path (defines false n) ∷ [])
  first_reader n i = (d.last_reader i, λ rest more g. d.reader_more i g)

  -- Readers stay so, with their deeds, with one more at their end.
  pub reader_more : (names : List Name) (es : List d.Deed) (n : Name) → Readers path names es → IsSymbolName n →
      Readers path (names ++ n ∷ []) (es ++ d.deed path (defines false n) ∷ [])
  reader_more names es n h i = (
    h.1 (n ∷ []) (d.deed path (defines false n) ∷ []) (d.last_reader i),
    λ rest more g. push (λ l. d.FormedReaders path l ((es ++ d.deed path (defines false n) ∷ []) ++ more)) names n rest
        (push (λ l. d.FormedReaders path (names ++ n ∷ rest) l) es (d.deed path (defines false n)) more
        (h.1 (n ∷ rest) (d.deed path (defines false n) ∷ more) (d.reader_more i g))),
  )

  -- No definitions are formed definitions.
  pub no_definitions : Definitions path [] []
  no_definitions = λ rest more h. h

  -- Formed definitions stay so, with their deeds, with one more at their end.
  pub definition_more : (ds : List Def) (es ns : List d.Deed) (x : Def) → Definitions path ds es →
      d.FormedDef path d.definition x ns → Definitions path (ds ++ x ∷ []) (es ++ ns)
  definition_more ds es ns x h i = λ rest more g.
      push (λ l. d.FormedDef path d.several_definitions l ((es ++ ns) ++ more)) ds x rest
      (subst (λ l. d.FormedDef path d.several_definitions (ds ++ x ∷ rest) l) (sym (append_assoc es ns more))
      (h (x ∷ rest) (ns ++ more) (d.one_more i g)))

  -- Formed definitions make a formed body.
  pub definitions_all : (ds : List Def) (es : List d.Deed) → Definitions path ds es →
      d.FormedDef path d.several_definitions ds es
  definitions_all ds es h = whole (λ l. d.FormedDef path d.several_definitions l es) ds
      (whole (λ l. d.FormedDef path d.several_definitions (ds ++ []) l) es (h [] [] d.no_more))

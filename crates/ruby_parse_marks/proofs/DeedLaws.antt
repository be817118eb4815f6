-- What clashes with what was done, by numbers and by paths.
use Rattle.std.proofs.Common.{◌≡◌, ℕ, ◌≤◌, Bool, true, false, ◌&&◌, ◌||◌, ◌==◌, List, [], ◌∷◌, ◌++◌, length}
use Rattle.std.proofs.Common.{refl, sym, ap, ◌∙◌, subst}
use Rattle.std.specs.Global.{Vec}
use Rattle.std.specs.Prelude.{bytes_eq, map, if◌then◌else◌}
use Rattle.std.specs.List.{list_any}
use Rattle.std.proofs.lemmas.Slice.Eq.{bytes_eq-Decides}
use Rattle.std.proofs.lemmas.List.Folds.{list_any-append}
use Rattle.std.proofs.lemmas.Bool.{eqb-true}
use Rattle.indexmap.specs.IndexSet.{insert_key}
use Rattle.ruby_grammar.specs.Marks.{Mark, Act, assigns, opens_module, opens_class, gives_parent, defines, same_path}
use Rattle.ruby_grammar.specs.Marks.{acts_clash, same_flag, clash}
use Rattle.ruby_grammar.specs.Definitions.{counts}
use Rattle.ruby_parse_marks.specs.declared.act.Act.{Act as Held}
use Rattle.ruby_parse_marks.specs.declared.act.Act.TheVariants as held
use Rattle.ruby_parse_marks.specs.declared.paths.Inner.{Inner}
use Rattle.ruby_parse_marks.specs.declared.deeds.Method.{Method}
use Rattle.ruby_parse_marks.specs.Paths.{path_at, AreNumbered}
use Rattle.ruby_parse_marks.specs.Deeds.{Done, same_method, has_number, clashes_at, with_number, done_at}
use Rattle.ruby_parse_marks.specs.Views.{act_view, Deed, clashes_with}
use Rattle.ruby_parse_marks.specs.Noted.{deed_at, method_at, deeds_at, AreWithin, HaveBodies}
use Rattle.ruby_parse_marks.proofs.PathLaws.{one_path}

-- ---- what an act clashes with
and_or : (a b c : Bool) → ((a && c) || (b && c)) ≡ ((a || b) && c)
and_or true b true = or_same b
  where
    or_same : (b : Bool) → (true || (b && true)) ≡ true
    or_same b = refl
and_or true true false = refl
and_or true false false = refl
and_or false true c = refl
and_or false false c = refl

module _ (rs : List (Inner × ℕ)) (h : AreNumbered rs) (n : ℕ) (k : n ≤ length rs) (at : ℕ) where
  abbrev with_act : Act → Mark
  with_act a = counts (path_at rs n) a at

  -- paths to which one thing was done
  part : (a b : Act) (ns : List ℕ) → AreWithin (length rs) ns →
      list_any (clashes_with (with_act a)) (map (deed_at rs b) ns) ≡ (has_number ns n && acts_clash a b)
  part a b [] w = refl
  part a b (m ∷ ns) w =
      ap (λ v. (v && acts_clash a b) || list_any (clashes_with (with_act a)) (map (deed_at rs b) ns))
      (one_path rs n m h k w.0)
      ∙ ap (λ v. ((n == m) && acts_clash a b) || v) (part a b ns w.1)
      ∙ and_or (n == m) (has_number ns n) (acts_clash a b)

  -- methods
  method_part : (single : Bool) (name : Vec ℕ) (ms : List Method) → HaveBodies (length rs) ms →
      list_any (clashes_with (with_act (defines single name.items))) (map (method_at rs) ms)
      ≡ list_any (same_method (record { body = n; single = single; name = name })) ms
  method_part single name [] w = refl
  method_part single name (m ∷ ms) w =
      ap (λ v. (v && (same_flag single m.single && bytes_eq name.items m.name.items))
      || list_any (clashes_with (with_act (defines single name.items))) (map (method_at rs) ms))
      (one_path rs n m.body h k w.0)
      ∙ ap (λ v. same_method (record { body = n; single = single; name = name }) m || v)
      (method_part single name ms w.1)

  and_no : (a : Bool) → (a && false) ≡ false
  and_no true = refl
  and_no false = refl

  no_method : (a : Act) (ms : List Method) →
      ((single : Bool) (name : List ℕ) → acts_clash a (defines single name) ≡ false) →
      list_any (clashes_with (with_act a)) (map (method_at rs) ms) ≡ false
  no_method a [] c = refl
  no_method a (m ∷ ms) c =
      ap (λ v. (same_path (path_at rs n) (path_at rs m.body) && v)
      || list_any (clashes_with (with_act a)) (map (method_at rs) ms)) (c m.single m.name.items)
      ∙ ap (λ v. v || list_any (clashes_with (with_act a)) (map (method_at rs) ms))
      (and_no (same_path (path_at rs n) (path_at rs m.body)))
      ∙ no_method a ms c

  module _ (d : Done) (wa : AreWithin (length rs) d.assigned) (wm : AreWithin (length rs) d.modules)
      (wc : AreWithin (length rs) d.classes) (wp : AreWithin (length rs) d.parents)
      (wd : HaveBodies (length rs) d.methods) where
    parts : (a : Act) → list_any (clashes_with (with_act a)) (deeds_at rs d)
        ≡ ((has_number d.assigned n && acts_clash a assigns) || ((has_number d.modules n && acts_clash a opens_module)
        || ((has_number d.classes n && acts_clash a opens_class) || ((has_number d.parents n
        && acts_clash a gives_parent) || list_any (clashes_with (with_act a)) (map (method_at rs) d.methods)))))
    parts a =
        let p = clashes_with (with_act a) in
        let l1 = map (deed_at rs assigns) d.assigned in
        let l2 = map (deed_at rs opens_module) d.modules in
        let l3 = map (deed_at rs opens_class) d.classes in
        let l4 = map (deed_at rs gives_parent) d.parents in
        let l5 = map (method_at rs) d.methods in
        list_any-append p l1 (l2 ++ (l3 ++ (l4 ++ l5)))
        ∙ ap (λ v. list_any p l1 || v) (list_any-append p l2 (l3 ++ (l4 ++ l5))
        ∙ ap (λ v. list_any p l2 || v) (list_any-append p l3 (l4 ++ l5)
        ∙ ap (λ v. list_any p l3 || v) (list_any-append p l4 l5)))
        ∙ ap (λ v. v || (list_any p l2 || (list_any p l3 || (list_any p l4 || list_any p l5))))
        (part a assigns d.assigned wa)
        ∙ ap (λ v. (has_number d.assigned n && acts_clash a assigns)
        || (v || (list_any p l3 || (list_any p l4 || list_any p l5)))) (part a opens_module d.modules wm)
        ∙ ap (λ v. (has_number d.assigned n && acts_clash a assigns)
        || ((has_number d.modules n && acts_clash a opens_module) || (v || (list_any p l4 || list_any p l5))))
        (part a opens_class d.classes wc)
        ∙ ap (λ v. (has_number d.assigned n && acts_clash a assigns)
        || ((has_number d.modules n && acts_clash a opens_module) || ((has_number d.classes n
        && acts_clash a opens_class) || (v || list_any p l5)))) (part a gives_parent d.parents wp)

    -- what clashes by numbers is what clashes by paths
    pub clashes_is : (a : Held) → list_any (clashes_with (with_act (act_view a))) (deeds_at rs d) ≡ clashes_at d n a
    clashes_is held.Assigns = parts assigns
        ∙ ap (λ v. (has_number d.assigned n && true) || ((has_number d.modules n && true)
        || ((has_number d.classes n && true) || ((has_number d.parents n && false) || v))))
        (no_method assigns d.methods (λ s m. refl))
        ∙ shape (has_number d.assigned n) (has_number d.modules n) (has_number d.classes n) (has_number d.parents n)
      where
        shape : (a m c p : Bool) → ((a && true) || ((m && true) || ((c && true) || ((p && false) || false))))
            ≡ (a || (m || c))
        shape true m c p = refl
        shape false true c p = refl
        shape false false true p = refl
        shape false false false true = refl
        shape false false false false = refl
    clashes_is held.OpensModule = parts opens_module
        ∙ ap (λ v. (has_number d.assigned n && true) || ((has_number d.modules n && false)
        || ((has_number d.classes n && true) || ((has_number d.parents n && false) || v))))
        (no_method opens_module d.methods (λ s m. refl))
        ∙ shape (has_number d.assigned n) (has_number d.modules n) (has_number d.classes n) (has_number d.parents n)
      where
        shape : (a m c p : Bool) → ((a && true) || ((m && false) || ((c && true) || ((p && false) || false))))
            ≡ (a || c)
        shape true m c p = refl
        shape false true true p = refl
        shape false false true p = refl
        shape false true false true = refl
        shape false true false false = refl
        shape false false false true = refl
        shape false false false false = refl
    clashes_is held.OpensClass = parts opens_class
        ∙ ap (λ v. (has_number d.assigned n && true) || ((has_number d.modules n && true)
        || ((has_number d.classes n && false) || ((has_number d.parents n && false) || v))))
        (no_method opens_class d.methods (λ s m. refl))
        ∙ shape (has_number d.assigned n) (has_number d.modules n) (has_number d.classes n) (has_number d.parents n)
      where
        shape : (a m c p : Bool) → ((a && true) || ((m && true) || ((c && false) || ((p && false) || false))))
            ≡ (a || m)
        shape true m c p = refl
        shape false true c p = refl
        shape false false true true = refl
        shape false false true false = refl
        shape false false false true = refl
        shape false false false false = refl
    clashes_is held.GivesParent = parts gives_parent
        ∙ ap (λ v. (has_number d.assigned n && false) || ((has_number d.modules n && false)
        || ((has_number d.classes n && false) || ((has_number d.parents n && true) || v))))
        (no_method gives_parent d.methods (λ s m. refl))
        ∙ shape (has_number d.assigned n) (has_number d.modules n) (has_number d.classes n) (has_number d.parents n)
      where
        none : (p : Bool) → ((p && true) || false) ≡ p
        none true = refl
        none false = refl

        shape : (a m c p : Bool) → ((a && false) || ((m && false) || ((c && false) || ((p && true) || false)))) ≡ p
        shape a m c p = rw (and_no a, and_no m, and_no c) (none p)
    clashes_is (held.Defines single name) = parts (defines single name.items)
        ∙ ap (λ v. (has_number d.assigned n && false) || ((has_number d.modules n && false)
        || ((has_number d.classes n && false) || ((has_number d.parents n && false) || v))))
        (method_part single name d.methods wd)
        ∙ shape (has_number d.assigned n) (has_number d.modules n) (has_number d.classes n) (has_number d.parents n) _
      where
        shape : (a m c p e : Bool) → ((a && false) || ((m && false) || ((c && false) || ((p && false) || e)))) ≡ e
        shape a m c p e = rw (and_no a, and_no m, and_no c, and_no p) refl

-- ---- what is done besides
module _ {A B : Type 0} (eq : A → A → Bool) (f : A → B) (p : B → Bool) (k : A)
    (same : (x : A) → eq k x ≡ true → p (f x) ≡ p (f k)) where
  absorbed : (ks : List A) → list_any (eq k) ks ≡ true → list_any p (map f ks) ≡ (p (f k) || list_any p (map f ks))
  absorbed [] h = cc
  absorbed (x ∷ ks) h = by (eq k x) refl (λ r. absorbed ks r)
    where
      twice : (a b : Bool) → (a || b) ≡ (a || (a || b))
      twice true b = refl
      twice false b = refl

      moved : (a b c : Bool) → b ≡ (c || b) → (a || b) ≡ (c || (a || b))
      moved true b true e = refl
      moved true b false e = refl
      moved false b c e = e

      by : (b : Bool) → eq k x ≡ b →
          (list_any (eq k) ks ≡ true → list_any p (map f ks) ≡ (p (f k) || list_any p (map f ks))) →
          (p (f x) || list_any p (map f ks)) ≡ (p (f k) || (p (f x) || list_any p (map f ks)))
      by true e g = ap (λ v. v || list_any p (map f ks)) (same x e) ∙ twice (p (f k)) (list_any p (map f ks))
          ∙ ap (λ v. p (f k) || (v || list_any p (map f ks))) (sym (same x e))
      by false e g = moved (p (f x)) (list_any p (map f ks)) (p (f k))
          (g (subst (λ v. (v || list_any (eq k) ks) ≡ true) e h))

  last : (ks : List A) → list_any p (map f (ks ++ k ∷ [])) ≡ (p (f k) || list_any p (map f ks))
  last [] = refl
  last (x ∷ ks) = ap (λ v. p (f x) || v) (last ks) ∙ turned (p (f x)) (p (f k)) (list_any p (map f ks))
    where
      turned : (a c b : Bool) → (a || (c || b)) ≡ (c || (a || b))
      turned true true b = refl
      turned true false b = refl
      turned false c b = refl

  inserted : (ks : List A) → list_any p (map f (insert_key eq ks k)) ≡ (p (f k) || list_any p (map f ks))
  inserted ks = by (list_any (eq k) ks) refl
    where
      by : (b : Bool) → list_any (eq k) ks ≡ b →
          list_any p (map f (if b then ks else ks ++ k ∷ [])) ≡ (p (f k) || list_any p (map f ks))
      by true e = absorbed ks e
      by false e = last ks

module _ (rs : List (Inner × ℕ)) (n : ℕ) (x : Mark) where
  abbrev p : Deed → Bool
  p = clashes_with x

  number_more : (b : Act) (ns : List ℕ) → list_any p (map (deed_at rs b) (with_number ns n))
      ≡ (p (deed_at rs b n) || list_any p (map (deed_at rs b) ns))
  number_more b ns = inserted (λ a c. a == c) (deed_at rs b) p n
      (λ m e. ap (λ v. p (deed_at rs b v)) (sym (eqb-true n m e))) ns

  both : (a b : Bool) → (a && b) ≡ true → (a ≡ true) × (b ≡ true)
  both true b h = (refl, h)
  both false b h = cc

  flag_is : (a b : Bool) → same_flag a b ≡ true → a ≡ b
  flag_is true true h = refl
  flag_is true false h = cc
  flag_is false true h = cc
  flag_is false false h = refl

  method_is : (k m : Method) → same_method k m ≡ true → p (method_at rs m) ≡ p (method_at rs k)
  method_is k m h =
      let a = both (k.body == m.body) _ h in
      let b = both (same_flag k.single m.single) _ a.1 in
      ap (λ v. p (record { path = path_at rs v; act = defines m.single m.name.items }))
      (sym (eqb-true k.body m.body a.0))
      ∙ ap (λ v. p (record { path = path_at rs k.body; act = defines v m.name.items }))
      (sym (flag_is k.single m.single b.0))
      ∙ ap (λ v. p (record { path = path_at rs k.body; act = defines k.single v }))
      (sym ((bytes_eq-Decides k.name.items m.name.items).0 b.1))

  first_part : (l m r : List Deed) (c : Bool) → list_any p m ≡ (c || list_any p l) →
      list_any p (m ++ r) ≡ (c || list_any p (l ++ r))
  first_part l m r c h = list_any-append p m r ∙ ap (λ v. v || list_any p r) h
      ∙ grouped c (list_any p l) (list_any p r) ∙ ap (λ v. c || v) (sym (list_any-append p l r))
    where
      grouped : (a b c : Bool) → ((a || b) || c) ≡ (a || (b || c))
      grouped true b c = refl
      grouped false b c = refl

  later_part : (l r s : List Deed) (c : Bool) → list_any p s ≡ (c || list_any p r) →
      list_any p (l ++ s) ≡ (c || list_any p (l ++ r))
  later_part l r s c h = list_any-append p l s ∙ ap (λ v. list_any p l || v) h
      ∙ turned (list_any p l) c (list_any p r) ∙ ap (λ v. c || v) (sym (list_any-append p l r))
    where
      turned : (a c b : Bool) → (a || (c || b)) ≡ (c || (a || b))
      turned true true b = refl
      turned true false b = refl
      turned false c b = refl

  -- what clashes with more that is done
  pub done_more : (d : Done) (a : Held) (at : ℕ) → list_any p (deeds_at rs (done_at d n a))
      ≡ (clash x (counts (path_at rs n) (act_view a) at) || list_any p (deeds_at rs d))
  done_more d held.Assigns at = first_part (map (deed_at rs assigns) d.assigned) _ _ _ (number_more assigns d.assigned)
  done_more d held.OpensModule at = later_part (map (deed_at rs assigns) d.assigned) _ _ _
      (first_part (map (deed_at rs opens_module) d.modules) _ _ _ (number_more opens_module d.modules))
  done_more d held.OpensClass at = later_part (map (deed_at rs assigns) d.assigned) _ _ _
      (later_part (map (deed_at rs opens_module) d.modules) _ _ _
      (first_part (map (deed_at rs opens_class) d.classes) _ _ _ (number_more opens_class d.classes)))
  done_more d held.GivesParent at = later_part (map (deed_at rs assigns) d.assigned) _ _ _
      (later_part (map (deed_at rs opens_module) d.modules) _ _ _
      (later_part (map (deed_at rs opens_class) d.classes) _ _ _
      (first_part (map (deed_at rs gives_parent) d.parents) _ _ _ (number_more gives_parent d.parents))))
  done_more d (held.Defines single name) at = later_part (map (deed_at rs assigns) d.assigned) _ _ _
      (later_part (map (deed_at rs opens_module) d.modules) _ _ _
      (later_part (map (deed_at rs opens_class) d.classes) _ _ _
      (later_part (map (deed_at rs gives_parent) d.parents) _ _ _
      (inserted same_method (method_at rs) p (record { body = n; single = single; name = name })
      (λ m e. method_is (record { body = n; single = single; name = name }) m e) d.methods))))

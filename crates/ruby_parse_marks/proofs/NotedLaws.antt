-- What the calls of the table make of what it holds, by numbers and by paths.
use Rattle.std.proofs.Common.{◌≡◌, ℕ, ◌≤◌, Bool, true, false, ◌==◌, List, [], ◌∷◌, ◌++◌, length, refl, sym, ap}
use Rattle.std.proofs.Common.{◌∙◌}
use Rattle.std.proofs.Common.{subst, arith, append_assoc, Result, Ok, Err}
use Rattle.std.specs.Prelude.{OnErr, map, if◌then◌else◌}
use Rattle.std.specs.List.{list_any}
use Rattle.indexmap.specs.IndexSet.{insert_key}
use Rattle.ruby_grammar.specs.Marks.{Act, assigns, opens_module, opens_class, gives_parent}
use Rattle.ruby_grammar.specs.Definitions.{at_top, counts}
use Rattle.ruby_parse_marks.specs.declared.act.Act.{Act as Held}
use Rattle.ruby_parse_marks.specs.declared.act.Act.TheVariants as held
use Rattle.ruby_parse_marks.specs.declared.paths.Inner.{Inner}
use Rattle.ruby_parse_marks.specs.declared.deeds.Method.{Method}
use Rattle.ruby_parse_marks.specs.Paths.{latest_first, path_at, Numbers, Grown, Advanced}
use Rattle.ruby_parse_marks.specs.Deeds.{Done, Does, clashes_at, done_at, with_number, same_method}
use Rattle.ruby_parse_marks.specs.Views.{act_view, Noted, clashes, clashes_with, inside, outside, SameBodies, Adds}
use Rattle.ruby_parse_marks.specs.Noted.{deed_at, method_at, deeds_at, bodies_at, noted, AreWithin, HaveBodies, IsSound}
use Rattle.ruby_parse_marks.proofs.PathLaws.{latest_more, length_latest, is_number, grown_itself, grown_more}
use Rattle.ruby_parse_marks.proofs.PathLaws.{is_top_path}
use Rattle.ruby_parse_marks.proofs.DeedLaws.{clashes_is, done_more}

-- what holds anyway holds on an error
pub on_err : {T E : Type 0} {A : Type 0} (r : Result T E) → A → OnErr r A
on_err (Ok x) a = tt
on_err (Err e) a = a

-- ---- numbers of paths
within_last : (size n : ℕ) (ns : List ℕ) → AreWithin size ns → n ≤ size → AreWithin size (ns ++ n ∷ [])
within_last size n [] w l = (l, tt)
within_last size n (m ∷ ns) w l = (w.0, within_last size n ns w.1 l)

within_more : (size more : ℕ) (ns : List ℕ) → size ≤ more → AreWithin size ns → AreWithin more ns
within_more size more [] l w = tt
within_more size more (n ∷ ns) l w = (omega (arith, l, w.0), within_more size more ns l w.1)

bodies_more : (size more : ℕ) (ms : List Method) → size ≤ more → HaveBodies size ms → HaveBodies more ms
bodies_more size more [] l w = tt
bodies_more size more (m ∷ ms) l w = (omega (arith, l, w.0), bodies_more size more ms l w.1)

bodies_last : (size : ℕ) (m : Method) (ms : List Method) → HaveBodies size ms → m.body ≤ size →
    HaveBodies size (ms ++ m ∷ [])
bodies_last size m [] w l = (l, tt)
bodies_last size m (x ∷ ms) w l = (w.0, bodies_last size m ms w.1 l)

within_with : (size n : ℕ) (ns : List ℕ) → AreWithin size ns → n ≤ size → AreWithin size (with_number ns n)
within_with size n ns w l = by (list_any (λ m. n == m) ns)
  where
    by : (b : Bool) → AreWithin size (if b then ns else ns ++ n ∷ [])
    by true = w
    by false = within_last size n ns w l

bodies_with : (size : ℕ) (m : Method) (ms : List Method) → HaveBodies size ms → m.body ≤ size →
    HaveBodies size (insert_key same_method ms m)
bodies_with size m ms w l = by (list_any (same_method m) ms)
  where
    by : (b : Bool) → HaveBodies size (if b then ms else ms ++ m ∷ [])
    by true = w
    by false = bodies_last size m ms w l

-- ---- something is done
module _ (es : List (Inner × ℕ)) (n : ℕ) (ns : List ℕ) (d : Done) (s : IsSound es n ns d) where
  abbrev rs : List (Inner × ℕ)
  rs = latest_first es

  here_in : n ≤ length rs
  here_in = subst (λ v. n ≤ v) (sym (length_latest es)) s.here

  in_rs : (ks : List ℕ) → AreWithin (length es) ks → AreWithin (length rs) ks
  in_rs ks w = subst (λ v. AreWithin v ks) (sym (length_latest es)) w

  -- the top is where no module and no class is open
  pub top_is : (v : Noted) → noted es n ns d ≡ v → (n == 0) ≡ at_top v.here
  top_is v e = sym (is_top_path rs n s.numbered here_in) ∙ ap (λ w. at_top w.here) e

  sound_with : (a : Held) → IsSound es n ns (done_at d n a)
  sound_with held.Assigns = record {
    numbered = s.numbered;
    here = s.here;
    around = s.around;
    assigned = within_with (length es) n d.assigned s.assigned s.here;
    modules = s.modules;
    classes = s.classes;
    parents = s.parents;
    methods = s.methods;
  }
  sound_with held.OpensModule = record {
    numbered = s.numbered;
    here = s.here;
    around = s.around;
    assigned = s.assigned;
    modules = within_with (length es) n d.modules s.modules s.here;
    classes = s.classes;
    parents = s.parents;
    methods = s.methods;
  }
  sound_with held.OpensClass = record {
    numbered = s.numbered;
    here = s.here;
    around = s.around;
    assigned = s.assigned;
    modules = s.modules;
    classes = within_with (length es) n d.classes s.classes s.here;
    parents = s.parents;
    methods = s.methods;
  }
  sound_with held.GivesParent = record {
    numbered = s.numbered;
    here = s.here;
    around = s.around;
    assigned = s.assigned;
    modules = s.modules;
    classes = s.classes;
    parents = within_with (length es) n d.parents s.parents s.here;
    methods = s.methods;
  }
  sound_with (held.Defines single name) = record {
    numbered = s.numbered;
    here = s.here;
    around = s.around;
    assigned = s.assigned;
    modules = s.modules;
    classes = s.classes;
    parents = s.parents;
    methods = bodies_with (length es) (record { body = n; single = single; name = name }) d.methods s.methods s.here;
  }

  module _ (a : Held) (e : Done) where
    -- the table stays sound
    pub sound_done : (could : Bool) → Does d n a could e → IsSound es n ns e
    sound_done true h = subst (λ v. IsSound es n ns v) (sym h.1) (sound_with a)
    sound_done false h = subst (λ v. IsSound es n ns v) (sym h.1) s

    module _ (v : Noted) (q : noted es n ns d ≡ v) (at : ℕ) where
      answer : (b : Bool) → clashes (noted es n ns d) (counts (path_at rs n) (act_view a) at) ≡ b →
          clashes v (counts v.here (act_view a) at) ≡ b
      answer b h = sym (ap (λ w. clashes w (counts w.here (act_view a) at)) q) ∙ h

      meets : clashes (noted es n ns d) (counts (path_at rs n) (act_view a) at) ≡ clashes_at d n a
      meets = clashes_is rs s.numbered n here_in at d (in_rs d.assigned s.assigned) (in_rs d.modules s.modules)
          (in_rs d.classes s.classes) (in_rs d.parents s.parents)
          (subst (λ w. HaveBodies w d.methods) (sym (length_latest es)) s.methods) a

      -- what is done clashed with nothing
      pub clear_is : Does d n a true e → clashes v (counts v.here (act_view a) at) ≡ false
      clear_is h = answer false (meets ∙ h.0)

      -- what isn't done clashes
      pub clash_is : Does d n a false e → clashes v (counts v.here (act_view a) at) ≡ true
      clash_is h = answer true (meets ∙ h.0)

      -- what is done counts besides
      pub adds : Does d n a true e → Adds v (counts v.here (act_view a) at) (noted es n ns e)
      adds h = subst (λ w. Adds w (counts w.here (act_view a) at) (noted es n ns e)) q
          (λ x. ap (λ k. list_any (clashes_with x) (deeds_at rs k)) h.1 ∙ done_more rs n x d a at)

      -- in the same bodies
      pub same_places : SameBodies v (noted es n ns e)
      same_places = subst (λ w. SameBodies w (noted es n ns e)) q (refl, refl)

      -- nothing changes where it isn't done
      pub unchanged : Does d n a false e → noted es n ns e ≡ v
      unchanged h = ap (λ k. noted es n ns k) h.1 ∙ q

  -- ---- out of a body
  module _ (o : ℕ) (ks : List ℕ) (h : ns ≡ ks ++ o ∷ []) where
    order : latest_first ns ≡ o ∷ latest_first ks
    order = ap (λ v. latest_first v) h ∙ latest_more ks o

    around_in : AreWithin (length es) (o ∷ latest_first ks)
    around_in = subst (λ v. AreWithin (length es) v) order s.around

    -- the table stays sound
    pub sound_out : IsSound es o ks d
    sound_out = record {
      numbered = s.numbered;
      here = around_in.0;
      around = around_in.1;
      assigned = s.assigned;
      modules = s.modules;
      classes = s.classes;
      parents = s.parents;
      methods = s.methods;
    }

    -- the body around is the innermost then
    pub closed : (v : Noted) → noted es n ns d ≡ v → noted es o ks d ≡ outside v
    closed v q = sym (ap (λ l. outside (record {
      here = path_at rs n;
      around = bodies_at rs l;
      deeds = deeds_at rs d;
    })) order) ∙ ap (λ w. outside w) q

  -- ---- more names have numbers
  module _ (fs : List (Inner × ℕ)) (g : Grown es fs) where
    -- the table stays sound
    pub sound_grown : IsSound fs n ns d
    sound_grown = record {
      numbered = g.numbered;
      here = omega (arith, s.here, g.grows);
      around = within_more (length es) (length fs) (latest_first ns) g.grows s.around;
      assigned = within_more (length es) (length fs) d.assigned g.grows s.assigned;
      modules = within_more (length es) (length fs) d.modules g.grows s.modules;
      classes = within_more (length es) (length fs) d.classes g.grows s.classes;
      parents = within_more (length es) (length fs) d.parents g.grows s.parents;
      methods = bodies_more (length es) (length fs) d.methods g.grows s.methods;
    }

    same_deeds : (a : Act) (ks : List ℕ) → AreWithin (length es) ks → map (deed_at (latest_first fs) a) ks
        ≡ map (deed_at rs a) ks
    same_deeds a [] w = refl
    same_deeds a (k ∷ ks) w =
        ap (λ p. (record { path = p; act = a }) ∷ map (deed_at (latest_first fs) a) ks) (g.stays k w.0)
        ∙ ap (λ l. deed_at rs a k ∷ l) (same_deeds a ks w.1)

    same_methods : (ms : List Method) → HaveBodies (length es) ms → map (method_at (latest_first fs)) ms
        ≡ map (method_at rs) ms
    same_methods [] w = refl
    same_methods (m ∷ ms) w =
        ap (λ p. (record { path = p; act = (method_at rs m).act }) ∷ map (method_at (latest_first fs)) ms)
        (g.stays m.body w.0) ∙ ap (λ l. method_at rs m ∷ l) (same_methods ms w.1)

    same_bodies : (ks : List ℕ) → AreWithin (length es) ks → bodies_at (latest_first fs) ks ≡ bodies_at rs ks
    same_bodies [] w = refl
    same_bodies (k ∷ ks) w = ap (λ p. p ∷ bodies_at (latest_first fs) ks) (g.stays k w.0)
        ∙ ap (λ l. path_at rs k ∷ l) (same_bodies ks w.1)

    all_deeds : deeds_at (latest_first fs) d ≡ deeds_at rs d
    all_deeds = rw (
      same_deeds assigns d.assigned s.assigned,
      same_deeds opens_module d.modules s.modules,
      same_deeds opens_class d.classes s.classes,
      same_deeds gives_parent d.parents s.parents,
      same_methods d.methods s.methods,
    ) refl

    -- callers see the same
    pub same_noted : (v : Noted) → noted es n ns d ≡ v → noted fs n ns d ≡ v
    same_noted v q = rw (g.stays n s.here, same_bodies (latest_first ns) s.around, all_deeds) q

    -- ---- into a body
    module _ (k : ℕ) (ks : List ℕ) (h : ks ≡ ns ++ n ∷ []) (l : k ≤ length fs) where
      inner_order : latest_first ks ≡ n ∷ latest_first ns
      inner_order = ap (λ v. latest_first v) h ∙ latest_more ns n

      -- the table stays sound
      pub sound_in : IsSound fs k ks d
      sound_in = record {
        numbered = g.numbered;
        here = l;
        around = subst (λ v. AreWithin (length fs) v) (sym inner_order) (sound_grown.here, sound_grown.around);
        assigned = sound_grown.assigned;
        modules = sound_grown.modules;
        classes = sound_grown.classes;
        parents = sound_grown.parents;
        methods = sound_grown.methods;
      }

      -- the body with these names in the one around is the innermost then
      pub opened : (names : List (List ℕ)) (v : Noted) → path_at (latest_first fs) k ≡ path_at rs n ++ names →
          noted es n ns d ≡ v → noted fs k ks d ≡ inside v names
      opened names v p q =
          rw (p, inner_order, g.stays n s.here, same_bodies (latest_first ns) s.around, all_deeds)
          (ap (λ w. inside w names) q)

-- ---- names one after another
-- with all names left, the number reached is the one that the names begin at
pub first_names : (es : List (Inner × ℕ)) (outer : ℕ) (names : List (List ℕ)) →
    Advanced es outer names es outer names
first_names es outer names = λ h l. record { grown = grown_itself es h; within = l; path = refl }

-- one name more has its number
pub next_name : (es fs gs : List (Inner × ℕ)) (outer m k : ℕ) (names left rest : List (List ℕ)) (name : List ℕ) →
    left ≡ name ∷ rest → Advanced es outer names fs m left → Numbers fs m name k gs →
    Advanced es outer names gs k rest
next_name es fs gs outer m k names left rest name e a b = λ h l.
    let f = a h l in
    let n = is_number fs gs m k name f.grown.numbered f.within b in
    record {
      grown = grown_more es fs gs f.grown n.grown;
      within = n.within;
      path = ap (λ p. p ++ rest) n.path ∙ append_assoc (path_at (latest_first fs) m) (name ∷ []) rest
          ∙ ap (λ r. path_at (latest_first fs) m ++ r) (sym e) ∙ f.path;
    }

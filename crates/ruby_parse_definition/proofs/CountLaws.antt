-- How bodies are opened and left.
use Rattle.std.proofs.Common.{◌≡◌, ℕ, false, true, List, [], ◌∷◌, ◌++◌, refl, ap, ◌∙◌, subst, Result, Ok, Err}
use Rattle.std.specs.Prelude.{OnOk, IfErr}
use Rattle.std.specs.List.{list_any}
use Rattle.ruby_grammar.specs.Marks.{Mark, Act}
use Rattle.ruby_grammar.specs.Rules.{Path}
use Rattle.ruby_grammar.specs.Definitions.{counts}
use Rattle.ruby_parse_cursor.specs.declared.fault.Fault.{Fault}
use Rattle.ruby_parse_cursor.specs.declared.fault.Fault.TheVariants as f
use Rattle.ruby_parse_marks.specs.Views.{Noted, Tells, SameBodies, Adds, Refused, clashes, clashes_with, inside}
use Rattle.ruby_parse_marks.specs.Views.{outside}
use Rattle.ruby_parse_marks.specs.Views.{outside_of}
use Rattle.ruby_parse_definition.specs.Answers.{Counted, IsInside}

-- what was done outside is what was done inside
outside_deeds : (around : List Path) (v : Noted) → (outside_of around v).deeds ≡ v.deeds
outside_deeds [] v = refl
outside_deeds (p ∷ ps) v = refl

-- the same marks tell what is noted outside
pub tells_outside : (v : Noted) (ms : List Mark) → Tells v ms → Tells (outside v) ms
tells_outside v ms t = record {
  tells = λ m. ap (λ ds. list_any (clashes_with m) ds) (outside_deeds v.around v) ∙ t.tells m;
}

-- outside the body that was opened is the one that it was opened in
pub left_again : (v u w : Noted) (names : Path) → IsInside v names u → SameBodies u w → SameBodies v (outside w)
left_again v u w names i s =
    let e : w.around ≡ v.here ∷ v.around = s.1 ∙ i.1 in
    (ap (λ l. (outside_of l w).here) e, ap (λ l. (outside_of l w).around) e)

-- a mark at the body that was opened counts where it was opened
pub opened_counted : (v u w : Noted) (names : Path) (a : Act) (at : ℕ) → u ≡ inside v names →
    clashes u (counts u.here a at) ≡ false → Adds u (counts u.here a at) w →
    Counted v (counts (v.here ++ names) a at) (Ok tt) w
opened_counted v u w names a at e c h =
    subst (λ k. (clashes k (counts k.here a at) ≡ false) × Adds k (counts k.here a at) w) e (c, h)

-- a mark that is refused at the body that was opened is refused where it was opened, for the same reason
pub opened_refused : (v u w : Noted) (names : Path) (a : Act) (at : ℕ) (d : Fault) → u ≡ inside v names →
    Refused u (counts u.here a at) d → Counted v (counts (v.here ++ names) a at) (Err d) w
opened_refused v u w names a at f.Unexpected e h = absurd h
opened_refused v u w names a at f.Deep e h = absurd h
opened_refused v u w names a at f.Barred e h = absurd h
opened_refused v u w names a at (f.Twice k) e h =
    subst (λ l. (clashes l (counts l.here a at) ≡ true) × (k ≡ at)) e h
opened_refused v u w names a at f.Memory e h = tt

-- the body that was opened is the innermost
pub opened_inside : (v u w : Noted) (names : Path) → u ≡ inside v names → SameBodies u w → IsInside v names w
opened_inside v u w names e s = (s.0 ∙ ap (λ l. l.here) e, s.1 ∙ ap (λ l. l.around) e)

-- what is done inside counts outside
pub outside_counted : (v w : Noted) (m : Mark) → Counted v m (Ok tt) w → Counted v m (Ok tt) (outside w)
outside_counted v w m c =
    (c.0, λ x. ap (λ ds. list_any (clashes_with x) ds) (outside_deeds w.around w) ∙ c.1 x)

-- what was left is where it was
pub inside_left : (v w : Noted) (names : Path) → IsInside v names w → SameBodies v (outside w)
inside_left v w names i = (ap (λ l. (outside_of l w).here) i.1, ap (λ l. (outside_of l w).around) i.1)

-- what the calls answer, as it is counted
pub opened_answer : (v u w : Noted) (names : Path) (a : Act) (at : ℕ) (r : Result (Unit {0}) Fault) →
    u ≡ inside v names → OnOk r (clashes u (counts u.here a at) ≡ false) → OnOk r (Adds u (counts u.here a at) w) →
    IfErr r (λ d. Refused u (counts u.here a at) d) → Counted v (counts (v.here ++ names) a at) r w
opened_answer v u w names a at (Ok x) e c h d = opened_counted v u w names a at e c h
opened_answer v u w names a at (Err k) e c h d = opened_refused v u w names a at k e d

-- where the opening of a body went well, that body is the innermost one
pub inside_answer : (v u w : Noted) (names : Path) (r : Result (Unit {0}) Fault) → u ≡ inside v names →
    OnOk r (SameBodies u w) → OnOk r (IsInside v names w)
inside_answer v u w names (Ok x) e s = opened_inside v u w names e s
inside_answer v u w names (Err k) e s = tt

-- the same bodies after two steps
pub same_again : (u v w : Noted) → SameBodies u v → SameBodies v w → SameBodies u w
same_again u v w a b = (b.0 ∙ a.0, b.1 ∙ a.1)

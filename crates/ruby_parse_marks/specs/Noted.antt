-- What the table holds by numbers is what callers see by paths.
use Rattle.std.specs.Prelude.{ℕ, ◌≤◌, List, [], ◌∷◌, ◌++◌, length, map}
use Rattle.ruby_grammar.specs.Marks.{Act, assigns, opens_module, opens_class, gives_parent, defines}
use Rattle.ruby_parse_marks.specs.declared.paths.Inner.{Inner}
use Rattle.ruby_parse_marks.specs.declared.deeds.Method.{Method}
use Rattle.ruby_parse_marks.specs.Paths.{latest_first, path_at, AreNumbered}
use Rattle.ruby_parse_marks.specs.Deeds.{Done}
use Rattle.ruby_parse_marks.specs.Views.{Deed, Noted}

-- the act with the path of the number that it was done to
abbrev pub deed_at : List (Inner × ℕ) → Act → ℕ → Deed
deed_at rs act n = record { path = path_at rs n; act = act }

-- the definition of a method with the path of its body's number
abbrev pub method_at : List (Inner × ℕ) → Method → Deed
method_at rs m = record { path = path_at rs m.body; act = defines m.single m.name.items }

-- all that was done, with paths in place of numbers
abbrev pub deeds_at : List (Inner × ℕ) → Done → List Deed
deeds_at rs d = map (deed_at rs assigns) d.assigned ++ (map (deed_at rs opens_module) d.modules ++
    (map (deed_at rs opens_class) d.classes ++ (map (deed_at rs gives_parent) d.parents ++
    map (method_at rs) d.methods)))

-- the paths of these numbers, in their order
abbrev pub bodies_at : List (Inner × ℕ) → List ℕ → List (List (List ℕ))
bodies_at rs ns = map (path_at rs) ns

-- the numbered names, the numbers of the innermost body and of those around it, and what was done
abbrev pub noted : List (Inner × ℕ) → ℕ → List ℕ → Done → Noted
noted es n ns d = record {
  here = path_at (latest_first es) n;
  around = bodies_at (latest_first es) (latest_first ns);
  deeds = deeds_at (latest_first es) d;
}

-- numbers of paths
abbrev pub AreWithin : ℕ → List ℕ → Type 0
AreWithin size [] = Unit {0}
AreWithin size (n ∷ ns) = (n ≤ size) × AreWithin size ns

-- the body of each method has the number of a path
abbrev pub HaveBodies : ℕ → List Method → Type 0
HaveBodies size [] = Unit {0}
HaveBodies size (m ∷ ms) = (m.body ≤ size) × HaveBodies size ms

-- each number is that of a path
pub record IsSound (es : List (Inner × ℕ)) (n : ℕ) (ns : List ℕ) (d : Done) : Type 0 where
  pub numbered : AreNumbered (latest_first es)
  pub here : n ≤ length es
  pub around : AreWithin (length es) (latest_first ns)
  pub assigned : AreWithin (length es) d.assigned
  pub modules : AreWithin (length es) d.modules
  pub classes : AreWithin (length es) d.classes
  pub parents : AreWithin (length es) d.parents
  pub methods : HaveBodies (length es) d.methods

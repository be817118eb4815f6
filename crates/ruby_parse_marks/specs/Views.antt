-- What counts in a file, as callers see the table: what was done to which paths.
use Rattle.std.specs.Prelude.{◌≡◌, ℕ, Bool, true, ◌&&◌, ◌||◌, List, [], ◌∷◌, ◌++◌}
use Rattle.std.specs.List.{list_any}
use Rattle.ruby_grammar.specs.Marks.{Mark, Act, assigns, opens_module, opens_class, gives_parent, defines, same_path}
use Rattle.ruby_grammar.specs.Marks.{acts_clash, clash, clashes_any}
use Rattle.ruby_parse_cursor.specs.declared.fault.Fault.{Fault}
use Rattle.ruby_parse_cursor.specs.declared.fault.Fault.TheVariants as f
use Rattle.ruby_parse_marks.specs.declared.act.Act.{Act as Held}
use Rattle.ruby_parse_marks.specs.declared.act.Act.TheVariants as held

-- the act that is held, as the grammar has it
abbrev pub act_view : Held → Act
act_view held.Assigns = assigns
act_view held.OpensModule = opens_module
act_view held.OpensClass = opens_class
act_view held.GivesParent = gives_parent
act_view (held.Defines single name) = defines single name.items

-- something that was done to a path
pub record Deed : Type 0 where
  pub path : List (List ℕ)
  pub act : Act

-- The path of the innermost module or class that is open, or the top's; the paths around it, from the inside out; and
-- what was done so far, each once.
pub record Noted : Type 0 where
  pub here : List (List ℕ)
  pub around : List (List (List ℕ))
  pub deeds : List Deed

-- a mark clashes with something that was done
abbrev pub clashes_with : Mark → Deed → Bool
clashes_with m d = same_path m.path d.path && acts_clash m.act d.act

-- the mark clashes with some of what is noted
abbrev pub clashes : Noted → Mark → Bool
clashes v m = list_any (clashes_with m) v.deeds

-- It is what these marks did: the same marks clash with it.
pub record Tells (v : Noted) (ms : List Mark) : Type 0 where
  pub tells : (m : Mark) → clashes v m ≡ clashes_any ms m

-- the same modules and classes are open
abbrev pub SameBodies : Noted → Noted → Type 0
SameBodies v w = (w.here ≡ v.here) × (w.around ≡ v.around)

-- The mark counts besides.
abbrev pub Adds : Noted → Mark → Noted → Type 0
Adds v m w = (x : Mark) → clashes w x ≡ (clash x m || clashes v x)

-- why a mark isn't added: it clashes, or memory lacks
abbrev pub Refused : Noted → Mark → Fault → Type 0
Refused v m (f.Twice at) = (clashes v m ≡ true) × (at ≡ m.at)
Refused v m f.Memory = Unit {0}
Refused v m f.Unexpected = ⊥
Refused v m f.Deep = ⊥
Refused v m f.Barred = ⊥

-- inside a module or class with this path in the one around
abbrev pub inside : Noted → List (List ℕ) → Noted
inside v names = record { here = v.here ++ names; around = v.here ∷ v.around; deeds = v.deeds }

-- outside the innermost module or class, if one is open
abbrev pub outside_of : List (List (List ℕ)) → Noted → Noted
outside_of [] v = v
outside_of (p ∷ ps) v = record { here = p; around = ps; deeds = v.deeds }

-- outside the innermost module or class, if one is open: what was done stays noted
abbrev pub outside : Noted → Noted
outside v = outside_of v.around v

-- `SharedList` as a type that may hold the type that holds it.
use mathlib.Core.Path.{◌≡◌, refl, sym}
use mathlib.Core.List.{List, []}
use mathlib.Core.Logic.{◌⊎◌, inl, inr}
use mathlib.Core.Former.{Former, this, const, pair, or, list, via, children}
use base.Stored.{code_map}
use denote.RattleType.{RattleType}
use denote.HoleLaws.{Alike}
use denote.HolePlaces.{Recodes, struct_places, enum_places, eachs, laid, stays}
use denote.Hole.Carrier.{listed, list-listed}
use denote.Hole.Fix.{over}
use denote.Param.Weighed.{Weighed, w_list}
use denote.Model.Placed.{held, view_places}
use Rattle.std.specs.declared.alloc.Global.{Global}
use Rattle.std.specs.contracts.alloc.Global as heap
use Rattle.std.specs.declared.option.Option.{Option}
use Rattle.std.specs.declared.option.Option.TheVariants.{None, Some}
use Rattle.std.specs.contracts.option.Option as option
use Rattle.lists.specs.formers.shared.Shared as shared
use Rattle.lists.specs.formers.listed.Listed as items
use Rattle.lists.specs.contracts.listed.Listed as it
use Rattle.lists.specs.contracts.shared.Shared as owner
use Rattle.lists.specs.declared.shared_list.SharedList.TheInside.{Inside}
use Rattle.lists.specs.declared.shared_list.SharedList.TheView.{view, invariant}
use Rattle.lists.specs.contracts.shared_list.SharedList as C
use Rattle.lists.specs.contracts.shared_list.SharedList.TheInside as I

-- a `SharedList` holds a list of what its members hold
abbrev pub the_former : Former {0} → Former {0}
the_former g = list g

-- a `SharedList` weighs what a list of its members does: recursion into the members falls by it
abbrev pub the_weighed : {g : Former {0}} → Weighed g → Weighed (the_former g)
the_weighed w = w_list w

-- the value of a `SharedList` that holds nothing
pub the_empty : List ⊥
the_empty = []

-- the members of a `SharedList`, from its first one on
abbrev pub the_items : (X : Type 0) → List X → List X
the_items X d = d

-- what a `SharedList` holds is its members, in their order
pub the_items_listed : (X : Type 0) (d : List X) → listed _ (children (the_former this) X d) ≡ the_items X d
the_items_listed X d = list-listed X d

-- ---- what is held, as a sum
abbrev to_sum : (X : Type 0) → Option (List X) → Unit {0} ⊎ List X
to_sum X None = inl tt
to_sum X (Some all) = inr all

abbrev of_sum : (X : Type 0) → Unit {0} ⊎ List X → Option (List X)
of_sum X (inl _) = None
of_sum X (inr all) = Some all

of-to : (X : Type 0) (o : Option (List X)) → of_sum X (to_sum X o) ≡ o
of-to X None = refl
of-to X (Some all) = refl

to-of : (X : Type 0) (s : Unit {0} ⊎ List X) → to_sum X (of_sum X s) ≡ s
to-of X (inl _) = refl
to-of X (inr all) = refl

abbrev fields : Former {0}
fields = via (pair (or (const (Unit {0})) (list this)) (const Global)) Inside
    (λ X a. (to_sum X a.held, a.alloc)) (λ X v. record { held = of_sum X v.0; alloc = v.1 })
    (λ X a i. record { held = of-to X a.held i; alloc = a.alloc }) (λ X v i. (to-of X v.0 i, v.1))

-- a map on what is held
abbrev mapped : {X Y : Type 0} → (X → Y) → Option (List X) → Option (List Y)
mapped h None = None
mapped {X} {Y} h (Some all) = Some ((items.the_former this).map X Y h all)

module _ (X : Type 0) where
  abbrev with_held : Global → Option (List X) → Inside X
  with_held g o = record { held = o; alloc = g }

  keeps : (g : Global) (o : Option (List X)) → held (list this) X (view X (with_held g o))
      ≡ held fields X (with_held g o)
  keeps g None = refl
  keeps g (Some all) = refl

  module _ (Y : Type 0) (h : X → Y) where
    natural : (g : Global) (o : Option (List X)) → view Y (fields.map X Y h (with_held g o))
        ≡ (list this).map X Y h (view X (with_held g o))
    natural g None = refl
    natural g (Some all) = refl

    is_mapped : (g : Global) (o : Option (List X)) → (fields.map X Y h (with_held g o)).held ≡ mapped h o
    is_mapped g None = refl
    is_mapped g (Some all) = refl

module _ (R S : RattleType) (h : R.Denot → S.Denot) where
  abbrev over_list : List R.Denot → List S.Denot
  over_list = (items.the_former this).map R.Denot S.Denot h

  abbrev shared_row : RattleType → RattleType
  shared_row Q = owner.the_row (it.the_row Q)

  variant : (o : Option (List R.Denot))
      → (option.enum (shared_row S)).as_values (mapped h o)
      ≡ eachs (option.enum (shared_row R)).parts (option.enum (shared_row S)).parts (tt, ((over_list, tt), tt))
      ((option.enum (shared_row R)).as_values o)
  variant None = refl
  variant (Some all) = refl

  held_places : Alike R S h → Alike (option.the_row (shared_row R)) (option.the_row (shared_row S)) (mapped h)
  held_places a = enum_places (option.enum (shared_row R)) (option.enum (shared_row S)) (tt, ((over_list, tt), tt))
      (mapped h) variant refl (
        tt,
        (
          (laid _ _ _ (shared.the_places (it.the_row R) (it.the_row S) over_list (items.the_places R S h a)), tt),
          tt,
        ),
      )

  -- members that lie alike in memory make a `SharedList` that lies alike
  pub the_places : Alike R S h → Alike (C.the_row R) (C.the_row S) ((the_former this).map R.Denot S.Denot h)
  the_places a = view_places fields (list this) view (λ X Y k u. natural X Y k u.alloc u.held)
      (λ X u. keeps X u.alloc u.held) R.Denot S.Denot h (C.the_row R).coded (C.the_row S).coded
      (invariant R.Denot) (invariant S.Denot) (λ u p q. refl) (λ u p q. refl) (λ u e. tt) (λ u e. tt)
      (over (I.the_row R)) (over (I.the_row S))
      (struct_places (I.the_type R) (I.the_type S) (mapped h, (λ g. g, tt)) _
      (λ d i. (is_mapped R.Denot S.Denot h d.alloc d.held i, (d.alloc, tt))) refl
      (laid _ _ _ (held_places a), (stays heap.the_row, tt)))

  -- members with the same codes make a `SharedList` with the same code
  pub the_codes_placed : Recodes R S h → Recodes (C.the_row R) (C.the_row S) ((the_former this).map R.Denot S.Denot h)
  the_codes_placed e d = sym (code_map R.coded.code S.coded.code h (λ x. sym (e x)) d)

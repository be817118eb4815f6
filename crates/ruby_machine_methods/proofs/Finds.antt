-- Methods of places, by what stands there.
use Rattle.std.proofs.Common.{◌≡◌, ℕ, suc, ◌<◌, Bool, true, false, List, [], ◌∷◌, map, drop, length, Option, Some}
use Rattle.std.proofs.Common.{None, refl, sym, ap, ◌∙◌}
use Rattle.std.specs.Prelude.{if◌then◌else◌}
use Rattle.std.proofs.lemmas.Bool.{true≢false}
use Rattle.std.proofs.lemmas.Option.{none-some}
use Rattle.program_places.specs.Paths.{Name, Path}
use Rattle.program_places.specs.Places.{Index, Place, Missing, Implicit, Owned, Content, Faulty, Assigned, Opened}
use Rattle.program_places.specs.Places.{Opening, Method}
use Rattle.program_lookups.specs.Codes.{own_singleton, own_instance, opening_of}
use Rattle.ruby_runs.specs.Doing.{Doing, Here, pure, ◌>>=◌}
use Rattle.ruby_runs.specs.Names.{asked_ancestors, ancestors, ancestors_at}
use Rattle.ruby_runs.specs.Bodies.{singleton_at, singleton_in, singleton, singleton_of_class, instance, instance_in}
use Rattle.ruby_runs.specs.Bodies.{instance_of, is_class_at, first_found, or_method}
use Rattle.ruby_machine_names.specs.Profile.{profile}
use Rattle.ruby_machine_names.specs.Names.{AncestorsBy}

-- a class has its own singleton methods, and nothing else has any here
pub singleton_of_class_is : (name : Name) (place : Place) →
    singleton_of_class name place ≡ (if is_class_at place then own_singleton name place else None)
singleton_of_class_is name Missing = refl
singleton_of_class_is name Implicit = refl
singleton_of_class_is name (Owned file (Faulty error)) = refl
singleton_of_class_is name (Owned file (Assigned value scopes)) = refl
singleton_of_class_is name (Owned file (Opened opening)) = refl

-- the instance methods of a place are its own
pub instance_of_is : (name : Name) (place : Place) → instance_of name place ≡ own_instance name place
instance_of_is name Missing = refl
instance_of_is name Implicit = refl
instance_of_is name (Owned file (Faulty error)) = refl
instance_of_is name (Owned file (Assigned value scopes)) = refl
instance_of_is name (Owned file (Opened opening)) = refl

module _ (index : Index) (here : Here) (path : Path) (name : Name) where
  -- a singleton method of its own is found at once
  pub own_singleton_is_found : (place : Place) (m : Method) → own_singleton name place ≡ Some m →
      singleton_at index profile here path name place ≡ pure (Some m)
  own_singleton_is_found Missing m is = absurd (none-some m is)
  own_singleton_is_found Implicit m is = absurd (none-some m is)
  own_singleton_is_found (Owned file (Faulty error)) m is = absurd (none-some m is)
  own_singleton_is_found (Owned file (Assigned value scopes)) m is = absurd (none-some m is)
  own_singleton_is_found (Owned file (Opened opening)) m is =
      ap (singleton_in index profile here path name opening.is_class) is

  -- what is no class and has none of its own has none
  pub no_singleton : (place : Place) → own_singleton name place ≡ None → is_class_at place ≡ false →
      singleton_at index profile here path name place ≡ pure None
  no_singleton Missing is class = refl
  no_singleton Implicit is class = refl
  no_singleton (Owned file (Faulty error)) is class = refl
  no_singleton (Owned file (Assigned value scopes)) is class = refl
  no_singleton (Owned file (Opened opening)) is class =
      ap (singleton_in index profile here path name opening.is_class) is
      ∙ ap (λ b. singleton_in index profile here path name b None) class

  -- a class that has none of its own asks for its ancestors
  pub class_asks : (place : Place) → index.place path ≡ place →
      own_singleton name place ≡ None → is_class_at place ≡ true →
      singleton_at index profile here path name place ≡ (asked_ancestors index profile here path >>= (λ members.
      pure (first_found (map (λ p. singleton_of_class name (index.place p)) (drop 1 members)))))
  class_asks Missing at is class = absurd (true≢false (sym class))
  class_asks Implicit at is class = absurd (true≢false (sym class))
  class_asks (Owned file (Faulty error)) at is class = absurd (true≢false (sym class))
  class_asks (Owned file (Assigned value scopes)) at is class = absurd (true≢false (sym class))
  class_asks (Owned file (Opened opening)) at is class =
      ap (singleton_in index profile here path name opening.is_class) is
      ∙ (ap (λ b. singleton_in index profile here path name b None) class
      ∙ ap (λ p. ancestors_at index profile here path p >>= (λ members.
      pure (first_found (map (λ q. singleton_of_class name (index.place q)) (drop 1 members))))) at)

-- a call on a module or class, by what stands at its path
module _ (index : Index) (path : Path) (name : Name) where
  -- the same of the method at a path, wherever code runs
  pub own_singleton_at_path : (m : Method) → own_singleton name (index.place path) ≡ Some m → (here : Here) →
      singleton index profile here path name ≡ pure (Some m)
  own_singleton_at_path m is here = own_singleton_is_found index here path name (index.place path) m is

  -- a module without the method
  pub no_singleton_at_path : own_singleton name (index.place path) ≡ None → is_class_at (index.place path) ≡ false →
      (here : Here) → singleton index profile here path name ≡ pure None
  no_singleton_at_path is class here = no_singleton index here path name (index.place path) is class

  -- a class without the method
  pub class_asks_at_path : own_singleton name (index.place path) ≡ None → is_class_at (index.place path) ≡ true →
      (here : Here) → singleton index profile here path name ≡ (asked_ancestors index profile here path >>= (λ members.
      pure (first_found (map (λ p. singleton_of_class name (index.place p)) (drop 1 members)))))
  class_asks_at_path is class here = class_asks index here path name (index.place path) refl is class

  -- an instance method of its own is found at once
  pub own_instance_at_path : (m : Method) → own_instance name (index.place path) ≡ Some m → (here : Here) →
      instance index profile here path name ≡ pure (Some m)
  own_instance_at_path m is here =
      ap (instance_in index profile here path name) (instance_of_is name (index.place path) ∙ is)

  -- without it the ancestors decide
  instance_without_own : own_instance name (index.place path) ≡ None → (here : Here) →
      instance index profile here path name ≡ (ancestors index profile here path >>= (λ members.
      pure (first_found (map (λ p. instance_of name (index.place p)) members))))
  instance_without_own is here =
      ap (instance_in index profile here path name) (instance_of_is name (index.place path) ∙ is)

  -- which are asked for
  pub instance_asks_at_path : own_instance name (index.place path) ≡ None → AncestorsBy index path true →
      (here : Here) → instance index profile here path name ≡ (asked_ancestors index profile here path >>= (λ members.
      pure (first_found (map (λ p. instance_of name (index.place p)) members))))
  instance_asks_at_path is by here = instance_without_own is here
      ∙ ap (λ d. d >>= (λ members. pure (first_found (map (λ p. instance_of name (index.place p)) members)))) (by here)

  -- or are itself alone
  pub no_instance_at_path : own_instance name (index.place path) ≡ None → AncestorsBy index path false →
      (here : Here) → instance index profile here path name ≡ pure None
  no_instance_at_path is by here = instance_without_own is here
      ∙ (ap (λ d. d >>= (λ members. pure (first_found (map (λ p. instance_of name (index.place p)) members)))) (by here)
      ∙ ap (λ (m : Option Method). pure (or_method m None)) (instance_of_is name (index.place path) ∙ is))

-- the first of the paths from a place on decides, where it has a method
pub first_found_at : (f : Path → Option Method) (paths : List Path) (at : ℕ) (path : Path) →
    drop at paths ≡ path ∷ drop (suc at) paths →
    first_found (map f (drop at paths)) ≡ or_method (f path) (first_found (map f (drop (suc at) paths)))
first_found_at f paths at path is = ap (λ l. first_found (map f l)) is

-- What loads of many tasks, one after another over one table, come to.
use Rattle.std.specs.Prelude.{List, [], ◌∷◌, ◌++◌, Option, Bool, cond, is_some, map}
use Rattle.by_need.specs.Blame.{Cause, blame}
use Rattle.by_need.specs.Order.{Load}
use Rattle.by_need.specs.Rounds.{Rules, known}
use Rattle.by_need_loader.specs.Failures.{cause}
use Rattle.by_need_loader.specs.declared.loader.Failure.{Failure}

-- The tasks are loaded one after another, whatever each comes to: the values in the order in which they are defined,
-- and the table in the end.
pub data LoadEach {T V E O : Type 0} (r : Rules T V E O) : (T → Option V) → List T → List (T × V) → (T → Option V) →
    Type 0 where
  none : {K : T → Option V} → LoadEach r K [] [] K
  next : {K L M : T → Option V} {t : T} {ts : List T} {ds more : List (T × V)} {done : Bool} → Load r K t ds L done →
      LoadEach r L ts more M → LoadEach r K (t ∷ ts) (ds ++ more) M

-- The tasks of a list that stay unknown, each with its blame, in the list's order.
abbrev pub blamed : {T V E O : Type 0} → Rules T V E O → List T → List (T × Cause T E O)
blamed r [] = []
blamed r (t ∷ ts) = cond (is_some (known r t)) (blamed r ts) ((t, blame r t) ∷ blamed r ts)

-- The causes that failures name.
abbrev pub causes : {T E O : Type 0} → List (T × Failure T E O) → List (T × Cause T E O)
causes failed = map (λ (t, failure). (t, cause failure)) failed

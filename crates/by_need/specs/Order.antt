-- In which order a load defines tasks.
use Rattle.std.specs.Prelude.{◌≡◌, List, [], ◌∷◌, ◌++◌, Option, Some, None, Bool, true, false}
use Rattle.by_need.specs.Asking.{Done, Raised, Asks, Otherwise}
use Rattle.by_need.specs.Rounds.{Rules, is_in}
use Rattle.by_need.specs.Load.{Defines}

-- A load of t over the table K, while the loads of ts are open, defines the listed values in this order, leaves the
-- table L, and comes to its end (true) or fails (false):
-- where the run of t over K is done, the define of t ends the load;
-- where it asks for u, the defines of a load of u come first, and then t is run over the table with them;
-- it fails where the run raises or ends otherwise, where u is a task whose load is open, or where the load of u fails.
pub data Loads {T V E O : Type 0} (r : Rules T V E O) : (T → Option V) → List T → T → List (T × V) → (T → Option V) →
    Bool → Type 0 where
  done : {K L : T → Option V} {ts : List T} {t : T} {v : V} → (r.run t K).answer ≡ Done v → Defines r K t v L →
      Loads r K ts t ((t, v) ∷ []) L true
  raised : {K : T → Option V} {ts : List T} {t : T} {e : E} → (r.run t K).answer ≡ Raised e → Loads r K ts t [] K false
  otherwise : {K : T → Option V} {ts : List T} {t : T} {o : O} → (r.run t K).answer ≡ Otherwise o →
      Loads r K ts t [] K false
  open_already : {K : T → Option V} {ts : List T} {t u : T} → (r.run t K).answer ≡ Asks u →
      is_in r u (t ∷ ts) ≡ true → Loads r K ts t [] K false
  stops : {K L : T → Option V} {ts : List T} {t u : T} {ds : List (T × V)} → (r.run t K).answer ≡ Asks u →
      is_in r u (t ∷ ts) ≡ false → Loads r K (t ∷ ts) u ds L false → Loads r K ts t ds L false
  runs_again : {K L M : T → Option V} {ts : List T} {t u : T} {ds more : List (T × V)} {b : Bool} →
      (r.run t K).answer ≡ Asks u → is_in r u (t ∷ ts) ≡ false → Loads r K (t ∷ ts) u ds L true →
      Loads r L ts t more M b → Loads r K ts t (ds ++ more) M b

-- A whole load of t over the table K: nothing is defined where t is there.
pub data Load {T V E O : Type 0} (r : Rules T V E O) : (T → Option V) → T → List (T × V) → (T → Option V) → Bool →
    Type 0 where
  there : {K : T → Option V} {t : T} {v : V} → K t ≡ Some v → Load r K t [] K true
  lacking : {K L : T → Option V} {t : T} {ds : List (T × V)} {b : Bool} → K t ≡ None → Loads r K [] t ds L b →
      Load r K t ds L b

-- What was defined so far, in its order.
use Rattle.std.proofs.Common.{◌≡◌, List, [], ◌∷◌, ◌++◌, Option, Some, None, Bool, true, false, sym, subst, append_assoc}
use Rattle.std.proofs.Common.{append-nil}
use Rattle.by_need.specs.Asking.{Done, Raised, Asks, Otherwise}
use Rattle.by_need.specs.Rounds.{Rules, is_in}
use Rattle.by_need.specs.Load.{Defines}
use Rattle.by_need.specs.Order.{Loads, Load}
use Rattle.by_need_loader.specs.Steps.{SoFar}

module _ {T V E O : Type 0} (r : Rules T V E O) (J : T → Option V) (wanted : T) where
  further : (os : List T) (t : T) (K L : T → Option V) (made ds : List (T × V)) →
      ((more : List (T × V)) (M : T → Option V) (b : Bool) → Loads r L os t more M b →
      Loads r K os t (ds ++ more) M b) → SoFar r J wanted os t K made → SoFar r J wanted os t L (made ++ ds)
  further [] t K L made ds step s = λ more M b l. subst (λ xs. Loads r J [] wanted xs M b)
      (sym (append_assoc made ds more)) (s (ds ++ more) M b (step more M b l))
  further (o ∷ os) t K L made ds step s = (
    λ more M l. subst (λ xs. SoFar r J wanted os o M xs) (sym (append_assoc made ds more))
        (s.0 (ds ++ more) M (step more M true l)),
    λ more M l. subst (λ xs. Loads r J [] wanted xs M false)
        (sym (append_assoc made ds more)) (s.1 (ds ++ more) M (step more M false l)),
  )

  failing : (os : List T) (t : T) (K L : T → Option V) (made ds : List (T × V)) → SoFar r J wanted os t K made →
      Loads r K os t ds L false → Loads r J [] wanted (made ++ ds) L false
  failing [] t K L made ds s l = s ds L false l
  failing (o ∷ os) t K L made ds s l = s.1 ds L l

  -- the load of a task that is asked for begins
  pub enters : (os : List T) (t u : T) (K : T → Option V) (made : List (T × V)) → (r.run t K).answer ≡ Asks u →
      is_in r u (t ∷ os) ≡ false → SoFar r J wanted os t K made → SoFar r J wanted (t ∷ os) u K made
  enters os t u K made e out s = (
    λ ds L l. further os t K L made ds (λ more M b m. Loads.runs_again e out l m) s,
    λ ds L l. failing os t K L made ds s (Loads.stops e out l),
  )

  -- the load of the wanted task begins
  pub starts : (K : T → Option V) (made : List (T × V)) → made ≡ [] → K ≡ J → SoFar r J wanted [] wanted K made
  starts K made e f = λ ds L b l. subst (λ xs. Loads r J [] wanted (xs ++ ds) L b) (sym e)
      (subst (λ M. Loads r M [] wanted ds L b) f l)

  fails : (os : List T) (t : T) (K : T → Option V) (made : List (T × V)) → J wanted ≡ None →
      SoFar r J wanted os t K made → Loads r K os t [] K false → Load r J wanted made K false
  fails os t K made n s l =
      Load.lacking n (subst (λ xs. Loads r J [] wanted xs K false) (append-nil made) (failing os t K K made [] s l))

  -- the load fails where the run raises
  pub fails_raised : (os : List T) (t : T) (K : T → Option V) (made : List (T × V)) (x : E) → J wanted ≡ None →
      SoFar r J wanted os t K made → (r.run t K).answer ≡ Raised x → Load r J wanted made K false
  fails_raised os t K made x n s e = fails os t K made n s (Loads.raised e)

  -- and where it ends otherwise
  pub fails_otherwise : (os : List T) (t : T) (K : T → Option V) (made : List (T × V)) (o : O) → J wanted ≡ None →
      SoFar r J wanted os t K made → (r.run t K).answer ≡ Otherwise o → Load r J wanted made K false
  fails_otherwise os t K made o n s e = fails os t K made n s (Loads.otherwise e)

  -- and where it asks for an open task
  pub fails_open : (os : List T) (t u : T) (K : T → Option V) (made : List (T × V)) → J wanted ≡ None →
      SoFar r J wanted os t K made → (r.run t K).answer ≡ Asks u → is_in r u (t ∷ os) ≡ true →
      Load r J wanted made K false
  fails_open os t u K made n s e h = fails os t K made n s (Loads.open_already e h)

  -- the define of the wanted task ends the load
  pub ends : (t : T) (K L : T → Option V) (made : List (T × V)) (v : V) → J wanted ≡ None →
      SoFar r J wanted [] t K made → (r.run t K).answer ≡ Done v → Defines r K t v L →
      Load r J wanted (made ++ (t, v) ∷ []) L true
  ends t K L made v n s e d = Load.lacking n (s ((t, v) ∷ []) L true (Loads.done e d))

  -- the define of another task leads back to the one that waits for it
  pub goes_back : (os : List T) (o t : T) (K L : T → Option V) (made : List (T × V)) (v : V) →
      SoFar r J wanted (o ∷ os) t K made → (r.run t K).answer ≡ Done v → Defines r K t v L →
      SoFar r J wanted os o L (made ++ (t, v) ∷ [])
  goes_back os o t K L made v s e d = s.0 ((t, v) ∷ []) L (Loads.done e d)

  -- nothing is defined where the wanted task is in the table
  pub there : (v : V) (K : T → Option V) (made : List (T × V)) → made ≡ [] → K ≡ J → K wanted ≡ Some v →
      Load r J wanted made K true
  there v K made e f h = subst (λ xs. Load r J wanted xs K true) (sym e)
      (subst (λ M. Load r M wanted [] K true) f (Load.there h))

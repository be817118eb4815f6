-- Acts that neither begin nor end a request.
use Rattle.std.proofs.Common.{◌≡◌, ◌⊎◌, inl, inr, List, [], ◌∷◌, ◌++◌, append_assoc, sym, subst}
use Rattle.system_events.specs.declared.event.Kept.{Kept}
use Rattle.system_events.specs.declared.event.Want.{Want}
use Rattle.request_laws.specs.Conduct.{Opens, at_once, sought, Closes, free, resumed, AreDefines, no_defines, defines}
use Rattle.request_laws.specs.Conduct.{MayReload, unchanged, reloads, IsUnload, IsLoad, AreLoads, no_loads, loads}
use Rattle.pass_history.specs.Courses.{AreQuiet}

module _ {M T V P Q R F : Type 0} where
  -- quiet acts after quiet acts
  pub quiet_append : (xs ys : List (Kept M T V P Q R F)) → AreQuiet xs → AreQuiet ys → AreQuiet (xs ++ ys)
  quiet_append [] ys first second = second
  quiet_append (x ∷ xs) ys first second = (first.0, quiet_append xs ys first.1 second)

  defines_quiet : {xs : List (Kept M T V P Q R F)} → AreDefines xs → AreQuiet xs
  defines_quiet no_defines = tt
  defines_quiet (defines task more are) = (tt, defines_quiet are)

  opens_quiet : {want : Want M T V P Q R F} {xs : List (Kept M T V P Q R F)} → Opens want xs → AreQuiet xs
  opens_quiet at_once = (tt, tt)
  opens_quiet sought = (tt, (tt, tt))

  closes_quiet : {xs : List (Kept M T V P Q R F)} → Closes xs → AreQuiet xs
  closes_quiet free = (tt, tt)
  closes_quiet resumed = (tt, (tt, tt))

  reload_quiet : {xs : List (Kept M T V P Q R F)} → MayReload xs → AreQuiet xs
  reload_quiet unchanged = tt
  reload_quiet (reloads program) = (tt, tt)

  -- a load section is quiet
  pub load_quiet : (task : T) (acts : List (Kept M T V P Q R F)) → IsLoad task acts → AreQuiet acts
  load_quiet task acts is =
      subst AreQuiet (sym is.is)
      (quiet_append is.opening (is.defined ++ is.closing) (opens_quiet is.opens)
      (quiet_append is.defined is.closing (defines_quiet is.are) (closes_quiet is.closes)))

  -- load sections are quiet
  pub loads_quiet : (asked : List T) {acts : List (Kept M T V P Q R F)} → AreLoads asked acts → AreQuiet acts
  loads_quiet asked no_loads = tt
  loads_quiet asked (loads task section more has is rest) =
      quiet_append section more (load_quiet task section is) (loads_quiet asked rest)

  -- load sections after load sections
  pub loads_append : (asked : List T) (ys : List (Kept M T V P Q R F)) {xs : List (Kept M T V P Q R F)} →
      AreLoads asked xs → AreLoads asked ys → AreLoads asked (xs ++ ys)
  loads_append asked ys no_loads second = second
  loads_append asked ys (loads task section more has is rest) second =
      subst (AreLoads asked) (sym (append_assoc section more ys))
      (loads task section (more ++ ys) has is (loads_append asked ys rest second))

  -- what a check enters is quiet
  pub check_quiet : (acts : List (Kept M T V P Q R F)) → (acts ≡ []) ⊎ IsUnload acts → AreQuiet acts
  check_quiet acts is = elim is [
    | inl none ↦ subst AreQuiet (sym none) tt
    | inr unload ↦
        subst AreQuiet (sym unload.is)
        (quiet_append unload.opening (unload.reload ++ unload.closing) (opens_quiet unload.opens)
        (quiet_append unload.reload unload.closing (reload_quiet unload.may_reload) (closes_quiet unload.closes)))
  ]

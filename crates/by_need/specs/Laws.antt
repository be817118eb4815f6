-- The laws that runs of tasks meet.
use Rattle.std.specs.Prelude.{◌≡◌, List, [], ◌∷◌, ◌++◌, Option, None, true, false, is_some, ◌⊎◌}
use Rattle.by_need.specs.Asking.{Answer, Done, Raised, Asks, Otherwise}
use Rattle.by_need.specs.Rounds.{Rules, Part, is_in, is_task, known}

-- Nothing more is known of what the answer waits for.
abbrev pub Waits : {T V E O : Type 0} → (T → Option V) → Answer T V E O → Type 0
Waits K (Done v) = Unit {0}
Waits K (Raised e) = Unit {0}
Waits K (Asks u) = K u ≡ None
Waits K (Otherwise o) = Unit {0}

-- The list ends with the task that the answer asks for, if it asks.
abbrev pub EndsWith : {T V E O : Type 0} → List T → Answer T V E O → Type 0
EndsWith ts (Done v) = Unit {0}
EndsWith ts (Raised e) = Unit {0}
EndsWith {T} ts (Asks u) = (front : List T) × (ts ≡ front ++ u ∷ [])
EndsWith ts (Otherwise o) = Unit {0}

-- What is asked for over all that is known are tasks, whether a task asks or a run that is itself no task, as that of
-- a request to an application.
abbrev pub Closed : {T V E O : Type 0} → Rules T V E O → Type 0
Closed {T} r = (t u : T) → is_in r u (r.run t (known r)).asked ≡ true → is_task r u ≡ true

-- All laws. Two that are the same are equal (same_is, same_self). The order compares any two (total), goes on along a
-- chain (chain), and ties no two tasks (equal). A run over more that is known stays as it is, unless it waited for
-- something that is now known (grow); it asks for the same tasks and then perhaps for more (prefix); the task that it
-- waits for is the last one asked for (last) and is not known (lacks); each task asked for is known or is that one
-- (asked_known). What is asked for is a task (closed).
pub record Lawful {T V E O : Type 0} (r : Rules T V E O) : Type 0 where
  pub same_is : (a b : T) → r.same a b ≡ true → a ≡ b
  pub same_self : (a : T) → r.same a a ≡ true
  pub total : (a b : T) → r.at_most a b ≡ false → r.at_most b a ≡ true
  pub chain : (a b c : T) → r.at_most a b ≡ true → r.at_most b c ≡ true → r.at_most a c ≡ true
  pub equal : (a b : T) → is_task r a ≡ true → is_task r b ≡ true → r.at_most a b ≡ true → r.at_most b a ≡ true → a ≡ b
  pub grow : (t : T) (K L : T → Option V) → Part K L → Waits L (r.run t K).answer → r.run t L ≡ r.run t K
  pub prefix : (t : T) (K L : T → Option V) → Part K L → (rest : List T)
      × ((r.run t L).asked ≡ (r.run t K).asked ++ rest)
  pub last : (t : T) (K : T → Option V) → EndsWith (r.run t K).asked (r.run t K).answer
  pub lacks : (t : T) (K : T → Option V) → Waits K (r.run t K).answer
  pub asked_known : (t : T) (K : T → Option V) (u : T) → is_in r u (r.run t K).asked ≡ true → (is_some (K u) ≡ true)
      ⊎ ((r.run t K).answer ≡ Asks u)
  pub closed : Closed r

-- What a loader has before each of its steps, and how much is left to do.
use Rattle.std.specs.Prelude.{◌≡◌, ◌≤◌, ◌+◌, ◌*◌, ◌-◌, length, ℕ, List, [], ◌∷◌, ◌++◌, Option, Some, None, Bool}
use Rattle.std.specs.Prelude.{true, false, reverse}
use Rattle.by_need.specs.Asking.{Computation, Ask, over}
use Rattle.by_need.specs.Rounds.{Rules, Part, is_in, is_task, known}
use Rattle.by_need.specs.Order.{Load, Loads}
use Rattle.by_need.specs.Open.{NoneKnown, Apart, first_or, left, total}
use Rattle.by_need_loader.specs.declared.loader.Phase.{Phase}
use Rattle.by_need_loader.specs.declared.loader.Phase.TheVariants.{Asked, Looks, Lacks, Runs, Loaded, Over}

-- Over each table that K is part of, what is left of the run of t ends as the run does.
pub record Behind {T V E O : Type 0} (r : Rules T V E O) (K : T → Option V) (t : T) (c : Computation T V E O) : Type
    0 where
  pub same : (L : T → Option V) → Part K L → (r.run t L).answer ≡ (over L c).answer
  pub fewer : length (over (known r) c).asked ≤ length (r.run t (known r)).asked

-- The run of each open task waits for the task behind it, and the last one for u.
abbrev pub AllBehind : {T V E O W : Type 0} → Rules T V E O → (W → V → Computation T V E O) → (T → Option V) →
    List T → List W → T → Type 0
AllBehind r branch K [] [] u = Unit {0}
AllBehind r branch K (t ∷ ts) (w ∷ ws) u = Behind r K t (Ask (first_or u ts) (branch w)) × AllBehind r branch K ts ws u
AllBehind r branch K [] (w ∷ ws) u = ⊥
AllBehind r branch K (t ∷ ts) [] u = ⊥

-- The open tasks ts and their waiting runs, from the wanted task to the one that asks for u: none is known, none
-- stands twice.
pub record Opened {T V E O W : Type 0} (r : Rules T V E O) (branch : W → V → Computation T V E O) (wanted : T)
    (K : T → Option V) (ts : List T) (ws : List W) (u : T) : Type 0 where
  pub is : is_task r wanted ≡ true
  pub part : Part K (known r)
  pub start : first_or u ts ≡ wanted
  pub none : NoneKnown K ts
  pub apart : Apart r ts
  pub behind : AllBehind r branch K ts ws u

-- A load of the wanted task was begun over J and has defined the listed values since. It now runs t over K, while the
-- loads of the tasks before t are open (the latest first). However the load of t goes on, so does the whole one.
abbrev pub SoFar : {T V E O : Type 0} → Rules T V E O → (T → Option V) → T → List T → T → (T → Option V) →
    List (T × V) → Type 0
SoFar {T} {V} r J wanted [] t K made = (ds : List (T × V)) (L : T → Option V) (b : Bool) → Loads r K [] t ds L b →
    Loads r J [] wanted (made ++ ds) L b
SoFar {T} {V} r J wanted (s ∷ os) t K made =
    ((ds : List (T × V)) (L : T → Option V) → Loads r K (s ∷ os) t ds L true → SoFar r J wanted os s L (made ++ ds))
    × ((ds : List (T × V)) (L : T → Option V) → Loads r K (s ∷ os) t ds L false →
    Loads r J [] wanted (made ++ ds) L false)

-- The same before a look: nothing is defined yet, or the latest open task waits for the look.
abbrev pub Before : {T V E O : Type 0} → Rules T V E O → (T → Option V) → T → List T → (T → Option V) →
    List (T × V) → Type 0
Before r J wanted [] K made = (made ≡ []) × (K ≡ J)
Before r J wanted (s ∷ os) K made = (J wanted ≡ None) × SoFar r J wanted os s K made

-- The run of t goes on: t is not known and not open.
pub record Running {T V E O R W : Type 0} (r : Rules T V E O) (branch : W → V → Computation T V E O)
    (rest : R → Computation T V E O) (wanted : T) (J : T → Option V) (made : List (T × V)) (K : T → Option V)
    (ts : List T) (ws : List W) (t : T) (m : R) : Type 0 where
  pub opened : Opened r branch wanted K ts ws t
  pub lacks : K t ≡ None
  pub out : is_in r t ts ≡ false
  pub now : Behind r K t (rest m)
  pub begun : J wanted ≡ None
  pub so_far : SoFar r J wanted (reverse ts) t K made

-- The loader of a wanted task, begun over the table J; the listed values were defined since, and the table is now K.
abbrev pub IsAt : {T V E O R W : Type 0} → Rules T V E O → (W → V → Computation T V E O) →
    (R → Computation T V E O) → T → (T → Option V) → List (T × V) → (T → Option V) → List T → List W → Phase T R →
    Type 0
IsAt r branch rest wanted J made K ts ws (Asked u) = Opened r branch wanted K ts ws u
    × Before r J wanted (reverse ts) K made
IsAt r branch rest wanted J made K ts ws (Looks u) = Opened r branch wanted K ts ws u
    × Before r J wanted (reverse ts) K made
IsAt r branch rest wanted J made K ts ws (Lacks u) = Opened r branch wanted K ts ws u
    × Before r J wanted (reverse ts) K made × (K u ≡ None)
IsAt r branch rest wanted J made K ts ws (Runs t m) = Running r branch rest wanted J made K ts ws t m
IsAt {T} {V} r branch rest wanted J made K ts ws Loaded = (v : V) × (known r wanted ≡ Some v) × (K wanted ≡ Some v)
    × Load r J wanted made K true
IsAt r branch rest wanted J made K ts ws Over = ⊥

-- How many questions a run asks over all that is known.
abbrev pub asks_left : {T V E O : Type 0} → Rules T V E O → Computation T V E O → ℕ
asks_left r c = length (over (known r) c).asked

-- How many the runs of all tasks ask, taken together.
abbrev pub most_asks : {T V E O : Type 0} → Rules T V E O → ℕ
most_asks r = total (λ t. length (r.run t (known r)).asked) r.tasks

-- How many questions are left of the latest waiting run, the one for u included.
abbrev pub waits_left : {T V E O W : Type 0} → Rules T V E O → (W → V → Computation T V E O) → List W → T → ℕ
waits_left r branch [] u = 1
waits_left r branch (w ∷ []) u = asks_left r (Ask u (branch w))
waits_left r branch (w ∷ x ∷ ws) u = waits_left r branch (x ∷ ws) u

-- A task less to do outweighs all that a run may still ask.
abbrev pub wide : {T V E O : Type 0} → Rules T V E O → ℕ
wide r = 2 * most_asks r + 4

-- What is left to do, so that each step and each answer leaves less.
abbrev pub todo : {T V E O R W : Type 0} → Rules T V E O → (W → V → Computation T V E O) →
    (R → Computation T V E O) → (T → Option V) → List T → List W → Phase T R → ℕ
todo r branch rest K ts ws (Asked u) = left r K ts * wide r + (2 * waits_left r branch ws u + 1)
todo r branch rest K ts ws (Looks u) = left r K ts * wide r + 2 * waits_left r branch ws u
todo r branch rest K ts ws (Lacks u) = left r K ts * wide r + (2 * waits_left r branch ws u - 1)
todo r branch rest K ts ws (Runs t m) = left r K (ts ++ t ∷ []) * wide r + (2 * asks_left r (rest m) + 1)
todo r branch rest K ts ws Loaded = 0
todo r branch rest K ts ws Over = 0

-- A step may come: the last look was answered, and the load has not failed.
abbrev pub IsReady : {T R : Type 0} → Phase T R → Type 0
IsReady (Asked u) = Unit {0}
IsReady (Looks u) = ⊥
IsReady (Lacks u) = Unit {0}
IsReady (Runs t m) = Unit {0}
IsReady Loaded = Unit {0}
IsReady Over = ⊥

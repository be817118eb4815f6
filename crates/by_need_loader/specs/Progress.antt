-- How far a load is, what it has done, and what each step tells.
use Rattle.std.specs.Prelude.{◌≡◌, ◌<◌, ℕ, List, [], ◌∷◌, ◌++◌, Option, Some, None, true, false, map, reverse}
use Rattle.by_need.specs.Blame.{blame}
use Rattle.by_need.specs.Load.{Defines}
use Rattle.by_need.specs.Order.{Load}
use Rattle.by_need.specs.Rounds.{Rules, Needs, known}
use Rattle.by_need_loader.specs.Failures.{cause}
use Rattle.by_need_loader.specs.Runs.{Runs}
use Rattle.by_need_loader.specs.Steps.{Before, IsAt, IsReady, Opened, Running, todo}
use Rattle.by_need_loader.specs.declared.loader.Phase.{Phase}
use Rattle.by_need_loader.specs.declared.loader.Phase.TheVariants as phase
use Rattle.by_need_loader.specs.declared.loader.LoadStep.{LoadStep}
use Rattle.by_need_loader.specs.declared.loader.LoadStep.TheVariants as step

-- The tasks whose runs wait, each for the one behind it; those runs; the keys that stand for open tasks; and what comes
-- next.
pub record Progress (T R W N : Type 0) : Type 0 where
  pub tasks : List T
  pub waiting : List W
  pub keys : List N
  pub phase : Phase T R

-- A load that has done nothing yet: it looks at the wanted task first.
abbrev pub begun : {T R W N : Type 0} → T → Progress T R W N
begun task = record { tasks = []; waiting = []; keys = []; phase = phase.Asked task }

-- What a load has done: the wanted task, the table at the beginning, the values defined since in their order, and the
-- table now.
pub record History (T V : Type 0) : Type 0 where
  pub wanted : T
  pub at_first : T → Option V
  pub made : List (T × V)
  pub table : T → Option V

-- Nothing is done over a table.
abbrev pub nothing_done : {T V : Type 0} → T → (T → Option V) → History T V
nothing_done task K = record { wanted = task; at_first = K; made = []; table = K }

-- One value more was defined, and the table is now L.
abbrev pub and_made : {T V : Type 0} → History T V → T → V → (T → Option V) → History T V
and_made h u v L =
    record { wanted = h.wanted; at_first = h.at_first; made = h.made ++ (u, v) ∷ []; table = L }

-- The keys are those of the open tasks; a task that runs is open too.
abbrev pub HasKeys : {T R N : Type 0} → (T → N) → List N → List T → Phase T R → Type 0
HasKeys key ks ts (phase.Asked u) = ks ≡ map key ts
HasKeys key ks ts (phase.Looks u) = ks ≡ map key ts
HasKeys key ks ts (phase.Lacks u) = ks ≡ map key ts
HasKeys key ks ts (phase.Runs t run) = ks ≡ map key (ts ++ t ∷ [])
HasKeys key ks ts phase.Loaded = ks ≡ map key ts
HasKeys key ks ts phase.Over = Unit {0}

module _ {T V E O R W N : Type 0} (r : Rules T V E O) (m : Runs T V E O R W N) (h : History T V) where
  -- A load that has done this goes on rightly from here.
  pub record IsOn (p : Progress T R W N) : Type 0 where
    pub keyed : HasKeys m.key p.keys p.tasks p.phase
    pub at : IsAt r m.branch m.rest h.wanted h.at_first h.made h.table p.tasks p.waiting p.phase

  -- What is left to do, were the phase this one.
  abbrev pub left_in : Progress T R W N → Phase T R → ℕ
  left_in p phase = todo r m.branch m.rest h.table p.tasks p.waiting phase

  -- What is left to do.
  abbrev pub left_to_do : Progress T R W N → ℕ
  left_to_do p = left_in p p.phase

  -- The load went on: a step may come, and less is left to do.
  pub record WentOn (old new : Progress T R W N) : Type 0 where
    pub ready : IsReady new.phase
    pub on : IsOn new
    pub less : left_to_do new < left_to_do old

  -- The load went on behind the value of u.
  pub record Resumed (old new : Progress T R W N) (u : T) : Type 0 where
    pub ready : IsReady new.phase
    pub on : IsOn new
    pub less : left_to_do new < left_in old (phase.Looks u)

  -- The look was at a task for which this is found.
  pub record Finds (p : Progress T R W N) (found : Option V) : Type 0 where
    pub task : T
    pub looks : p.phase ≡ phase.Looks task
    pub is : found ≡ h.table task

  -- The task t runs, and the keys are those of the open tasks and of t.
  pub record HasRunning (p : Progress T R W N) (t : T) (run : R) : Type 0 where
    pub keyed : p.keys ≡ map m.key (p.tasks ++ t ∷ [])
    pub running : Running r m.branch m.rest h.wanted h.at_first h.made h.table p.tasks p.waiting t run

  -- The open tasks wait for u, and the keys are theirs.
  pub record WaitsFor (p : Progress T R W N) (u : T) : Type 0 where
    pub keyed : p.keys ≡ map m.key p.tasks
    pub opened : Opened r m.branch h.wanted h.table p.tasks p.waiting u
    pub before : Before r h.at_first h.wanted (reverse p.tasks) h.table h.made

-- What a step tells, where a load has done this. Look: the table is asked for a task, and the load goes on with the
-- answer. Define: a task that the wanted one needs, and that the table lacks, is known; the load goes on over any table
-- with its value. So long less than the bound is left to do. Done: the wanted task is known and in the table. Failed:
-- it
-- stays unknown, and this is its blame. At both ends the values were defined in a load's order.
abbrev pub Tells : {T V E O R W N : Type 0} → Rules T V E O → Runs T V E O R W N → History T V → ℕ →
    Progress T R W N → LoadStep T V E O → Type 0
Tells r m h bound p (step.Look u) = (p.phase ≡ phase.Looks u) × IsOn r m h p × (left_to_do r m h p < bound)
Tells {T} {V} r m h bound p (step.Define u v) =
    IsReady p.phase × (h.table u ≡ None) × (known r u ≡ Some v) × Needs r h.wanted u
    × ((L : T → Option V) → Defines r h.table u v L → IsOn r m (and_made h u v L) p
    × (left_to_do r m (and_made h u v L) p < bound))
Tells {T} {V} r m h bound p step.Done = (v : V) × (known r h.wanted ≡ Some v) × (h.table h.wanted ≡ Some v)
    × Load r h.at_first h.wanted h.made h.table true
Tells r m h bound p (step.Failed failure) = (known r h.wanted ≡ None) × (blame r h.wanted ≡ cause failure)
    × Load r h.at_first h.wanted h.made h.table false

-- How a load ends.
use Rattle.std.specs.Prelude.{◌≡◌, List, Option, Some, None, Bool, true, false, map}
use Rattle.by_need.specs.Blame.{blame}
use Rattle.by_need.specs.Rounds.{Rules, known}
use Rattle.by_need_loader.specs.Failures.{cause}
use Rattle.by_need_loader.specs.Runs.{Runs}
use Rattle.by_need_loader.specs.Progress.{Progress, IsOn}
use Rattle.by_need_loader.specs.declared.whole.Loaded.{Loaded}
use Rattle.by_need_loader.specs.declared.whole.Loaded.TheVariants.{Done, Failed}

-- Done: the task is known, and in the table. Failed: it stays unknown, and this is its blame.
abbrev pub Ends : {T V E O : Type 0} → Rules T V E O → T → (T → Option V) → Loaded T E O → Type 0
Ends {T} {V} r task K Done = (v : V) × (known r task ≡ Some v) × (K task ≡ Some v)
Ends r task K (Failed failure) = (known r task ≡ None) × (blame r task ≡ cause failure)

-- Whether a load is done.
abbrev pub is_done : {T E O : Type 0} → Loaded T E O → Bool
is_done Done = true
is_done (Failed failure) = false

-- The tasks that were defined, in order.
abbrev pub defined_tasks : {T V : Type 0} → List (T × V) → List T
defined_tasks made = map (λ (t, v). t) made

-- The load of a task that was begun over J goes on rightly over K, whatever was defined on the way.
pub record GoesOn {T V E O R W N : Type 0} (r : Rules T V E O) (m : Runs T V E O R W N) (task : T)
    (J K : T → Option V) (p : Progress T R W N) : Type 0 where
  pub made : List (T × V)
  pub on : IsOn r m (record { wanted = task; at_first = J; made = made; table = K }) p

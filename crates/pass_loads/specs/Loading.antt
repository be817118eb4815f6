-- What a load of a pass makes, and how it ends.
use Rattle.std.specs.Prelude.{◌≡◌, ◌⊎◌, ℕ, List, [], Option, None}
use Rattle.by_need.specs.Rounds.{Rules}
use Rattle.by_need_loader.specs.Progress.{Progress, IsOn}
use Rattle.by_need_loader.specs.Runs.{Runs}
use Rattle.by_need_loader.specs.Steps.{IsReady, todo}
use Rattle.system_events.specs.declared.event.Kept.{Kept}
use Rattle.system_events.specs.Facts.{Facts}
use Rattle.system_events.specs.State.{State}
use Rattle.request_actor.specs.Talks.{Talks}
use Rattle.request_laws.specs.Conduct.{AreDefines, IsLoad}
use Rattle.load_sections.specs.Sections.{table_at}
use Rattle.shop_base.specs.Passes.{PassView, seen_state, moved, Gains}
use Rattle.shop.specs.Seeking.{LoadsTask}

-- a load makes no entries where the table has the task, else it is a section
abbrev pub MayLoad : {M T V P Q R F : Type 0} → T → List (Kept M T V P Q R F) → Type 0
MayLoad task acts = (acts ≡ []) ⊎ IsLoad task acts

module _ {M T V P Q R F G W E : Type 0} (f : Facts T V P Q R F) (talks : Talks T V P Q R E G W) where
  -- a load fails where its task isn't known of the program in force, by its blame
  abbrev pub HasFailed : State M T V P Q R F → T → E → Type 0
  HasFailed s task error = (f.known s.counts.program task ≡ None) × (error ≡ talks.blame s.counts.program task)

module _ {M T V P Q R F : Type 0} (f : Facts T V P Q R F) where
  -- From one moment to another the pass has loaded on: its own acts are Defines, and the program in force stayed.
  pub record LoadsOn (before now : PassView M T V P Q R F) : Type 0 where
    pub same : now ≡ moved before before.row now.seen
    pub acts : List (Kept M T V P Q R F)
    pub are : AreDefines acts
    pub gains : Gains before.number acts before.seen now.seen
    pub program : (seen_state f now).counts.program ≡ (seen_state f before).counts.program

module _ {M T V P Q R F E O G W N : Type 0} (f : Facts T V P Q R F) (r : Rules T V E O) (m : Runs T V E O G W N) where
  -- what is left to do of a load over the table that the pass has seen
  abbrev pub left_of : PassView M T V P Q R F → Progress T G W N → ℕ
  left_of p loader = todo r m.branch m.rest (table_at f (seen_state f p)) loader.tasks loader.waiting loader.phase

  -- The pass loads the sought task, and the task's loader, which began over some table, goes on rightly over the one
  -- that the pass has seen.
  pub record HasLoader (p : PassView M T V P Q R F) (sought : T) (loader : Progress T G W N) : Type 0 where
    pub loads : LoadsTask f p sought
    pub at_first : T → Option V
    pub made : List (T × V)
    pub ready : IsReady loader.phase
    pub on : IsOn r m
        (record { wanted = sought; at_first = at_first; made = made; table = table_at f (seen_state f p) }) loader

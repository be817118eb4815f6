-- How far a pass is with one head.
use Rattle.std.specs.Prelude.{◌≡◌, ◌⊎◌, ℕ, Bool, true, false, List, [], ◌++◌, length, Result, Ok}
use Rattle.outside.specs.Tree.{Given}
use Rattle.outside.specs.declared.files.Stamp.{Stamp}
use Rattle.system_events.specs.declared.event.Cause.{Cause}
use Rattle.system_events.specs.declared.event.Entry.{Entry}
use Rattle.system_events.specs.declared.event.Kept.{Kept}
use Rattle.system_events.specs.declared.event.Kept.TheVariants.{Share, Begin}
use Rattle.system_events.specs.Facts.{Facts}
use Rattle.system_events.specs.Legal.{after, IsLegal}
use Rattle.request_laws.specs.Conduct.{IsUnload, AreLoads}
use Rattle.shop_base.specs.Passes.{seat_limit, Made, Gains}
use Rattle.shop_base.specs.Mine.{mine}
use Rattle.pass_history.specs.Courses.{generation_in}
use Rattle.reload_checks.specs.declared.answers.Checked.{Checked}
use Rattle.reload_checks.specs.declared.answers.Checked.TheVariants.{Reloaded}
use Rattle.reload_checks.specs.declared.answers.ReloadFault.{ReloadFault}
use Rattle.head_promises.specs.Courses.{Wanted, Outcome, Refused, Fits, Checked as Is-Checked, HeadCourse, items_of}
use Rattle.head_promises.specs.Courses as courses

-- a check that answers so has reloaded
abbrev pub reloaded_of : {F : Type 0} → Result Checked (ReloadFault F) → Bool
reloaded_of (Ok (Reloaded generation)) = true
reloaded_of _ = false

module _ {M T V P Q R F : Type 0} where
  -- The pass shares for a head, and its check, where there was one, entered these acts.
  pub record HasShared (k : ℕ) (reloaded : Bool) (before now : List (Entry M T V P Q R F)) : Type 0 where
    pub shared : List (Entry M T V P Q R F)
    pub check : List (Kept M T V P Q R F)
    pub shares : Made k Share before shared
    pub checks : Gains k check shared now
    pub is_check : (check ≡ []) ⊎ IsUnload check
    pub tells : reloaded ≡ courses.reloads check

  -- The head is to be refused for this cause, by what it asked for or by its check.
  pub record HasRefusal (k : ℕ) (wanted : Wanted Q (Cause M T V P Q R F)) (why : Cause M T V P Q R F)
      (given : List Given) (reloaded : Bool) (before now : List (Entry M T V P Q R F)) : Type 0 where
    pub has : HasShared k reloaded before now
    pub fits : Fits wanted (Refused why) has.check given

module _ {M T V P Q R F : Type 0} (f : Facts T V P Q R F) (has_stamps : P → List (List ℕ × Stamp) → Bool) where
  -- The check lets the request of the head begin: the stamps that the tree gave last were in force.
  pub record HasChecked (k : ℕ) (given : List Given) (reloaded : Bool) (before now : List (Entry M T V P Q R F)) :
      Type 0 where
    pub has : HasShared k reloaded before now
    pub fresh : Is-Checked f has_stamps k given (length has.shared) now

  -- The request of the head runs: behind its Begin it made load sections alone, each of a task that it asks for, and
  -- the program and the generation of its Begin are in force.
  pub record HasBegun (k : ℕ) (q : Q) (given : List Given) (reloaded : Bool)
      (before now : List (Entry M T V P Q R F)) : Type 0 where
    pub checked : List (Entry M T V P Q R F)
    pub has : HasChecked k given reloaded before checked
    pub checked_legal : IsLegal f seat_limit checked
    pub begun : List (Entry M T V P Q R F)
    pub begun_legal : IsLegal f seat_limit begun
    pub made : Made k (Begin q) checked begun
    pub sections : List (Kept M T V P Q R F)
    pub are : AreLoads (f.request_asked (after f seat_limit begun).counts.program q) sections
    pub loads : Gains k sections begun now
    pub program : (after f seat_limit now).counts.program ≡ (after f seat_limit begun).counts.program
    pub generation : (after f seat_limit now).counts.generation ≡ (after f seat_limit begun).counts.generation

  -- The head is over: its course, the entries that it added, and its items.
  pub record HasDone (k : ℕ) (wanted : Wanted Q (Cause M T V P Q R F)) (outcome : Outcome Q R (Cause M T V P Q R F))
      (given : List Given) (reloaded : Bool) (before now : List (Entry M T V P Q R F)) : Type 0 where
    pub acts : List (Kept M T V P Q R F)
    pub course : HeadCourse f has_stamps k wanted outcome given reloaded acts before now
    pub gains : Gains k acts before now
    pub items : mine k now ≡ mine k before ++ items_of outcome (generation_in course.begun)

-- The entries that a request makes on its way.
use Rattle.std.specs.Prelude.{◌≡◌, List, [], ◌∷◌, ◌++◌}
use Rattle.system_events.specs.declared.event.Cause.{Cause}
use Rattle.system_events.specs.declared.event.Kept.{Kept}
use Rattle.system_events.specs.declared.event.Kept.TheVariants as kept
use Rattle.system_events.specs.Facts.{Facts}
use Rattle.request_actor.specs.Talks.{Talks}
use Rattle.request_actor.specs.Order.{Goes, Fits}
use Rattle.request_actor.specs.Answers.{IsRight, found_after}
use Rattle.request_actor.specs.declared.actor.Stage.{Stage}
use Rattle.request_actor.specs.declared.actor.Stage.TheVariants.{Over}
use Rattle.request_actor.specs.declared.op.Op.{Op}
use Rattle.request_actor.specs.declared.op.Op.TheVariants as op
use Rattle.request_actor.specs.declared.op.Answered.{Answered}
use Rattle.request_laws.specs.Conduct.{Opens, MayReload, IsLoad}

module _ {M T V P Q R F : Type 0} where
  -- The entries that an operation of a request makes. A check and a look make none, and a load is a whole section.
  abbrev pub Makes : Q → Op M T V P Q R F → List (Kept M T V P Q R F) → Type 0
  Makes q op.Share entries = entries ≡ kept.Share ∷ []
  Makes q op.Check entries = entries ≡ []
  Makes q (op.Take want) entries = Opens want entries
  Makes q op.Reload entries = MayReload entries
  Makes q op.Release entries = entries ≡ kept.Release ∷ []
  Makes q op.Resume entries = entries ≡ kept.Resume ∷ []
  Makes q op.Begin entries = entries ≡ kept.Begin q ∷ []
  Makes q (op.Look task) entries = entries ≡ []
  Makes q (op.Load task) entries = IsLoad task entries
  Makes q (op.End reply) entries = entries ≡ kept.End reply ∷ []
  Makes q (op.Refuse cause) entries = entries ≡ kept.Refuse cause ∷ []
  Makes q op.Unshare entries = entries ≡ kept.Unshare ∷ []
  Makes q op.Finished entries = entries ≡ []

-- From a stage, with these tasks found, a request goes on to its end, answer after answer, and makes these entries.
pub data Passes {M T V P Q R F G W E : Type 0} (f : Facts T V P Q R F) (talks : Talks T V P Q R E G W) (p : P) (q : Q) :
    List T → Stage Q T W (Cause M T V P Q R F) → List (Kept M T V P Q R F) → Type 0 where
  at_end : (found : List T) → Passes f talks p q found Over []
  goes_on : (found : List T) (old new : Stage Q T W (Cause M T V P Q R F))
      (answered : Answered V E (Cause M T V P Q R F)) (asked : Op M T V P Q R F)
      (made more : List (Kept M T V P Q R F)) → Fits old answered → IsRight f talks p old answered →
      Goes talks p old answered asked new → Makes q asked made →
      Passes f talks p q (found_after old answered found) new more → Passes f talks p q found old (made ++ more)

-- How a load fails.
use Rattle.by_need.specs.Blame.{Cause, Fault, Circle, Ended}
use Rattle.by_need_loader.specs.declared.loader.Failure.{Failure}
use Rattle.by_need_loader.specs.declared.loader.Failure.TheVariants.{Raised, Circle as Ring, Otherwise}

-- The cause that a failure names.
abbrev pub cause : {T E O : Type 0} → Failure T E O → Cause T E O
cause (Raised e) = Fault e
cause (Ring ring) = Circle ring.items
cause (Otherwise o) = Ended o

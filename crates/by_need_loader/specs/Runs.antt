-- What the runs of a program mean.
use Rattle.std.specs.Prelude.{◌≡◌}
use Rattle.by_need.specs.Asking.{Computation, Gives, Ask, Value, Error, Other}
use Rattle.by_need_loader.specs.declared.program.Next.{Next}
use Rattle.by_need_loader.specs.declared.program.Next.TheVariants.{Done, Raised, Asks, Otherwise}

-- The whole run of a task, what is left of a run that goes on, what is left of a waiting run behind each value that it
-- may be given, and what a task is found by.
pub record Runs (T V E O R W N : Type 0) : Type 0 where
  pub whole : T → Computation T V E O
  pub rest : R → Computation T V E O
  pub branch : W → V → Computation T V E O
  pub key : T → N

-- What is left of a run comes next to this: its end, or a question at which it waits, with the branches behind it.
abbrev pub Reaches : {T V E O W : Type 0} → (W → V → Computation T V E O) → Computation T V E O → Next T V E O W →
    Type 0
Reaches branch c (Done v) = c ≡ Gives (Value v)
Reaches branch c (Raised e) = c ≡ Gives (Error e)
Reaches branch c (Asks u waiting) = c ≡ Ask u (branch waiting)
Reaches branch c (Otherwise o) = c ≡ Gives (Other o)

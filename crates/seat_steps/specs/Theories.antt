-- How the tasks of programs are loaded.
use Rattle.by_need.specs.Rounds.{Rules}
use Rattle.by_need_loader.specs.Runs.{Runs}

-- What the tasks of each program are, and how their runs go. X: errors of tasks. O: other ends. H: runs that go on. U:
-- runs that wait. N: keys of tasks.
pub record Theories (T V P X O H U N : Type 0) : Type 0 where
  pub rules : P → Rules T V X O
  pub runs : P → Runs T V X O H U N

-- the same by a theory of each program
abbrev pub theories_by : {T V P X O H U N Y : Type 0} → (Y → Rules T V X O) → (Y → Runs T V X O H U N) → (P → Y) →
    Theories T V P X O H U N
theories_by rules runs theory_of = record { rules = λ p. rules (theory_of p); runs = λ p. runs (theory_of p) }

-- The files that are loaded, by the constants that files have.
use Rattle.std.specs.Prelude.{◌≡◌, ◌≢◌, ◌↔◌, ℕ, ◌<◌, Bool, IsTrue, List, Option, Some, IsSome, slice_get, AllPairs}
use Rattle.std.specs.Prelude.{Contains}
use Rattle.outside.specs.declared.files.FileEntry.{FileEntry}
use Rattle.program_places.specs.Paths.{Path}
use Rattle.tree_scan_roots.specs.declared.roots.Root.{Root}
use Rattle.tree_scan.specs.Sites.{path_at}
use Rattle.eager_order.specs.EagerOrder.{IsBelowRoot}
use Rattle.eager_plan.specs.Plan.{IsSkipped}

-- each file that has a constant is below a root
abbrev pub AreBelowRoots : List Root → List FileEntry → List (Option Path) → Type 0
AreBelowRoots roots files constants = (file : ℕ) (constant : Path) → slice_get constants file ≡ Some (Some constant) →
    IsBelowRoot roots (path_at files file)

-- the file has a constant, and isn't skipped where only the plan is loaded
abbrev pub IsChosenAs : List Root → (patterns : List (List ℕ)) → List FileEntry → (only_plan : Bool) → (file : ℕ) →
    Option Path → Type 0
IsChosenAs roots patterns files only_plan file constant = IsSome constant
    × (IsTrue only_plan → ¬ IsSkipped roots patterns (path_at files file))

-- the same of the constant that the file has among these
abbrev pub IsChosen : List Root → (patterns : List (List ℕ)) → List FileEntry → (only_plan : Bool) →
    List (Option Path) → (file : ℕ) → Type 0
IsChosen roots patterns files only_plan constants file = (constant : Path)
    × (slice_get constants file ≡ Some (Some constant))
    × (IsTrue only_plan → ¬ IsSkipped roots patterns (path_at files file))

-- these are the numbers below an end of which this holds, each once
pub record AreChosen (Is : ℕ → Type 0) (end : ℕ) (numbers : List ℕ) : Type 0 where
  pub once : AllPairs (λ number other. number ≢ other) numbers
  pub exact : (number : ℕ) → Contains numbers number ↔ ((number < end) × Is number)

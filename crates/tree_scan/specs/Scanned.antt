-- What contracts see of an application's sites.
use Rattle.std.specs.Prelude.{ℕ, List}
use Rattle.tree_scan_sites.specs.declared.spelled.Spelled.{Spelled}

-- which file spells which constant, below which root, by their numbers; and the paths of the shadowed files
pub record Scanned : Type 0 where
  pub spelled : List Spelled
  pub shadowed : List (List ℕ)

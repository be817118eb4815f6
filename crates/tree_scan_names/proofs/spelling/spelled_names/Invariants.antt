use Rattle.std.proofs.Common.{◌≡◌, ◌++◌, ℕ, List, length}
use Rattle.tree_scan_names.specs.Below.{within, EndsInRb, SpellsBelow}
use Rattle.tree_scan_names.proofs.spelling.spelled_names.Given as goal

abbrev pub invariant-steps : goal.invariant-steps
invariant-steps l = record {
  way : l.path ≡ within l.directory l.left;
  spells : (more : List (List ℕ)) → SpellsBelow l.rules l.directory l.left more →
      SpellsBelow l.rules l.root l.below (l.names ++ more);
  ends : EndsInRb l.below → EndsInRb l.left;
}

abbrev pub decreases-steps : goal.decreases-steps
decreases-steps l = length l.left

-- What a closer that keeps links tells.
use Rattle.std.proofs.Common.{◌≡◌, ◌+◌, ◌≤◌, Some, None, cond, length, ap, arith}
use Rattle.std.proofs.Common.{inl, inr}
use Rattle.std.proofs.lemmas.Bool.Decides.{eqb_tells}
use Rattle.outside_links.specs.CloserState.{KeptLinks, all_kept}

-- a closer that got more links than it kept tells nothing
pub more_got : {L : Type 0} (closer : KeptLinks L) → length closer.kept + 1 ≤ closer.count → all_kept closer ≡ None
more_got closer more = elim (eqb_tells (length closer.kept) closer.count) [
  | inl same ↦ let e = same.1 in absurd (omega (arith, e, more))
  | inr other ↦ ap (λ test. cond test (Some closer.kept) None) other.0
]

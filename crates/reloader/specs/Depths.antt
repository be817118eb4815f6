-- How many wraps are open after one has begun, and after one has ended.
use Rattle.std.specs.Prelude.{◌≡◌, ℕ, ◌+◌, ◌-◌, List}
use Rattle.std.proofs.Common.{zero, suc, refl, ap}
use Rattle.reloader.specs.Calls.{WrapsView, begun, ended, called_outside, closed}

called_outside_depth :
    {H : Type 0} (change : H → List ℕ → H) (tell : H → List ℕ → List ℕ) (n : ℕ) (e : WrapsView H) →
    (called_outside change tell n e).depth ≡ e.depth
called_outside_depth change tell zero e = refl
called_outside_depth change tell (suc n) e = refl

-- one more is open after a beginning
pub begun_depth :
    {H : Type 0} (change : H → List ℕ → H) (tell : H → List ℕ → List ℕ) (e : WrapsView H) →
    (begun change tell e).depth ≡ e.depth + 1
begun_depth change tell e = ap (λ n. n + 1) (called_outside_depth change tell e.depth e)

-- one fewer is open after an end
pub ended_depth :
    {H : Type 0} (change : H → List ℕ → H) (tell : H → List ℕ → List ℕ) (e : WrapsView H) →
    (ended change tell e).depth ≡ e.depth - 1
ended_depth change tell e = called_outside_depth change tell (closed e).depth (closed e)

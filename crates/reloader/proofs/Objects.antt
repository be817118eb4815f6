-- A value of a kind that isn't known: what holds of it where it is the same as another.
use Rattle.std.proofs.Common.{◌≡◌, ap, ◌∙◌}

-- what is told of two that are the same is the same
pub tells_same :
    {I : Type 0} {D : I → Type 0} {X : Type 0} (f : (i : I) → D i → X) (p q : (i : I) × D i) → p ≡ q →
    f p.0 p.1 ≡ f q.0 q.1
tells_same f p q same = ap (λ r. f r.0 r.1) same

-- what is built of two that are the same, and that are changed in the same way, is the same
pub changed_same :
    {I : Type 0} {D : I → Type 0} {X : Type 0} (build : (i : I) → D i → X) (change : (i : I) → D i → D i)
    (p q : (i : I) × D i) (w : D p.0) → w ≡ change p.0 p.1 → p ≡ q → build p.0 w ≡ build q.0 (change q.0 q.1)
changed_same build change p q w changed same = ap (build p.0) changed ∙ ap (λ r. build r.0 (change r.0 r.1)) same

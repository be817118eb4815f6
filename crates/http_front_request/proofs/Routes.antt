-- The last segment of a route.
use Rattle.std.proofs.Common.{◌≡◌, ◌≢◌, ℕ, List, [], ◌∷◌, ◌++◌, refl, ap}
use Rattle.http_front_request.specs.Request.{ending, routed}

-- The walk to the last segment finds it.
pub ending_last : (first : List ℕ) (others : List (List ℕ)) (last : List ℕ)
    → ending first (others ++ last ∷ []) ≡ (first ∷ others, last)
ending_last first [] last = refl
ending_last first (next ∷ others) last =
    ap (λ (p : List (List ℕ) × List ℕ). (first ∷ p.0, p.1)) (ending_last next others last)

-- Of two segments or more the last is the action.
pub routed_last : (others : List (List ℕ)) (last : List ℕ) → others ≢ []
    → routed (others ++ last ∷ []) ≡ (others, last)
routed_last [] last some = absurd (some refl)
routed_last (first ∷ []) last some = ending_last first [] last
routed_last (first ∷ next ∷ others) last some = ending_last first (next ∷ others) last

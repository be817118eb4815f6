-- What is noted of a load.
use Rattle.std.proofs.Common.{◌≡◌, List, [], ◌∷◌, ◌++◌}
use Rattle.std.proofs.lemmas.List.{append_assoc, map-append}
use Rattle.by_need_loader.specs.Ends.{defined_tasks}

-- a task more is noted, and a value more is made
pub noted_more : {T V : Type 0} (before noted : List T) (made : List (T × V)) (u copy : T) (v : V) →
    noted ≡ before ++ defined_tasks made → copy ≡ u → noted ++ copy ∷ [] ≡ before ++ defined_tasks (made ++ (u, v) ∷ [])
noted_more before noted made u copy v is same =
    rw (is, same, map-append (λ (t, w). t) made ((u, v) ∷ [])) (append_assoc before (defined_tasks made) (u ∷ []))

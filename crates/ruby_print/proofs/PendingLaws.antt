-- How the text, the depth and the steps of what is pending grow with a piece.
use Rattle.std.proofs.Common.{◌≡◌, ℕ, ◌+◌, ◌*◌, ◌<◌, ◌≤◌, max, List, [], ◌∷◌, ◌++◌, refl, ap, ◌∙◌, sym, append_assoc}
use Rattle.std.proofs.Common.{arith}
use Rattle.std.proofs.lemmas.Grind.{common_steps}
use Rattle.ruby_print.specs.declared.pending.Pending.{Pending}
use Rattle.ruby_print.specs.Pending.{piece_text, pending_text, piece_depth, depth, piece_steps, steps}

-- A piece that is put on what is pending stands before it in the text.
pub text_push : (xs : List Pending) (x : Pending) → pending_text (xs ++ x ∷ []) ≡ piece_text x ++ pending_text xs
text_push [] x = grind (arith, common_steps)
text_push (y ∷ ys) x = ap (λ t. t ++ piece_text y) (text_push ys x)
    ∙ append_assoc (piece_text x) (pending_text ys) (piece_text y)

-- A piece that is put on what is pending makes it as deep as the deeper of both.
pub depth_push : (xs : List Pending) (x : Pending) → depth (xs ++ x ∷ []) ≡ max (depth xs) (piece_depth x)
depth_push [] x = refl
depth_push (y ∷ ys) x = let e = depth_push ys x in omega arith

-- A piece that is put on what is pending adds its steps.
pub steps_push : (xs : List Pending) (x : Pending) → steps (xs ++ x ∷ []) ≡ steps xs + piece_steps x
steps_push [] x = refl
steps_push (y ∷ ys) x = let e = steps_push ys x in omega arith

-- ---- one piece x is taken off from xs, and zs is what is pending then

-- A piece taken off is no deeper than all that was pending: for the measure of the recursion.
pub fits-pop : (xs ys : List Pending) (x : Pending) (n : ℕ) → xs ≡ ys ++ x ∷ [] → depth xs ≤ n →
    8 * piece_depth x + 1 < 8 * n + 2
fits-pop xs ys x n e h = let d = ap depth e ∙ depth_push ys x in omega arith

-- Writing a piece that was taken off keeps the whole text.
pub text-pop : (o e o0 o1 : List ℕ) (xs ys zs : List Pending) (x : Pending) → xs ≡ ys ++ x ∷ [] →
    o0 ++ pending_text xs ≡ o ++ e → o1 ++ pending_text zs ≡ o0 ++ (piece_text x ++ pending_text ys) →
    o1 ++ pending_text zs ≡ o ++ e
text-pop o e o0 o1 xs ys zs x p h i = i ∙ ap (λ t. o0 ++ t) (sym (ap pending_text p ∙ text_push ys x)) ∙ h

-- What is pending after a piece was written is no deeper than before.
pub depth-pop : (xs ys zs : List Pending) (x : Pending) (n : ℕ) → xs ≡ ys ++ x ∷ [] → depth xs ≤ n →
    depth zs ≤ max (depth ys) (piece_depth x) → depth zs ≤ n
depth-pop xs ys zs x n p h i = let d = ap depth p ∙ depth_push ys x in omega arith

-- Fewer steps are left after a piece was written: for the loop's measure.
pub steps-pop : (xs ys zs : List Pending) (x : Pending) → xs ≡ ys ++ x ∷ [] → steps zs < steps ys + piece_steps x →
    steps zs < steps xs
steps-pop xs ys zs x p i = let d = ap steps p ∙ steps_push ys x in omega arith

-- A graph's runs, question by question.
use Rattle.std.proofs.Common.{◌≡◌, ℕ, zero, suc, ◌+◌, ◌%◌, ◌^◌, List, [], ◌∷◌, drop, Option, Some, None, slice_get}
use Rattle.std.proofs.Common.{refl, sym, ap, ◌∙◌, subst, arith}
use Rattle.by_need.specs.Asking.{Ask}
use Rattle.by_need_graph.specs.Graph.{from, asks, ends}
use Rattle.by_need_graph.specs.declared.graph.Body.{Body}

drop-some : (xs : List ℕ) (i x : ℕ) → slice_get xs i ≡ Some x → drop i xs ≡ x ∷ drop (i + 1) xs
drop-some [] i x e = absurd cc
drop-some (y ∷ ys) zero x e = let h : y ≡ x = cc in ap (λ z. z ∷ ys) h
drop-some (y ∷ ys) (suc i) x e = let h : i + 1 ≡ suc i = omega arith in let k : suc i + 1 ≡ suc (suc i) =
    omega arith in drop-some ys i x e ∙ ap (λ n. x ∷ drop n ys) h ∙ ap (λ n. x ∷ drop n (y ∷ ys)) (sym k)

drop-none : (xs : List ℕ) (i : ℕ) → slice_get xs i ≡ None → drop i xs ≡ []
drop-none [] zero e = refl
drop-none [] (suc i) e = refl
drop-none (y ∷ ys) zero e = absurd cc
drop-none (y ∷ ys) (suc i) e = drop-none ys i e

-- a run with a question left asks it
pub run_asks : (o : Option Body) (body : Body) (sum place asked : ℕ) → o ≡ Some body →
    slice_get body.questions.items place ≡ Some asked →
    from o sum place ≡ Ask asked (λ v. from o ((sum + v) % 2 ^ 64) (place + 1))
run_asks o body sum place asked e h =
    subst (λ x. from x sum place ≡ Ask asked (λ v. from x ((sum + v) % 2 ^ 64) (place + 1))) (sym e)
    (ap (λ ts. asks sum ts body.ending) (drop-some body.questions.items place asked h))

-- a run without a question left ends
pub run_ends : (o : Option Body) (body : Body) (sum place : ℕ) → o ≡ Some body → slice_get body.questions.items place
    ≡ None → from o sum place ≡ ends sum body.ending
run_ends o body sum place e h = subst (λ x. from x sum place ≡ ends sum body.ending) (sym e)
    (ap (λ ts. asks sum ts body.ending) (drop-none body.questions.items place h))

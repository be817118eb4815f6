-- Tasks of definitions at places, one more at a time.
use Rattle.std.proofs.Common.{◌≡◌, ℕ, zero, suc, ◌+◌, ◌≤◌, Bool, true, false, cond, List, [], ◌∷◌, ◌++◌, map, filter}
use Rattle.std.proofs.Common.{Option, Some, None, slice_get, take, length, refl, sym, ap, ◌∙◌, subst, arith}
use Rattle.std.proofs.Common.{append_assoc}
use Rattle.std.proofs.Common.{append-nil, add-one, zero-add}
use Rattle.std.proofs.lemmas.Option.{none-some, same_Some}
use Rattle.ruby_types.specs.declared.request.Task.{Task}
use Rattle.program_places.specs.Paths.{Path}
use Rattle.program_faults.specs.declared.own.OwnKind.{OwnKind}
use Rattle.program_tasks.specs.Placed.{kept_tasks, placed_tasks}

-- one more definition adds what it keeps
pub placed_more : (c : Path) (all : List Path) (n : ℕ) (ps : List Path) (ks : List OwnKind) (i : ℕ) (p : Path)
    (k : OwnKind) → slice_get ps i ≡ Some p → slice_get ks i ≡ Some k →
    placed_tasks c all n (take (suc i) ps) (take (suc i) ks)
    ≡ placed_tasks c all n (take i ps) (take i ks) ++ kept_tasks c all (n + i) p k
placed_more c all n [] ks i p k at there = absurd (none-some p at)
placed_more c all n (q ∷ qs) [] i p k at there = absurd (none-some k there)
placed_more c all n (q ∷ qs) (j ∷ js) zero p k at there =
    let number : n ≡ n + 0 = omega arith in
    append-nil (kept_tasks c all n q j)
    ∙ ap (λ x. kept_tasks c all n x j) (same_Some q p at) ∙ ap (λ x. kept_tasks c all n p x) (same_Some j k there)
    ∙ ap (λ m. kept_tasks c all m p k) number
placed_more c all n (q ∷ qs) (j ∷ js) (suc i) p k at there =
    let number : suc n + i ≡ n + suc i = omega arith in
    ap (λ ts. kept_tasks c all n q j ++ ts) (placed_more c all (suc n) qs js i p k at there)
    ∙ sym (append_assoc (kept_tasks c all n q j) (placed_tasks c all (suc n) (take i qs) (take i js))
    (kept_tasks c all (suc n + i) p k))
    ∙ ap (λ m. placed_tasks c all n (take (suc i) (q ∷ qs)) (take (suc i) (j ∷ js)) ++ kept_tasks c all m p k) number

-- one more definition behind these tasks
pub placed_step : (ts : List Task) (c : Path) (all : List Path) (ps : List Path) (ks : List OwnKind) (i : ℕ) (p : Path)
    (k : OwnKind) → slice_get ps i ≡ Some p → slice_get ks i ≡ Some k →
    (ts ++ placed_tasks c all 0 (take i ps) (take i ks)) ++ kept_tasks c all i p k
    ≡ ts ++ placed_tasks c all 0 (take (i + 1) ps) (take (i + 1) ks)
placed_step ts c all ps ks i p k at there =
    append_assoc ts (placed_tasks c all 0 (take i ps) (take i ks)) (kept_tasks c all i p k)
    ∙ ap (λ us. ts ++ us) (ap (λ n. placed_tasks c all 0 (take i ps) (take i ks) ++ kept_tasks c all n p k)
    (sym (zero-add i)) ∙ sym (placed_more c all 0 ps ks i p k at there)
    ∙ ap (λ n. placed_tasks c all 0 (take n ps) (take n ks)) (sym (add-one i)))

module _ {A B C : Type 0} (v : A → C) (f : C → B) (test : C → Bool) where
  kept_at : (x : C) (xs : List C) (b : Bool) → map f (cond b (x ∷ filter test xs) (filter test xs))
      ≡ cond b (f x ∷ []) [] ++ map f (filter test xs)
  kept_at x xs true = refl
  kept_at x xs false = refl

  -- one more member is kept where it passes
  pub filter_more : (xs : List A) (i : ℕ) (x : A) → slice_get xs i ≡ Some x →
      map f (filter test (map v (take (suc i) xs)))
      ≡ map f (filter test (map v (take i xs))) ++ cond (test (v x)) (f (v x) ∷ []) []
  filter_more [] i x at = absurd (none-some x at)
  filter_more (y ∷ ys) zero x at =
      kept_at (v y) [] (test (v y)) ∙ append-nil (cond (test (v y)) (f (v y) ∷ []) [])
      ∙ ap (λ z. cond (test (v z)) (f (v z) ∷ []) []) (same_Some y x at)
  filter_more (y ∷ ys) (suc i) x at =
      kept_at (v y) (map v (take (suc i) ys)) (test (v y))
      ∙ ap (λ zs. cond (test (v y)) (f (v y) ∷ []) [] ++ zs) (filter_more ys i x at)
      ∙ sym (append_assoc (cond (test (v y)) (f (v y) ∷ []) []) (map f (filter test (map v (take i ys))))
      (cond (test (v x)) (f (v x) ∷ []) []))
      ∙ ap (λ zs. zs ++ cond (test (v x)) (f (v x) ∷ []) []) (sym (kept_at (v y) (map v (take i ys)) (test (v y))))

-- The order of tasks is total, and ties no two tasks of files.
use Rattle.std.proofs.Common.{◌≡◌, ℕ, true, false, List, [], ◌∷◌, refl, sym, ap, ◌∙◌}
use Rattle.std.specs.Cmp.{IsTotalOrder}
use Rattle.std.specs.Ordering.{ordering_then, ordering_reverse, is_le, is_gt}
use Rattle.std.specs.declared.cmp.Ordering.{Ordering}
use Rattle.std.specs.declared.cmp.Ordering.TheVariants.{Less, Equal, Greater}
use Rattle.std.proofs.lemmas.Bool.{false≢true}
use Rattle.std.proofs.lemmas.Cmp.{nat_cmp_total, nat_list_cmp_total, lists_total, on_total, then_total, upto}
use Rattle.std.proofs.lemmas.Map.Lookups.{exact_bytes}
use Rattle.outside.specs.Order.{order}
use Rattle.ruby_types.specs.declared.request.Task.{Task}
use Rattle.ruby_types.specs.declared.request.Task.TheVariants as task
use Rattle.tree_scan_sites.specs.Paths.{path_order}
use Rattle.task_keys.specs.Names.{IsLoad, task_name, task_rank, task_path, task_order, at_most}

-- the order of tasks is a total order
pub order_total : IsTotalOrder task_order
order_total = then_total (on_total task_name nat_list_cmp_total)
    (then_total (on_total task_rank nat_cmp_total) (on_total task_path (lists_total nat_list_cmp_total)))

not_greater : (o : Ordering) → is_le o ≡ true → is_gt o ≡ false
not_greater Less h = refl
not_greater Equal h = refl
not_greater Greater h = absurd (false≢true h)

at_most_when : (o : Ordering) → is_gt o ≡ false → is_le o ≡ true
at_most_when Less h = refl
at_most_when Equal h = refl
at_most_when Greater h = absurd (false≢true (sym h))

reversed : (o u : Ordering) → o ≡ ordering_reverse u → is_le u ≡ false → is_le o ≡ true
reversed o Less e h = absurd (false≢true (sym h))
reversed o Equal e h = absurd (false≢true (sym h))
reversed o Greater e h = ap is_le e

-- of two tasks one is at most the other
pub total : (a b : Task) → at_most a b ≡ false → at_most b a ≡ true
total a b h = reversed (task_order b a) (task_order a b) (order_total.antisymm b a) h

-- the order goes on along a chain
pub chain : (a b c : Task) → at_most a b ≡ true → at_most b c ≡ true → at_most a c ≡ true
chain a b c h k = at_most_when (task_order a c)
    (upto order_total a b c (not_greater (task_order a b) h) (not_greater (task_order b c) k))

tied_at : (o u : Ordering) → u ≡ ordering_reverse o → is_le o ≡ true → is_le u ≡ true → o ≡ Equal
tied_at Less u e h k = absurd (false≢true (sym (ap is_le e) ∙ k))
tied_at Equal u e h k = refl
tied_at Greater u e h k = absurd (false≢true h)

tied : (a b : Task) → at_most a b ≡ true → at_most b a ≡ true → task_order a b ≡ Equal
tied a b h k = tied_at (task_order a b) (task_order b a) (order_total.antisymm b a) h k

both_equal : (o u : Ordering) → ordering_then o u ≡ Equal → (o ≡ Equal) × (u ≡ Equal)
both_equal Less u h = cc
both_equal Equal u h = (refl, h)
both_equal Greater u h = cc

exact_paths : (a b : List (List ℕ)) → path_order a b ≡ Equal → a ≡ b
exact_paths [] [] h = refl
exact_paths [] (y ∷ ys) h = cc
exact_paths (x ∷ xs) [] h = cc
exact_paths (x ∷ xs) (y ∷ ys) h =
    let both = both_equal (order x y) (path_order xs ys) h in
    let first : x ≡ y = exact_bytes x y both.0 in
    let behind : xs ≡ ys = exact_paths xs ys both.1 in
    cc

less_is_no_tie : (o : Ordering) → ordering_then o Less ≡ Equal → ⊥
less_is_no_tie Less h = cc
less_is_no_tie Equal h = cc
less_is_no_tie Greater h = cc

greater_is_no_tie : (o : Ordering) → ordering_then o Greater ≡ Equal → ⊥
greater_is_no_tie Less h = cc
greater_is_no_tie Equal h = cc
greater_is_no_tie Greater h = cc

abbrev names : Task → Task → Ordering
names a b = order (task_name a) (task_name b)

path_tie : (a b : Task) → ordering_then (names a b) (path_order (task_path a) (task_path b)) ≡ Equal →
    task_path a ≡ task_path b
path_tie a b e = exact_paths (task_path a) (task_path b)
    (both_equal (names a b) (path_order (task_path a) (task_path b)) e).1

equal_tasks : (a b : Task) → IsLoad a → IsLoad b → task_order a b ≡ Equal → a ≡ b
equal_tasks (task.File f) (task.File g) h k e = ap task.File (exact_bytes f g (both_equal (order f g) _ e).0)
equal_tasks (task.File f) (task.Const q) h k e = absurd (less_is_no_tie (names (task.File f) (task.Const q)) e)
equal_tasks (task.File f) (task.Ancestors q) h k e = absurd (less_is_no_tie (names (task.File f) (task.Ancestors q)) e)
equal_tasks (task.File f) (task.Request q) h k e = absurd k
equal_tasks (task.Const p) (task.File g) h k e = absurd (greater_is_no_tie (names (task.Const p) (task.File g)) e)
equal_tasks (task.Const p) (task.Const q) h k e = ap task.Const (path_tie (task.Const p) (task.Const q) e)
equal_tasks (task.Const p) (task.Ancestors q) h k e =
    absurd (less_is_no_tie (names (task.Const p) (task.Ancestors q)) e)
equal_tasks (task.Const p) (task.Request q) h k e = absurd k
equal_tasks (task.Ancestors p) (task.File g) h k e =
    absurd (greater_is_no_tie (names (task.Ancestors p) (task.File g)) e)
equal_tasks (task.Ancestors p) (task.Const q) h k e =
    absurd (greater_is_no_tie (names (task.Ancestors p) (task.Const q)) e)
equal_tasks (task.Ancestors p) (task.Ancestors q) h k e =
    ap task.Ancestors (path_tie (task.Ancestors p) (task.Ancestors q) e)
equal_tasks (task.Ancestors p) (task.Request q) h k e = absurd k
equal_tasks (task.Request r) b h k e = absurd h

-- no two tasks of files tie
pub untied : (a b : Task) → IsLoad a → IsLoad b → at_most a b ≡ true → at_most b a ≡ true → a ≡ b
untied a b h k p q = equal_tasks a b h k (tied a b p q)

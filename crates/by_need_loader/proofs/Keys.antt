-- Keys stand for the open tasks.
use Rattle.std.proofs.Common.{◌≡◌, ℕ, zero, suc, List, [], ◌∷◌, ◌++◌, map, slice_get, Some}
use Rattle.std.proofs.Common.{Bool, true, false, refl, sym, ◌∙◌, subst}
use Rattle.std.specs.List.{list_any}
use Rattle.indexmap.specs.IndexSet.{insert_key}
use Rattle.by_need.specs.Rounds.{Rules, is_in, is_task}
use Rattle.by_need.specs.Open.{AllTasks}

-- where no key is equal, an inserted key goes last
pub insert_key-new : {N : Type 0} (eq : N → N → Bool) (ks : List N) (k : N) → list_any (eq k) ks ≡ false →
    insert_key eq ks k ≡ ks ++ k ∷ []
insert_key-new eq ks k e = rw e refl

-- where a key is equal, the keys stay
pub insert_key-present : {N : Type 0} (eq : N → N → Bool) (ks : List N) (k : N) → list_any (eq k) ks ≡ true →
    insert_key eq ks k ≡ ks
insert_key-present eq ks k e = rw e refl

module _ {T V E O N : Type 0} (r : Rules T V E O) (key : T → N) (eq : N → N → Bool)
    (apart : (a b : T) → is_task r a ≡ true → is_task r b ≡ true → eq (key a) (key b) ≡ r.same a b) where
  -- a task is among tasks exactly where its key is among theirs
  pub any_key : (u : T) (ts : List T) → is_task r u ≡ true → AllTasks r ts →
      list_any (eq (key u)) (map key ts) ≡ is_in r u ts
  any_key u [] is all = refl
  any_key u (t ∷ ts) is all = rw (apart u t is all.0, any_key u ts is all.1) refl

  -- at the place of an equal key stands the task
  pub same_at : (u x : T) (ts : List T) (place : ℕ) (k : N) → is_task r u ≡ true → AllTasks r ts →
      slice_get (map key ts) place ≡ Some k → eq (key u) k ≡ true → slice_get ts place ≡ Some x → r.same u x ≡ true
  same_at u x [] place k is all p e q = absurd cc
  same_at u x (t ∷ ts) zero k is all p e q =
      let here : key t ≡ k = cc in
      let there : t ≡ x = cc in
      subst (λ y. r.same u y ≡ true) there
      (sym (apart u t is all.0) ∙ subst (λ y. eq (key u) y ≡ true) (sym here) e)
  same_at u x (t ∷ ts) (suc place) k is all p e q = same_at u x ts place k is all.1 p e q

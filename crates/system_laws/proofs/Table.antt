-- The table after every entry.
use Rattle.std.proofs.Common.{◌≡◌, ℕ, List, [], ◌∷◌, ◌++◌, append-nil, Option, Some, None, Bool, true, false, ◌||◌}
use Rattle.std.proofs.Common.{refl, sym, ap, ◌∙◌, subst}
use Rattle.std.proofs.lemmas.Bool.{true≢false, or_parts, or_from, or_left, or_right}
use Rattle.system_seats.proofs.From.{guard_false}
use Rattle.system_events.specs.declared.event.Cause.TheVariants.{Memory}
use Rattle.system_events.specs.declared.event.Kept.{Kept}
use Rattle.system_events.specs.declared.event.Kept.TheVariants.{Define, Reload, Refuse}
use Rattle.system_events.specs.Facts.{Facts, SameIsEqual}
use Rattle.system_events.specs.State.{State, is_in}
use Rattle.system_events.specs.Guards.{guard_of}
use Rattle.system_events.specs.Steps.{pair_of, table_after, counts_after}
use Rattle.system_laws.specs.Lawful.{AllKnown, AllApart, IsTable, IsNoReload}
use Rattle.system_laws.proofs.Tidy.{second_none}

module _ {T V P Q R F : Type 0} (f : Facts T V P Q R F) (equal : SameIsEqual f) where
  -- a task is the same as itself
  pub same_self : (a : T) → f.same_task a a ≡ true
  same_self a = (equal a a).1 refl

  -- a test that can't hold
  pub not_true : (b : Bool) → (b ≡ true → ⊥) → b ≡ false
  not_true true no_way = absurd (no_way refl)
  not_true false no_way = refl

  -- different tasks are different either way
  other_way : (a b : T) → f.same_task a b ≡ false → f.same_task b a ≡ false
  other_way a b is = not_true (f.same_task b a) (λ same.
      true≢false (sym ((equal a b).1 (sym ((equal b a).0 same))) ∙ is))

  known-append : (program : P) (xs ys : List (T × V)) → AllKnown f program xs → AllKnown f program ys →
      AllKnown f program (xs ++ ys)
  known-append program [] ys a b = b
  known-append program (x ∷ xs) ys a b = (a.0, known-append program xs ys a.1 b)

  known_pair : (program : P) (task : T) (o : Option V) → f.known program task ≡ o → AllKnown f program (pair_of task o)
  known_pair program task None is = tt
  known_pair program task (Some value) is = (is, tt)

  -- a task that neither list has isn't in both
  in-append : (task : T) (xs ys : List (T × V)) → is_in f task xs ≡ false → is_in f task ys ≡ false →
      is_in f task (xs ++ ys) ≡ false
  in-append task [] ys a b = b
  in-append task (x ∷ xs) ys a b =
      let parts : (f.same_task x.0 task ≡ false) × (is_in f task xs ≡ false) =
      or_parts (f.same_task x.0 task) (is_in f task xs) a in
      or_from _ _ parts.0 (in-append task xs ys parts.1 b)

  -- a task of the first list is in both
  pub in-append_left : (task : T) (xs ys : List (T × V)) → is_in f task xs ≡ true → is_in f task (xs ++ ys) ≡ true
  in-append_left task [] ys is = absurd (true≢false (sym is))
  in-append_left task (x ∷ xs) ys is = by (f.same_task x.0 task) refl (in-append_left task xs ys)
    where
      by : (b : Bool) → f.same_task x.0 task ≡ b → (is_in f task xs ≡ true → is_in f task (xs ++ ys) ≡ true) →
          is_in f task ((x ∷ xs) ++ ys) ≡ true
      by true here later = or_left _ _ here
      by false here later = or_right (f.same_task x.0 task) _
          (later (sym (ap (λ b. b || is_in f task xs) here) ∙ is))

  -- a defined task is in the table
  pub in_defined : (task : T) (value : V) (xs : List (T × V)) → is_in f task (xs ++ (task, value) ∷ []) ≡ true
  in_defined task value [] = or_left _ _ (same_self task)
  in_defined task value (x ∷ xs) = or_right (f.same_task x.0 task) _ (in_defined task value xs)

  apart-new : (xs : List (T × V)) (task : T) (value : V) → AllApart f xs → is_in f task xs ≡ false →
      AllApart f (xs ++ (task, value) ∷ [])
  apart-new [] task value a new = (refl, tt)
  apart-new (x ∷ xs) task value a new =
      let parts : (f.same_task x.0 task ≡ false) × (is_in f task xs ≡ false) =
      or_parts (f.same_task x.0 task) (is_in f task xs) new in (
        in-append x.0 xs ((task, value) ∷ []) a.0
            (or_from (f.same_task task x.0) false (other_way x.0 task parts.0) refl),
        apart-new xs task value a.1 parts.1,
      )

  apart_pair : (xs : List (T × V)) (task : T) (o : Option V) → AllApart f xs → is_in f task xs ≡ false →
      AllApart f (xs ++ pair_of task o)
  apart_pair xs task None a new = subst (AllApart f) (sym (append-nil xs)) a
  apart_pair xs task (Some value) a new = apart-new xs task value a new

module _ {M T V P Q R F : Type 0} (f : Facts T V P Q R F) (equal : SameIsEqual f) where
  -- an entry whose guards pass keeps the table a part of what is known, with no task twice
  pub table_kept : (s : State M T V P Q R F) (k : ℕ) (kept : Kept M T V P Q R F) → guard_of f s k kept ≡ None →
      IsTable f s.counts.program s.table →
      IsTable f (counts_after f s.counts kept).program (table_after f s.counts.program s.table kept)
  table_kept s k (Define task) p is = (
    known-append f equal _ s.table _ is.0 (known_pair f equal _ task _ refl),
    apart_pair f equal s.table task _ is.1 (guard_false _ _ _ (second_none _ _ p)).0,
  )
  table_kept s k (Reload program) p is = (tt, tt)
  table_kept s k (Refuse Memory) p is = is
  table_kept s k _ p is = is

  -- a task stays in the table until the next Reload
  pub in_kept : (s : State M T V P Q R F) (kept : Kept M T V P Q R F) (task : T) → IsNoReload kept →
      is_in f task s.table ≡ true → is_in f task (table_after f s.counts.program s.table kept) ≡ true
  in_kept s (Define other) task no_reload is = in-append_left f equal task s.table _ is
  in_kept s (Reload program) task no_reload is = absurd no_reload
  in_kept s _ task no_reload is = is

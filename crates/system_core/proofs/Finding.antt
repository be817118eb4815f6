-- A task of the table is found by its hash.
use Rattle.std.proofs.Common.{◌≡◌, ◌≢◌, ℕ, zero, suc, ◌+◌, ◌%◌, ◌<◌, ◌≤◌, inl, inr, List, [], ◌∷◌, ◌++◌, length}
use Rattle.std.proofs.Common.{Option, Some, None, Bool, true, false, ◌||◌, if◌then◌else◌, is_some, slice_index}
use Rattle.std.proofs.Common.{slice_index_or, option_map, refl, sym, ap, ◌∙◌, subst, arith}
use Rattle.std.proofs.lemmas.Bool.{true≢false, cases_lt, or_left, or_right}
use Rattle.system_places.specs.Chains.{bucket, IsLast}
use Rattle.system_events.specs.declared.event.Entry.{Entry}
use Rattle.system_events.specs.Facts.{Facts, SameIsEqual}
use Rattle.system_events.specs.State.{State, is_in}
use Rattle.system_events.specs.Legal.{IsAfter}
use Rattle.system_laws.specs.Lawful.{AllApart}
use Rattle.system_laws.proofs.Table.{not_true}
use Rattle.system_laws.proofs.Keeps.{keeps_after}
use Rattle.system_core.specs.declared.fact.Fact.{Fact}
use Rattle.system_core.specs.Tables.{with_value, fact_task, table_of, task_at, names, lookup, hash_of}
use Rattle.system_core.specs.Tables.{hashes_of}

module _ {M T V P Q R F : Type 0} (f : Facts T V P Q R F) where
  -- as many hashes as facts
  pub hashes-length : (es : List (Entry M T V P Q R F)) (fs : List (Fact M T V P Q R F)) →
      length (hashes_of f es fs) ≡ length fs
  hashes-length es [] = refl
  hashes-length es (x ∷ fs) = ap suc (hashes-length es fs)

  hash_at : (es : List (Entry M T V P Q R F)) (fs : List (Fact M T V P Q R F)) (i : ℕ) →
      slice_index (hashes_of f es fs) i ≡ hash_of f (task_at es fs i)
  hash_at es [] i = refl
  hash_at es (x ∷ fs) zero = refl
  hash_at es (x ∷ fs) (suc i) = hash_at es fs i

  -- from this place on no fact is of the task
  abbrev pub Unseen : List (Entry M T V P Q R F) → List (Fact M T V P Q R F) → T → ℕ → Type 0
  Unseen es fs task from = (i : ℕ) → from ≤ i → i < length fs → names f task (task_at es fs i) ≡ false

  -- The walk stands at a place of the task's bucket, or has ended, and no fact that it has passed is of the task.
  abbrev pub Walks : List ℕ → ℕ → List (Entry M T V P Q R F) → List (Fact M T V P Q R F) → T → Option ℕ → Type 0
  Walks hs buckets es fs task None = Unseen es fs task 0
  Walks hs buckets es fs task (Some place) =
      (place < length fs) × ((bucket hs buckets place ≡ f.hash task % buckets) × Unseen es fs task (place + 1))

-- how far the walk still is from the start
abbrev pub walk_left : Option ℕ → ℕ
walk_left None = 0
walk_left (Some place) = place + 1

-- the walk comes nearer to the start
pub walk_nearer : (hs : List ℕ) (buckets b place : ℕ) (o : Option ℕ) → IsLast hs buckets b place o →
    walk_left o < place + 1
walk_nearer hs buckets b place None last = omega arith
walk_nearer hs buckets b place (Some p) last = let before : p < place = last.0 in omega (arith, before)

module _ {T V P Q R F : Type 0} (f : Facts T V P Q R F) (equal : SameIsEqual f) where
  named_hash : (task : T) (o : Option T) → names f task o ≡ true → hash_of f o ≡ f.hash task
  named_hash task None is = absurd (true≢false (sym is))
  named_hash task (Some other) is = ap f.hash ((equal other task).0 is)

  first_named : (task : T) (value : V) (o : Option T) (rest : List (T × V)) → names f task o ≡ true →
      (lookup f task (with_value value o ++ rest) ≡ Some value) × (is_in f task (with_value value o ++ rest) ≡ true)
  first_named task value None rest is = absurd (true≢false (sym is))
  first_named task value (Some other) rest is =
      (ap (λ b. if b then Some value else lookup f task rest) is, or_left _ _ is)

module _ {M T V P Q R F : Type 0} (f : Facts T V P Q R F) (equal : SameIsEqual f) where
  -- a fact of another bucket is of another task
  other_bucket : (hs : List ℕ) (buckets : ℕ) (es : List (Entry M T V P Q R F)) (fs : List (Fact M T V P Q R F))
      (task : T) (i : ℕ) → hs ≡ hashes_of f es fs → bucket hs buckets i ≢ f.hash task % buckets →
      names f task (task_at es fs i) ≡ false
  other_bucket hs buckets es fs task i hashed other =
      not_true f equal (names f task (task_at es fs i)) (λ same.
      other (ap (λ h. h % buckets) (ap (λ xs. slice_index xs i) hashed
      ∙ (hash_at f es fs i ∙ named_hash f equal task (task_at es fs i) same))))

  -- the walk goes on to the last place of the bucket before those that it has passed
  pub walk_on : (hs : List ℕ) (buckets below : ℕ) (es : List (Entry M T V P Q R F)) (fs : List (Fact M T V P Q R F))
      (task : T) (o : Option ℕ) → hs ≡ hashes_of f es fs → below ≤ length fs → Unseen f es fs task below →
      IsLast hs buckets (f.hash task % buckets) below o → Walks f hs buckets es fs task o
  walk_on hs buckets below es fs task None hashed within unseen last = λ i from under.
      elim (cases_lt i below) [
        | inl before ↦ other_bucket hs buckets es fs task i hashed (last i before)
        | inr after ↦ unseen i after under
      ]
  walk_on hs buckets below es fs task (Some place) hashed within unseen last =
      let before : place < below = last.0 in (
        omega (arith, before, within),
        (
          last.1,
          λ i from under.
              elim (cases_lt i below) [
                | inl lower ↦ other_bucket hs buckets es fs task i hashed (last.2 i (omega (arith, from)) lower)
                | inr after ↦ unseen i after under
              ],
        ),
      )

  -- the walk begins at the last place of the bucket
  pub walk_first : (hs : List ℕ) (buckets : ℕ) (es : List (Entry M T V P Q R F)) (fs : List (Fact M T V P Q R F))
      (task : T) (o : Option ℕ) (hash : ℕ) → hs ≡ hashes_of f es fs → hash ≡ f.hash task →
      IsLast hs buckets (hash % buckets) (length hs) o → Walks f hs buckets es fs task o
  walk_first hs buckets es fs task o hash hashed is last =
      let even : length hs ≡ length fs = ap length hashed ∙ hashes-length f es fs in
      walk_on hs buckets (length hs) es fs task o hashed (omega (arith, even))
      (λ i from under. absurd (omega (arith, from, under, even)))
      (subst (λ h. IsLast hs buckets (h % buckets) (length hs) o) is last)

  -- a place that isn't the task's is passed
  pub walk_past : (hs : List ℕ) (buckets place : ℕ) (es : List (Entry M T V P Q R F))
      (fs : List (Fact M T V P Q R F)) (task : T) (o : Option ℕ) → hs ≡ hashes_of f es fs →
      Walks f hs buckets es fs task (Some place) → names f task (task_at es fs place) ≡ false →
      IsLast hs buckets (bucket hs buckets place) place o → Walks f hs buckets es fs task o
  walk_past hs buckets place es fs task o hashed walks apart last =
      let within : place < length fs = walks.0 in
      walk_on hs buckets place es fs task o hashed (omega (arith, within))
      (λ i from under. elim (cases_lt place i) [
        | inl later ↦ walks.1.1 i (omega (arith, later)) under
        | inr before ↦
            let here : place ≡ i = omega (arith, from, before) in
            subst (λ j. names f task (task_at es fs j) ≡ false) here apart
      ])
      (subst (λ b. IsLast hs buckets b place o) walks.1.0 last)

  -- WHAT IS FOUND

  -- the task of a fact, read by its place
  pub task_at_place : (es : List (Entry M T V P Q R F)) (fs : List (Fact M T V P Q R F)) (i : ℕ)
      (d : Fact M T V P Q R F) → i < length fs → task_at es fs i ≡ fact_task es (slice_index_or fs i d)
  task_at_place es [] i d below = absurd (omega (arith, below))
  task_at_place es (x ∷ fs) zero d below = refl
  task_at_place es (x ∷ fs) (suc i) d below = task_at_place es fs i d (omega (arith, below))

  -- a table without the task
  pub lookup_none : (es : List (Entry M T V P Q R F)) (fs : List (Fact M T V P Q R F)) (task : T) →
      ((i : ℕ) → i < length fs → names f task (task_at es fs i) ≡ false) →
      (lookup f task (table_of es fs) ≡ None) × (is_in f task (table_of es fs) ≡ false)
  lookup_none es [] task none = (refl, refl)
  lookup_none es (x ∷ fs) task none =
      by (fact_task es x) (none zero (omega arith))
      (lookup_none es fs task (λ i under. none (suc i) (omega (arith, under))))
    where
      by : (o : Option T) → names f task o ≡ false →
          (lookup f task (table_of es fs) ≡ None) × (is_in f task (table_of es fs) ≡ false) →
          (lookup f task (with_value x.value o ++ table_of es fs) ≡ None)
          × (is_in f task (with_value x.value o ++ table_of es fs) ≡ false)
      by None is later = later
      by (Some other) is later = (
        ap (λ b. if b then Some x.value else lookup f task (table_of es fs)) is ∙ later.0,
        ap (λ b. b || is_in f task (table_of es fs)) is ∙ later.1,
      )

  -- a table in which the fact at a place is of the task
  pub lookup_found : (es : List (Entry M T V P Q R F)) (fs : List (Fact M T V P Q R F)) (task : T) (i : ℕ)
      (fact : Fact M T V P Q R F) → AllApart f (table_of es fs) → i < length fs →
      names f task (task_at es fs i) ≡ true → fact ≡ slice_index_or fs i fact →
      (lookup f task (table_of es fs) ≡ Some fact.value) × (is_in f task (table_of es fs) ≡ true)
  lookup_found es [] task i fact apart below named is = absurd (omega (arith, below))
  lookup_found es (x ∷ fs) task zero fact apart below named is =
      let first = first_named f equal task x.value (fact_task es x) (table_of es fs) named in
      (first.0 ∙ ap (λ (y : Fact M T V P Q R F). Some y.value) (sym is), first.1)
  lookup_found es (x ∷ fs) task (suc i) fact apart below named is =
      by (fact_task es x) apart (λ later. lookup_found es fs task i fact later (omega (arith, below)) named is)
    where
      by : (o : Option T) → AllApart f (with_value x.value o ++ table_of es fs) →
          (AllApart f (table_of es fs) →
          (lookup f task (table_of es fs) ≡ Some fact.value) × (is_in f task (table_of es fs) ≡ true)) →
          (lookup f task (with_value x.value o ++ table_of es fs) ≡ Some fact.value)
          × (is_in f task (with_value x.value o ++ table_of es fs) ≡ true)
      by None one later = later one
      by (Some other) one later =
          let found = later one.1 in
          let different : f.same_task other task ≡ false = not_true f equal (f.same_task other task) (λ same.
          true≢false (sym found.1 ∙ (ap (λ t. is_in f t (table_of es fs)) (sym ((equal other task).0 same))
          ∙ one.0))) in (
            ap (λ b. if b then Some x.value else lookup f task (table_of es fs)) different ∙ found.0,
            or_right (f.same_task other task) _ found.1,
          )

  -- the walk stands at a place
  pub walk_here : (hs : List ℕ) (buckets place : ℕ) (es : List (Entry M T V P Q R F)) (fs : List (Fact M T V P Q R F))
      (task : T) (o : Option ℕ) → Walks f hs buckets es fs task o → o ≡ Some place →
      Walks f hs buckets es fs task (Some place)
  walk_here hs buckets place es fs task o walks is = subst (Walks f hs buckets es fs task) is walks

-- a task is in the table exactly where it has a value there
pub is_in_lookup : {T V P Q R F : Type 0} (f : Facts T V P Q R F) (task : T) (pairs : List (T × V)) →
    is_some (lookup f task pairs) ≡ is_in f task pairs
is_in_lookup f task [] = refl
is_in_lookup f task (pair ∷ pairs) = by (f.same_task pair.0 task) refl (is_in_lookup f task pairs)
  where
    by : (b : Bool) → f.same_task pair.0 task ≡ b → is_some (lookup f task pairs) ≡ is_in f task pairs →
        is_some (lookup f task (pair ∷ pairs)) ≡ is_in f task (pair ∷ pairs)
    by true is later =
        ap (λ b. is_some (if b then Some pair.1 else lookup f task pairs)) is
        ∙ sym (ap (λ b. b || is_in f task pairs) is)
    by false is later =
        ap (λ b. is_some (if b then Some pair.1 else lookup f task pairs)) is
        ∙ (later ∙ sym (ap (λ b. b || is_in f task pairs) is))

-- what is there stays when it is mapped
pub map_some : {A B : Type 0} (g : A → B) (o : Option A) → is_some (option_map g o) ≡ is_some o
map_some g None = refl
map_some g (Some x) = refl

-- the table of a legal history has no task twice
pub apart_after : {M T V P Q R F : Type 0} (f : Facts T V P Q R F) (equal : SameIsEqual f) (n : ℕ)
    (s : State M T V P Q R F) → IsAfter f n s → AllApart f s.table
apart_after f equal n s is =
    subst (λ x. AllApart f x.table) (sym is.state) (keeps_after f equal n s.history is.legal).table.1

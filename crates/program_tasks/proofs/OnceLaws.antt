-- Tasks of definitions by places are the tasks of each constant once.
use Rattle.std.proofs.Common.{◌≡◌, ℕ, zero, suc, ◌+◌, ◌<◌, Bool, true, false, not, ◌&&◌, ◌||◌, ◌==◌, cond, List, []}
use Rattle.std.proofs.Common.{◌∷◌}
use Rattle.std.proofs.Common.{◌++◌, map, filter, flat_map, Option, Some, None, is_some, length, refl, sym, ap, ◌∙◌}
use Rattle.std.proofs.Common.{subst}
use Rattle.std.proofs.Common.{arith, inl, inr}
use Rattle.std.specs.List.{list_any}
use Rattle.std.specs.Option.{option_map}
use Rattle.std.proofs.lemmas.Bool.{false≢true, or_parts, eq-eqb, ne_eqb}
use Rattle.std.proofs.lemmas.Bool.Decides.{eqb_tells}
use Rattle.ruby_types.specs.declared.request.Task.{Task}
use Rattle.program_places.specs.Paths.{Path, same_path}
use Rattle.program_files.specs.Entries.{Entry}
use Rattle.program_files.specs.Files.{is_above}
use Rattle.program_files.specs.Faults.{Kind, a_module, a_class, a_value, is_definition, kind_of, kind_in, or_kind}
use Rattle.program_files.specs.Tasks.{without, once, kind_tasks}
use Rattle.program_files.proofs.Paths.{path_decides, path_itself}
use Rattle.program_constants.specs.Constants.{first_place}
use Rattle.program_faults.specs.Read.{own_kind}
use Rattle.program_faults.specs.declared.own.OwnKind.{OwnKind}
use Rattle.program_tasks.specs.Placed.{own_tasks, is_at, kept_tasks, placed_tasks, inner_of}

abbrev constants : List Entry → List Path
constants es = map (λ e. e.constant) es

abbrev kind_by : Entry → OwnKind
kind_by e = own_kind (kind_of e)

abbrev kinds : List Entry → List OwnKind
kinds es = map kind_by es

-- the path is one of these constants
abbrev stands : Path → List Path → Bool
stands p ps = list_any (λ s. same_path s p) ps

-- ---- tests over lists

module _ {A : Type 0} where
  filter_same : (f g : A → Bool) (xs : List A) → ((x : A) → f x ≡ g x) → filter f xs ≡ filter g xs
  filter_same f g [] h = refl
  filter_same f g (x ∷ xs) h = rw (h x) (ap (λ ys. cond (g x) (x ∷ ys) ys) (filter_same f g xs h))

  filter_twice_at : (f g : A → Bool) (x : A) (ys zs : List A) (a : Bool) → f x ≡ a → filter g ys ≡ zs →
      filter g (cond a (x ∷ ys) ys) ≡ cond (a && g x) (x ∷ zs) zs
  filter_twice_at f g x ys zs true e h = ap (λ ws. cond (g x) (x ∷ ws) ws) h
  filter_twice_at f g x ys zs false e h = h

  filter_twice : (f g : A → Bool) (xs : List A) → filter g (filter f xs) ≡ filter (λ x. f x && g x) xs
  filter_twice f g [] = refl
  filter_twice f g (x ∷ xs) =
      filter_twice_at f g x (filter f xs) (filter (λ y. f y && g y) xs) (f x) refl (filter_twice f g xs)

  filter_none : (f : A → Bool) (xs : List A) → ((x : A) → f x ≡ true) → filter f xs ≡ xs
  filter_none f [] h = refl
  filter_none f (x ∷ xs) h = rw (h x) (ap (λ ys. x ∷ ys) (filter_none f xs h))

  any_one_more : (f : A → Bool) (xs : List A) (y : A) → list_any f (xs ++ y ∷ []) ≡ (f y || list_any f xs)
  any_one_more f [] y = refl
  any_one_more f (x ∷ xs) y = rw (any_one_more f xs y) (swapped (f x) (f y) (list_any f xs)) where
    swapped : (a b c : Bool) → (a || (b || c)) ≡ (b || (a || c))
    swapped true true c = refl
    swapped true false c = refl
    swapped false true c = refl
    swapped false false c = refl

  append_one : (xs : List A) (y : A) (ys : List A) → (xs ++ y ∷ []) ++ ys ≡ xs ++ y ∷ ys
  append_one [] y ys = refl
  append_one (x ∷ xs) y ys = ap (λ zs. x ∷ zs) (append_one xs y ys)

  length_one_more : (xs : List A) (y : A) → length (xs ++ y ∷ []) ≡ suc (length xs)
  length_one_more [] y = refl
  length_one_more (x ∷ xs) y = ap suc (length_one_more xs y)

  flat_same : {B : Type 0} (f g : A → List B) (xs : List A) → ((x : A) → f x ≡ g x) → flat_map f xs ≡ flat_map g xs
  flat_same f g [] h = refl
  flat_same f g (x ∷ xs) h = rw (h x) (ap (λ ys. g x ++ ys) (flat_same f g xs h))

map_append : (xs ys : List Entry) → constants (xs ++ ys) ≡ constants xs ++ constants ys
map_append [] ys = refl
map_append (x ∷ xs) ys = ap (λ zs. x.constant ∷ zs) (map_append xs ys)

length_constants : (xs : List Entry) → length (constants xs) ≡ length xs
length_constants [] = refl
length_constants (x ∷ xs) = ap suc (length_constants xs)

-- ---- first places

suc_same : (m n : ℕ) → (suc m == suc n) ≡ (m == n)
suc_same m n = elim (eqb_tells m n) [
  | inl t ↦ eq-eqb (suc m) (suc n) (ap suc t.1) ∙ sym t.0
  | inr f ↦ ne_eqb (suc m) (suc n) (λ e. f.1 (omega (arith, e))) ∙ sym f.0
]

is_at_suc : (o : Option ℕ) (n : ℕ) → is_at (option_map suc o) (suc n) ≡ is_at o n
is_at_suc None n = refl
is_at_suc (Some m) n = suc_same m n

never_before : (n : ℕ) → (0 == suc n) ≡ false
never_before n = ne_eqb 0 (suc n) (λ e. absurd (omega (arith, e)))

is_at_step : (o : Option ℕ) (n : ℕ) (b : Bool) → is_at (cond b (Some 0) (option_map suc o)) (suc n)
    ≡ (not b && is_at o n)
is_at_step o n true = never_before n
is_at_step o n false = is_at_suc o n

-- a path is first behind those that lack it, and not behind those that have it
first_behind : (p : Path) (ss ps : List Path) → is_at (first_place p (ss ++ p ∷ ps)) (length ss) ≡ not (stands p ss)
first_behind p [] ps = rw (path_itself p) refl
first_behind p (s ∷ ss) ps =
    is_at_step (first_place p (ss ++ p ∷ ps)) (length ss) (same_path s p)
    ∙ ap (λ b. not (same_path s p) && b) (first_behind p ss ps) ∙ both (same_path s p) (stands p ss) where
      both : (a b : Bool) → (not a && not b) ≡ not (a || b)
      both true b = refl
      both false b = refl

-- ---- kinds

kind_behind : (p : Path) (ss es : List Entry) → stands p (constants ss) ≡ false → kind_in (ss ++ es) p ≡ kind_in es p
kind_behind p [] es h = refl
kind_behind p (s ∷ ss) es h =
    let parts = or_parts (same_path s.constant p) (stands p (constants ss)) h in
    rw parts.0 (kind_behind p ss es parts.1)

kind_there : (o other : Option Kind) → is_some o ≡ true → or_kind o other ≡ o
kind_there None other h = absurd (false≢true h)
kind_there (Some k) other h = refl

kind_here : (e : Entry) (es : List Entry) → is_definition e ≡ true → kind_in (e ∷ es) e.constant ≡ kind_of e
kind_here e es h = rw (path_itself e.constant) (kind_there (kind_of e) (kind_in es e.constant) h)

-- each of these entries defines its constant
abbrev AllDefine : List Entry → Type 0
AllDefine [] = Unit {0}
AllDefine (e ∷ es) = (is_definition e ≡ true) × AllDefine es

defined_at : (e : Entry) (es : List Entry) (b : Bool) → is_definition e ≡ b → AllDefine es →
    AllDefine (cond b (e ∷ es) es)
defined_at e es true h all = (h, all)
defined_at e es false h all = all

all_defined : (es : List Entry) → AllDefine (filter is_definition es)
all_defined [] = tt
all_defined (e ∷ es) = defined_at e (filter is_definition es) (is_definition e) refl (all_defined es)

kind_kept_at : (e : Entry) (p : Path) (o : Option Kind) (k : Option Kind) (rest es : List Entry) → kind_of e ≡ o →
    kind_in rest p ≡ kind_in es p → kind_in (cond (is_some o) (e ∷ rest) rest) p ≡ kind_in (e ∷ es) p
kind_kept_at e p None k rest es h ih = ih ∙ passes (same_path e.constant p) where
  passes : (b : Bool) → kind_in es p ≡ cond b (or_kind (kind_of e) (kind_in es p)) (kind_in es p)
  passes true = sym (ap (λ x. or_kind x (kind_in es p)) h)
  passes false = refl
kind_kept_at e p (Some j) k rest es h ih =
    ap (λ x. cond (same_path e.constant p) (or_kind (kind_of e) x) x) ih

-- the entries that define something say all kinds
kind_kept : (es : List Entry) (p : Path) → kind_in (filter is_definition es) p ≡ kind_in es p
kind_kept [] p = refl
kind_kept (e ∷ es) p = kind_kept_at e p (kind_of e) (kind_of e) (filter is_definition es) es refl (kind_kept es p)

constants_kept_at : (e : Entry) (es : List Entry) (ps : List Path) (b : Bool) → constants es ≡ ps →
    constants (cond b (e ∷ es) es) ≡ cond b (e.constant ∷ []) [] ++ ps
constants_kept_at e es ps true h = ap (λ qs. e.constant ∷ qs) h
constants_kept_at e es ps false h = h

constants_kept : (es : List Entry) → constants (filter is_definition es)
    ≡ flat_map (λ e. cond (is_definition e) (e.constant ∷ []) []) es
constants_kept [] = refl
constants_kept (e ∷ es) = constants_kept_at e (filter is_definition es)
    (flat_map (λ e. cond (is_definition e) (e.constant ∷ []) []) es) (is_definition e) (constants_kept es)

-- ---- tasks

tasks_of_kind : (p : Path) (o : Option Kind) → own_tasks p (own_kind o) ≡ kind_tasks p o
tasks_of_kind p None = refl
tasks_of_kind p (Some a_module) = refl
tasks_of_kind p (Some a_class) = refl
tasks_of_kind p (Some (a_value x scopes)) = refl

module _ (c : Path) where
  -- a path that isn't above the constant
  abbrev inside : Path → Bool
  inside p = not (is_above p c)

  -- the tasks of a constant as all entries define it
  abbrev tasks_in : List Entry → Path → List Task
  tasks_in all p = own_tasks p (own_kind (kind_in all p))

  -- the constants of these entries that don't stand among earlier ones, each once
  abbrev new_ones : List Path → List Entry → List Path
  new_ones earlier es = filter (λ p. not (stands p earlier)) (once (constants es))

  kept_new_at : (all : List Entry) (p : Path) (k : OwnKind) (rest : List Path) (ts : List Task) (a b : Bool) →
      inside p ≡ b → (a ≡ true → own_kind (kind_in all p) ≡ k) → ts ≡ flat_map (tasks_in all) (filter inside rest) →
      cond (a && b) (own_tasks p k) [] ++ ts
      ≡ flat_map (tasks_in all) (filter inside (cond a (p ∷ rest) rest))
  kept_new_at all p k rest ts true true e same h =
      ap (λ j. own_tasks p j ++ ts) (sym (same refl)) ∙ ap (λ us. tasks_in all p ++ us) h
      ∙ sym (ap (λ x. flat_map (tasks_in all) (cond x (p ∷ filter inside rest) (filter inside rest))) e)
  kept_new_at all p k rest ts true false e same h =
      h ∙ sym (ap (λ x. flat_map (tasks_in all) (cond x (p ∷ filter inside rest) (filter inside rest))) e)
  kept_new_at all p k rest ts false b e same h = h

  same_step : (earlier : List Entry) (e : Entry) (es : List Entry) →
      filter (λ p. not (stands p (constants earlier))) (without e.constant (once (constants es)))
      ≡ new_ones (constants (earlier ++ e ∷ [])) es
  same_step earlier e es =
      filter_twice (λ q. not (same_path e.constant q)) (λ p. not (stands p (constants earlier))) (once (constants es))
      ∙ filter_same (λ q. not (same_path e.constant q) && not (stands q (constants earlier)))
      (λ q. not (stands q (constants (earlier ++ e ∷ [])))) (once (constants es))
      (λ q. both (same_path e.constant q) (stands q (constants earlier))
      ∙ ap not (sym (any_one_more (λ s. same_path s q) (constants earlier) e.constant))
      ∙ ap (λ ps. not (stands q ps)) (sym (map_append earlier (e ∷ [])))) where
        both : (a b : Bool) → (not a && not b) ≡ not (a || b)
        both true b = refl
        both false b = refl

  -- the tasks of these entries behind these earlier ones are those of their new constants
  abbrev PlacedBehind : (earlier es : List Entry) → Type 0
  PlacedBehind earlier es =
      placed_tasks c (constants (earlier ++ es)) (length earlier) (constants es) (kinds es)
      ≡ flat_map (tasks_in (earlier ++ es)) (filter inside (new_ones (constants earlier) es))

  first_new : (earlier : List Entry) (e : Entry) (es : List Entry) →
      is_at (first_place e.constant (constants (earlier ++ e ∷ es))) (length earlier)
      ≡ not (stands e.constant (constants earlier))
  first_new earlier e es =
      ap (λ ps. is_at (first_place e.constant ps) (length earlier)) (map_append earlier (e ∷ es))
      ∙ ap (is_at (first_place e.constant (constants earlier ++ e.constant ∷ constants es)))
      (sym (length_constants earlier))
      ∙ first_behind e.constant (constants earlier) (constants es)

  missing : (b : Bool) → not b ≡ true → b ≡ false
  missing true h = absurd (false≢true h)
  missing false h = refl

  kind_new : (earlier : List Entry) (e : Entry) (es : List Entry) → is_definition e ≡ true →
      not (stands e.constant (constants earlier)) ≡ true →
      own_kind (kind_in (earlier ++ e ∷ es) e.constant) ≡ kind_by e
  kind_new earlier e es defines new =
      ap own_kind (kind_behind e.constant earlier (e ∷ es) (missing (stands e.constant (constants earlier)) new)
      ∙ kind_here e es defines)

  tasks_behind : (earlier : List Entry) (e : Entry) (es : List Entry) → PlacedBehind (earlier ++ e ∷ []) es →
      placed_tasks c (constants (earlier ++ e ∷ es)) (suc (length earlier)) (constants es) (kinds es)
      ≡ flat_map (tasks_in (earlier ++ e ∷ es))
      (filter inside (filter (λ p. not (stands p (constants earlier))) (without e.constant (once (constants es)))))
  tasks_behind earlier e es ih =
      ap (λ xs. placed_tasks c (constants xs) (suc (length earlier)) (constants es) (kinds es))
      (sym (append_one earlier e es))
      ∙ ap (λ n. placed_tasks c (constants ((earlier ++ e ∷ []) ++ es)) n (constants es) (kinds es))
      (sym (length_one_more earlier e))
      ∙ ih
      ∙ ap (λ xs. flat_map (tasks_in xs) (filter inside (new_ones (constants (earlier ++ e ∷ [])) es)))
      (append_one earlier e es)
      ∙ ap (λ ps. flat_map (tasks_in (earlier ++ e ∷ es)) (filter inside ps)) (sym (same_step earlier e es))

  placed_step : (earlier : List Entry) (e : Entry) (es : List Entry) → is_definition e ≡ true →
      PlacedBehind (earlier ++ e ∷ []) es → PlacedBehind earlier (e ∷ es)
  placed_step earlier e es defines ih =
      ap (λ b. cond (b && inside e.constant) (own_tasks e.constant (kind_by e)) []
      ++ placed_tasks c (constants (earlier ++ e ∷ es)) (suc (length earlier)) (constants es) (kinds es))
      (first_new earlier e es)
      ∙ kept_new_at (earlier ++ e ∷ es) e.constant (kind_by e)
      (filter (λ p. not (stands p (constants earlier))) (without e.constant (once (constants es))))
      (placed_tasks c (constants (earlier ++ e ∷ es)) (suc (length earlier)) (constants es) (kinds es))
      (not (stands e.constant (constants earlier))) (inside e.constant) refl
      (kind_new earlier e es defines) (tasks_behind earlier e es ih)

  placed_behind : (earlier es : List Entry) → AllDefine es → PlacedBehind earlier es
  placed_behind earlier [] all = refl
  placed_behind earlier (e ∷ es) all =
      placed_step earlier e es all.0 (placed_behind (earlier ++ e ∷ []) es all.1)

  -- the tasks of definitions by places are those of each constant once
  pub placed_once : (es : List Entry) →
      placed_tasks c (constants (filter is_definition es)) 0 (constants (filter is_definition es))
      (kinds (filter is_definition es)) ≡ inner_of c es
  placed_once es =
      placed_behind [] (filter is_definition es) (all_defined es)
      ∙ ap (λ ps. flat_map (tasks_in (filter is_definition es)) (filter inside ps))
      (filter_none (λ p. not (stands p [])) (once (constants (filter is_definition es))) (λ p. refl))
      ∙ ap (λ ps. flat_map (tasks_in (filter is_definition es)) (filter inside (once ps))) (constants_kept es)
      ∙ flat_same (tasks_in (filter is_definition es)) (λ p. kind_tasks p (kind_in es p))
      (filter inside (once (flat_map (λ e. cond (is_definition e) (e.constant ∷ []) []) es)))
      (λ p. ap (λ o. own_tasks p (own_kind o)) (kind_kept es p) ∙ tasks_of_kind p (kind_in es p))

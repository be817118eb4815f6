-- Steps one after another: what comes after the one is the other.
use Rattle.std.proofs.Common.{◌≡◌, ◌<◌, ◌≤◌, ℕ, zero, suc, Bool, true, false, List, [], ◌∷◌, ◌++◌, Option, Some}
use Rattle.std.proofs.Common.{None, refl, sym, ap, subst, ◌∙◌, arith, ◌+◌, drop, length, add-one}
use Rattle.std.specs.Prelude.{Result, Ok, Err, if◌then◌else◌, slice_get}
use Rattle.std.specs.Option.{unwrap_or}
use Rattle.std.proofs.lemmas.Option.{none-some, get_or_from_slice_get}
use Rattle.std.proofs.Math.Seq.{drop-cons, drop-nil}
use Rattle.ruby_machine_names.specs.declared.search.Outer.{Outer}
use Rattle.ruby_machine_names.specs.declared.search.Outer.TheVariants as outer
use Rattle.by_need.specs.Asking.{Gives, Ask, Error}
use Rattle.program_places.specs.Paths.{Name, Path}
use Rattle.program_places.specs.Places.{Index, Place}
use Rattle.ruby_types.specs.declared.value.Value.{Value}
use Rattle.ruby_types.specs.declared.request.Task.{Task}
use Rattle.ruby_runs.specs.Doing.{Doing, Going, Here, pure, ◌>>=◌}
use Rattle.ruby_runs.specs.Names as spec
use Rattle.ruby_runs.specs.Names.{Found}
use Rattle.ruby_machine_names.specs.declared.here.Failure.{Failure}
use Rattle.ruby_machine_names.specs.declared.here.Failure.TheVariants as failure
use Rattle.ruby_machine_names.specs.Profile.{profile}
use Rattle.ruby_machine_names.specs.declared.names.Awaited.{Awaited}
use Rattle.ruby_machine_names.specs.declared.names.FoundCode.{FoundCode}
use Rattle.ruby_machine_names.specs.declared.names.PathStep.{PathStep}
use Rattle.ruby_machine_names.specs.declared.names.PathStep.TheVariants as path_step
use Rattle.ruby_machine_names.specs.declared.names.NameStep.{NameStep}
use Rattle.ruby_machine_names.specs.declared.names.NameStep.TheVariants as name_step
use Rattle.ruby_machine_names.specs.declared.resolving.NameWait.{NameWait}
use Rattle.ruby_machine_names.specs.declared.resolving.Resolving.{Resolving}
use Rattle.ruby_machine_names.specs.declared.resolving.Resolving.TheVariants as resolving
use Rattle.ruby_machine_names.specs.Names as names
use Rattle.ruby_machine_names.specs.Names.{found_of}
use Rattle.ruby_machine_names.specs.Steps.{Ends, Settles, EndsAt, ComesTo, AsksFor, PathGoes, NameGoes, WholeGoes}
use Rattle.ruby_machine_names.specs.Steps.{IsWait}

module _ {A B : Type 0} (d : Doing A) (f : A → Doing B) where
  -- what settles first leaves the rest
  pub settled_then : (a : A) → Settles d (Ok a) → (turns : ℕ) (go : Going B) → (d >>= f) turns go ≡ f a turns go
  settled_then a s turns go = s turns (λ b left. f b left go)

  -- what ends first ends all
  pub ends_then : (e : Failure) → Ends d e → Ends (d >>= f) e
  ends_then (failure.Raised error) s = λ turns go. s turns (λ b left. f b left go)
  ends_then failure.Memory s = tt

  -- the same with so many turns
  pub EndsAt_then : (old : ℕ) (e : Failure) → EndsAt d old e → EndsAt (d >>= f) old e
  EndsAt_then old (failure.Raised error) s = λ go. s (λ b left. f b left go)
  EndsAt_then old failure.Memory s = tt

-- what ends with any turns ends with these
pub ends_at : {A : Type 0} (d : Doing A) (old : ℕ) (e : Failure) → Ends d e → EndsAt d old e
ends_at d old (failure.Raised error) s = λ go. s old go
ends_at d old failure.Memory s = tt

module _ (index : Index) (name : Name) (scope : Path) (scopes : List Path) where
  -- the first scope has the name
  pub search_found : (path : Path) → path ≡ scope ++ name ∷ [] →
      Settles (spec.own_at index profile (index.place scope) (spec.is_there (index.place path))) (Ok true) →
      (turns : ℕ) (go : Going (Option Path)) → spec.search index profile name (scope ∷ scopes) turns go ≡ go (Some
      path) turns
  search_found path is s turns go = rw is ((rw is at s) turns _)

  -- the first scope hasn't the name
  pub search_goes_on : (path : Path) → path ≡ scope ++ name ∷ [] →
      Settles (spec.own_at index profile (index.place scope) (spec.is_there (index.place path))) (Ok false) →
      (turns : ℕ) (go : Going (Option Path)) → spec.search index profile name (scope ∷ scopes) turns go
      ≡ spec.search index profile name scopes turns go
  search_goes_on path is s turns go = (rw is at s) turns _

  -- the file of the first scope is at fault
  pub search_fails : (path : Path) (e : Failure) → path ≡ scope ++ name ∷ [] →
      Ends (spec.own_at index profile (index.place scope) (spec.is_there (index.place path))) e →
      Ends (spec.search index profile name (scope ∷ scopes)) e
  search_fails path (failure.Raised error) is s = λ turns go. (rw is at s) turns _
  search_fails path failure.Memory is s = tt

module _ {A : Type 0} (d d' : Doing A) (old old' : ℕ) (same : (go : Going A) → d old go ≡ d' old' go) where
  -- what ends the later part ends the whole
  pub EndsAt_from : (e : Failure) → EndsAt d' old' e → EndsAt d old e
  EndsAt_from (failure.Raised error) s = λ go. same go ∙ s go
  EndsAt_from failure.Memory s = tt

  -- what the later part comes to the whole comes to
  pub ComesTo_from : (a : A) (new : ℕ) → old' ≤ old → ComesTo d' old' a new → ComesTo d old a new
  ComesTo_from a new le s = (λ go. same go ∙ s.0 go, omega (arith, le, s.1))

  -- what the later part asks for the whole asks for
  pub AsksFor_from : (later : Value → Doing A) (task : Task) (new : ℕ) → old' ≤ old →
      AsksFor later d' old' task new → AsksFor later d old task new
  AsksFor_from later task new le s = (λ go. same go ∙ s.0 go, omega (arith, le, s.1))

-- looking a name up goes on as its later part does
pub PathGoes_from : (later : Value → Doing Path) (d d' : Doing Path) (old old' : ℕ) (r : Result PathStep Failure)
    (new : ℕ) →
    ((go : Going Path) → d old go ≡ d' old' go) → old' ≤ old → PathGoes later d' old' r new → PathGoes later d old r new
PathGoes_from later d d' old old' (Ok (path_step.Gives path)) new same le k = ComesTo_from d d' old old' same path
    new le k
PathGoes_from later d d' old old' (Ok (path_step.Asks task)) new same le k =
    AsksFor_from d d' old old' same later task new le k
PathGoes_from later d d' old old' (Err f) new same le k = EndsAt_from d d' old old' same f k

-- referring to a name goes on as its later part does
pub NameGoes_from : (later : Awaited → Value → Doing Found) (d d' : Doing Found) (old old' : ℕ)
    (r : Result NameStep Failure) (new : ℕ) → ((go : Going Found) → d old go ≡ d' old' go) → old' ≤ old →
    NameGoes later d' old' r new → NameGoes later d old r new
NameGoes_from later d d' old old' (Ok (name_step.Gives found)) new same le k =
    ComesTo_from d d' old old' same (found_of found) new le k
NameGoes_from later d d' old old' (Ok (name_step.Asks task awaited)) new same le k =
    AsksFor_from d d' old old' same (later awaited) task new le k
NameGoes_from later d d' old old' (Err f) new same le k = EndsAt_from d d' old old' same f k

-- resolving a constant goes on as its later part does
pub WholeGoes_from : (later : NameWait → Value → Doing Found) (d d' : Doing Found) (old old' : ℕ)
    (r : Result Resolving Failure) (new : ℕ) → ((go : Going Found) → d old go ≡ d' old' go) → old' ≤ old →
    WholeGoes later d' old' r new → WholeGoes later d old r new
WholeGoes_from later d d' old old' (Ok (resolving.Found found)) new same le k =
    ComesTo_from d d' old old' same (found_of found) new le k
WholeGoes_from later d d' old old' (Ok (resolving.Asks task wait)) new same le k =
    AsksFor_from d d' old old' same (later wait) task new le k
WholeGoes_from later d d' old old' (Err f) new same le k = EndsAt_from d d' old old' same f k

-- a search that is settled, and what it falls back to
module _ (index : Index) (s : Doing (Option Path)) (other : Doing Path) where
  -- the search with what it falls back to
  abbrev pub or_other : Doing Path
  or_other = s >>= (λ found. spec.or_else index profile found other)

  -- a path that was found settles it
  pub found_settles : (path : Path) → Settles s (Ok (Some path)) → Settles or_other (Ok path)
  found_settles path k = λ turns go. k turns (λ found left. spec.or_else index profile found other left go)

  -- a failure ends it
  pub failure_settles : (f : Failure) → Settles s (Err f) → Settles or_other (Err f)
  failure_settles f k = ends_then s (λ found. spec.or_else index profile found other) f k

  -- without one the rest settles it
  pub other_settles : (r : Result Path Failure) → Settles s (Ok None) → Settles other r → Settles or_other r
  other_settles (Ok path) k l = λ turns go. k turns (λ found left. spec.or_else index profile found other left go) ∙
      l turns go
  other_settles (Err (failure.Raised error)) k l =
      λ turns go. k turns (λ found left. spec.or_else index profile found other left go) ∙ l turns go
  other_settles (Err failure.Memory) k l = tt

  module _ (later : Value → Doing Path) (old : ℕ) where
    -- a path that was found is what the whole comes to
    pub found_goes : (path : Path) → Settles s (Ok (Some path)) → PathGoes later or_other old (Ok (path_step.Gives
        path)) old
    found_goes path k = (λ go. found_settles path k old go, omega arith)

    -- a failure ends the whole
    pub failure_goes : (f : Failure) → Settles s (Err f) → PathGoes later or_other old (Err f) old
    failure_goes f k = ends_at or_other old f (failure_settles f k)

    -- without one the rest goes on
    pub other_goes : (r : Result PathStep Failure) (new : ℕ) → Settles s (Ok None) → PathGoes later other old r new →
        PathGoes later or_other old r new
    other_goes r new k l =
        PathGoes_from later or_other other old old r new
        (λ go. k old (λ found left. spec.or_else index profile found other left go)) (omega arith) l

-- a step that settled, as a step with turns
pub settles_goes : (later : Value → Doing Path) (d : Doing Path) (turns : ℕ) (path : Path) → Settles d (Ok path) →
    PathGoes later d turns (Ok (path_step.Gives path)) turns
settles_goes later d turns path k = (λ go. k turns go, omega arith)

drop_past : {A : Type 0} (xs : List A) (n : ℕ) → length xs ≤ n → drop n xs ≡ []
drop_past [] n le = drop-nil n
drop_past (x ∷ xs) zero le = absurd (omega (arith, le))
drop_past (x ∷ xs) (suc n) le = drop_past xs n (omega (arith, le))

module _ (index : Index) (here : Here) where
  -- where nothing stands at the top level, the error ends the search
  pub top_missing : (told : Path) (name : Name) (e : Failure) → spec.is_there (index.place (name ∷ [])) ≡ false →
      Ends (spec.uninitialized {A = Path} here told) e → Ends (spec.at_top index profile here told name) e
  top_missing told name e is k =
      subst (λ b. Ends (if b then pure (name ∷ []) else spec.uninitialized here told) e) (sym is) k

  module _ (file : Name) (path : Path) (assigned : Bool) (old : ℕ) (r : Result NameStep Failure) (new : ℕ) where
    -- near its file a constant is asked for alone
    pub near_goes : spec.is_near index profile here.file file ≡ true →
        NameGoes (names.awaited index here) (spec.asked_constant index profile here path assigned) old r new →
        NameGoes (names.awaited index here) (names.refer_owned index here file path assigned) old r new
    near_goes is k = subst (λ b. NameGoes (names.awaited index here)
        (if b then spec.asked_constant index profile here path assigned else names.file_first index here file path
        assigned)
        old r new) (sym is) k

    -- elsewhere its file is asked for first
    pub far_goes : spec.is_near index profile here.file file ≡ false →
        NameGoes (names.awaited index here) (names.file_first index here file path assigned) old r new →
        NameGoes (names.awaited index here) (names.refer_owned index here file path assigned) old r new
    far_goes is k = subst (λ b. NameGoes (names.awaited index here)
        (if b then spec.asked_constant index profile here path assigned else names.file_first index here file path
        assigned)
        old r new) (sym is) k

  -- referring goes by what stands at the path
  pub refer_goes : (path : Path) (place : Place) (old : ℕ) (r : Result NameStep Failure) (new : ℕ) →
      index.place path ≡ place → NameGoes (names.awaited index here) (spec.refer_at index profile here path place)
      old r new →
      NameGoes (names.awaited index here) (spec.refer index profile here path) old r new
  refer_goes path place old r new is k =
      subst (λ p. NameGoes (names.awaited index here) (spec.refer_at index profile here path p) old r new) (sym is) k

  module _ (path : Path) (out : Outer) (name : Name) (later : Value → Doing Path) (old : ℕ) (r : Result PathStep
      Failure)
      (new : ℕ) where
    -- ancestors that aren't asked for are the path alone
    pub inherits_alone : names.AncestorsBy index path false →
        PathGoes later (names.after_ancestors index here out name (path ∷ [])) old r new →
        PathGoes later (names.inherits index here path out name) old r new
    inherits_alone by k = subst (λ d. PathGoes later (d >>= names.after_ancestors index here out name) old r new)
        (sym (by here)) k

  -- without code around, or without scopes, nothing is inherited
  pub inherited_without_code : (name : Name) (scopes : List Path) →
      spec.inherited_by index profile here false name scopes ≡ pure None
  inherited_without_code name [] = refl
  inherited_without_code name (scope ∷ scopes) = refl

  -- in code the innermost scope's ancestors are searched
  pub inherited_by_first : (name : Name) (scopes : List Path) (scope : Path) → slice_get scopes 0 ≡ Some scope →
      spec.inherited_by index profile here true name scopes ≡ spec.inherited index profile here true name scope
  inherited_by_first name [] scope is = absurd (none-some scope is)
  inherited_by_first name (first ∷ scopes) scope is =
      ap (spec.inherited index profile here true name) (ap (λ o. unwrap_or o []) is)

  -- a bare name by what its innermost scope inherits
  pub bare_goes : (later : Value → Doing Path) (in_code : Bool) (name : Name) (d : Doing (Option Path)) (old : ℕ)
      (r : Result PathStep Failure) (new : ℕ) → spec.inherited_by index profile here in_code name here.scopes ≡ d →
      PathGoes later (or_other index d (names.fallback index here outer.Scopes name)) old r new →
      PathGoes later (names.bare_inherits index here in_code name) old r new
  bare_goes later in_code name d old r new is k =
      subst (λ e. PathGoes later (or_other index e (names.fallback index here outer.Scopes name)) old r new) (sym is) k

  -- a constant begins the turn of its first name
  pub whole_is_begun : (in_code top : Bool) (all : List Name) →
      spec.whole_name index profile here in_code top all
      ≡ (spec.segment_turn index profile here in_code >>= (λ u. names.begun index here in_code top all))
  whole_is_begun in_code top [] = refl
  whole_is_begun in_code top (name ∷ rest) = refl

  -- behind that turn the rest goes on
  pub whole_begins : (in_code top : Bool) (all : List Name) (old mid : ℕ) (r : Result Resolving Failure) (new : ℕ) →
      ComesTo (spec.segment_turn index profile here in_code) old tt mid →
      WholeGoes (names.later index here) (names.begun index here in_code top all) mid r new →
      WholeGoes (names.later index here) (spec.whole_name index profile here in_code top all) old r new
  whole_begins in_code top all old mid r new t k =
      subst (λ d. WholeGoes (names.later index here) d old r new) (sym (whole_is_begun in_code top all))
      (WholeGoes_from (names.later index here)
      (spec.segment_turn index profile here in_code >>= (λ u. names.begun index here in_code top all))
      (names.begun index here in_code top all) old mid r new
      (λ go. t.0 (λ u left. names.begun index here in_code top all left go)) t.1 k)

  -- without a turn the run ends
  pub whole_fails : (in_code top : Bool) (all : List Name) (old : ℕ) (f : Failure) →
      EndsAt (spec.segment_turn index profile here in_code) old f →
      EndsAt (spec.whole_name index profile here in_code top all) old f
  whole_fails in_code top all old f t =
      subst (λ d. EndsAt d old f) (sym (whole_is_begun in_code top all))
      (EndsAt_then (spec.segment_turn index profile here in_code) (λ u. names.begun index here in_code top all) old f t)

  -- the names from a place on: the first of them, and then the rest
  module _ (in_code : Bool) (start found : Found) (first_names all : List Name) (at : ℕ) (name : Name) (old mid : ℕ)
    where
      abbrev Same : Type 0
      Same = (go : Going Found) → spec.rest_of_names index profile here in_code start first_names old go
          ≡ spec.rest_of_names index profile here in_code found (drop at all) mid go

      unfolds : slice_get all at ≡ Some name → at < length all → (go : Going Found) →
          spec.rest_of_names index profile here in_code found (drop at all) mid go
          ≡ names.next_named index here in_code found name mid
          (λ f left. spec.rest_of_names index profile here in_code f (drop (suc at) all) left go)
      unfolds is lt go = ap (λ l. spec.rest_of_names index profile here in_code found l mid go)
          (drop-cons all at name lt ∙ ap (λ n. n ∷ drop (suc at) all) (get_or_from_slice_get all at name name is))

      -- a failure ends them
      pub rest_fails : (f : Failure) → Same → slice_get all at ≡ Some name → at < length all →
          EndsAt (names.next_named index here in_code found name) mid f →
          EndsAt (spec.rest_of_names index profile here in_code start first_names) old f
      rest_fails (failure.Raised error) same is lt k = λ go. same go ∙ (unfolds is lt go ∙ k _)
      rest_fails failure.Memory same is lt k = tt

      module _ (new : ℕ) where
        -- what one name came to is where the rest begins
        pub rest_gives : (next : FoundCode) → Same → mid ≤ old → slice_get all at ≡ Some name → at < length all →
            ComesTo (names.next_named index here in_code found name) mid (found_of next) new → (falls : new ≤ old)
            × ((go : Going Found) → spec.rest_of_names index profile here in_code start first_names old go
            ≡ spec.rest_of_names index profile here in_code (found_of next) (drop (at + 1) all) new go)
        rest_gives next same le is lt k = (
          omega (arith, le, k.1),
          λ go.
              same go ∙ (unfolds is lt go ∙ (k.0 _
              ∙ ap (λ n. spec.rest_of_names index profile here in_code (found_of next) (drop n all) new go) (sym
              (add-one at)))),
        )

        -- what one name asks for, with the rest behind it
        pub rest_asks : (task : Task) (a : Awaited) (r : Result Resolving Failure) → Same → mid ≤ old →
            slice_get all at ≡ Some name → at < length all →
            AsksFor (names.awaited index here a) (names.next_named index here in_code found name) mid task new →
            IsWait all (at + 1) in_code task a r →
            WholeGoes (names.later index here) (spec.rest_of_names index profile here in_code start
            first_names) old r new
        rest_asks task a (Ok (resolving.Asks needed wait)) same le is lt k w =
            subst (λ x. WholeGoes (names.later index here) (spec.rest_of_names index profile here in_code start
            first_names)
            old (Ok (resolving.Asks needed x)) new) (sym w.1)
            (subst (λ x. WholeGoes (names.later index here) (spec.rest_of_names index profile here in_code start
            first_names)
            old (Ok (resolving.Asks x (record { names = all; place = at + 1; in_code = in_code; awaited = a }))) new)
            (sym w.0) (
              (λ go. same go ∙ (unfolds is lt go ∙ (k.0 _
                  ∙ ap (λ n. Ask task (λ v. names.awaited index here a v new
                  (λ f left. spec.rest_of_names index profile here in_code f (drop n all) left go))) (sym (add-one
                  at))))),
              omega (arith, le, k.1),
            ))
        rest_asks task a (Ok (resolving.Found f)) same le is lt k w = absurd w
        rest_asks task a (Err (failure.Raised error)) same le is lt k w = absurd w
        rest_asks task a (Err failure.Memory) same le is lt k w = tt

  -- behind the last name it is found
  pub rest_ends : (in_code : Bool) (start : Found) (found : FoundCode) (first_names all : List Name) (at old mid : ℕ) →
      ((go : Going Found) → spec.rest_of_names index profile here in_code start first_names old go
      ≡ spec.rest_of_names index profile here in_code (found_of found) (drop at all) mid go) → mid ≤ old →
      length all ≤ at →
      ComesTo (spec.rest_of_names index profile here in_code start first_names) old (found_of found) mid
  rest_ends in_code start found first_names all at old mid same le past = (
    λ go. same go
        ∙ ap (λ l. spec.rest_of_names index profile here in_code (found_of found) l mid go) (drop_past all at past),
    le,
  )

  -- a constant by its first name
  pub begun_first : (in_code top : Bool) (path : Path) (first : Name) (old : ℕ) (r : Result Resolving Failure) (new :
      ℕ) →
      slice_get path 0 ≡ Some first →
      WholeGoes (names.later index here) (names.with_rest index here in_code (drop 1 path)
      (names.first_named index here in_code top first)) old r new →
      WholeGoes (names.later index here) (names.begun index here in_code top path) old r new
  begun_first in_code top [] first old r new is k = absurd (none-some first is)
  begun_first in_code top (name ∷ rest) first old r new is k =
      subst (λ n. WholeGoes (names.later index here) (names.with_rest index here in_code rest
      (names.first_named index here in_code top n)) old r new) (sym (ap (λ o. unwrap_or o []) is)) k

-- A load that goes on has an end.
use Rattle.std.proofs.Common.{◌≡◌, List, [], ◌∷◌, ◌++◌, Option, None, Bool, true, false, ◌||◌, ◌⊎◌, inl, inr}
use Rattle.std.proofs.Common.{refl, sym, ap, ◌∙◌, subst, reverse, append_assoc, append-nil}
use Rattle.std.proofs.lemmas.List.{reverse-append}
use Rattle.std.proofs.lemmas.List.Folds.{list_any-append}
use Rattle.std.proofs.lemmas.Bool.{false≢true, or_right, or_left, or_cases}
use Rattle.by_need.specs.Laws.{Lawful}
use Rattle.by_need.specs.Open.{Apart, AllTasks, NoneKnown}
use Rattle.by_need.specs.Order.{Loads, Load}
use Rattle.by_need.specs.Asking.{Computation}
use Rattle.by_need.specs.Rounds.{Rules, Part, is_in, is_task, known}
use Rattle.by_need.proofs.Loads.{apart_push, chain_tasks}
use Rattle.by_need_loader.specs.Progress.{Progress, History, IsOn}
use Rattle.by_need_loader.specs.Runs.{Runs}
use Rattle.by_need_loader.specs.Steps.{IsAt, AllBehind, Opened, Before, SoFar}
use Rattle.by_need_loader.specs.declared.loader.Phase.{Phase}
use Rattle.by_need_loader.specs.declared.loader.Phase.TheVariants as phase
use Rattle.by_need_loader.proofs.Opens.{Popped, popped, chain_of}
use Rattle.by_need_ends.specs.Ends.{ComesToEnd}
use Rattle.by_need_ends.proofs.Ends.{HasEnd, load_ends, whole_load_ends}

-- a list is empty, or has a last member
last_of : {T : Type 0} (xs : List T) → (xs ≡ []) ⊎ ((front : List T) × ((last : T) × (xs ≡ front ++ last ∷ [])))
last_of [] = inl refl
last_of (x ∷ xs) = elim (last_of xs) [
  | inl none ↦ inr ([], (x, ap (λ ys. x ∷ ys) none))
  | inr some ↦ inr (x ∷ some.0, (some.1.0, ap (λ ys. x ∷ ys) some.1.1))
]

swapped : (a b : Bool) → (a || (b || false)) ≡ (b || a)
swapped true true = refl
swapped true false = refl
swapped false true = refl
swapped false false = refl

module _ {T V E O : Type 0} (r : Rules T V E O) (laws : Lawful r) where
  -- a list turned around has the same tasks
  in_reverse : (u : T) (ts : List T) → is_in r u (reverse ts) ≡ is_in r u ts
  in_reverse u [] = refl
  in_reverse u (t ∷ ts) =
      ap (is_in r u) (reverse-append (t ∷ []) ts) ∙ list_any-append (r.same u) (reverse ts) (t ∷ [])
      ∙ ap (λ b. b || (r.same u t || false)) (in_reverse u ts) ∙ swapped (is_in r u ts) (r.same u t)

  -- and they stand apart there
  apart_reverse : (ts : List T) → Apart r ts → Apart r (reverse ts)
  apart_reverse [] apart = tt
  apart_reverse (t ∷ ts) apart = subst (Apart r) (sym (reverse-append (t ∷ []) ts))
      (apart_push r laws (reverse ts) t (apart_reverse ts apart.1) (in_reverse t ts ∙ apart.0))

  -- each unknown task is unknown
  none_each : (K : T → Option V) (ts : List T) → NoneKnown K ts → (u : T) → is_in r u ts ≡ true → K u ≡ None
  none_each K [] none u is = absurd (false≢true is)
  none_each K (t ∷ ts) none u is = elim (or_cases (r.same u t) _ is) [
    | inl same ↦ ap K (laws.same_is u t same) ∙ none.0
    | inr more ↦ none_each K ts none.1 u more
  ]

  -- each of tasks is a task
  tasks_each : (ts more : List T) → AllTasks r (ts ++ more) → (u : T) → is_in r u ts ≡ true → is_task r u ≡ true
  tasks_each [] more all u is = absurd (false≢true is)
  tasks_each (t ∷ ts) more all u is = elim (or_cases (r.same u t) _ is) [
    | inl same ↦ ap (is_task r) (laws.same_is u t same) ∙ all.0
    | inr later ↦ tasks_each ts more all.1 u later
  ]

  -- the last of tasks is a task
  tasks_last : (ts : List T) (t : T) → AllTasks r (ts ++ t ∷ []) → is_task r t ≡ true
  tasks_last [] t all = all.0
  tasks_last (x ∷ ts) t all = tasks_last ts t all.1

  module _ (J : T → Option V) (wanted : T) (begun : J wanted ≡ None) where
    -- that loads have ends which run a task while those of os are open, and have defined these values
    abbrev pub AllEnd : List T → Type 0
    AllEnd os = (t : T) (K : T → Option V) (made : List (T × V)) → SoFar r J wanted os t K made → Part K (known r) →
        is_task r t ≡ true → K t ≡ None → is_in r t os ≡ false → Apart r os →
        ((u : T) → is_in r u os ≡ true → K u ≡ None) → ((u : T) → is_in r u os ≡ true → is_task r u ≡ true) →
        ComesToEnd r J wanted made

    module _ (o : T) (os : List T) (ends : AllEnd os) (t : T) (K : T → Option V) (made : List (T × V))
        (so_far : SoFar r J wanted (o ∷ os) t K made) (end : HasEnd r laws K (o ∷ os) t) (apart : Apart r (o ∷ os))
        (unknown : (u : T) → is_in r u (o ∷ os) ≡ true → K u ≡ None)
        (tasks : (u : T) → is_in r u (o ∷ os) ≡ true → is_task r u ≡ true) where
      here : is_in r o (o ∷ os) ≡ true
      here = or_left (r.same o o) (is_in r o os) (laws.same_self o)

      there : (u : T) → is_in r u os ≡ true → is_in r u (o ∷ os) ≡ true
      there u held = or_right (r.same u o) (is_in r u os) held

      -- a load behind one that others wait for
      ends_behind : (b : Bool) → end.done ≡ b → ComesToEnd r J wanted made
      ends_behind false done = record {
        ahead = end.made;
        table = end.table;
        done = false;
        order = Load.lacking begun (so_far.1 end.made end.table (subst (λ b. Loads r K (o ∷ os) t end.made end.table b)
            done end.order));
      }
      ends_behind true done =
          let next : SoFar r J wanted os o end.table (made ++ end.made) =
          so_far.0 end.made end.table (subst (λ b. Loads r K (o ∷ os) t end.made end.table b) done end.order) in
          let more : ComesToEnd r J wanted (made ++ end.made) =
          ends o end.table (made ++ end.made) next end.part (tasks o here)
          (end.keeps o here ∙ unknown o here) apart.0 apart.1
          (λ u held. end.keeps u (there u held) ∙ unknown u (there u held)) (λ u held. tasks u (there u held)) in
          record {
            ahead = end.made ++ more.ahead;
            table = more.table;
            done = more.done;
            order = subst (λ xs. Load r J wanted xs more.table more.done) (append_assoc made end.made more.ahead)
                more.order;
          }

    -- a load that runs t, while those of os are open, has an end
    so_far_ends : (os : List T) → AllEnd os
    so_far_ends [] t K made so_far part is none out apart unknown tasks =
        let end : HasEnd r laws K [] t = load_ends r laws K [] t part is none out in
        record {
          ahead = end.made;
          table = end.table;
          done = end.done;
          order = Load.lacking begun (so_far end.made end.table end.done end.order);
        }
    so_far_ends (o ∷ os) t K made so_far part is none out apart unknown tasks =
        let end : HasEnd r laws K (o ∷ os) t = load_ends r laws K (o ∷ os) t part is none out in
        ends_behind o os (so_far_ends os) t K made so_far end apart unknown tasks end.done refl

  module _ {W : Type 0} (branch : W → V → Computation T V E O) (wanted : T) (J : T → Option V) (K : T → Option V)
      (made : List (T × V)) where
    -- the load of an unknown task that the open ones wait for has an end
    opened_ends : (ts : List T) (ws : List W) (t : T) → Opened r branch wanted K ts ws t → K t ≡ None →
        is_in r t ts ≡ false → J wanted ≡ None → SoFar r J wanted (reverse ts) t K made → ComesToEnd r J wanted made
    opened_ends ts ws t opened none out begun so_far =
        let all : AllTasks r (ts ++ t ∷ []) = chain_tasks r laws ts t K opened.part
        (chain_of r branch K ts ws t opened.none none opened.behind) (ap (is_task r) opened.start ∙ opened.is) in
        so_far_ends J wanted begun (reverse ts) t K made so_far opened.part (tasks_last ts t all) none
        (in_reverse t ts ∙ out) (apart_reverse ts opened.apart)
        (λ u held. none_each K ts opened.none u (sym (in_reverse u ts) ∙ held))
        (λ u held. tasks_each ts (t ∷ []) all u (sym (in_reverse u ts) ∙ held))

    -- no open task is without its waiting run
    waits_none : (ts : List T) (t u : T) → AllBehind r branch K (ts ++ t ∷ []) [] u → ⊥
    waits_none [] t u behind = behind
    waits_none (x ∷ ts) t u behind = behind

    -- a load before a look has an end
    before_ends : (ts : List T) (ws : List W) (u : T) → Opened r branch wanted K ts ws u →
        Before r J wanted (reverse ts) K made → ComesToEnd r J wanted made
    before_ends ts ws u opened before = elim (last_of ts) [
      | inl none ↦ at_first none
      | inr some ↦ behind_one some.0 some.1.0 some.1.1
    ]
      where
        at_first : ts ≡ [] → ComesToEnd r J wanted made
        at_first none =
            let b : Before r J wanted [] K made = subst (λ xs. Before r J wanted (reverse xs) K made) none before in
            let whole : ComesToEnd r K wanted [] = whole_load_ends r laws wanted K opened.part opened.is in
            subst (λ (M : T → Option V). ComesToEnd r M wanted made) b.1
            (subst (λ (xs : List (T × V)). ComesToEnd r K wanted xs) (sym b.0) whole)

        pop : (front : List T) (s : T) → ts ≡ front ++ s ∷ [] → (pile : List W) (w : W) → ws ≡ pile ++ w ∷ [] →
            ComesToEnd r J wanted made
        pop front s is pile w waits =
            let one : Popped r branch laws wanted K front pile s u w =
            popped r branch laws wanted K ts front ws pile s u w opened is waits in
            let b : Before r J wanted (s ∷ reverse front) K made =
            subst (λ os. Before r J wanted os K made) (ap reverse is ∙ reverse-append front (s ∷ [])) before in
            opened_ends front pile s one.opened one.lacks one.out b.0 b.1

        behind_one : (front : List T) (s : T) → ts ≡ front ++ s ∷ [] → ComesToEnd r J wanted made
        behind_one front s is = elim (last_of ws) [
          | inl none ↦ absurd (waits_none front s u (subst (λ xs. AllBehind r branch K xs [] u) is
              (subst (λ ys. AllBehind r branch K ts ys u) none opened.behind)))
          | inr some ↦ pop front s is some.0 some.1.0 some.1.1
        ]

  module _ {R W : Type 0} (branch : W → V → Computation T V E O) (rest : R → Computation T V E O) (wanted : T)
      (J : T → Option V) (K : T → Option V) (made : List (T × V)) (ts : List T) (ws : List W) where
    -- a load has an end, whatever comes next in it
    at_ends : (next : Phase T R) → IsAt r branch rest wanted J made K ts ws next → ComesToEnd r J wanted made
    at_ends (phase.Asked u) at = before_ends branch wanted J K made ts ws u at.0 at.1
    at_ends (phase.Looks u) at = before_ends branch wanted J K made ts ws u at.0 at.1
    at_ends (phase.Lacks u) at = before_ends branch wanted J K made ts ws u at.0 at.1
    at_ends (phase.Runs t run) at =
        opened_ends branch wanted J K made ts ws t at.opened at.lacks at.out at.begun at.so_far
    at_ends phase.Loaded at = record {
      ahead = [];
      table = K;
      done = true;
      order = subst (λ xs. Load r J wanted xs K true) (sym (append-nil made)) at.3;
    }
    at_ends phase.Over at = absurd at

  -- a load that goes on rightly has an end
  pub going_ends : {R W N : Type 0} (m : Runs T V E O R W N) (h : History T V) (p : Progress T R W N) →
      IsOn r m h p → ComesToEnd r h.at_first h.wanted h.made
  going_ends m h p on =
      at_ends m.branch m.rest h.wanted h.at_first h.table h.made p.tasks p.waiting p.phase on.at

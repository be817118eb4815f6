-- How each call leads a load on.
use Rattle.std.proofs.Common.{◌≡◌, ℕ, ◌≤◌, ◌<◌, List, [], ◌∷◌, ◌++◌, length, map, slice_get, drop, take, Option, Some}
use Rattle.std.proofs.Common.{None, Bool}
use Rattle.std.proofs.Common.{true, false, not, refl, sym, ap, ◌∙◌, subst, arith, append-nil}
use Rattle.std.proofs.Math.Seq.{take-append_seam}
use Rattle.std.specs.List.{list_any}
use Rattle.std.proofs.lemmas.List.{map-append, length-map}
use Rattle.by_need.specs.Asking.{Gives, Ask, Value, Error, Other, over}
use Rattle.by_need.specs.Rounds.{Rules, Part, is_in, is_task, known}
use Rattle.by_need.specs.Blame.{Fault, Circle, Ended, blame}
use Rattle.by_need.specs.Order.{Load}
use Rattle.by_need.specs.Laws.{Lawful}
use Rattle.by_need.specs.Open.{AllTasks, Chain, first_or}
use Rattle.by_need.proofs.Loads.{chain_tasks, chain_last_task}
use Rattle.indexmap.specs.IndexSet.{insert_key}
use Rattle.by_need_loader.specs.Ring.{IsTurned}
use Rattle.by_need_loader.specs.Runs.{Runs}
use Rattle.by_need_loader.specs.Steps.{IsReady, Running}
use Rattle.by_need_loader.specs.Progress.{Progress, History, IsOn, WaitsFor, Finds, WentOn, Tells, left_in}
use Rattle.by_need_loader.specs.Progress.{left_to_do, Resumed, begun, nothing_done}
use Rattle.by_need_loader.specs.declared.loader.Phase.{Phase}
use Rattle.by_need_loader.specs.declared.loader.Phase.TheVariants as phase
use Rattle.by_need_loader.specs.declared.loader.LoadStep.TheVariants as step
use Rattle.by_need_loader.proofs.Keys.{insert_key-new, insert_key-present, any_key, same_at}
use Rattle.by_need_loader.proofs.Opens.{chain_of}
use Rattle.by_need_loader.proofs.Told.{resumes_none, resumes_some, entered, tells_ring, tells_raised, tells_otherwise}
use Rattle.by_need_loader.proofs.Told.{tells_last, tells_next, asks_on, looks_same, answered_none}

module _ {T V E O R W N : Type 0} (r : Rules T V E O) (m : Runs T V E O R W N) (laws : Lawful r) (h : History T V) where
  -- no task is open: the wanted one is loaded
  pub resumed_none : (p : Progress T R W N) (ts : List T) (u : T) (v : V) → h.table u ≡ Some v → WaitsFor r m h p u →
      p.tasks ≡ [] → p.tasks ≡ ts ++ [] →
      Resumed r m h p (record { tasks = ts; waiting = p.waiting; keys = p.keys; phase = phase.Loaded }) u
  resumed_none p ts u v k w none e =
      let same : ts ≡ p.tasks = sym (append-nil ts) ∙ sym e in
      let x = resumes_none r m.branch m.rest laws h.wanted h.at_first h.made h.table p.tasks p.waiting u v w.opened
      w.before k none in
      subst (λ xs. Resumed r m h p (record { tasks = xs; waiting = p.waiting; keys = p.keys; phase = phase.Loaded }) u)
      (sym same) (record { ready = tt; on = record { keyed = w.keyed; at = x.0 }; less = x.1 })

  -- the latest open task runs on
  pub resumed_some : (p : Progress T R W N) (ts : List T) (ws : List W) (s : T) (w : W) (run : R) (u : T) (v : V) →
      h.table u ≡ Some v → WaitsFor r m h p u → p.tasks ≡ ts ++ s ∷ [] → p.waiting ≡ ws ++ w ∷ [] →
      m.rest run ≡ m.branch w v →
      Resumed r m h p (record { tasks = ts; waiting = ws; keys = p.keys; phase = phase.Runs s run }) u
  resumed_some p ts ws s w run u v k wait e f g =
      let x = resumes_some r m.branch m.rest laws h.wanted h.at_first h.made h.table p.tasks p.waiting u v wait.opened
      wait.before k ts ws s w run e f g in
      record {
        ready = tt;
        on = record { keyed = wait.keyed ∙ ap (map m.key) e; at = x.0 };
        less = x.1;
      }

  -- a look is told
  pub looked : (p : Progress T R W N) (u told : T) (bound : ℕ) → WaitsFor r m h p u → told ≡ u →
      left_in r m h p (phase.Looks u) < bound →
      Tells r m h bound (record { tasks = p.tasks; waiting = p.waiting; keys = p.keys; phase = phase.Looks u })
      (step.Look told)
  looked p u told bound w same lt =
      subst (λ x. Tells r m h bound
      (record { tasks = p.tasks; waiting = p.waiting; keys = p.keys; phase = phase.Looks u })
      (step.Look x)) (sym same)
      (refl, record { keyed = w.keyed; at = (w.opened, w.before) }, lt)

  module _ (p : Progress T R W N) (u : T) (w : WaitsFor r m h p u) (none : h.table u ≡ None) where
    asks_chain : Chain r h.table p.tasks u
    asks_chain = chain_of r m.branch h.table p.tasks p.waiting u w.opened.none none w.opened.behind

    first_task : is_task r (first_or u p.tasks) ≡ true
    first_task = ap (is_task r) w.opened.start ∙ w.opened.is

    -- what the open tasks wait for is a task
    pub waited_task : is_task r u ≡ true
    waited_task = chain_last_task r laws p.tasks u h.table w.opened.part asks_chain first_task

    -- and so is each of them
    pub open_tasks : AllTasks r p.tasks
    open_tasks = front p.tasks (chain_tasks r laws p.tasks u h.table w.opened.part asks_chain first_task)
      where
        front : (ts : List T) → AllTasks r (ts ++ u ∷ []) → AllTasks r ts
        front [] a = tt
        front (t ∷ ts) a = (a.0, front ts a.1)

    module _ (eq : N → N → Bool)
        (apart : (a b : T) → is_task r a ≡ true → is_task r b ≡ true → eq (m.key a) (m.key b) ≡ r.same a b) (key : N)
        (is : key ≡ m.key u) where
      key_among : list_any (eq key) p.keys ≡ is_in r u p.tasks
      key_among = ap (λ k. list_any (eq k) p.keys) is ∙ ap (list_any (eq (m.key u))) w.keyed
          ∙ any_key r m.key eq apart u p.tasks waited_task open_tasks

      -- the run of a task begins that is not open
      pub record Enters (ks : List N) (run : R) (bound : ℕ) : Type 0 where
        pub keyed : ks ≡ map m.key (p.tasks ++ u ∷ [])
        pub runs : Running r m.branch m.rest h.wanted h.at_first h.made h.table p.tasks p.waiting u run
        pub less : left_in r m h p (phase.Runs u run) ≤ bound

      -- a key that was not there is entered for it
      pub enters : (ks : List N) (run : R) (bound : ℕ) → true ≡ not (list_any (eq key) p.keys) →
          ks ≡ insert_key eq p.keys key → (is_task r u ≡ true → (L : T → Option V) → r.run u L ≡ over L (m.rest run)) →
          left_in r m h p (phase.Lacks u) ≤ bound → Enters ks run bound
      enters ks run bound new e begun le =
          let out : is_in r u p.tasks ≡ false = sym key_among ∙ not_so (list_any (eq key) p.keys) new in
          let x = entered r m.branch m.rest laws h.wanted h.at_first h.made h.table
          p.tasks p.waiting u w.opened w.before none out run (begun waited_task) bound le in
          record {
            keyed = e ∙ insert_key-new eq p.keys key (not_so (list_any (eq key) p.keys) new)
                ∙ ap (λ k. p.keys ++ k ∷ []) is ∙ ap (λ xs. xs ++ m.key u ∷ []) w.keyed
                ∙ sym (map-append m.key p.tasks (u ∷ []));
            runs = x.0;
            less = x.1;
          }
        where
          not_so : (b : Bool) → true ≡ not b → b ≡ false
          not_so true e = absurd cc
          not_so false e = refl

      -- an equal key is that of the task, at its place among the open ones
      pub record Stands (place : ℕ) : Type 0 where
        pub within : place < length p.tasks
        pub there : (x : T) → slice_get p.tasks place ≡ Some x → r.same u x ≡ true

      -- a key that was there shows the place of the task
      pub stands : (ks : List N) (place : ℕ) (k : N) → false ≡ not (list_any (eq key) p.keys) →
          ks ≡ insert_key eq p.keys key → place < length ks → slice_get ks place ≡ Some k → eq key k ≡ true →
          Stands place
      stands ks place k old e lt at equal =
          let stay : ks ≡ map m.key p.tasks = e ∙ insert_key-present eq p.keys key (so (list_any (eq key) p.keys) old)
          ∙ w.keyed in
          record {
            within = subst (λ n. place < n) (ap length stay ∙ length-map p.tasks m.key) lt;
            there = λ x q. same_at r m.key eq apart u x p.tasks place k waited_task open_tasks
                (subst (λ xs. slice_get xs place ≡ Some k) stay at) (subst (λ y. eq y k ≡ true) is equal) q;
          }
        where
          so : (b : Bool) → false ≡ not b → b ≡ true
          so true e = refl
          so false e = absurd cc

      -- the ring that is closed is told
      pub says_ring : (place : ℕ) (ring : List T) → Stands place →
          (place < length p.tasks → AllTasks r p.tasks → IsTurned r.at_most (drop place p.tasks) ring) →
          (known r h.wanted ≡ None) × (blame r h.wanted ≡ Circle ring) × Load r h.at_first h.wanted h.made h.table false
      says_ring place ring s turned =
          tells_ring r m.branch m.rest laws h.wanted h.at_first h.made h.table p.tasks p.waiting u w.opened w.before
          none place ring s.within s.there (turned s.within open_tasks)

  -- what a run comes to
  module _ (p : Progress T R W N) (t : T) (run : R) (keyed : p.keys ≡ map m.key (p.tasks ++ t ∷ []))
      (g : Running r m.branch m.rest h.wanted h.at_first h.made h.table p.tasks p.waiting t run) where
    -- an error is told
    pub says_raised : (e : E) → m.rest run ≡ Gives (Error e) → (known r h.wanted ≡ None)
        × (blame r h.wanted ≡ Fault e) × Load r h.at_first h.wanted h.made h.table false
    says_raised e is =
        tells_raised r m.branch m.rest laws h.wanted h.at_first h.made h.table p.tasks p.waiting t run g e is

    -- an end of another kind is told
    pub says_otherwise : (o : O) → m.rest run ≡ Gives (Other o) → (known r h.wanted ≡ None)
        × (blame r h.wanted ≡ Ended o) × Load r h.at_first h.wanted h.made h.table false
    says_otherwise o is =
        tells_otherwise r m.branch m.rest laws h.wanted h.at_first h.made h.table p.tasks p.waiting t run g o is

    -- the keys without that of the run that is done
    pub keys_left : (ks : List N) (n : ℕ) → n ≡ length p.tasks → ks ≡ take n p.keys → ks ≡ map m.key p.tasks
    keys_left ks n count e =
        let front = map m.key p.tasks in
        e ∙ ap (λ k. take k p.keys) (count ∙ sym (length-map p.tasks m.key))
        ∙ ap (take (length front)) (keyed ∙ map-append m.key p.tasks (t ∷ []))
        ∙ take-append_seam front (m.key t ∷ [])

    module _ (v : V) (bound : ℕ) (is : m.rest run ≡ Gives (Value v)) (le : left_in r m h p (phase.Runs t run) ≤ bound)
        (ks : List N) (left : ks ≡ map m.key p.tasks) where
      -- the value of the wanted task is told
      pub says_last : p.tasks ≡ [] →
          Tells r m h bound (record { tasks = p.tasks; waiting = p.waiting; keys = ks; phase = phase.Loaded })
          (step.Define t v)
      says_last none =
          let x = tells_last r m.branch m.rest laws h.wanted h.at_first h.made h.table p.tasks p.waiting t run g v
          bound is le none in
          (x.0, x.1, x.2, x.3, λ L d. let y = x.4 L d in (record { keyed = left; at = y.0 }, y.1))

      -- the value of a task that others wait for is told
      pub says_next : (u : T) → u ≡ t → (p.tasks ≡ [] → ⊥) →
          Tells r m h bound (record { tasks = p.tasks; waiting = p.waiting; keys = ks; phase = phase.Asked u })
          (step.Define t v)
      says_next u same some =
          let x = tells_next r m.branch m.rest laws h.wanted h.at_first h.made h.table p.tasks p.waiting t run g v
          bound is le u same some in
          (x.0, x.1, x.2, x.3, λ L d. let y = x.4 L d in (record { keyed = left; at = y.0 }, y.1))

    -- the run waits for another task
    pub asked : (u : T) (w : W) (ts : List T) (ws : List W) (next : Phase T R) → m.rest run ≡ Ask u (m.branch w) →
        ts ≡ p.tasks ++ t ∷ [] → ws ≡ p.waiting ++ w ∷ [] →
        let q : Progress T R W N = record { tasks = ts; waiting = ws; keys = p.keys; phase = next } in
        WaitsFor r m h q u × (left_in r m h q (phase.Looks u) < left_in r m h p (phase.Runs t run))
    asked u w ts ws next is e f =
        let x = asks_on r m.branch m.rest laws h.wanted h.at_first h.made h.table p.tasks p.waiting t run g u w ts ws
        is e f in
        (record { keyed = keyed ∙ ap (map m.key) (sym e); opened = x.0; before = x.1 }, x.2)

  -- the progress in another phase
  abbrev pub in_phase : Progress T R W N → Phase T R → Progress T R W N
  in_phase p next = record { tasks = p.tasks; waiting = p.waiting; keys = p.keys; phase = next }

  -- the load waits for the task that was looked at
  pub waits_at : (p : Progress T R W N) (next : Phase T R) (u : T) → p.phase ≡ phase.Looks u → IsOn r m h p →
      WaitsFor r m h (in_phase p next) u
  waits_at p next u e on =
      let keyed = rw e at on.keyed in
      let at = rw e at on.at in
      record { keyed = keyed; opened = at.0; before = at.1 }

  -- behind a value that was found the load went on
  pub went_on : (p q : Progress T R W N) (next : Phase T R) (u : T) → p.phase ≡ phase.Looks u →
      Resumed r m h (in_phase p next) q u → WentOn r m h p q
  went_on p q next u e x = record { ready = x.ready; on = x.on; less = rw e x.less }

  -- the table lacks the task that was looked at
  pub lacked : (p : Progress T R W N) (task : T) (found : Option V) → p.phase ≡ phase.Looks task →
      Finds r m h p found → found ≡ None → IsOn r m h p →
      WentOn r m h p (record { tasks = p.tasks; waiting = p.waiting; keys = p.keys; phase = phase.Lacks task })
  lacked p task found e f none on =
      let x = answered_none r m.branch m.rest laws h.wanted h.at_first h.made h.table p.tasks p.waiting p.phase f.task
      task found f.looks e f.is none on.at in
      record {
        ready = tt;
        on = record { keyed = (waits_at p (phase.Lacks task) task e on).keyed; at = x.1 };
        less =
            x.2;
      }

  -- the table has the task that was looked at
  pub has_it : (p : Progress T R W N) (task : T) (found : Option V) (v : V) → p.phase ≡ phase.Looks task →
      Finds r m h p found → found ≡ Some v → h.table task ≡ Some v
  has_it p task found v e f is = ap h.table (sym (looks_same p.phase f.task task f.looks e)) ∙ sym f.is ∙ is

  module _ (p : Progress T R W N) (next : Phase T R) (on : IsOn r m h p) where
    -- a look at a task comes next
    pub step_asked : (u : T) → p.phase ≡ phase.Asked u → WaitsFor r m h (in_phase p next) u
        × (left_in r m h (in_phase p next) (phase.Looks u) < left_to_do r m h p)
    step_asked u e =
        let keyed = rw e at on.keyed in
        let at = rw e at on.at in
        (record { keyed = keyed; opened = at.0; before = at.1 }, rw e (omega arith))

    -- the table lacks a task
    pub step_lacks : (u : T) → p.phase ≡ phase.Lacks u → WaitsFor r m h (in_phase p next) u × (h.table u ≡ None)
        × (left_in r m h (in_phase p next) (phase.Lacks u) ≤ left_to_do r m h p)
    step_lacks u e =
        let keyed = rw e at on.keyed in
        let at = rw e at on.at in
        (record { keyed = keyed; opened = at.0; before = at.1 }, at.2, rw e (omega arith))

    -- a task runs
    -- the wanted task is loaded
    pub step_loaded : (bound : ℕ) → p.phase ≡ phase.Loaded → Tells r m h bound (in_phase p next) step.Done
    step_loaded bound e = rw e at on.at

  -- a task runs
  pub step_runs : (p : Progress T R W N) → IsOn r m h p → (t : T) (run : R) → p.phase ≡ phase.Runs t run →
      (p.keys ≡ map m.key (p.tasks ++ t ∷ []))
      × Running r m.branch m.rest h.wanted h.at_first h.made h.table p.tasks p.waiting t run
      × (left_in r m h p (phase.Runs t run) ≤ left_to_do r m h p)
  step_runs p on t run e = (rw e at on.keyed, rw e at on.at, rw e (omega arith))

  -- a step does not come while a look is not answered
  pub not_ready : (p : Progress T R W N) (u : T) → p.phase ≡ phase.Looks u → IsReady p.phase → ⊥
  not_ready p u e ready = rw e at ready

  -- a load begins rightly
  pub begins : (task : T) (K : T → Option V) → is_task r task ≡ true → Part K (known r) →
      IsOn r m (nothing_done task K) (begun task)
  begins task K is part = record {
    keyed = refl;
    at = (
      record { is = is; part = part; start = refl; none = tt; apart = tt; behind = tt },
      (refl, refl),
    );
  }

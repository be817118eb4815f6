-- How far loads of many tasks are, and how they go on.
use Rattle.std.proofs.Common.{◌≡◌, List, [], ◌∷◌, ◌++◌, Option, Some, None, true, false, refl, sym, ap, ◌∙◌, subst}
use Rattle.std.proofs.lemmas.Bool.{or_left, or_right}
use Rattle.std.proofs.lemmas.List.{append_assoc, append-nil, map-append}
use Rattle.by_need.specs.Blame.{blame}
use Rattle.by_need.specs.Laws.{Lawful}
use Rattle.by_need.specs.Load.{Gains}
use Rattle.by_need.specs.Open.{AllTasks}
use Rattle.by_need.specs.Order.{Load}
use Rattle.by_need.specs.Rounds.{Rules, Part, is_in, known}
use Rattle.by_need_loader.specs.Ends.{defined_tasks}
use Rattle.by_need_loader.specs.Failures.{cause}
use Rattle.by_need_loader.specs.Gained.{GainsFor}
use Rattle.by_need_loader.proofs.Gained.{gains_nothing, gains_more}
use Rattle.by_need_loader.specs.declared.loader.Failure.{Failure}
use Rattle.by_need_check.specs.Checks.{LoadEach, none, next, blamed, causes}

-- The tasks of the list that are left are still to be loaded over the table K.
pub record IsAmid {T V E O : Type 0} (r : Rules T V E O) (J : T → Option V) (tasks left : List T) (K : T → Option V)
    (defined : List T) (failed : List (T × Failure T E O)) : Type 0 where
  pub part : Part K (known r)
  pub are_tasks : AllTasks r left
  pub among : (t : T) → is_in r t left ≡ true → is_in r t tasks ≡ true
  pub gains : GainsFor r tasks J K
  pub made : List (T × V)
  pub order : (rest : List (T × V)) (M : T → Option V) → LoadEach r K left rest M →
      LoadEach r J tasks (made ++ rest) M
  pub noted : defined ≡ defined_tasks made
  pub told : blamed r tasks ≡ causes failed ++ blamed r left

-- the cause of a failure more
causes_more : {T E O : Type 0} (failed : List (T × Failure T E O)) (t : T) (failure : Failure T E O) →
    causes (failed ++ (t, failure) ∷ []) ≡ causes failed ++ (t, cause failure) ∷ []
causes_more [] t failure = refl
causes_more (f ∷ failed) t failure = ap (λ found. (f.0, cause f.1) ∷ found) (causes_more failed t failure)

module _ {T V E O : Type 0} (r : Rules T V E O) (laws : Lawful r) where
  -- the first of a list is in it
  first_in : (t : T) (ts : List T) → is_in r t (t ∷ ts) ≡ true
  first_in t ts = or_left (r.same t t) (is_in r t ts) (laws.same_self t)

  -- what is behind the first is in it
  behind_in : (t u : T) (ts : List T) → is_in r u ts ≡ true → is_in r u (t ∷ ts) ≡ true
  behind_in t u ts h = or_right (r.same u t) (is_in r u ts) h

  -- nothing is loaded yet
  pub begins : (tasks : List T) (J : T → Option V) → Part J (known r) → AllTasks r tasks →
      IsAmid r J tasks tasks J [] []
  begins tasks J part all = record {
    part = part;
    are_tasks = all;
    among = λ t h. h;
    gains = gains_nothing r tasks J;
    made = [];
    order = λ rest M each. each;
    noted = refl;
    told = refl;
  }

  -- what the next task needs is gained
  pub gains_next : (J K L : T → Option V) (tasks : List T) (t : T) (ts : List T) (defined : List T)
      (failed : List (T × Failure T E O)) → IsAmid r J tasks (t ∷ ts) K defined failed → Gains r t K L →
      GainsFor r tasks J L
  gains_next J K L tasks t ts defined failed amid more =
      gains_more r tasks J K L t amid.gains (amid.among t (first_in t ts)) more

  -- one task more is loaded, and is known
  pub after_done : (J K L : T → Option V) (tasks : List T) (t : T) (ts : List T) (defined noted : List T)
      (failed : List (T × Failure T E O)) (ds : List (T × V)) (v : V) → IsAmid r J tasks (t ∷ ts) K defined failed →
      Load r K t ds L true → Part L (known r) → Gains r t K L → noted ≡ defined ++ defined_tasks ds → known r t
      ≡ Some v →
      IsAmid r J tasks ts L noted failed
  after_done J K L tasks t ts defined noted failed ds v amid load part more notes is = record {
    part = part;
    are_tasks = amid.are_tasks.1;
    among = λ u h. amid.among u (behind_in t u ts h);
    gains = gains_next J K L tasks t ts defined failed amid more;
    made = amid.made ++ ds;
    order = λ rest M each. subst (λ made. LoadEach r J tasks made M) (sym (append_assoc amid.made ds rest))
        (amid.order (ds ++ rest) M (next load each));
    noted = notes ∙ rw (amid.noted, map-append (λ (t, w). t) amid.made ds) refl;
    told = amid.told ∙ rw is refl;
  }

  -- one task more is loaded, and stays unknown
  pub after_failed : (J K L : T → Option V) (tasks : List T) (t copy : T) (ts : List T) (defined noted : List T)
      (failed : List (T × Failure T E O)) (ds : List (T × V)) (failure : Failure T E O) →
      IsAmid r J tasks (t ∷ ts) K defined failed → Load r K t ds L false → Part L (known r) → Gains r t K L →
      noted ≡ defined ++ defined_tasks ds → known r t ≡ None → blame r t ≡ cause failure → copy ≡ t →
      IsAmid r J tasks ts L noted (failed ++ (copy, failure) ∷ [])
  after_failed J K L tasks t copy ts defined noted failed ds failure amid load part more notes lost why same = record {
    part = part;
    are_tasks = amid.are_tasks.1;
    among = λ u h. amid.among u (behind_in t u ts h);
    gains = gains_next J K L tasks t ts defined failed amid more;
    made = amid.made ++ ds;
    order = λ rest M each. subst (λ made. LoadEach r J tasks made M) (sym (append_assoc amid.made ds rest))
        (amid.order (ds ++ rest) M (next load each));
    noted = notes ∙ rw (amid.noted, map-append (λ (t, w). t) amid.made ds) refl;
    told = amid.told ∙ rw (lost, why, same, causes_more failed t failure)
        (sym (append_assoc (causes failed) ((t, cause failure) ∷ []) (blamed r ts)));
  }

  -- all tasks are loaded
  pub all_loaded : (J K : T → Option V) (tasks defined : List T) (failed : List (T × Failure T E O)) →
      IsAmid r J tasks [] K defined failed →
      (causes failed ≡ blamed r tasks)
      × ((made : List (T × V)) × LoadEach r J tasks made K × (defined ≡ defined_tasks made))
  all_loaded J K tasks defined failed amid = (
    sym (amid.told ∙ append-nil (causes failed)),
    (amid.made, subst (λ made. LoadEach r J tasks made K) (append-nil amid.made) (amid.order [] K none), amid.noted),
  )
